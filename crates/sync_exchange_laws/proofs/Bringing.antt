-- A statement whose token is there succeeds; one on a store does, where its safety condition is true.
use Rattle.std.proofs.Common.{◌≡◌, ℕ, ◌<◌, ℤ, pos, Bool, true, false, ◌&&◌, List, length, get_or, Option, Some, None, is_some, unwrap_or, Result, Ok, Err, refl, sym, ap, ◌∙◌, if◌then◌else◌}
use Rattle.std.specs.Ordering.{int_eq}
use Rattle.std.specs.Cmp.{int_eq_equiv}
use Rattle.std.specs.FinMap as finmap
use Rattle.sync_terms.specs.Trees.{Tree, Nil}
use Rattle.sync_terms.specs.Values.{Valuation, num, mapped, truth, Holds}
use Rattle.sync_machine.specs.declared.fields.Field.{Field}
use Rattle.sync_base.specs.declared.strategies.Strategy.TheVariants.{StorageMap}
use Rattle.sync_machine.specs.Machines.{PatternTree, Bind, Term, PlaceTree, ActTree, StepTree}
use Rattle.sync_machine.specs.Machines as acts
use Rattle.sync_machine.specs.Statements.{key_of, value_of, binds, bound_in, field_of, is_there, storage, safety}
use Rattle.sync_machine.specs.States.{sort_of, strategy_at, strategy_of, current_of, IsMet}
use Rattle.sync_rules.specs.Locality.{place_names_only}
use Rattle.sync_rules.specs.Shapes.{fits}
use Rattle.sync_rules.specs.Strategies.{kind_of}
use Rattle.sync_join.specs.declared.tokens.Token.{Token}
use Rattle.sync_join.specs.Shards.{perm}
use Rattle.sync_join.specs.Join.{tokens_of, record_at}
use Rattle.sync_join.proofs.Maps.{equal}
use Rattle.sync_exchange.specs.declared.hands.XStop.{XStop}
use Rattle.sync_exchange.specs.declared.hands.XStop.TheVariants.{Width, Differs, RequireFalse, StoreEmpty}
use Rattle.sync_base.specs.Outcome.{◌>>=◌}
use Rattle.sync_exchange.specs.Exchange.{Exchanging, Answer, named, place_fits, unless, is_at_place, key_at, amount_at, is_asked, stored_at, asked_token, asked_object, does}
use Rattle.sync_exchange.proofs.Terms.{Same}
use Rattle.sync_exchange.proofs.Lawful.{IsLawful, reads_only, place-key, place-amount}
use Rattle.sync_exchange.proofs.OneStrategy.{storage-only, withdraw-guard, stored-map}
use Rattle.sync_exchange.proofs.Standing.{bag_at, IsUnderWay}
use Rattle.sync_exchange.proofs.Storing.{as_map-parts, object-map_of, stored-object}
use Rattle.sync_exchange.proofs.Widening.{unbounded, place-fit, term-fit, form-fit}
use Rattle.sync_exchange_laws.specs.Progress.{HasAsked, IsBrought}

-- it succeeds
abbrev pub Succeeds : {A : Type 0} → Result A XStop → Type 0
Succeeds {A} r = (y : A) × (r ≡ Ok y)

pub passed : (stop : XStop) (b : Bool) (y : Exchanging) → b ≡ true → unless stop b (Ok y) ≡ Ok y
passed stop b y e = ap (λ c. unless stop c (Ok y)) e

pub token-asked : (f : ℕ) (p : PlaceTree) (x : Exchanging) (next : Token → Exchanging) (t : Token) → named x ≡ Ok t
    → (is_at_place f (key_at p x) t && is_asked p t.value x) ≡ true → asked_token unbounded f p x next ≡ Ok (next t)
token-asked f p x next t there asks =
    let asked : Token → Answer = λ u. unless Width (place_fits unbounded p x) (unless (Differs x.slot) (is_at_place f (key_at p x) u && is_asked p u.value x) (Ok (next u))) in
    ap (λ r. r >>= asked) there
    ∙ ap (λ b. unless Width b (unless (Differs x.slot) (is_at_place f (key_at p x) t && is_asked p t.value x) (Ok (next t)))) (place-fit p x)
    ∙ passed (Differs x.slot) (is_at_place f (key_at p x) t && is_asked p t.value x) (next t) asks

brought-token : (f : ℕ) (p : PlaceTree) (x : Exchanging) (next : Token → Exchanging) → HasAsked f p x → Succeeds (asked_token unbounded f p x next)
brought-token f p x next h = (next h.0, token-asked f p x next h.0 h.1 h.2)

-- ---- an object that the safety condition of a statement says is there

-- the key is there with this value, if one is asked for
pub record IsStored (v : Valuation) (cur : Tree) (p : PlaceTree) : Type 0 where
  pub number : ℤ
  pub there : finmap.get (mapped v cur) (num v (key_of p)) ≡ Some number
  pub asked : binds p ≡ None → number ≡ num v (value_of p)

some-there : (o : Option ℤ) → int_eq (if is_some o then pos 1 else pos 0) (pos 1) ≡ true → (n : ℤ) × (o ≡ Some n)
some-there None e = absurd (cc)
some-there (Some n) e = (n, refl)

both : (a b : Bool) → (a && b) ≡ true → (a ≡ true) × (b ≡ true)
both true b e = (refl, e)
both false b e = absurd (cc)

stored-cases : (v : Valuation) (cur : Tree) (key : Option Tree) (o : Option PatternTree) → Holds v (storage cur (record { key = key; value = o })) → IsStored v cur (record { key = key; value = o })
unfolding truth
stored-cases v cur key None h =
    let p : PlaceTree = record { key = key; value = None } in
    let b = both (truth v (is_there cur (key_of p))) _ h in
    let s = some-there (finmap.get (mapped v cur) (num v (key_of p))) b.0 in
    record { number = s.0; there = s.1; asked = λ none. ap (λ (o : Option ℤ). unwrap_or o (pos 0)) (sym s.1) ∙ equal _ _ b.1 }
stored-cases v cur key (Some (Term t)) h =
    let p : PlaceTree = record { key = key; value = Some (Term t) } in
    let b = both (truth v (is_there cur (key_of p))) _ h in
    let s = some-there (finmap.get (mapped v cur) (num v (key_of p))) b.0 in
    record { number = s.0; there = s.1; asked = λ none. ap (λ (o : Option ℤ). unwrap_or o (pos 0)) (sym s.1) ∙ equal _ _ b.1 }
stored-cases v cur key (Some (Bind y)) h =
    let p : PlaceTree = record { key = key; value = Some (Bind y) } in
    let s = some-there (finmap.get (mapped v cur) (num v (key_of p))) h in
    record { number = s.0; there = s.1; asked = λ none. absurd (cc) }

pub is-asked-cases : (key : Option Tree) (o : Option PatternTree) (n : ℤ) (x : Exchanging)
    → (bound_in o ≡ None → n ≡ amount_at (record { key = key; value = o }) x) → is_asked (record { key = key; value = o }) n x ≡ true
is-asked-cases key None n x h =
    let m : ℤ = amount_at (record { key = key; value = None }) x in ap (int_eq m) (h refl) ∙ int_eq_equiv.refl m
is-asked-cases key (Some (Term t)) n x h =
    let m : ℤ = amount_at (record { key = key; value = Some (Term t) }) x in ap (int_eq m) (h refl) ∙ int_eq_equiv.refl m
is-asked-cases key (Some (Bind y)) n x h = refl

pub object-asked : (f : ℕ) (p : PlaceTree) (x : Exchanging) (n : ℤ) (next : ℤ → Exchanging) → stored_at f (key_at p x) x.kept.stored ≡ Some n
    → is_asked p n x ≡ true → asked_object unbounded f p x next ≡ Ok (next n)
object-asked f p x n next there asks =
    ap (λ b. unless Width b (found (stored_at f (key_at p x) x.kept.stored))) (place-fit p x) ∙ ap found there ∙ passed (Differs x.slot) (is_asked p n x) (next n) asks where
      found : Option ℤ → Answer
      found None = Err (StoreEmpty x.slot)
      found (Some m) = unless (Differs x.slot) (is_asked p m x) (Ok (next m))

module _ (fs : List Field) (v : Valuation) (others : List Token) (q : ℕ → Bool) (x : Exchanging) (cur : List Tree) (stands : IsUnderWay fs v others x cur) (same : Same q x.names v) where
  object-there : (f : ℕ) (p : PlaceTree) (next : ℤ → Exchanging) → f < length fs → strategy_at fs f ≡ StorageMap → place_names_only q p ≡ true → Holds v (storage (get_or cur f Nil) p)
      → Succeeds (asked_object unbounded f p x next)
  object-there f p next lt is reads safe =
      let s = stored-cases v (get_or cur f Nil) p.key p.value safe in
      let key = place-key q v p x same reads in
      let before = stored-map (strategy_at fs f) v (get_or cur f Nil) (tokens_of f (bag_at others x)) (record_at x.kept f) (tokens_of f x.kept.stored) is (stands.makes.values f lt) in
      let parts = as_map-parts (tokens_of f x.kept.stored) (mapped v (get_or cur f Nil)) before in
      let there : stored_at f (key_at p x) x.kept.stored ≡ Some s.number =
      stored-object f (key_at p x) x.kept.stored ∙ sym (object-map_of (key_at p x) (tokens_of f x.kept.stored))
      ∙ ap (λ m. finmap.get m (key_at p x)) parts.1 ∙ ap (finmap.get (mapped v (get_or cur f Nil))) key ∙ s.there in
      (next s.number, object-asked f p x s.number next there (is-asked-cases p.key p.value s.number x (λ none. s.asked none ∙ sym (place-amount q v p x same reads none))))

  pub one-succeeds : (line : ℕ) (a : ActTree) → IsLawful fs q a → IsMet v (safety (strategy_of fs a) (current_of cur a) a) → IsBrought (record { act = a; line = line }) x
      → Succeeds (does unbounded fs (record { act = a; line = line }) x)
  unfolding does safety field_of kind_of fits reads_only
  one-succeeds line (acts.Require form) lawful safe brought = (x, ap (λ b. unless Width b (unless (RequireFalse line) (truth x.names form) (Ok x))) (form-fit x.names form) ∙ passed (RequireFalse line) (truth x.names form) x brought)
  one-succeeds line (acts.Assert form) lawful safe brought = (x, refl)
  one-succeeds line (acts.HaveVariable f) lawful safe brought = (x, refl)
  one-succeeds line (acts.Init f t) lawful safe brought = (_, passed Width _ _ (term-fit (sort_of (strategy_at fs f)) t x))
  one-succeeds line (acts.Update f t) lawful safe brought = (_, passed Width _ _ (term-fit (sort_of (strategy_at fs f)) t x))
  one-succeeds line (acts.Remove f p) lawful safe brought = brought-token f p x _ brought
  one-succeeds line (acts.Have f p) lawful safe brought = brought-token f p x _ brought
  one-succeeds line (acts.Deposit f p) lawful safe brought = brought-token perm p x _ brought
  one-succeeds line (acts.Add f p) lawful safe brought = (_, passed Width _ _ (place-fit p x))
  one-succeeds line (acts.Withdraw f p) lawful safe brought =
      object-there f p _ (lawful.inside f refl) (storage-only (strategy_at fs f) (withdraw-guard (strategy_at fs f) lawful.allowed)) lawful.reads safe
  one-succeeds line (acts.Guard f p) lawful safe brought =
      object-there f p _ (lawful.inside f refl) (storage-only (strategy_at fs f) lawful.allowed) lawful.reads safe
