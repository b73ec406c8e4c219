-- The first value that an init gives a field.
use Rattle.std.proofs.Common.{◌≡◌, ℕ, ◌<◌, ◌≤◌, ℤ, pos, ◌+ℤ◌, ◌≤ℤ◌, Bool, true, false, ◌&&◌, List, [], ◌∷◌, length, get_or, Some, None, Ok, inr, refl, sym, ap, subst, ◌∙◌, arith, if◌then◌else◌}
use Rattle.std.proofs.Math.ListN.{set}
use Rattle.std.proofs.lemmas.Bool.{eq-eqb}
use Rattle.std.proofs.lemmas.Int.{ints}
use Rattle.std.proofs.lemmas.List.{get_or-set_other}
use Rattle.sync_terms.specs.Trees.{Tree, Lit, Name, Add, Sub, Scale, Get, Has, Size, Sum, Nil, Put, Del, Bump}
use Rattle.sync_terms.specs.Values.{Valuation, num, truth}
use Rattle.sync_machine.specs.declared.fields.Field.{Field}
use Rattle.sync_base.specs.declared.strategies.Strategy.{Strategy}
use Rattle.sync_base.specs.declared.strategies.Strategy.TheVariants.{Variable, Constant, NotTokenized, Option as OptionField, Map, Set, Multiset, Count, PersistentOption, PersistentMap, PersistentSet, PersistentCount, StorageMap}
use Rattle.sync_machine.specs.Machines.{ActTree, StepTree}
use Rattle.sync_machine.specs.Machines as acts
use Rattle.sync_machine.specs.Statements.{field_of, changed_by, enabling, safety, condition, after, amount_is_natural}
use Rattle.sync_machine.specs.States.{Value, Number, Sort, Maps, sort_of, value_in, strategy_at, strategy_of, current_of, blank, IsMet}
use Rattle.sync_rules.specs.Shapes.{fits, is_start, is_nil}
use Rattle.sync_rules.specs.Locality.{is_variable}
use Rattle.sync_rules.specs.Slots.{has_amounts}
use Rattle.sync_join.specs.declared.tokens.Token.{Token}
use Rattle.sync_join.specs.Shards.{Kept, IsTokenOf, IsOf}
use Rattle.sync_join.specs.Join.{tokens_of, joined, record_at, number_of, sum_of, borne_out}
use Rattle.sync_exchange.specs.declared.hands.XStop.TheVariants.{Width}
use Rattle.sync_exchange.specs.Exchange.{Exchanging, unless, next_name, after_giving, recording, started, new_value, token_of}
use Rattle.sync_exchange.proofs.Terms.{value-same}
use Rattle.sync_exchange.proofs.Tokens.{under, given-part}
use Rattle.sync_exchange.proofs.Strategies.{met-both, number_is, borne_is, int_le-is}
use Rattle.sync_exchange.proofs.Coming.{le-refl}
use Rattle.sync_exchange.proofs.Making.{Makes, part-other, part-own, sound-in, sound-recorded, records-set, change-one, same-field, kept-value}
use Rattle.sync_exchange.proofs.Passing.{unless-ok, ok_is}
use Rattle.sync_exchange.proofs.Lawful.{reads_only, gives}
use Rattle.sync_exchange.proofs.Standing.{bag_at, IsUnderWay, IsReady, GoesAlong, once-given, later-length, named-given}
use Rattle.sync_exchange.proofs.OneStrategy.{variable-number, value-sort}
use Rattle.sync_exchange.proofs.Doing.{to-answer, other-field, revalue-stands, revaluing-is, record-stands, record-there}

is-nil : (t : Tree) → is_nil t ≡ true → t ≡ Nil
is-nil Nil e = refl
is-nil (Lit n) e = absurd (cc)
is-nil (Name x) e = absurd (cc)
is-nil (Add a b) e = absurd (cc)
is-nil (Sub a b) e = absurd (cc)
is-nil (Scale n a) e = absurd (cc)
is-nil (Get m k) e = absurd (cc)
is-nil (Has m k) e = absurd (cc)
is-nil (Size m) e = absurd (cc)
is-nil (Sum m) e = absurd (cc)
is-nil (Put m k v) e = absurd (cc)
is-nil (Del m k) e = absurd (cc)
is-nil (Bump m k n) e = absurd (cc)

start-nil : (s : Sort) (t : Tree) → s ≡ Maps → is_start s t ≡ true → t ≡ Nil
start-nil s t is e = is-nil t (subst (λ z. is_start z t ≡ true) is e)

no_more : (a b n : ℤ) → b ≡ pos 0 → a ≡ n → a +ℤ b ≡ n
no_more a b n z e = omega (arith, ints, z, e)

module _ (fs : List Field) (v : Valuation) (others : List Token) (q : ℕ → Bool) (x y : Exchanging) (cur : List Tree) (stands : IsUnderWay fs v others x cur)
    (f : ℕ) (t : Tree) (r : IsReady fs v q x y cur (acts.Init f t)) (lt : f < length fs)
    (untouched : get_or cur f Nil ≡ blank (sort_of (strategy_at fs f))) (free : is_variable (strategy_at fs f) ≡ false → tokens_of f (bag_at others x) ≡ []) where
  abbrev w : Value
  w = new_value fs f t x

  same : w ≡ value_in v (sort_of (strategy_at fs f)) t
  unfolding reads_only
  same = value-same q x.names v r.same (sort_of (strategy_at fs f)) t r.lawful.reads

  starts : is_start (sort_of (strategy_at fs f)) t ≡ true
  unfolding fits field_of
  starts = r.lawful.fit

  met : IsMet v (condition (strategy_of fs (acts.Init f t)) (current_of cur (acts.Init f t)) (acts.Init f t))
  unfolding condition safety enabling field_of
  met = met-both v (amount_is_natural (strategy_at fs f) t) None r.safe tt

  -- a map starts empty, as it is already
  empty : (s : Strategy) → strategy_at fs f ≡ s → sort_of s ≡ Maps → (t ≡ Nil) × (get_or cur f Nil ≡ Nil)
  empty s is sort =
      let here : sort_of (strategy_at fs f) ≡ Maps = ap sort_of is ∙ sort in
      (start-nil (sort_of (strategy_at fs f)) t here starts, untouched ∙ ap blank here)

  keeps : (s : Strategy) → strategy_at fs f ≡ s → sort_of s ≡ Maps → gives fs (acts.Init f t) ≡ 0 → x ≡ y → GoesAlong fs v others x y cur (acts.Init f t)
  unfolding field_of after
  keeps s is sort none e =
      let nil = empty s is sort in
      let there : get_or cur f Nil ≡ t = nil.1 ∙ sym nil.0 in
      to-answer fs v others q x y cur stands (acts.Init f t) x e (record {
        met = met;
        stands = record {
          makes = subst (λ (u : Tree). Makes fs v (bag_at others x) x.kept (set cur f u)) there (same-field fs v (bag_at others x) x.kept cur f stands.makes);
          once = stands.once;
          named = stands.named;
          fields = stands.fields;
        };
        given = omega (arith, none);
        variables = refl;
      })

  records : (s : Strategy) → strategy_at fs f ≡ s → gives fs (acts.Init f t) ≡ 0 → joined (strategy_at fs f) (tokens_of f (bag_at others x)) w (tokens_of f x.kept.stored) ≡ Some w → recording f w x ≡ y → GoesAlong fs v others x y cur (acts.Init f t)
  unfolding field_of after
  records s is none own e =
      let there = record-there fs v others q x y cur stands f w lt in
      to-answer fs v others q x y cur stands (acts.Init f t) (recording f w x) e (record {
        met = met;
        stands = record-stands fs v others q x y cur stands f w t lt (subst (IsOf (sort_of (strategy_at fs f))) (sym same) (value-sort (sort_of (strategy_at fs f)) v t))
            (ap (λ z. joined (strategy_at fs f) (tokens_of f (bag_at others x)) z (tokens_of f x.kept.stored)) there ∙ own ∙ ap Some same);
        given = omega (arith, none);
        variables = refl;
      })

  -- an empty record stays what it is
  blank-record : (s : Strategy) → strategy_at fs f ≡ s → sort_of s ≡ Maps → ((b : Value) → joined s (tokens_of f (bag_at others x)) (record_at x.kept f) (tokens_of f x.kept.stored) ≡ Some b → record_at x.kept f ≡ b)
      → joined (strategy_at fs f) (tokens_of f (bag_at others x)) w (tokens_of f x.kept.stored) ≡ Some w
  blank-record s is sort own =
      let nil = empty s is sort in
      let before = stands.makes.values f lt in
      let now : value_in v (sort_of (strategy_at fs f)) (get_or cur f Nil) ≡ w = ap (value_in v (sort_of (strategy_at fs f))) (nil.1 ∙ sym nil.0) ∙ sym same in
      let at : record_at x.kept f ≡ w = own w (ap (λ z. joined z (tokens_of f (bag_at others x)) (record_at x.kept f) (tokens_of f x.kept.stored)) (sym is) ∙ before ∙ ap Some now) in
      ap (λ z. joined (strategy_at fs f) (tokens_of f (bag_at others x)) z (tokens_of f x.kept.stored)) (sym at) ∙ before ∙ ap Some now

  gives-none : (s : Strategy) → strategy_at fs f ≡ s → has_amounts s ≡ false → gives fs (acts.Init f t) ≡ 0
  unfolding gives
  gives-none s is e = ap (λ b. if b then 1 else 0) (ap has_amounts is ∙ e)

  gives-one : (s : Strategy) → strategy_at fs f ≡ s → has_amounts s ≡ true → gives fs (acts.Init f t) ≡ 1
  unfolding gives
  gives-one s is e = ap (λ b. if b then 1 else 0) (ap has_amounts is ∙ e)

  counts : strategy_at fs f ≡ Count → after_giving (token_of f (pos 0) (number_of w)) x ≡ y → GoesAlong fs v others x y cur (acts.Init f t)
  unfolding field_of after sort_of safety truth amount_is_natural
  counts is e =
      let n = number_of w in
      let tk = token_of f (pos 0) n in
      let z = after_giving tk x in
      let one = gives-one Count is refl in
      let some : 1 ≤ length x.given = let g = r.enough in omega (arith, one, g) in
      let part = given-part (next_name x.given) tk x.hand x.entered others in
      let number : n ≡ num v t = ap number_of (same ∙ ap (λ s. value_in v (sort_of s) t) is) in
      let before : sum_of (tokens_of f (bag_at others x)) ≡ num v (get_or cur f Nil) = number_is _ _ (ap (λ s. joined s (tokens_of f (bag_at others x)) (record_at x.kept f) (tokens_of f x.kept.stored)) (sym is) ∙ stands.makes.values f lt ∙ ap (λ s. Some (value_in v (sort_of s) (get_or cur f Nil))) is) in
      let nothing : num v (get_or cur f Nil) ≡ pos 0 = ap (num v) (untouched ∙ ap (λ s. blank (sort_of s)) is) in
      let natural : pos 0 ≤ℤ n = subst (λ (k : ℤ). pos 0 ≤ℤ k) (sym number) (int_le-is (pos 0) (num v t) (subst (λ s. IsMet v (amount_is_natural s t)) is r.safe)) in
      let sound = sound-in fs x.kept tk (bag_at others z) (bag_at others x) part
      (inr (lt, subst (λ s. IsTokenOf s tk) (sym is) (record { tokens = refl; keys = λ k. refl; elements = λ k. absurd (cc) }))) (λ c. natural) stands.makes.sound in
      let makes = change-one fs v (bag_at others x) (bag_at others z) x.kept x.kept cur f t stands.makes lt
      (part-own fs x.kept tk (bag_at others z) (bag_at others x) f part (eq-eqb f f refl)
      ∙ ap (λ s. joined s (tk ∷ tokens_of f (bag_at others x)) (record_at x.kept f) (tokens_of f x.kept.stored)) is
      ∙ ap (λ k. Some (Number k)) (no_more n (sum_of (tokens_of f (bag_at others x))) (num v t) (before ∙ nothing) number)
      ∙ ap (λ s. Some (value_in v (sort_of s) t)) (sym is))
      (λ g below apart. part-other fs x.kept tk (bag_at others z) (bag_at others x) g part (other-field fs v others q x y cur stands tk f g refl apart)) sound in
      to-answer fs v others q x y cur stands (acts.Init f t) z e (record {
        met = met;
        stands = record {
          makes = makes;
          once = once-given x.hand x.entered x.given tk some stands.once;
          named = named-given x.variables x.hand x.entered (under (next_name x.given) tk) stands.named;
          fields = stands.fields;
        };
        given = let l = later-length x.given some in omega (arith, l, one);
        variables = refl;
      })

  -- the first amount of a persistent count, of which there is no token yet
  reached : strategy_at fs f ≡ PersistentCount → recording f w (after_giving (token_of f (pos 0) (number_of w)) x) ≡ y → GoesAlong fs v others x y cur (acts.Init f t)
  unfolding field_of after sort_of
  reached is e =
      let n = number_of w in
      let tk = token_of f (pos 0) n in
      let z = recording f w (after_giving tk x) in
      let now : Kept = record { records = set x.kept.records f w; stored = x.kept.stored } in
      let one = gives-one PersistentCount is refl in
      let some : 1 ≤ length x.given = let g = r.enough in omega (arith, one, g) in
      let part = given-part (next_name x.given) tk x.hand x.entered others in
      let none = free (ap is_variable is) in
      let there : record_at now f ≡ w = record-there fs v others q x y cur stands f w lt in
      let sound = sound-in fs now tk (bag_at others z) (bag_at others x) part
      (inr (lt, subst (λ s. IsTokenOf s tk) (sym is) (record { tokens = refl; keys = λ k. refl; elements = λ k. absurd (cc) })))
      (λ c. let clash : PersistentCount ≡ Count = sym is ∙ c in absurd (cc))
      (sound-recorded fs (bag_at others x) x.kept (set x.kept.records f w)
      (records-set fs x.kept.records f w stands.makes.sound.shaped.records (subst (IsOf (sort_of (strategy_at fs f))) (sym same) (value-sort (sort_of (strategy_at fs f)) v t))) stands.makes.sound) in
      let makes = change-one fs v (bag_at others x) (bag_at others z) x.kept now cur f t stands.makes lt
      (part-own fs now tk (bag_at others z) (bag_at others x) f part (eq-eqb f f refl)
      ∙ ap (λ s. joined s (tk ∷ tokens_of f (bag_at others x)) (record_at now f) (tokens_of f x.kept.stored)) is
      ∙ ap (λ ts. joined PersistentCount (tk ∷ ts) (record_at now f) (tokens_of f x.kept.stored)) none
      ∙ ap (λ u. joined PersistentCount (tk ∷ []) u (tokens_of f x.kept.stored)) there
      ∙ ap (λ b. borne_out (b && true) w) (le-refl n) ∙ ap Some same)
      (λ g below apart. part-other fs now tk (bag_at others z) (bag_at others x) g part (other-field fs v others q x y cur stands tk f g refl apart)
      ∙ kept-value fs (bag_at others x) x.kept now g (get_or-set_other x.kept.records f g w (Number (pos 0)) (λ k. let h = eq-eqb g f k in absurd (cc))) refl) sound in
      to-answer fs v others q x y cur stands (acts.Init f t) z e (record {
        met = met;
        stands = record {
          makes = makes;
          once = once-given x.hand x.entered x.given tk some stands.once;
          named = named-given x.variables x.hand x.entered (under (next_name x.given) tk) stands.named;
          fields = stands.fields;
        };
        given = let l = later-length x.given some in omega (arith, l, one);
        variables = refl;
      })

  valued : strategy_at fs f ≡ Variable → started Variable f w x ≡ y → GoesAlong fs v others x y cur (acts.Init f t)
  unfolding field_of after changed_by
  valued is e =
      let used = r.used f refl (ap is_variable is) in
      let none = gives-none Variable is refl in
      let number : number_of w ≡ num v t = ap number_of same ∙ variable-number (strategy_at fs f) v t is in
      to-answer fs v others q x y cur stands (acts.Init f t) _ (revaluing-is fs v others q x y cur stands f used.0 (number_of w) used.1 ∙ e) (record {
        met = met;
        stands = revalue-stands fs v others q x y cur stands f used.0 (number_of w) t lt is used.1 number;
        given = omega (arith, none);
        variables = refl;
      })

  by-strategy : (s : Strategy) → strategy_at fs f ≡ s → started s f w x ≡ y → GoesAlong fs v others x y cur (acts.Init f t)
  unfolding sort_of
  by-strategy Variable is e = valued is e
  by-strategy Constant is e = records Constant is (gives-none Constant is refl) (ap (λ s. joined s (tokens_of f (bag_at others x)) w (tokens_of f x.kept.stored)) is) e
  by-strategy NotTokenized is e = records NotTokenized is (gives-none NotTokenized is refl) (ap (λ s. joined s (tokens_of f (bag_at others x)) w (tokens_of f x.kept.stored)) is) e
  by-strategy OptionField is e = keeps OptionField is refl (gives-none OptionField is refl) e
  by-strategy Map is e = keeps Map is refl (gives-none Map is refl) e
  by-strategy Set is e = keeps Set is refl (gives-none Set is refl) e
  by-strategy Multiset is e = keeps Multiset is refl (gives-none Multiset is refl) e
  by-strategy StorageMap is e = keeps StorageMap is refl (gives-none StorageMap is refl) e
  by-strategy Count is e = counts is e
  by-strategy PersistentCount is e = reached is e
  by-strategy PersistentOption is e =
      records PersistentOption is (gives-none PersistentOption is refl) (blank-record PersistentOption is refl (λ b h. (borne_is _ (record_at x.kept f) b h).1)) e
  by-strategy PersistentMap is e =
      records PersistentMap is (gives-none PersistentMap is refl) (blank-record PersistentMap is refl (λ b h. (borne_is _ (record_at x.kept f) b h).1)) e
  by-strategy PersistentSet is e =
      records PersistentSet is (gives-none PersistentSet is refl) (blank-record PersistentSet is refl (λ b h. (borne_is _ (record_at x.kept f) b h).1)) e

  pub doing-init : (fit : Bool) → unless Width fit (Ok (started (strategy_at fs f) f (new_value fs f t x) x)) ≡ Ok y → GoesAlong fs v others x y cur (acts.Init f t)
  doing-init fit e =
      let a = unless-ok Width fit _ y e in
      by-strategy (strategy_at fs f) refl (ok_is (started (strategy_at fs f) f w x) y a.1)
