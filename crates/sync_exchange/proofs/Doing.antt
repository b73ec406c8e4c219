-- Each statement of a transition keeps what an exchange on its way has made.
use Rattle.std.proofs.Common.{◌≡◌, ℕ, zero, suc, ◌<◌, ◌≤◌, ℤ, pos, ◌≤ℤ◌, Bool, true, false, not, List, [], ◌∷◌, ◌++◌, length, get_or, Some, None, Ok, inl, inr, refl, sym, ap, subst, ◌∙◌, arith, cond, nat_eq}
use Rattle.std.proofs.Math.ListN.{set}
use Rattle.std.specs.List.{AllByRecursion}
use Rattle.std.specs.FinMap as finmap
use Rattle.std.proofs.lemmas.Bool.{eq-eqb}
use Rattle.std.proofs.lemmas.List.{get_or-set_same, get_or-set_other}
use Rattle.sync_terms.specs.Trees.{Tree, Formula, Nil, Put, Del}
use Rattle.sync_terms.specs.Maps as maps
use Rattle.sync_terms.specs.Values.{Valuation, num, mapped, truth}
use Rattle.sync_machine.specs.declared.fields.Field.{Field}
use Rattle.sync_base.specs.declared.strategies.Strategy.TheVariants.{Variable, NotTokenized, Count, StorageMap}
use Rattle.sync_machine.specs.Machines.{PlaceTree, ActTree, StepTree}
use Rattle.sync_machine.specs.Machines as acts
use Rattle.sync_machine.specs.Statements.{field_of, changed_by, key_of, value_of, binds, enabling, safety, condition, after, added, removed}
use Rattle.sync_machine.specs.States.{Value, Number, sort_of, value_in, strategy_at}
use Rattle.sync_machine.specs.Naming.{bound_by}
use Rattle.sync_rules.specs.declared.kinds.OpKind.TheVariants as kinds
use Rattle.sync_rules.specs.Strategies.{kind_of, has_statement}
use Rattle.sync_rules.specs.Shapes.{fits}
use Rattle.sync_rules.specs.Locality.{is_variable}
use Rattle.sync_join.specs.declared.tokens.Token.{Token}
use Rattle.sync_join.specs.Shards.{Kept, perm, IsToken, IsOf, has_elements}
use Rattle.sync_join.specs.Join.{tokens_of, joined, record_at, value_at, as_map, number_of, only_value}
use Rattle.sync_join.proofs.Leaving.{only_value-out}
use Rattle.sync_exchange.specs.declared.hands.XStop.{XStop}
use Rattle.sync_exchange.specs.declared.hands.XStop.TheVariants.{Width}
use Rattle.sync_exchange.specs.Exchange.{Exchanging, Answer, held_as, without, revalued, tokens_in, is_at_place, withdrawn, token_name, next_name, unless, after_reading, after_taking, after_seeing, after_giving, binding, recording, storing, revaluing, key_at, amount_at, asked_token, asked_object, raised, updated, new_value, permission, token_of}
use Rattle.sync_exchange.proofs.Terms.{truth-same, value-same}
use Rattle.sync_exchange.proofs.Tokens.{holds, under, with_number, taken-part, revalued-part, given-part}
use Rattle.sync_exchange.proofs.Strategies.{met-both, leaving, staying, there_with-from, free-none}
use Rattle.sync_exchange.proofs.Coming.{coming, coming-shaped, coming-natural, raised-sort}
use Rattle.sync_exchange.proofs.Storing.{nat_eq-turned, seen-object, withdrawn-object, withdrawn-other, deposited-object, deposited-other}
use Rattle.sync_exchange.proofs.Making.{Makes, part-other, part-own, sound-out, sound-in, sound-recorded, sound-stored, token-of-part, records-length, records-at, records-set, amounts-of, change-one, same-field, kept-value}
use Rattle.sync_exchange.proofs.Passing.{asked-token, asked-object, unless-ok, ok_is}
use Rattle.sync_exchange.proofs.Lawful.{reads_only, gives, place-key, place-asked, place-amount}
use Rattle.sync_exchange.proofs.Standing.{bag_at, IsUnderWay, IsReady, GoesAlong, few-held, once-without, once-revalued, once-given, later-length, named-without, named-given, named-revalued, binding-stands, binding-given, binding-variables, binding-own}
use Rattle.sync_exchange.proofs.OneStrategy.{not-removed, storage-only, deposit-guard, withdraw-guard, update-cases, nothing-bound, stored-map, map-stored, only-variable, variable-only-value, variable-number, value-sort, perm-other}

all-either : (P : Token → Type 0) (b : Bool) (t : Token) (ts : List Token) → P t → AllByRecursion P ts → AllByRecursion P (cond b (t ∷ ts) ts)
all-either P true t ts p h = (p, h)
all-either P false t ts p h = h

-- no field stands beyond the last
pub beyond : (fs : List Field) (n : ℕ) → length fs ≤ n → strategy_at fs n ≡ NotTokenized
beyond [] n h = refl
beyond (f ∷ fs) zero h = absurd (omega arith)
beyond (f ∷ fs) (suc n) h = beyond fs n (omega arith)

pub no-permission : (fs : List Field) → length fs ≤ 32 → strategy_at fs perm ≡ Count → ⊥
no-permission fs few count =
    let h : strategy_at fs perm ≡ NotTokenized = beyond fs perm (omega (arith, few)) in
    let e : NotTokenized ≡ Count = sym h ∙ count in cc

permission-field : (n : ℕ) (t : Token) (g : ℕ) → n ≤ 32 → perm ≡ t.field → g < n → t.field ≡ g → ⊥
permission-field n t g few is below same = omega (arith, few, is, below, same)

-- a token of a variable with another value is one of a variable
still : (fs : List Field) (t : Token) (n : ℤ) → strategy_at fs t.field ≡ Variable → IsToken fs t → IsToken fs (with_number n t)
still fs t n is (inl e) = inl e
still fs t n is (inr h) = inr (
  h.0,
  record {
    tokens = h.1.tokens;
    keys = h.1.keys;
    elements = λ e. let f : has_elements (strategy_at fs t.field) ≡ false = ap has_elements is in absurd (cc);
  },
)

module _ (fs : List Field) (v : Valuation) (others : List Token) (q : ℕ → Bool) (x y : Exchanging) (cur : List Tree) (stands : IsUnderWay fs v others x cur) where
  pub to-answer : (a : ActTree) (z : Exchanging) → z ≡ y → GoesAlong fs v others x z cur a → GoesAlong fs v others x y cur a
  to-answer a z e h = subst (λ w. GoesAlong fs v others x w cur a) e h

  pub other-field : (t : Token) (f g : ℕ) → f ≡ t.field → nat_eq g f ≡ false → nat_eq t.field g ≡ false
  other-field t f g e apart = ap (λ n. nat_eq n g) (sym e) ∙ nat_eq-turned f g ∙ apart

  pub few-of : (name : ℕ) → holds name (x.hand ++ x.entered) ≤ 1
  few-of name = few-held name (x.hand ++ x.entered) x.given (stands.once name)

  -- a token whose field is no variable is no variable's
  no-variable : (t : Token) (f : ℕ) → f ≡ t.field → has_statement (strategy_at fs f) kinds.Remove ≡ true → (g name : ℕ) → token_name g x.variables ≡ Some name → t.field ≡ g → ⊥
  no-variable t f is allowed g name e same =
      let variable = not-removed (strategy_at fs g) (stands.fields g name e).1 in
      let here : strategy_at fs f ≡ strategy_at fs g = ap (strategy_at fs) (is ∙ same) in
      let h : has_statement (strategy_at fs f) kinds.Remove ≡ false = ap (λ s. has_statement s kinds.Remove) here ∙ variable in absurd (cc)

  pub doing-remove : (fit : ℤ → Bool) (f : ℕ) (p : PlaceTree) → asked_token fit f p x (λ (t : Token). binding (binds p) t.value (after_taking x)) ≡ Ok y
      → IsReady fs v q x y cur (acts.Remove f p) → GoesAlong fs v others x y cur (acts.Remove f p)
  unfolding field_of kind_of fits reads_only bound_by condition safety enabling after gives
  doing-remove fit f p e r =
      let a = asked-token fit f p x (λ (t : Token). binding (binds p) t.value (after_taking x)) y e in
      let t = a.token in
      let rest = tokens_in (without (next_name x.tokens) x.hand ++ x.entered) ++ others in
      let part = taken-part (next_name x.tokens) t x.hand x.entered others a.held (few-of (next_name x.tokens)) in
      let lt = r.lawful.inside f refl in
      let own = eq-eqb t.field f (sym a.field) in
      let before = sym (part-own fs x.kept t (bag_at others x) rest f part own) ∙ stands.makes.values f lt in
      let key = a.key ∙ place-key q v p x r.same r.lawful.reads in
      let value = place-asked q v p t.value x r.same r.lawful.reads a.value
      (λ z b. sym (binding-own (binds p) t.value (after_taking x) z b) ∙ ap (λ (w : Exchanging). w.names.number z) a.answer ∙ r.bound z b) in
      let sound = sound-out fs x.kept t (bag_at others x) rest part stands.makes.sound in
      let out = leaving (strategy_at fs f) v (get_or cur f Nil) p t (tokens_of f rest) (record_at x.kept f) (tokens_of f x.kept.stored) r.lawful.allowed before key value (amounts-of fs f rest sound.natural) in
      let makes = change-one fs v (bag_at others x) rest x.kept x.kept cur f (removed (strategy_at fs f) (get_or cur f Nil) p) stands.makes lt out.1
      (λ g below apart. sym (part-other fs x.kept t (bag_at others x) rest g part (other-field t f g a.field apart))) sound in
      to-answer (acts.Remove f p) (binding (binds p) t.value (after_taking x)) a.answer (record {
        met = met-both v _ _ r.safe out.0;
        stands = binding-stands fs v others (binds p) t.value (after_taking x) _ (record {
          makes = makes;
          once = once-without (next_name x.tokens) x.hand x.entered x.given stands.once;
          named = named-without x.variables (next_name x.tokens) t x.hand x.entered a.held (no-variable t f a.field r.lawful.allowed) stands.named;
          fields = stands.fields;
        });
        given = let b = ap length (binding-given (binds p) t.value (after_taking x)) in omega (arith, b);
        variables = binding-variables (binds p) t.value (after_taking x);
      })

  pub doing-have : (fit : ℤ → Bool) (f : ℕ) (p : PlaceTree) → asked_token fit f p x (λ (t : Token). binding (binds p) t.value (after_reading x)) ≡ Ok y
      → IsReady fs v q x y cur (acts.Have f p) → GoesAlong fs v others x y cur (acts.Have f p)
  unfolding field_of kind_of fits reads_only bound_by condition safety enabling after gives
  doing-have fit f p e r =
      let a = asked-token fit f p x (λ (t : Token). binding (binds p) t.value (after_reading x)) y e in
      let t = a.token in
      let rest = tokens_in (without (next_name x.tokens) x.hand ++ x.entered) ++ others in
      let part = taken-part (next_name x.tokens) t x.hand x.entered others a.held (few-of (next_name x.tokens)) in
      let lt = r.lawful.inside f refl in
      let own = eq-eqb t.field f (sym a.field) in
      let before = sym (part-own fs x.kept t (bag_at others x) rest f part own) ∙ stands.makes.values f lt in
      let key = a.key ∙ place-key q v p x r.same r.lawful.reads in
      let value = place-asked q v p t.value x r.same r.lawful.reads a.value
      (λ z b. sym (binding-own (binds p) t.value (after_reading x) z b) ∙ ap (λ (w : Exchanging). w.names.number z) a.answer ∙ r.bound z b) in
      let sound = sound-out fs x.kept t (bag_at others x) rest part stands.makes.sound in
      let there = staying (strategy_at fs f) v (get_or cur f Nil) p t (tokens_of f rest) (record_at x.kept f) (tokens_of f x.kept.stored) r.lawful.allowed before key value (amounts-of fs f rest sound.natural) in
      to-answer (acts.Have f p) (binding (binds p) t.value (after_reading x)) a.answer (record {
        met = met-both v _ _ r.safe there;
        stands = binding-stands fs v others (binds p) t.value (after_reading x) _ (record {
          makes = same-field fs v (bag_at others x) x.kept cur f stands.makes;
          once = stands.once;
          named = stands.named;
          fields = stands.fields;
        });
        given = let b = ap length (binding-given (binds p) t.value (after_reading x)) in omega (arith, b);
        variables = binding-variables (binds p) t.value (after_reading x);
      })

  pub doing-require : (stop : XStop) (fit : Bool) (form : Formula) → unless Width fit (unless stop (truth x.names form) (Ok x)) ≡ Ok y
      → IsReady fs v q x y cur (acts.Require form) → GoesAlong fs v others x y cur (acts.Require form)
  unfolding field_of reads_only condition safety enabling gives
  doing-require stop fit form e r =
      let a = unless-ok Width fit _ y e in
      let b = unless-ok stop (truth x.names form) (Ok x) y a.1 in
      to-answer (acts.Require form) x (ok_is x y b.1) (record {
        met = sym (truth-same q x.names v r.same form r.lawful.reads) ∙ b.0;
        stands = stands;
        given = omega arith;
        variables = refl;
      })

  pub doing-assert : (form : Formula) → ◌≡◌ {A = Answer} (Ok x) (Ok y) → IsReady fs v q x y cur (acts.Assert form) → GoesAlong fs v others x y cur (acts.Assert form)
  unfolding field_of condition safety enabling gives
  doing-assert form e r = to-answer (acts.Assert form) x (ok_is x y e) (record { met = r.safe; stands = stands; given = omega arith; variables = refl })

  pub doing-variable : (f : ℕ) → ◌≡◌ {A = Answer} (Ok x) (Ok y) → GoesAlong fs v others x y cur (acts.HaveVariable f)
  unfolding field_of condition safety enabling after gives
  doing-variable f e = to-answer (acts.HaveVariable f) x (ok_is x y e) (record {
    met = tt;
    stands = record { makes = same-field fs v (bag_at others x) x.kept cur f stands.makes; once = stands.once; named = stands.named; fields = stands.fields };
    given = omega arith;
    variables = refl;
  })

  -- a place's key and amount under both valuations
  pub doing-add : (fit : Bool) (f : ℕ) (p : PlaceTree)
      → unless Width fit (Ok (recording f (raised (strategy_at fs f) (record_at x.kept f) (key_at p x) (amount_at p x)) (after_giving (token_of f (key_at p x) (amount_at p x)) x))) ≡ Ok y
      → IsReady fs v q x y cur (acts.Add f p) → GoesAlong fs v others x y cur (acts.Add f p)
  unfolding field_of kind_of fits reads_only bound_by condition safety enabling after gives
  doing-add fit f p e r =
      let s = strategy_at fs f in
      let t = token_of f (key_at p x) (amount_at p x) in
      let w = raised s (record_at x.kept f) t.key t.value in
      let now : Kept = record { records = set x.kept.records f w; stored = x.kept.stored } in
      let z = recording f w (after_giving t x) in
      let a = unless-ok Width fit (Ok z) y e in
      let lt = r.lawful.inside f refl in
      let part = given-part (next_name x.given) t x.hand x.entered others in
      let own = eq-eqb f f refl in
      let key = place-key q v p x r.same r.lawful.reads in
      let value = place-amount q v p x r.same r.lawful.reads (nothing-bound s p r.lawful.fit) in
      let records = stands.makes.sound.shaped.records in
      let long = records-length fs x.kept.records records in
      let comes = coming s v (get_or cur f Nil) p t (tokens_of f (bag_at others x)) (record_at x.kept f) (tokens_of f x.kept.stored) r.lawful.allowed r.lawful.fit (stands.makes.values f lt) key value r.safe in
      let recorded : record_at now f ≡ w = get_or-set_same x.kept.records f w (Number (pos 0)) (omega (arith, long, lt)) in
      let sound = sound-in fs now t (bag_at others z) (bag_at others x) part (inr (lt, coming-shaped s v p t r.lawful.allowed r.lawful.fit key value))
      (λ count. subst (λ (n : ℤ). pos 0 ≤ℤ n) (sym value) (coming-natural s v (get_or cur f Nil) p r.safe count))
      (sound-recorded fs (bag_at others x) x.kept (set x.kept.records f w) (records-set fs x.kept.records f w records (raised-sort s (record_at x.kept f) t.key t.value (records-at fs x.kept.records f records lt))) stands.makes.sound) in
      let makes = change-one fs v (bag_at others x) (bag_at others z) x.kept now cur f (added s (get_or cur f Nil) p) stands.makes lt
      (part-own fs now t (bag_at others z) (bag_at others x) f part own ∙ ap (λ u. joined s (t ∷ tokens_of f (bag_at others x)) u (tokens_of f x.kept.stored)) recorded ∙ comes)
      (λ g below apart. part-other fs now t (bag_at others z) (bag_at others x) g part (other-field t f g refl apart)
      ∙ kept-value fs (bag_at others x) x.kept now g (get_or-set_other x.kept.records f g w (Number (pos 0)) (λ same. let h = eq-eqb g f same in absurd (cc))) refl)
      sound in
      to-answer (acts.Add f p) z (ok_is z y a.1) (record {
        met = met-both v _ None r.safe tt;
        stands = record {
          makes = makes;
          once = once-given x.hand x.entered x.given t r.enough stands.once;
          named = named-given x.variables x.hand x.entered (under (next_name x.given) t) stands.named;
          fields = stands.fields;
        };
        given = later-length x.given r.enough;
        variables = refl;
      })

  all-last : (P : Token → Type 0) (ts : List Token) (t : Token) → AllByRecursion P ts → P t → AllByRecursion P (ts ++ t ∷ [])
  all-last P [] t h p = (p, tt)
  all-last P (u ∷ ts) t h p = (h.0, all-last P ts t h.1 p)

  all-withdrawn : (P : Token → Type 0) (f : ℕ) (k : ℤ) (ts : List Token) → AllByRecursion P ts → AllByRecursion P (withdrawn f k ts)
  all-withdrawn P f k [] h = tt
  all-withdrawn P f k (t ∷ ts) h = all-either P (not (is_at_place f k t)) t (withdrawn f k ts) h.0 (all-withdrawn P f k ts h.1)

  pub doing-deposit : length fs ≤ 32 → (fit : ℤ → Bool) (f : ℕ) (p : PlaceTree)
      → asked_token fit perm p x (λ (t : Token). storing (x.kept.stored ++ token_of f (key_at p x) (amount_at p x) ∷ []) (after_taking x)) ≡ Ok y
      → IsReady fs v q x y cur (acts.Deposit f p) → GoesAlong fs v others x y cur (acts.Deposit f p)
  unfolding field_of kind_of fits reads_only bound_by condition safety enabling after gives sort_of
  doing-deposit few fit f p e r =
      let s = strategy_at fs f in
      let u = token_of f (key_at p x) (amount_at p x) in
      let ts = x.kept.stored ++ u ∷ [] in
      let now : Kept = record { records = x.kept.records; stored = ts } in
      let z = storing ts (after_taking x) in
      let a = asked-token fit perm p x (λ (t : Token). z) y e in
      let t = a.token in
      let rest = tokens_in (without (next_name x.tokens) x.hand ++ x.entered) ++ others in
      let part = taken-part (next_name x.tokens) t x.hand x.entered others a.held (few-of (next_name x.tokens)) in
      let lt = r.lawful.inside f refl in
      let is : s ≡ StorageMap = storage-only s (deposit-guard s r.lawful.allowed) in
      let key = place-key q v p x r.same r.lawful.reads in
      let value = place-amount q v p x r.same r.lawful.reads (nothing-bound s p r.lawful.fit) in
      let before = stored-map s v (get_or cur f Nil) (tokens_of f (bag_at others x)) (record_at x.kept f) (tokens_of f x.kept.stored) is (stands.makes.values f lt) in
      let free = ap (finmap.get (mapped v (get_or cur f Nil))) key ∙ free-none v (get_or cur f Nil) (key_of p) (value_of p) r.safe in
      let stored : as_map (tokens_of f ts) ≡ Some (mapped v (Put (get_or cur f Nil) (key_of p) (value_of p))) =
      deposited-object f u.key u.value x.kept.stored (mapped v (get_or cur f Nil)) before free
      ∙ ap (λ k. Some (maps.put (mapped v (get_or cur f Nil)) k u.value)) key ∙ ap (λ n. Some (maps.put (mapped v (get_or cur f Nil)) (num v (key_of p)) n)) value in
      let sound = sound-stored fs rest x.kept ts (all-last (λ (w : Token). strategy_at fs w.field ≡ StorageMap) x.kept.stored u stands.makes.sound.shaped.stored is)
      (sound-out fs x.kept t (bag_at others x) rest part stands.makes.sound) in
      let makes = change-one fs v (bag_at others x) rest x.kept now cur f (Put (get_or cur f Nil) (key_of p) (value_of p)) stands.makes lt
      (map-stored s v (Put (get_or cur f Nil) (key_of p) (value_of p)) (tokens_of f rest) (record_at x.kept f) (tokens_of f ts) is stored)
      (λ g below apart. kept-value fs rest x.kept now g refl (deposited-other f g u.key u.value x.kept.stored apart)
      ∙ sym (part-other fs x.kept t (bag_at others x) rest g part (perm-other (length fs) t.field g few below (sym a.field)))) sound in
      to-answer (acts.Deposit f p) z a.answer (record {
        met = r.safe;
        stands = record {
          makes = makes;
          once = once-without (next_name x.tokens) x.hand x.entered x.given stands.once;
          named = named-without x.variables (next_name x.tokens) t x.hand x.entered a.held (λ g name h same. permission-field (length fs) t g few a.field (stands.fields g name h).0 same) stands.named;
          fields = stands.fields;
        };
        given = omega arith;
        variables = refl;
      })

  pub doing-withdraw : length fs ≤ 32 → (fit : ℤ → Bool) (f : ℕ) (p : PlaceTree)
      → asked_object fit f p x (λ (n : ℤ). binding (binds p) n (storing (withdrawn f (key_at p x) x.kept.stored) (after_giving (permission (key_at p x) n) x))) ≡ Ok y
      → IsReady fs v q x y cur (acts.Withdraw f p) → GoesAlong fs v others x y cur (acts.Withdraw f p)
  unfolding field_of kind_of fits reads_only bound_by condition safety enabling after gives sort_of
  doing-withdraw few fit f p e r =
      let s = strategy_at fs f in
      let k = key_at p x in
      let ts = withdrawn f k x.kept.stored in
      let now : Kept = record { records = x.kept.records; stored = ts } in
      let a = asked-object fit f p x (λ (n : ℤ). binding (binds p) n (storing ts (after_giving (permission k n) x))) y e in
      let n = a.number in
      let t = permission k n in
      let z = storing ts (after_giving t x) in
      let part = given-part (next_name x.given) t x.hand x.entered others in
      let lt = r.lawful.inside f refl in
      let is : s ≡ StorageMap = storage-only s (withdraw-guard s r.lawful.allowed) in
      let key = place-key q v p x r.same r.lawful.reads in
      let value = place-asked q v p n x r.same r.lawful.reads a.value
      (λ m b. sym (binding-own (binds p) n z m b) ∙ ap (λ (w : Exchanging). w.names.number m) a.answer ∙ r.bound m b) in
      let before = stored-map s v (get_or cur f Nil) (tokens_of f (bag_at others x)) (record_at x.kept f) (tokens_of f x.kept.stored) is (stands.makes.values f lt) in
      let there = ap (finmap.get (mapped v (get_or cur f Nil))) (sym key) ∙ seen-object f k n x.kept.stored (mapped v (get_or cur f Nil)) a.stored before ∙ ap Some value in
      let stored : as_map (tokens_of f ts) ≡ Some (mapped v (Del (get_or cur f Nil) (key_of p))) =
      withdrawn-object f k x.kept.stored (mapped v (get_or cur f Nil)) before ∙ ap (λ l. Some (maps.del (mapped v (get_or cur f Nil)) l)) key in
      let sound = sound-in fs now t (bag_at others z) (bag_at others x) part (inl refl) (λ count. absurd (no-permission fs few count))
      (sound-stored fs (bag_at others x) x.kept ts (all-withdrawn (λ (w : Token). strategy_at fs w.field ≡ StorageMap) f k x.kept.stored stands.makes.sound.shaped.stored) stands.makes.sound) in
      let makes = change-one fs v (bag_at others x) (bag_at others z) x.kept now cur f (Del (get_or cur f Nil) (key_of p)) stands.makes lt
      (map-stored s v (Del (get_or cur f Nil) (key_of p)) (tokens_of f (bag_at others z)) (record_at x.kept f) (tokens_of f ts) is stored)
      (λ g below apart. part-other fs now t (bag_at others z) (bag_at others x) g part (perm-other (length fs) perm g few below refl)
      ∙ kept-value fs (bag_at others x) x.kept now g refl (withdrawn-other f g k x.kept.stored apart)) sound in
      to-answer (acts.Withdraw f p) (binding (binds p) n z) a.answer (record {
        met = there_with-from v (get_or cur f Nil) (key_of p) (value_of p) there;
        stands = binding-stands fs v others (binds p) n z _ (record {
          makes = makes;
          once = once-given x.hand x.entered x.given t r.enough stands.once;
          named = named-given x.variables x.hand x.entered (under (next_name x.given) t) stands.named;
          fields = stands.fields;
        });
        given = let b = ap length (binding-given (binds p) n z) in let c = later-length x.given r.enough in omega (arith, b, c);
        variables = binding-variables (binds p) n z;
      })

  pub doing-guard : (fit : ℤ → Bool) (f : ℕ) (p : PlaceTree) → asked_object fit f p x (λ (n : ℤ). binding (binds p) n (after_seeing x)) ≡ Ok y
      → IsReady fs v q x y cur (acts.Guard f p) → GoesAlong fs v others x y cur (acts.Guard f p)
  unfolding field_of kind_of fits reads_only bound_by condition safety enabling after gives sort_of
  doing-guard fit f p e r =
      let s = strategy_at fs f in
      let a = asked-object fit f p x (λ (n : ℤ). binding (binds p) n (after_seeing x)) y e in
      let n = a.number in
      let lt = r.lawful.inside f refl in
      let is : s ≡ StorageMap = storage-only s r.lawful.allowed in
      let key = place-key q v p x r.same r.lawful.reads in
      let value = place-asked q v p n x r.same r.lawful.reads a.value
      (λ m b. sym (binding-own (binds p) n (after_seeing x) m b) ∙ ap (λ (w : Exchanging). w.names.number m) a.answer ∙ r.bound m b) in
      let before = stored-map s v (get_or cur f Nil) (tokens_of f (bag_at others x)) (record_at x.kept f) (tokens_of f x.kept.stored) is (stands.makes.values f lt) in
      let there = ap (finmap.get (mapped v (get_or cur f Nil))) (sym key) ∙ seen-object f (key_at p x) n x.kept.stored (mapped v (get_or cur f Nil)) a.stored before ∙ ap Some value in
      to-answer (acts.Guard f p) (binding (binds p) n (after_seeing x)) a.answer (record {
        met = there_with-from v (get_or cur f Nil) (key_of p) (value_of p) there;
        stands = binding-stands fs v others (binds p) n (after_seeing x) _ (record {
          makes = same-field fs v (bag_at others x) x.kept cur f stands.makes;
          once = stands.once;
          named = stands.named;
          fields = stands.fields;
        });
        given = let b = ap length (binding-given (binds p) n (after_seeing x)) in omega (arith, b);
        variables = binding-variables (binds p) n (after_seeing x);
      })

  -- a variable's token gets another value, and so its field
  pub revalue-makes : (f name : ℕ) (n : ℤ) (t : Tree) (tk : Token) → f < length fs → strategy_at fs f ≡ Variable → held_as name (x.hand ++ x.entered) ≡ Some tk → tk.field ≡ f → n ≡ num v t
      → Makes fs v (tokens_in (revalued name n x.hand ++ revalued name n x.entered) ++ others) x.kept (set cur f t)
  revalue-makes f name n t tk lt is held field number =
      let bag = bag_at others x in
      let new = tokens_in (revalued name n x.hand ++ revalued name n x.entered) ++ others in
      let parts = revalued-part name n tk x.hand x.entered others held (few-of name) in
      let rest = parts.rest in
      let tk' = with_number n tk in
      let own = eq-eqb tk.field f field in
      let before = only-variable (strategy_at fs f) v (get_or cur f Nil) (tk ∷ tokens_of f rest) (record_at x.kept f) (tokens_of f x.kept.stored) is
      (sym (part-own fs x.kept tk bag rest f parts.was own) ∙ stands.makes.values f lt) in
      let alone = (only_value-out tk (tokens_of f rest) (num v (get_or cur f Nil)) before).0 in
      let at : strategy_at fs tk.field ≡ Variable = ap (strategy_at fs) field ∙ is in
      let token : IsToken fs tk = token-of-part fs x.kept tk bag rest parts.was stands.makes.sound in
      let sound = sound-in fs x.kept tk' new rest parts.is (still fs tk n at token) (λ count. let e : Variable ≡ Count = sym at ∙ count in absurd (cc)) (sound-out fs x.kept tk bag rest parts.was stands.makes.sound) in
      change-one fs v bag new x.kept x.kept cur f t stands.makes lt
      (part-own fs x.kept tk' new rest f parts.is own
      ∙ variable-only-value (strategy_at fs f) v t (tk' ∷ tokens_of f rest) (record_at x.kept f) (tokens_of f x.kept.stored) is (ap (λ ts. only_value (tk' ∷ ts)) alone ∙ ap Some number))
      (λ g below apart. part-other fs x.kept tk' new rest g parts.is (other-field tk f g (sym field) apart) ∙ sym (part-other fs x.kept tk bag rest g parts.was (other-field tk f g (sym field) apart)))
      sound

  pub revalue-stands : (f name : ℕ) (n : ℤ) (t : Tree) → f < length fs → strategy_at fs f ≡ Variable → token_name f x.variables ≡ Some name → n ≡ num v t
      → IsUnderWay fs v others (record x { hand = revalued name n x.hand; entered = revalued name n x.entered }) (set cur f t)
  revalue-stands f name n t lt is has number =
      let tk = stands.named f name has in
      record {
        makes = revalue-makes f name n t tk.0 lt is tk.1 tk.2 number;
        once = once-revalued name n x.hand x.entered x.given stands.once;
        named = named-revalued x.variables name n x.hand x.entered stands.named;
        fields = stands.fields;
      }

  pub revaluing-is : (f name : ℕ) (n : ℤ) → token_name f x.variables ≡ Some name
      → record x { hand = revalued name n x.hand; entered = revalued name n x.entered } ≡ revaluing f n x
  revaluing-is f name n has = rw has refl

  -- a field that is recorded alone gets another record
  pub record-stands : (f : ℕ) (w : Value) (t : Tree) → f < length fs → IsOf (sort_of (strategy_at fs f)) w
      → value_at fs (bag_at others x) (record { records = set x.kept.records f w; stored = x.kept.stored }) f ≡ Some (value_in v (sort_of (strategy_at fs f)) t)
      → IsUnderWay fs v others (recording f w x) (set cur f t)
  record-stands f w t lt sort own =
      let bag = bag_at others x in
      let now : Kept = record { records = set x.kept.records f w; stored = x.kept.stored } in
      let records = stands.makes.sound.shaped.records in
      record {
        makes = change-one fs v bag bag x.kept now cur f t stands.makes lt own
            (λ g below apart. kept-value fs bag x.kept now g (get_or-set_other x.kept.records f g w (Number (pos 0)) (λ same. let h = eq-eqb g f same in absurd (cc))) refl)
            (sound-recorded fs bag x.kept (set x.kept.records f w) (records-set fs x.kept.records f w records sort) stands.makes.sound);
        once = stands.once;
        named = stands.named;
        fields = stands.fields;
      }

  pub record-there : (f : ℕ) (w : Value) → f < length fs → record_at (record { records = set x.kept.records f w; stored = x.kept.stored }) f ≡ w
  record-there f w lt =
      let long = records-length fs x.kept.records stands.makes.sound.shaped.records in
      get_or-set_same x.kept.records f w (Number (pos 0)) (omega (arith, long, lt))

  pub doing-update : (fit : Bool) (f : ℕ) (t : Tree) → unless Width fit (Ok (updated (strategy_at fs f) f (new_value fs f t x) x)) ≡ Ok y
      → IsReady fs v q x y cur (acts.Update f t) → GoesAlong fs v others x y cur (acts.Update f t)
  unfolding field_of kind_of reads_only condition safety enabling after gives changed_by
  doing-update fit f t e r =
      let s = strategy_at fs f in
      let w = new_value fs f t x in
      let a = unless-ok Width fit _ y e in
      let same : w ≡ value_in v (sort_of s) t = value-same q x.names v r.same (sort_of s) t r.lawful.reads in
      let lt = r.lawful.inside f refl in
      update-cases s (GoesAlong fs v others x y cur (acts.Update f t)) r.lawful.allowed
      (λ is.
      let used = r.used f refl (ap is_variable is) in
      let n = number_of w in
      let number : n ≡ num v t = ap number_of same ∙ variable-number s v t is in
      to-answer (acts.Update f t) _ (revaluing-is f used.0 n used.1 ∙ ap (λ z. updated z f w x) (sym is) ∙ ok_is (updated s f w x) y a.1) (record {
        met = tt;
        stands = revalue-stands f used.0 n t lt is used.1 number;
        given = omega arith;
        variables = refl;
      }))
      (λ is.
      let sort = value-sort (sort_of s) x.names t in
      let own = ap (λ z. joined z (tokens_of f (bag_at others x)) (record_at (record { records = set x.kept.records f w; stored = x.kept.stored }) f) (tokens_of f x.kept.stored)) is ∙ ap Some (record-there f w lt ∙ same) in
      to-answer (acts.Update f t) (recording f w x) (ap (λ z. updated z f w x) (sym is) ∙ ok_is (updated s f w x) y a.1) (record {
        met = tt;
        stands = record-stands f w t lt sort own;
        given = omega arith;
        variables = refl;
      }))
