-- Each statement that is done keeps how often each content of a cell is there.
use Rattle.std.proofs.Common.{◌≡◌, ℕ, ◌+◌, ◌<◌, ◌≤◌, ℤ, pos, Bool, true, List, [], ◌∷◌, ◌++◌, length, filter_map, get_or, Option, Some, None, Ok, refl, sym, ap, subst, ◌∙◌, arith}
use Rattle.std.specs.List.{AllByRecursion, cons_option}
use Rattle.sync_terms.specs.Trees.{Tree, Nil}
use Rattle.sync_terms.specs.Values.{Valuation}
use Rattle.sync_machine.specs.declared.fields.Field.{Field}
use Rattle.sync_base.specs.declared.strategies.Strategy.{Strategy}
use Rattle.sync_base.specs.declared.strategies.Strategy.TheVariants.{Variable, Count, PersistentCount, StorageMap}
use Rattle.sync_machine.specs.Machines.{PatternTree, Bind, Term, PlaceTree, ActTree, StepTree}
use Rattle.sync_machine.specs.Machines as acts
use Rattle.sync_machine.specs.Statements.{field_of, changed_by, binds, bound_in}
use Rattle.sync_machine.specs.States.{Value, strategy_at, advanced}
use Rattle.sync_rules.specs.declared.slots.Role.{Role}
use Rattle.sync_rules.specs.declared.slots.Role.TheVariants.{Given}
use Rattle.sync_rules.specs.Locality.{is_variable}
use Rattle.sync_rules.specs.Shapes.{fits}
use Rattle.sync_rules.specs.Slots.{SlotTree, field_slot}
use Rattle.sync_rules.specs.Strategies.{kind_of}
use Rattle.sync_join.specs.declared.tokens.Token.{Token}
use Rattle.sync_join.specs.Shards.{perm, often}
use Rattle.sync_join.specs.Join.{tokens_of, number_of, record_at}
use Rattle.sync_join.proofs.Maps.{equal}
use Rattle.sync_exchange.specs.declared.hands.XStop.TheVariants.{Differs, Width, RequireFalse}
use Rattle.sync_exchange.specs.Exchange.{Exchanging, named, next_name, is_at_place, token_name, revalued, revaluing, withdrawn, permission, token_of, key_at, amount_at, is_asked, after_reading, after_taking, after_seeing, after_giving, binding, storing, started, updated, new_value, use_variable, use_variables, does}
use Rattle.sync_exchange.proofs.Tokens.{IsPart, holds, with_number, taken-part, given-part, revalued-part}
use Rattle.sync_exchange.proofs.Storing.{as_map-parts}
use Rattle.sync_exchange.proofs.Passing.{unless-ok, ok_is, bind-ok, asked-token, asked-object}
use Rattle.sync_exchange.proofs.Standing.{bag_at, IsUnderWay, IsReady, few-held}
use Rattle.sync_exchange.proofs.OneStrategy.{storage-only, withdraw-guard, nothing-bound, stored-map}
use Rattle.sync_exchange.proofs.Using.{slot-kinds, field-slot}
use Rattle.sync_exchange.proofs.Going.{Walk}
use Rattle.sync_exchange_laws.specs.Permissions.{is_content, stored_often, there_often}
use Rattle.sync_exchange_laws.proofs.Cells.{one_if, often-part, no-permission, own-permission, stored-last, stored-out}

asked-cases : (key : Option Tree) (o : Option PatternTree) (n : ℤ) (x : Exchanging) → bound_in o ≡ None
    → is_asked (record { key = key; value = o }) n x ≡ true → amount_at (record { key = key; value = o }) x ≡ n
asked-cases key None n x none is = equal _ n is
asked-cases key (Some (Bind z)) n x none is = absurd (cc)
asked-cases key (Some (Term t)) n x none is = equal _ n is

asked-value : (p : PlaceTree) (n : ℤ) (x : Exchanging) → binds p ≡ None → is_asked p n x ≡ true → amount_at p x ≡ n
asked-value p n x none is = asked-cases p.key p.value n x none is

revaluing-is : (f name : ℕ) (n : ℤ) (x : Exchanging) → token_name f x.variables ≡ Some name
    → record x { hand = revalued name n x.hand; entered = revalued name n x.entered } ≡ revaluing f n x
revaluing-is f name n x has = rw has refl

module _ (fs : List Field) (few : length fs ≤ 32) (others : List Token) (k n : ℤ) where
  abbrev there : Exchanging → ℕ
  there x = there_often k n (bag_at others x) x.kept

  binding-there : (o : Option ℕ) (m : ℤ) (z : Exchanging) → there (binding o m z) ≡ there z
  binding-there None m z = refl
  binding-there (Some y) m z = refl

  -- a token of a declared field comes or goes
  of-field : (f : ℕ) (t : Token) (whole rest : List Token) → IsPart t whole rest → t.field ≡ f → f < length fs → often (permission k n) whole ≡ often (permission k n) rest
  of-field f t whole rest part is lt =
      let a = often-part (permission k n) t whole rest part in
      let b = ap one_if (no-permission k n t f (length fs) is lt few) in
      omega (arith, a, b)

  given-there : (f : ℕ) (t : Token) (x : Exchanging) → t.field ≡ f → f < length fs → there (after_giving t x) ≡ there x
  given-there f t x is lt =
      ap (λ c. c + stored_often k n x.kept.stored) (of-field f t _ _ (given-part (next_name x.given) t x.hand x.entered others) is lt)

  module _ (v : Valuation) (x : Exchanging) (cur : List Tree) (stands : IsUnderWay fs v others x cur) where
    few-of : (name : ℕ) → holds name (x.hand ++ x.entered) ≤ 1
    few-of name = few-held name (x.hand ++ x.entered) x.given (stands.once name)

    revalued-there : (f name : ℕ) (m : ℤ) → f < length fs → token_name f x.variables ≡ Some name → there (revaluing f m x) ≡ there x
    revalued-there f name m lt has =
        let tk = stands.named f name has in
        let parts = revalued-part name m tk.0 x.hand x.entered others tk.1 (few-of name) in
        let a = of-field f tk.0 _ _ parts.was tk.2 lt in
        let b = of-field f (with_number m tk.0) _ _ parts.is tk.2 lt in
        sym (ap there (revaluing-is f name m x has)) ∙ ap (λ c. c + stored_often k n x.kept.stored) (b ∙ sym a)

    started-there : (s : Strategy) (f : ℕ) (w : Value) → f < length fs → (is_variable s ≡ true → (name : ℕ) × (token_name f x.variables ≡ Some name)) → there (started s f w x) ≡ there x
    started-there Variable f w lt used = let u = used refl in revalued-there f u.0 (number_of w) lt u.1
    started-there Count f w lt used = given-there f (record { field = f; key = pos 0; value = number_of w }) x refl lt
    started-there PersistentCount f w lt used = given-there f (record { field = f; key = pos 0; value = number_of w }) x refl lt
    started-there s f w lt used = refl

    updated-there : (s : Strategy) (f : ℕ) (w : Value) → f < length fs → (is_variable s ≡ true → (name : ℕ) × (token_name f x.variables ≡ Some name)) → there (updated s f w x) ≡ there x
    updated-there Variable f w lt used = let u = used refl in revalued-there f u.0 (number_of w) lt u.1
    updated-there s f w lt used = refl

    permits : (fit : ℤ → Bool) (q : ℕ → Bool) (y : Exchanging) (line : ℕ) (a : ActTree) → IsReady fs v q x y cur a → does fit fs (record { act = a; line = line }) x ≡ Ok y → there y ≡ there x
    unfolding does field_of kind_of fits changed_by
    permits fit q y line (acts.Require form) r e =
        let a = unless-ok Width _ _ y e in
        let b = unless-ok (RequireFalse line) _ (Ok x) y a.1 in sym (ap there (ok_is x y b.1))
    permits fit q y line (acts.Assert form) r e = sym (ap there (ok_is x y e))
    permits fit q y line (acts.HaveVariable f) r e = sym (ap there (ok_is x y e))
    permits fit q y line (acts.Init f t) r e =
        let a = unless-ok Width _ _ y e in
        sym (ap there (ok_is _ y a.1)) ∙ started-there (strategy_at fs f) f (new_value fs f t x) (r.lawful.inside f refl) (r.used f refl)
    permits fit q y line (acts.Update f t) r e =
        let a = unless-ok Width _ _ y e in
        sym (ap there (ok_is _ y a.1)) ∙ updated-there (strategy_at fs f) f (new_value fs f t x) (r.lawful.inside f refl) (r.used f refl)
    permits fit q y line (acts.Remove f p) r e =
        let a = asked-token fit f p x _ y e in
        let part = taken-part (next_name x.tokens) a.token x.hand x.entered others a.held (few-of (next_name x.tokens)) in
        sym (ap there a.answer) ∙ binding-there (binds p) a.token.value (after_taking x)
        ∙ sym (ap (λ c. c + stored_often k n x.kept.stored) (of-field f a.token _ _ part (sym a.field) (r.lawful.inside f refl)))
    permits fit q y line (acts.Have f p) r e =
        let a = asked-token fit f p x _ y e in sym (ap there a.answer) ∙ binding-there (binds p) a.token.value (after_reading x)
    permits fit q y line (acts.Add f p) r e =
        let a = unless-ok Width _ _ y e in
        sym (ap there (ok_is _ y a.1)) ∙ given-there f (token_of f (key_at p x) (amount_at p x)) x refl (r.lawful.inside f refl)
    permits fit q y line (acts.Deposit f p) r e =
        let u = token_of f (key_at p x) (amount_at p x) in
        let z = storing (x.kept.stored ++ u ∷ []) (after_taking x) in
        let a = asked-token fit perm p x (λ (t : Token). z) y e in
        let t = a.token in
        let part = taken-part (next_name x.tokens) t x.hand x.entered others a.held (few-of (next_name x.tokens)) in
        let value : u.value ≡ t.value = asked-value p t.value x (nothing-bound (strategy_at fs f) p r.lawful.fit) a.value in
        let same = own-permission k n t (sym a.field) ∙ ap (λ j. is_content k n (token_of f j t.value)) a.key ∙ ap (λ m. is_content k n (token_of f (key_at p x) m)) (sym value) in
        let one = ap one_if same in
        let out = often-part (permission k n) t _ _ part in
        let stored = stored-last k n x.kept.stored u in
        sym (ap there a.answer) ∙ omega (arith, one, out, stored)
    permits fit q y line (acts.Withdraw f p) r e =
        let key = key_at p x in
        let ts = withdrawn f key x.kept.stored in
        let a = asked-object fit f p x (λ (m : ℤ). binding (binds p) m (storing ts (after_giving (permission key m) x))) y e in
        let t = permission key a.number in
        let z = storing ts (after_giving t x) in
        let s = strategy_at fs f in
        let lt = r.lawful.inside f refl in
        let is : s ≡ StorageMap = storage-only s (withdraw-guard s r.lawful.allowed) in
        let before = stored-map s v (get_or cur f Nil) (tokens_of f (bag_at others x)) (record_at x.kept f) (tokens_of f x.kept.stored) is (stands.makes.values f lt) in
        let apart = (as_map-parts (tokens_of f x.kept.stored) _ before).0 in
        let part = given-part (next_name x.given) t x.hand x.entered others in
        let one = ap one_if (own-permission k n t refl) in
        let out = often-part (permission k n) t _ _ part in
        let stored = stored-out k n f key a.number x.kept.stored apart a.stored in
        sym (ap there a.answer) ∙ binding-there (binds p) a.number z ∙ omega (arith, one, out, stored)
    permits fit q y line (acts.Guard f p) r e =
        let a = asked-object fit f p x _ y e in sym (ap there a.answer) ∙ binding-there (binds p) a.number (after_seeing x)

  -- all statements
  pub stays : (fit : ℤ → Bool) (v : Valuation) (ss : List StepTree) (x y : Exchanging) (cur : List Tree) → Walk fit fs v others cur ss x y → there y ≡ there x
  unfolding Walk
  stays fit v [] x y cur w = sym (ap there w.1)
  stays fit v (s ∷ ss) x y cur w =
      stays fit v ss w.0 y (advanced fs cur s.act) w.2 ∙ permits v x cur w.1.stands fit w.1.reads w.0 s.line s.act w.1.ready w.1.did

  -- ---- the slots of variables

  used-there : (role : Role) (f : ℕ) (x y : Exchanging) → f < length fs → use_variable f role x ≡ Ok y → there y ≡ there x
  used-there Given f x y lt e = sym (ap there (ok_is _ y e)) ∙ given-there f (record { field = f; key = pos 0; value = pos 0 }) x refl lt
  used-there role f x y lt e =
      let a = bind-ok (named x) _ y e in
      let b = unless-ok (Differs x.slot) (is_at_place f (pos 0) a.0) _ y a.2 in sym (ap there (ok_is _ y b.1))

  slots-next : (ss : List StepTree) (f : ℕ) (rest : List SlotTree) (o : Option SlotTree) (x y : Exchanging) → field_slot fs ss f ≡ o → f < length fs → use_variables (cons_option o rest) x ≡ Ok y
      → ((z : Exchanging) → use_variables rest z ≡ Ok y → there y ≡ there z) → there y ≡ there x
  slots-next ss f rest None x y slot lt e later = later x e
  slots-next ss f rest (Some sl) x y slot lt e later =
      let a = bind-ok (use_variable sl.field sl.role x) (use_variables rest) y e in
      let field : sl.field ≡ f = slot-kinds fs ss f sl (sl.field ≡ f) (field-slot fs ss f sl slot).1 (λ given field role. field) (λ field role. field) (λ field role. field) in
      later a.0 a.2 ∙ used-there sl.role sl.field x a.0 (subst (λ g. g < length fs) (sym field) lt) a.1

  pub slots-there : (ss : List StepTree) (ns : List ℕ) (x y : Exchanging) → AllByRecursion (λ (f : ℕ). f < length fs) ns
      → use_variables (filter_map (field_slot fs ss) ns) x ≡ Ok y → there y ≡ there x
  slots-there ss [] x y lts e = sym (ap there (ok_is x y e))
  slots-there ss (f ∷ ns) x y lts e =
      slots-next ss f (filter_map (field_slot fs ss) ns) (field_slot fs ss f) x y refl lts.0 e (λ z h. slots-there ss ns z y lts.1 h)
