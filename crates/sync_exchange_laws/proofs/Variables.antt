-- The slots of variables: where each finds its token they are passed, and where they are passed each found it.
use Rattle.std.proofs.Common.{◌≡◌, ℕ, zero, suc, ◌+◌, ◌<◌, ℤ, pos, Bool, true, false, List, [], ◌∷◌, filter_map, Option, Some, None, is_some, Ok, refl, sym, ap, subst, ◌∙◌, arith, nat_eq}
use Rattle.std.specs.List.{AllByRecursion, cons_option, range_with_len}
use Rattle.std.specs.Ordering.{int_eq}
use Rattle.std.specs.Cmp.{int_eq_equiv}
use Rattle.std.proofs.lemmas.Bool.{eqb-true, eq-eqb}
use Rattle.sync_base.specs.Outcome.{◌>>=◌}
use Rattle.sync_terms.specs.Values.{Valuation}
use Rattle.sync_machine.specs.declared.fields.Field.{Field}
use Rattle.sync_machine.specs.Machines.{StepTree}
use Rattle.sync_rules.specs.declared.slots.Role.{Role}
use Rattle.sync_rules.specs.declared.slots.Role.TheVariants.{Given}
use Rattle.sync_rules.specs.Slots.{SlotTree, field_slot}
use Rattle.sync_join.specs.declared.tokens.Token.{Token}
use Rattle.sync_join.proofs.Maps.{equal}
use Rattle.sync_exchange.specs.declared.hands.XStop.TheVariants.{Differs}
use Rattle.sync_exchange.specs.Exchange.{Exchanging, Answer, unless, named, next_name, is_at_place, token_of, after_reading, after_giving, knowing, use_variable, use_variables}
use Rattle.sync_exchange.proofs.Asking.{both-true}
use Rattle.sync_exchange.proofs.Terms.{and_left, and_right}
use Rattle.sync_exchange.proofs.Passing.{unless-ok, ok_is, bind-ok}
use Rattle.sync_exchange.proofs.Using.{slot-kinds, field-slot}
use Rattle.sync_exchange_laws.specs.Along.{IsVariableThere, variable_left, variables_left, AreVariablesThere}
use Rattle.sync_exchange_laws.proofs.Bringing.{passed}

pub token-is : (t : Token) (f : ℕ) (k n : ℤ) → f ≡ t.field → t.key ≡ k → t.value ≡ n → t ≡ token_of f k n
token-is t f k n field key value i = record { field = sym field i; key = key i; value = value i }

-- ---- they are passed

reads-token : (v : Valuation) (f : ℕ) (x : Exchanging) → named x ≡ Ok (token_of f (pos 0) (v.number f))
    → (named x >>= (λ (t : Token). unless (Differs x.slot) (is_at_place f (pos 0) t) (Ok (knowing f (next_name x.tokens) t.value (after_reading x)))))
    ≡ Ok (knowing f (next_name x.tokens) (v.number f) (after_reading x))
reads-token v f x there =
    let used : Token → Answer = λ t. unless (Differs x.slot) (is_at_place f (pos 0) t) (Ok (knowing f (next_name x.tokens) t.value (after_reading x))) in
    let t = token_of f (pos 0) (v.number f) in
    ap (λ r. r >>= used) there
    ∙ passed (Differs x.slot) (is_at_place f (pos 0) t) (knowing f (next_name x.tokens) (v.number f) (after_reading x))
    (both-true (nat_eq f f) (int_eq (pos 0) (pos 0)) (eq-eqb f f refl) (int_eq_equiv.refl (pos 0)))

variable-used : (v : Valuation) (role : Role) (s : SlotTree) (x : Exchanging) → s.role ≡ role → IsVariableThere v s x
    → use_variable s.field s.role x ≡ Ok (variable_left v s x)
variable-used v Given s x is there = rw is refl
variable-used v role s x is there =
    let named_so : named x ≡ Ok (token_of s.field (pos 0) (v.number s.field)) = rw is at there in
    rw is (reads-token v s.field x named_so)

pub variables-used : (v : Valuation) (slots : List SlotTree) (x : Exchanging) → AreVariablesThere v slots x
    → use_variables slots x ≡ Ok (variables_left v slots x)
variables-used v [] x there = refl
variables-used v (s ∷ ss) x there =
    ap (λ r. r >>= use_variables ss) (variable-used v s.role s x refl there.0)
    ∙ variables-used v ss (variable_left v s x) there.1

-- ---- they have been passed

own-number : (f name : ℕ) (n : ℤ) (x : Exchanging) → (knowing f name n x).names.number f ≡ n
own-number f name n x = rw (eq-eqb f f refl) refl

other-number : (f name : ℕ) (n : ℤ) (x : Exchanging) (z : ℕ) → nat_eq z f ≡ false
    → x.names.number z ≡ (knowing f name n x).names.number z
other-number f name n x z e = rw e refl

number-of : (z : ℕ) (u y : Exchanging) → u ≡ y → u.names.number z ≡ y.names.number z
number-of z u y e = ap (λ (w : Exchanging). w.names.number z) e

variable-kept : (role : Role) (f : ℕ) (x y : Exchanging) (z : ℕ) → nat_eq z f ≡ false → use_variable f role x ≡ Ok y
    → x.names.number z ≡ y.names.number z
variable-kept Given f x y z other e =
    other-number f (next_name x.given) (pos 0) (after_giving (token_of f (pos 0) (pos 0)) x) z other
    ∙ number-of z (knowing f (next_name x.given) (pos 0) (after_giving (token_of f (pos 0) (pos 0)) x)) y (ok_is _ y e)
variable-kept role f x y z other e =
    let a = bind-ok (named x) _ y e in
    let b = unless-ok (Differs x.slot) (is_at_place f (pos 0) a.0) _ y a.2 in
    other-number f (next_name x.tokens) a.0.value (after_reading x) z other ∙ number-of z _ y (ok_is _ y b.1)

variable-found : (v : Valuation) (role : Role) (s : SlotTree) (x y : Exchanging) → s.role ≡ role
    → use_variable s.field role x ≡ Ok y
    → y.names.number s.field ≡ v.number s.field → IsVariableThere v s x × (variable_left v s x ≡ y)
variable-found v Given s x y is e value = rw is (tt, ok_is _ y e)
variable-found v role s x y is e value =
    let f = s.field in
    let a = bind-ok (named x) _ y e in
    let t = a.0 in
    let b = unless-ok (Differs x.slot) (is_at_place f (pos 0) t) _ y a.2 in
    let left : knowing f (next_name x.tokens) t.value (after_reading x) ≡ y = ok_is _ y b.1 in
    let worth : t.value ≡ v.number f =
    sym (own-number f (next_name x.tokens) t.value (after_reading x)) ∙ number-of f _ y left ∙ value in
    let one : t ≡ token_of f (pos 0) (v.number f) =
    token-is t f (pos 0) (v.number f) (eqb-true f t.field (and_left _ _ b.0))
    (sym (equal (pos 0) t.key (and_right (nat_eq f t.field) _ b.0))) worth in
    rw is (a.1 ∙ ap Ok one, ap (λ (n : ℤ). knowing f (next_name x.tokens) n (after_reading x)) (sym worth) ∙ left)

module _ (fs : List Field) (ss : List StepTree) where
  pub slot-field : (f : ℕ) (s : SlotTree) → field_slot fs ss f ≡ Some s → s.field ≡ f
  slot-field f s e =
      slot-kinds fs ss f s (s.field ≡ f) (field-slot fs ss f s e).1 (λ given field role. field) (λ field role. field)
      (λ field role. field)

  below : (z k : ℕ) → z < k → nat_eq z k ≡ false
  below z k lt = cases (nat_eq z k) refl where
    cases : (b : Bool) → nat_eq z k ≡ b → b ≡ false
    cases false e = refl
    cases true e = absurd (let same = eqb-true z k e in omega (arith, same, lt))

  kept-next : (k : ℕ) (rest : List SlotTree) (x y : Exchanging) (z : ℕ) (o : Option SlotTree) → field_slot fs ss k ≡ o
      → nat_eq z k ≡ false → use_variables (cons_option o rest) x ≡ Ok y
      → ((u : Exchanging) → use_variables rest u ≡ Ok y → u.names.number z ≡ y.names.number z)
      → x.names.number z ≡ y.names.number z
  kept-next k rest x y z None is other did later = later x did
  kept-next k rest x y z (Some s) is other did later =
      let a = bind-ok (use_variable s.field s.role x) (use_variables rest) y did in
      variable-kept s.role s.field x a.0 z (ap (nat_eq z) (slot-field k s is) ∙ other) a.1 ∙ later a.0 a.2

  kept-behind : (n k : ℕ) (x y : Exchanging) (z : ℕ) → z < k
      → use_variables (filter_map (field_slot fs ss) (range_with_len k n)) x ≡ Ok y
      → x.names.number z ≡ y.names.number z
  kept-behind zero k x y z lt e = number-of z x y (ok_is x y e)
  kept-behind (suc n) k x y z lt e =
      kept-next k (filter_map (field_slot fs ss) (range_with_len (k + 1) n)) x y z (field_slot fs ss k) refl (below z k lt) e
      (λ u did. kept-behind n (k + 1) u y z (omega (arith, lt)) did)

  found-next : (v : Valuation) (k : ℕ) (rest : List SlotTree) (x y : Exchanging) (o : Option SlotTree)
      → field_slot fs ss k ≡ o → (is_some (field_slot fs ss k) ≡ true → y.names.number k ≡ v.number k)
      → ((u : Exchanging) → use_variables rest u ≡ Ok y → u.names.number k ≡ y.names.number k)
      → use_variables (cons_option o rest) x ≡ Ok y
      → ((u : Exchanging) → use_variables rest u ≡ Ok y → AreVariablesThere v rest u × (variables_left v rest u ≡ y))
      → AreVariablesThere v (cons_option o rest) x × (variables_left v (cons_option o rest) x ≡ y)
  found-next v k rest x y None is agree stays did later = later x did
  found-next v k rest x y (Some s) is agree stays did later =
      let a = bind-ok (use_variable s.field s.role x) (use_variables rest) y did in
      let field = slot-field k s is in
      let value : a.0.names.number s.field ≡ v.number s.field =
      subst (λ f. a.0.names.number f ≡ v.number f) (sym field) (stays a.0 a.2 ∙ agree (ap is_some is)) in
      let one = variable-found v s.role s x a.0 refl a.1 value in
      let more = later a.0 a.2 in
      ((one.0, subst (AreVariablesThere v rest) (sym one.1) more.0), ap (variables_left v rest) one.1 ∙ more.1)

  -- Behind the slots the variables stand for their tokens' values: where these are those of a valuation, the tokens
  -- have them.
  pub variables-found : (v : Valuation) (n k : ℕ) (x y : Exchanging)
      → use_variables (filter_map (field_slot fs ss) (range_with_len k n)) x ≡ Ok y
      → AllByRecursion (λ (f : ℕ). is_some (field_slot fs ss f) ≡ true → y.names.number f ≡ v.number f) (range_with_len k n)
      → AreVariablesThere v (filter_map (field_slot fs ss) (range_with_len k n)) x
      × (variables_left v (filter_map (field_slot fs ss) (range_with_len k n)) x ≡ y)
  variables-found v zero k x y e agree = (tt, ok_is x y e)
  variables-found v (suc n) k x y e agree =
      found-next v k (filter_map (field_slot fs ss) (range_with_len (k + 1) n)) x y (field_slot fs ss k) refl agree.0
      (λ u did. kept-behind n (k + 1) u y k (omega arith) did) e
      (λ u did. variables-found v n (k + 1) u y did agree.1)
