-- What a keep of a thread says stays so where its names stand for the same, and its tokens are held.
use Rattle.std.proofs.Common.{arith}
use Rattle.std.proofs.lemmas.Bool.{and_parts, and_from}
use Rattle.std.specs.List.{AllByRecursion, list_all}
use Rattle.std.specs.Ordering.{int_eq}
use Rattle.std.specs.Prelude.{◌≡◌, ℕ, ℤ, Bool, true, false, ◌&&◌, ◌||◌, nat_eq, List, [], ◌∷◌, Option, Some, None, is_none, map}
use Rattle.sync_exchange.specs.Exchange.{held_as}
use Rattle.sync_machine.specs.Naming.{formula_fault, is_in, number_fault}
use Rattle.sync_rules.specs.Locality.{form_names_only, names_only}
use Rattle.sync_terms.specs.Trees.{Tree}
use Rattle.sync_terms.specs.Values.{num, truth}
use Rattle.sync_thread.specs.Programs.{KeepFactTree, KeepLineTree, ShapeTree}
use Rattle.sync_thread_machine.specs.MachineWithProgram.{MachineWithProgram}
use Rattle.sync_thread_meaning.specs.MachineWithProgram.{field_of}
use Rattle.sync_thread_meaning.specs.Shares.{Sight, has_value, is_of_form, is_seen, is_true, keep_facts_hold}
use Rattle.sync_join.specs.declared.tokens.Token.{Token}
use Rattle.sync_typing.specs.Keeps.{option_all}
use Rattle.sync_typing.specs.Names.{if_there, is_form, is_formula, is_number, known_with, shape_is_named}
use Rattle.sync_typing_laws.proofs.KeepingTerms.{Same, same_num, same_truth}
use Rattle.sync_typing_laws.proofs.LocalMoves.{form_more, names_more}
use Rattle.sync_typing_rows.proofs.MoreNames.{numbers_with}
use Rattle.sync_typing_rows.specs.BeginLaws.{IsLineHeld}
use mathlib.Core.Path.{refl, sym, ap, subst, ◌∙◌}

none_is : {A : Type 0} (o : Option A) → is_none o ≡ true → o ≡ None
none_is None is = refl
none_is (Some a) is = absurd (let no : false ≡ true = is in cc)

same_is : (n : ℕ) → nat_eq n n ≡ true
same_is n = grind (arith)

or_later : (a b : Bool) → b ≡ true → (a || b) ≡ true
or_later true b is = refl
or_later false b is = is

module _ (x : MachineWithProgram) (p : ℕ → Bool) (w z : Sight) (same : Same (known_with x []) p w.valuation z.valuation) (seen : (y : ℕ) → p y ≡ true → is_seen z.hand y ≡ true) where
  value_carries : (o : Option Tree) (n : ℤ) → if_there (is_number (known_with x [])) o ≡ true → option_all (names_only p) o ≡ true → has_value w o n ≡ true → has_value z o n ≡ true
  value_carries None n number names is = refl
  value_carries (Some u) n number names is = and_from (names_only (is_seen z.hand) u) (int_eq (num z.valuation u) n) (names_more p (is_seen z.hand) seen u names)
      (subst (λ d. int_eq d n ≡ true) (same_num (known_with x []) p w.valuation z.valuation (numbers_with x []) same u (none_is (number_fault (known_with x []) u) number) names) (and_parts (names_only (is_seen w.hand) u) (int_eq (num w.valuation u) n) is).1)

  form_carries : (l : ShapeTree) (a : Token) → shape_is_named x (known_with x []) l ≡ true → (option_all (names_only p) l.key && option_all (names_only p) l.value) ≡ true → is_of_form w l a ≡ true → is_of_form z l a ≡ true
  form_carries l a named names is =
      let numbers = and_parts (if_there (is_number (known_with x [])) l.key) (if_there (is_number (known_with x [])) l.value) (and_parts (is_form x l) _ named).1 in
      let parts = and_parts (nat_eq (field_of l.field) a.field && has_value w l.key a.key) (has_value w l.value a.value) is in
      let front = and_parts (nat_eq (field_of l.field) a.field) (has_value w l.key a.key) parts.0 in
      let each = and_parts (option_all (names_only p) l.key) (option_all (names_only p) l.value) names in
      and_from (nat_eq (field_of l.field) a.field && has_value z l.key a.key) (has_value z l.value a.value)
      (and_from (nat_eq (field_of l.field) a.field) (has_value z l.key a.key) front.0 (value_carries l.key a.key numbers.0 each.0 front.1)) (value_carries l.value a.value numbers.1 each.1 parts.1)

  pub lines_carry : (ls : List KeepLineTree) → ((n : ℕ) → is_in n (map (λ (l : KeepLineTree). l.name) ls) ≡ true → held_as n z.hand ≡ held_as n w.hand) → list_all (λ (l : KeepLineTree). shape_is_named x (known_with x []) l.shape) ls ≡ true
      → list_all (λ (l : KeepLineTree). option_all (names_only p) l.shape.key && option_all (names_only p) l.shape.value) ls ≡ true → AllByRecursion (IsLineHeld w) ls → AllByRecursion (IsLineHeld z) ls
  lines_carry [] held named names all = tt
  lines_carry (l ∷ ls) held named names all = (
    (all.0.0, held l.name (here l.name ls) ∙ all.0.1, form_carries l.shape all.0.0 (and_parts (shape_is_named x (known_with x []) l.shape) _ named).0 (and_parts (option_all (names_only p) l.shape.key && option_all (names_only p) l.shape.value) _ names).0 all.0.2),
    lines_carry ls (λ n inside. held n (or_later (nat_eq n l.name) (is_in n (map (λ (l : KeepLineTree). l.name) ls)) inside)) (and_parts (shape_is_named x (known_with x []) l.shape) _ named).1 (and_parts (option_all (names_only p) l.shape.key && option_all (names_only p) l.shape.value) _ names).1 all.1,
  ) where
    here : (n : ℕ) (ls : List KeepLineTree) → is_in n (n ∷ map (λ (l : KeepLineTree). l.name) ls) ≡ true
    here n ls = ap (λ b. b || is_in n (map (λ (l : KeepLineTree). l.name) ls)) (same_is n)

  pub facts_carry : (fs : List KeepFactTree) → list_all (λ (f : KeepFactTree). is_formula (known_with x []) f.form) fs ≡ true → list_all (λ (f : KeepFactTree). form_names_only p f.form) fs ≡ true → keep_facts_hold w fs ≡ true → keep_facts_hold z fs ≡ true
  facts_carry [] named names are = refl
  facts_carry (f ∷ fs) named names are =
      let n = and_parts (is_formula (known_with x []) f.form) (list_all (λ (f : KeepFactTree). is_formula (known_with x []) f.form) fs) named in
      let m = and_parts (form_names_only p f.form) (list_all (λ (f : KeepFactTree). form_names_only p f.form) fs) names in
      let k = and_parts (is_true w f.form) (keep_facts_hold w fs) are in
      and_from (is_true z f.form) (keep_facts_hold z fs)
      (and_from (form_names_only (is_seen z.hand) f.form) (truth z.valuation f.form) (form_more p (is_seen z.hand) seen f.form m.0)
      (sym (same_truth (known_with x []) p w.valuation z.valuation (numbers_with x []) same f.form (none_is (formula_fault (known_with x []) f.form) n.0) m.0) ∙ (and_parts (form_names_only (is_seen w.hand) f.form) (truth w.valuation f.form) k.0).1))
      (facts_carry fs n.1 m.1 k.1)
