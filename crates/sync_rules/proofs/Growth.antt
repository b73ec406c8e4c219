-- How the list of obligations grows, statement by statement, invariant by invariant, operation by operation.
use Rattle.std.proofs.Common.{◌≡◌, ℕ, suc, ◌+◌, ◌<◌, ◌≤◌, Bool, List, ◌∷◌, ◌++◌, map, length, get_or, drop, sym, ap, subst, ◌∙◌, arith, append_assoc}
use Rattle.std.proofs.lemmas.List.{at_drop_more, at_drop_all}
use Rattle.sync_terms.specs.Stored.{Stored}
use Rattle.sync_machine.specs.declared.fields.Field.{Field}
use Rattle.sync_machine.specs.declared.machine.Step.{Step}
use Rattle.sync_machine.specs.declared.machine.Operation.{Operation}
use Rattle.sync_machine.specs.Machines.{OperationTree}
use Rattle.sync_machine.specs.Views.{step_tree, steps_tree, operation_tree}
use Rattle.sync_terms.specs.declared.proofs.Claim.TheVariants.{At, Keeps}
use Rattle.sync_terms.specs.declared.proofs.Obligation.{Obligation}
use Rattle.sync_rules.specs.declared.field_sets.FieldSet.{FieldSet}
use Rattle.sync_rules.specs.Obligations.{has_safety, safety_claims}
use Rattle.sync_rules.specs.FieldSets.{is_marked_by, marked_claims, all_claims}
use Rattle.sync_rules.proofs.Lists.{only, if-only, append-nothing, joined}

abbrev pub marks_in : List FieldSet → List (List Bool)
marks_in sets = map (λ (s : FieldSet). s.marks) sets

safety-drop : (fs : List Field) (s : Stored) (op i : ℕ) (xs : List Step) (d : Step) → i < length xs → safety_claims fs op (i + 1) (steps_tree s (drop i xs)) ≡ only (has_safety fs (step_tree s (get_or xs i d))) (record { op = op; claim = At (i + 1); line = (get_or xs i d).line }) ++ safety_claims fs op (i + 1 + 1) (steps_tree s (drop (i + 1) xs))
unfolding safety_claims
safety-drop fs s op i xs d h =
    let x = step_tree s (get_or xs i d) in
    let here : Obligation = record { op = op; claim = At (i + 1); line = (get_or xs i d).line } in
    let rest = steps_tree s (drop (i + 1) xs) in
    let e : suc (i + 1) ≡ i + 1 + 1 = omega arith in
    at_drop_more (λ ys. safety_claims fs op (i + 1) (steps_tree s ys)) xs i d h
    ∙ if-only (has_safety fs x) here (safety_claims fs op (suc (i + 1)) rest)
    ∙ ap (λ k. only (has_safety fs x) here ++ safety_claims fs op k rest) e

-- one more statement, whose obligation is added if it has one
pub safety-more : (fs : List Field) (s : Stored) (op i : ℕ) (xs items : List Step) (d : Step) (done more all : List Obligation) (b : Bool) (n : ℕ) → i < length items → items ≡ xs → done ++ safety_claims fs op (i + 1) (steps_tree s (drop i xs)) ≡ all → has_safety fs (step_tree s (get_or items i d)) ≡ b → n ≡ i + 1 → more ≡ done ++ only b (record { op = op; claim = At n; line = (get_or items i d).line }) → more ++ safety_claims fs op (i + 1 + 1) (steps_tree s (drop (i + 1) xs)) ≡ all
safety-more fs s op i xs items d done more all b n h p inv test number pushed =
    let e = safety-drop fs s op i xs d (subst (λ ys. i < length ys) p h) in
    let a = append_assoc done (only b (record { op = op; claim = At n; line = (get_or items i d).line })) (safety_claims fs op (i + 1 + 1) (steps_tree s (drop (i + 1) xs))) in
    cc

pub safety-all : (fs : List Field) (s : Stored) (op i : ℕ) (xs items : List Step) (done all : List Obligation) → length items ≤ i → items ≡ xs → done ++ safety_claims fs op (i + 1) (steps_tree s (drop i xs)) ≡ all → done ≡ all
unfolding safety_claims
safety-all fs s op i xs items done all h p inv =
    let e = at_drop_all (λ ys. safety_claims fs op (i + 1) (steps_tree s ys)) xs i (subst (λ ys. length ys ≤ i) p h) in
    sym (append-nothing done) ∙ ap (λ ys. done ++ ys) (sym e) ∙ inv

marked-drop : (o : OperationTree) (op j : ℕ) (xs : List FieldSet) (d : FieldSet) → j < length xs → marked_claims o op j (marks_in (drop j xs)) ≡ only (is_marked_by o.mode o.steps (get_or xs j d).marks) (record { op = op; claim = Keeps j; line = o.line }) ++ marked_claims o op (j + 1) (marks_in (drop (j + 1) xs))
unfolding marked_claims
marked-drop o op j xs d h =
    let test = is_marked_by o.mode o.steps (get_or xs j d).marks in
    let here : Obligation = record { op = op; claim = Keeps j; line = o.line } in
    let rest = marks_in (drop (j + 1) xs) in
    let e : suc j ≡ j + 1 = omega arith in
    at_drop_more (λ ys. marked_claims o op j (marks_in ys)) xs j d h
    ∙ if-only test here (marked_claims o op (suc j) rest)
    ∙ ap (λ k. only test here ++ marked_claims o op k rest) e

-- one more invariant, whose obligation is added if it has to be kept
pub marked-more : (o : OperationTree) (op j : ℕ) (xs : List FieldSet) (d : FieldSet) (done more all : List Obligation) (b : Bool) (n : ℕ) → j < length xs → done ++ marked_claims o op j (marks_in (drop j xs)) ≡ all → is_marked_by o.mode o.steps (get_or xs j d).marks ≡ b → n ≡ j → more ≡ done ++ only b (record { op = op; claim = Keeps n; line = o.line }) → more ++ marked_claims o op (j + 1) (marks_in (drop (j + 1) xs)) ≡ all
marked-more o op j xs d done more all b n h inv test number pushed =
    let e = marked-drop o op j xs d h in
    let a = append_assoc done (only b (record { op = op; claim = Keeps n; line = o.line })) (marked_claims o op (j + 1) (marks_in (drop (j + 1) xs))) in
    cc

pub marked-all : (o : OperationTree) (op j : ℕ) (xs : List FieldSet) (done all : List Obligation) → length xs ≤ j → done ++ marked_claims o op j (marks_in (drop j xs)) ≡ all → done ≡ all
unfolding marked_claims
marked-all o op j xs done all h inv =
    let e = at_drop_all (λ ys. marked_claims o op j (marks_in ys)) xs j h in
    sym (append-nothing done) ∙ ap (λ ys. done ++ ys) (sym e) ∙ inv

-- one more operation
pub claims-more : (fs : List Field) (marks : List (List Bool)) (s : Stored) (i n : ℕ) (xs items : List Operation) (x : Operation) (done half more all : List Obligation) → i < length items → items ≡ xs → x ≡ get_or items i x → done ++ all_claims fs marks i (map (operation_tree s) (drop i xs)) ≡ all → n ≡ i → half ≡ done ++ safety_claims fs n 1 (operation_tree s x).steps → more ≡ half ++ marked_claims (operation_tree s x) n 0 marks → more ++ all_claims fs marks (i + 1) (map (operation_tree s) (drop (i + 1) xs)) ≡ all
unfolding all_claims
claims-more fs marks s i n xs items x done half more all h p at inv number first second =
    let o = operation_tree s x in
    let rest = map (operation_tree s) (drop (i + 1) xs) in
    let claims = safety_claims fs i 1 o.steps ++ marked_claims o i 0 marks in
    let k : suc i ≡ i + 1 = omega arith in
    let e = at_drop_more (λ ys. all_claims fs marks i (map (operation_tree s) ys)) xs i x (subst (λ ys. i < length ys) p h) in
    let here : get_or xs i x ≡ x = sym (at ∙ ap (λ ys. get_or ys i x) p) in
    let f : all_claims fs marks i (map (operation_tree s) (drop i xs)) ≡ claims ++ all_claims fs marks (i + 1) rest =
    e ∙ ap (λ y. all_claims fs marks i (map (operation_tree s) (y ∷ drop (i + 1) xs))) here ∙ ap (λ m. claims ++ all_claims fs marks m rest) k in
    let g : more ≡ done ++ claims =
    second ∙ ap (λ ys. ys ++ marked_claims o n 0 marks) first ∙ append_assoc done (safety_claims fs n 1 o.steps) (marked_claims o n 0 marks)
    ∙ ap (λ m. done ++ (safety_claims fs m 1 o.steps ++ marked_claims o m 0 marks)) number in
    joined done more claims (all_claims fs marks (i + 1) rest) all (ap (λ ys. done ++ ys) (sym f) ∙ inv) g

pub claims-all : (fs : List Field) (marks : List (List Bool)) (s : Stored) (i : ℕ) (xs items : List Operation) (done all : List Obligation) → length items ≤ i → items ≡ xs → done ++ all_claims fs marks i (map (operation_tree s) (drop i xs)) ≡ all → done ≡ all
unfolding all_claims
claims-all fs marks s i xs items done all h p inv =
    let e = at_drop_all (λ ys. all_claims fs marks i (map (operation_tree s) ys)) xs i (subst (λ ys. length ys ≤ i) p h) in
    sym (append-nothing done) ∙ ap (λ ys. done ++ ys) (sym e) ∙ inv
