-- The checks of an operation, over a store that grows by its walk and its claims; and those of one operation after another.
use Rattle.std.proofs.Common.{◌≡◌, ℕ, suc, ◌+◌, ◌<◌, ◌≤◌, Bool, List, [], ◌∷◌, ◌++◌, length, map, get_or, drop, All, Option, Some, None, Result, Ok, Err, refl, sym, ap, subst, ◌∙◌, add-one}
use Rattle.std.specs.Prelude.{OnOk, slice_get}
use Rattle.std.specs.List.{AllByRecursion}
use Rattle.std.proofs.lemmas.List.{at_drop_more, at_drop_all}
use Rattle.std.proofs.lemmas.List.Elements.{All-get_or, All-from_recursion, recursion_from_All}
use Rattle.std.proofs.lemmas.Option.{slice_get_read}
use Rattle.sync_base.specs.declared.stops.Refusal.{Refusal}
use Rattle.sync_base.specs.declared.stops.Stop.{Stop}
use Rattle.sync_base.specs.Outcome.{first, Passes}
use Rattle.sync_terms.specs.Trees.{Tree}
use Rattle.sync_terms.specs.Stored.{Stored, IsForm, Extends}
use Rattle.sync_terms.proofs.Extending.{Extends-trans}
use Rattle.sync_machine.specs.declared.fields.Field.{Field}
use Rattle.sync_machine.specs.declared.machine.Step.{Step}
use Rattle.sync_machine.specs.declared.machine.Invariant.{Invariant}
use Rattle.sync_machine.specs.declared.machine.Operation.{Operation}
use Rattle.sync_machine.specs.Machines.{InvariantTree, OperationTree}
use Rattle.sync_machine.specs.States.{first_values, last_values}
use Rattle.sync_machine.specs.Views.{steps_tree, invariant_tree, operation_tree, HasActIds}
use Rattle.sync_kernel_facts.specs.Facts.{Fact}
use Rattle.sync_induct.specs.declared.index.Title.{Title}
use Rattle.sync_induct.specs.declared.walks.Walk.{Walk}
use Rattle.sync_induct.specs.Checklist.{Check, proves, step_checks, operation_checks, checks_from, AreShown}
use Rattle.sync_induct.specs.Checks.{checks_fault}
use Rattle.sync_terms.specs.Proofs.{ProofTree}
use Rattle.sync_induct.specs.Closing.{IsKeepable, AreWanted}
use Rattle.sync_induct.specs.Duties.{facts_behind, keeps_duties, base_facts}
use Rattle.sync_induct.specs.Walks.{HasCome, values_of, known_of}
use Rattle.sync_induct_acts.proofs.Lasting.{act-ids}
use Rattle.sync_induct.proofs.Lasting.{steps-stay, operation-stays, invariants-stay, keepable-stays}
use Rattle.sync_induct.proofs.Remaining.{Remains, fault-append, shown-append, remains-whole, remains-same, remains-past, remains-refused}

-- a statement's ids are of the store
abbrev pub HasIds : Stored → Step → Type 0
HasIds s x = HasActIds s x.act

pub have-ids : (s : Stored) (xs : List Step) → All (HasIds s) xs → AllByRecursion (HasIds s) xs
have-ids s xs h = recursion_from_All (HasIds s) xs h

pub keepable-forms : (s : Stored) (is : List Invariant) → AllByRecursion (IsKeepable s) is → AllByRecursion (λ (i : Invariant). IsForm s i.form) is
keepable-forms s [] h = tt
keepable-forms s (i ∷ is) h = (h.0.form, keepable-forms s is h.1)

all-ids : (s t : Stored) (xs : List Step) → Extends s t → AllByRecursion (HasIds s) xs → AllByRecursion (HasIds t) xs
all-ids s t [] e h = tt
all-ids s t (x ∷ xs) e h = (act-ids s t e x.act h.0, all-ids s t xs e h.1)

-- the statements of an operation, as a larger store has them
pub operation-ids : (s t : Stored) (o : Operation) (xs : List Step) → Extends s t → All (HasIds s) o.steps → xs ≡ o.steps → All (HasIds t) xs
operation-ids s t o xs e ids same =
    subst (λ (ys : List Step). All (HasIds t) ys) (sym same) (All-from_recursion (HasIds t) o.steps (all-ids s t o.steps e (have-ids s o.steps ids)))

-- ---- one operation: t is the store behind its begin, u the one behind its statements

module _ (s t u : Stored) (fs : List Field) (is : List Invariant) (op : ℕ) (o : Operation) (w : Walk) (xs : List Step) (e : Extends s t) (ids : All (HasIds s) o.steps) (keepable : AllByRecursion (IsKeepable s) is)
    (same : xs ≡ o.steps) (begun : HasCome t w (base_facts o.mode (map (invariant_tree s) is)) (first_values fs o.mode)) where
  abbrev pub steps_met : List Check
  steps_met = step_checks fs op (values_of t w) (known_of t w) 1 (steps_tree t xs)

  abbrev pub steps_own : List Check
  steps_own = step_checks fs op (first_values fs o.mode) (base_facts o.mode (map (invariant_tree s) is)) 1 (steps_tree s o.steps)

  steps-are : steps_tree t xs ≡ steps_tree s o.steps
  steps-are = ap (steps_tree t) same ∙ steps-stay s t e o.steps (have-ids s o.steps ids)

  steps-same : steps_met ≡ steps_own
  steps-same = let values = begun.now in let facts = begun.known in let steps = steps-are in λ j. step_checks fs op (values j) (facts j) 1 (steps j)

  abbrev pub last_facts : List Fact
  last_facts = facts_behind fs (first_values fs o.mode) (base_facts o.mode (map (invariant_tree s) is)) 1 (steps_tree s o.steps)

  abbrev pub last_trees : List Tree
  last_trees = last_values fs (first_values fs o.mode) (steps_tree s o.steps)

  abbrev pub keeps_own : List Check
  keeps_own = proves (keeps_duties (operation_tree s o) op last_facts last_trees 0 (map (invariant_tree s) is))

  abbrev all_own : List Check
  all_own = operation_checks fs (map (invariant_tree s) is) op (operation_tree s o)

  -- one of its statements is refused
  pub operation-steps_refused : (A B : Type 0) (stop : Stop) (ps : List ProofTree) → Passes {A = A} (Err stop) (checks_fault ps steps_met) → Passes {A = B} (Err stop) (checks_fault ps all_own)
  operation-steps_refused A B stop ps h =
      remains-refused A B stop ps all_own steps_own keeps_own (remains-whole ps all_own) (subst (λ (ds : List Check). Passes {A = A} (Err stop) (checks_fault ps ds)) steps-same h)

  module _ (v : Walk) (more : Extends t u) (come : HasCome u v (facts_behind fs (values_of t w) (known_of t w) 1 (steps_tree t xs)) (last_values fs (values_of t w) (steps_tree t xs))) where
    grown : Extends s u
    grown = Extends-trans e more

    pub operation-keepable : AllByRecursion (IsKeepable u) is
    operation-keepable = keepable-stays s u grown is keepable

    operation-is : operation_tree u o ≡ operation_tree s o
    operation-is = operation-stays s u grown o (have-ids s o.steps ids)

    invariants-are : map (invariant_tree u) is ≡ map (invariant_tree s) is
    invariants-are = invariants-stay s u grown is (keepable-forms s is keepable)

    pub operation-wanted : (is_wanted : Title → Bool) → AreWanted is_wanted op (operation_tree s o) (map (invariant_tree s) is) → AreWanted is_wanted op (operation_tree u o) (map (invariant_tree u) is)
    operation-wanted is_wanted h =
        subst (λ (x : OperationTree). AreWanted is_wanted op x (map (invariant_tree u) is)) (sym operation-is)
        (subst (λ (xs : List InvariantTree). AreWanted is_wanted op (operation_tree s o) xs) (sym invariants-are) h)

    abbrev pub keeps_met : List Check
    keeps_met = proves (keeps_duties (operation_tree u o) op (known_of u v) (values_of u v) 0 (map (invariant_tree u) is))

    keeps-same : keeps_met ≡ keeps_own
    keeps-same =
        let values = begun.now in
        let facts = begun.known in
        let steps = steps-are in
        let known = come.known ∙ (λ j. facts_behind fs (values j) (facts j) 1 (steps j)) in
        let last = come.now ∙ (λ j. last_values fs (values j) (steps j)) in
        let operation = operation-is in
        let invariants = invariants-are in
        λ j. proves (keeps_duties (operation j) op (known j) (last j) 0 (invariants j))

    -- behind statements whose checks are right, those that the invariants are kept decide
    pub operation-passes : {A : Type 0} (r : Result A Stop) (ps : List ProofTree) → checks_fault ps steps_met ≡ None → Passes r (checks_fault ps keeps_met) → Passes r (checks_fault ps all_own)
    operation-passes r ps none h =
        let first_none : checks_fault ps steps_own ≡ None = subst (λ (ds : List Check). checks_fault ps ds ≡ None) steps-same none in
        subst (λ (x : Option Refusal). Passes r x) (ap (checks_fault ps) keeps-same ∙ sym (fault-append ps steps_own keeps_own ∙ ap (λ (x : Option Refusal). first x (checks_fault ps keeps_own)) first_none)) h

    pub operation-shown : {A : Type 0} (r : Result A Stop) → AreShown steps_met → OnOk r (AreShown keeps_met) → OnOk r (AreShown all_own)
    operation-shown (Ok x) p q = shown-append steps_own keeps_own (subst (λ (ds : List Check). AreShown ds) steps-same p) (subst (λ (ds : List Check). AreShown ds) keeps-same q)
    operation-shown (Err stop) p q = tt

-- ---- one operation after another

-- what is left from the operation with index i on
abbrev pub left_from : Stored → List Field → List InvariantTree → List Operation → ℕ → List Check
left_from s fs is xs i = checks_from fs is i (map (operation_tree s) (drop i xs))

module _ (s t : Stored) (fs : List Field) (invariants : List Invariant) (xs : List Operation) (ps : List ProofTree) (i number : ℕ) (x : Operation) (e : Extends s t) (lt : i < length xs) (is : x ≡ get_or xs i x) (n : number ≡ i)
    (keepable : AllByRecursion (IsKeepable s) invariants) (ids : AllByRecursion (λ (o : Operation). All (HasIds s) o.steps) xs) where
  abbrev pub all_checks : List Check
  all_checks = left_from s fs (map (invariant_tree s) invariants) xs 0

  ids-here : All (HasIds s) x.steps
  ids-here = let P : Operation → Type 0 = λ o. All (HasIds s) o.steps in subst P (sym is) (All-get_or P xs i x lt (All-from_recursion P xs ids))

  pub ids-then : All (HasIds t) x.steps
  ids-then = All-from_recursion (HasIds t) x.steps (all-ids s t x.steps e (have-ids s x.steps ids-here))

  pub keepable-then : AllByRecursion (IsKeepable t) invariants
  keepable-then = keepable-stays s t e invariants keepable

  operation-then : operation_tree t x ≡ operation_tree s x
  operation-then = operation-stays s t e x (have-ids s x.steps ids-here)

  invariants-then : map (invariant_tree t) invariants ≡ map (invariant_tree s) invariants
  invariants-then = invariants-stay s t e invariants (keepable-forms s invariants keepable)

  pub wanted-then : (is_wanted : Title → Bool) → ((k : ℕ) (o : Operation) → slice_get xs k ≡ Some o → AreWanted is_wanted k (operation_tree s o) (map (invariant_tree s) invariants))
      → AreWanted is_wanted number (operation_tree t x) (map (invariant_tree t) invariants)
  wanted-then is_wanted h =
      subst (λ (k : ℕ). AreWanted is_wanted k (operation_tree t x) (map (invariant_tree t) invariants)) (sym n)
      (subst (λ (o : OperationTree). AreWanted is_wanted i o (map (invariant_tree t) invariants)) (sym operation-then)
      (subst (λ (ys : List InvariantTree). AreWanted is_wanted i (operation_tree s x) ys) (sym invariants-then) (h i x (slice_get_read xs (length xs) i x refl lt is))))

  -- the checks of the operation, as the loop meets them
  abbrev pub checks_met : List Check
  checks_met = operation_checks fs (map (invariant_tree t) invariants) number (operation_tree t x)

  abbrev checks_own : List Check
  checks_own = operation_checks fs (map (invariant_tree s) invariants) i (operation_tree s x)

  met-own : checks_met ≡ checks_own
  met-own = let invariants_are = invariants-then in let operation = operation-then in λ j. operation_checks fs (invariants_are j) (n j) (operation j)

  own-first : left_from s fs (map (invariant_tree s) invariants) xs i ≡ checks_own ++ left_from s fs (map (invariant_tree s) invariants) xs (i + 1)
  unfolding checks_from
  own-first =
      at_drop_more (λ (ys : List Operation). checks_from fs (map (invariant_tree s) invariants) i (map (operation_tree s) ys)) xs i x lt
      ∙ (λ k. operation_checks fs (map (invariant_tree s) invariants) i (operation_tree s (same k)) ++ rest k) where
        same : get_or xs i x ≡ x
        same = sym is

        rest : checks_from fs (map (invariant_tree s) invariants) (suc i) (map (operation_tree s) (drop (i + 1) xs)) ≡ left_from s fs (map (invariant_tree s) invariants) xs (i + 1)
        rest = ap (λ (k : ℕ). checks_from fs (map (invariant_tree s) invariants) k (map (operation_tree s) (drop (i + 1) xs))) (sym (add-one i))

  module _ (h : Remains ps all_checks (left_from s fs (map (invariant_tree s) invariants) xs i)) where
    own-then : Remains ps all_checks (checks_own ++ left_from s fs (map (invariant_tree s) invariants) xs (i + 1))
    own-then = remains-same ps all_checks (left_from s fs (map (invariant_tree s) invariants) xs i) _ own-first h

    pub operations-past : checks_fault ps checks_met ≡ None → AreShown checks_met → Remains ps all_checks (left_from s fs (map (invariant_tree s) invariants) xs (i + 1))
    operations-past none shown =
        remains-past ps all_checks checks_own (left_from s fs (map (invariant_tree s) invariants) xs (i + 1)) own-then
        (subst (λ (ds : List Check). checks_fault ps ds ≡ None) met-own none) (subst (λ (ds : List Check). AreShown ds) met-own shown)

    pub operations-refused : (A B : Type 0) (stop : Stop) → Passes {A = A} (Err stop) (checks_fault ps checks_met) → Passes {A = B} (Err stop) (checks_fault ps all_checks)
    operations-refused A B stop p =
        remains-refused A B stop ps all_checks checks_own (left_from s fs (map (invariant_tree s) invariants) xs (i + 1)) own-then
        (subst (λ (ds : List Check). Passes {A = A} (Err stop) (checks_fault ps ds)) met-own p)

pub operations-end : (s : Stored) (fs : List Field) (is : List InvariantTree) (xs : List Operation) (i : ℕ) (ps : List ProofTree) (all : List Check) → length xs ≤ i → Remains ps all (left_from s fs is xs i) → Remains ps all []
unfolding checks_from
operations-end s fs is xs i ps all le h = remains-same ps all (left_from s fs is xs i) [] (at_drop_all (λ (ys : List Operation). checks_from fs is i (map (operation_tree s) ys)) xs i le) h
