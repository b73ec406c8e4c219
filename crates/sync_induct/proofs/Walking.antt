-- The walk over an operation's statements in a store that grows: from the statement with index i to the next.
use Rattle.std.proofs.Common.{◌≡◌, ℕ, ◌+◌, ◌<◌, List, ◌∷◌, ◌++◌, length, get_or, drop, None, Err, sym, subst, ◌∙◌, add-one}
use Rattle.std.proofs.lemmas.List.{at_drop_more}
use Rattle.sync_base.specs.declared.stops.Stop.{Stop}
use Rattle.sync_base.specs.Outcome.{Passes}
use Rattle.sync_terms.specs.Stored.{Stored, Extends}
use Rattle.sync_machine.specs.declared.fields.Field.{Field}
use Rattle.sync_machine.specs.declared.machine.Step.{Step}
use Rattle.sync_machine.specs.States.{strategy_of, current_of, advanced}
use Rattle.sync_machine.specs.Views.{step_tree, steps_tree, HasActIds}
use Rattle.sync_induct.specs.declared.walks.Walk.{Walk}
use Rattle.sync_induct.specs.Duties.{step_facts}
use Rattle.sync_induct.specs.Checklist.{Check, statement_checks, AreShown}
use Rattle.sync_induct.specs.Checks.{checks_fault}
use Rattle.sync_terms.specs.Proofs.{ProofTree}
use Rattle.sync_induct.specs.Walks.{HasCome, values_of, known_of, checks_at, facts_after, values_after}
use Rattle.sync_induct.proofs.Lasting.{step-stays}
use Rattle.sync_induct.proofs.Stepping.{Place, Continues, checks_left, own_checks, behind, goes-on, fails-here}

-- where the walk stands before the statement with index i
abbrev pub place_at : Stored → Stored → List Step → ℕ → Walk → Place
place_at first s xs i w = record { cur = values_of s w; facts = known_of s w; number = i + 1; rest = steps_tree first (drop i xs) }

module _ (first s : Stored) (keeps : Extends first s) (fs : List Field) (op : ℕ) (ps : List ProofTree) (from : Place) (xs : List Step) (i : ℕ) (d : Step) (w : Walk) (n : ℕ)
    (lt : i < length xs) (number : n ≡ i + 1) (ids : HasActIds first (get_or xs i d).act) (so_far : Continues fs op ps from (place_at first s xs i w)) where
  abbrev pub x : Step
  x = get_or xs i d

  rest-is : steps_tree first (drop i xs) ≡ step_tree first x ∷ steps_tree first (drop (i + 1) xs)
  rest-is = at_drop_more (steps_tree first) xs i d lt

  same : step_tree s x ≡ step_tree first x
  same = step-stays first s keeps x ids

  -- the checks of the statement are the same over the first store
  checks-own : checks_at s fs op n w x ≡ own_checks fs op (place_at first s xs i w) (step_tree first x)
  checks-own = let one = same in λ j. statement_checks op (number j) (known_of s w) (strategy_of fs (one j).act) (current_of (values_of s w) (one j).act) (one j)

  pub step-refused : (A B : Type 0) (e : Stop) → Passes {A = A} (Err e) (checks_fault ps (checks_at s fs op n w x)) → Passes {A = B} (Err e) (checks_fault ps (checks_left fs op from))
  step-refused A B e h =
      fails-here A B fs op ps from (place_at first s xs i w) (step_tree first x) (steps_tree first (drop (i + 1) xs)) e rest-is so_far
      (subst (λ (cs : List Check). Passes {A = A} (Err e) (checks_fault ps cs)) checks-own h)

  module _ (t : Stored) (v : Walk) (come : HasCome t v (facts_after s fs n w x) (values_after s fs w x)) where
    values-are : values_of t v ≡ advanced fs (values_of s w) (step_tree first x).act
    values-are = let one = same in come.now ∙ (λ j. advanced fs (values_of s w) (one j).act)

    facts-are : known_of t v ≡ known_of s w ++ step_facts fs (values_of s w) (i + 1) (step_tree first x)
    facts-are = let one = same in come.known ∙ (λ j. known_of s w ++ step_facts fs (values_of s w) (number j) (one j))

    next-is : behind fs (place_at first s xs i w) (step_tree first x) (steps_tree first (drop (i + 1) xs)) ≡ place_at first t xs (i + 1) v
    next-is =
        let values = sym values-are in
        let facts = sym facts-are in
        let next = sym (add-one (i + 1)) in
        λ j. record { cur = values j; facts = facts j; number = next j; rest = steps_tree first (drop (i + 1) xs) }

    pub step-passed : checks_fault ps (checks_at s fs op n w x) ≡ None → AreShown (checks_at s fs op n w x) → Continues fs op ps from (place_at first t xs (i + 1) v)
    step-passed none shown =
        subst (λ (p : Place). Continues fs op ps from p) next-is
        (goes-on fs op ps from (place_at first s xs i w) (step_tree first x) (steps_tree first (drop (i + 1) xs)) rest-is so_far
        (subst (λ (cs : List Check). checks_fault ps cs ≡ None) checks-own none)
        (subst (λ (cs : List Check). AreShown cs) checks-own shown))
