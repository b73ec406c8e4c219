-- The duties among the checks of a machine are all that has to be proved of it.
use Rattle.std.proofs.Common.{ℕ, suc, List, [], ◌∷◌, ◌++◌}
use Rattle.sync_terms.specs.Trees.{Tree}
use Rattle.sync_machine.specs.declared.fields.Field.{Field}
use Rattle.sync_machine.specs.Machines.{StepTree, OperationTree, InvariantTree, MachineTree}
use Rattle.sync_machine.specs.Statements.{safety}
use Rattle.sync_machine.specs.States.{strategy_of, current_of, advanced, first_values, last_values}
use Rattle.sync_kernel_facts.specs.Facts.{Fact}
use Rattle.sync_induct.specs.Duties.{Duty, safety_duties, step_facts, facts_behind, keeps_duties, base_facts}
use Rattle.sync_induct.proofs.DutyLists.{step_duties, operation_duties, duties_from, duties_of, AreProved}
use Rattle.sync_induct.specs.Checklist.{Check, proves, statement_checks, step_checks, operation_checks, checks_from, checks_of, AreShown}

proved-append : (xs ys : List Duty) → AreProved xs → AreProved ys → AreProved (xs ++ ys)
proved-append [] ys p q = q
proved-append (x ∷ xs) ys p q = (p.0, proved-append xs ys p.1 q)

-- the first of two lists
shown-first : (xs ys : List Check) → AreShown (xs ++ ys) → AreShown xs
shown-first [] ys h = tt
shown-first (x ∷ xs) ys h = (h.0, shown-first xs ys h.1)

shown-second : (xs ys : List Check) → AreShown (xs ++ ys) → AreShown ys
shown-second [] ys h = h
shown-second (x ∷ xs) ys h = shown-second xs ys h.1

duties-proved : (ds : List Duty) → AreShown (proves ds) → AreProved ds
duties-proved [] h = tt
duties-proved (d ∷ ds) h = (h.0, duties-proved ds h.1)

steps-proved : (fs : List Field) (op : ℕ) (cur : List Tree) (facts : List Fact) (n : ℕ) (ss : List StepTree) → AreShown (step_checks fs op cur facts n ss) → AreProved (step_duties fs op cur facts n ss)
unfolding step_checks step_duties
steps-proved fs op cur facts n [] h = tt
steps-proved fs op cur facts n (s ∷ ss) h =
    let own = safety_duties op n s.line facts (safety (strategy_of fs s.act) (current_of cur s.act) s.act) in
    let all = statement_checks op n facts (strategy_of fs s.act) (current_of cur s.act) s in
    let more = step_checks fs op (advanced fs cur s.act) (facts ++ step_facts fs cur n s) (suc n) ss in
    proved-append own (step_duties fs op (advanced fs cur s.act) (facts ++ step_facts fs cur n s) (suc n) ss)
    (duties-proved own (shown-first (proves own) _ (shown-first all more h)))
    (steps-proved fs op (advanced fs cur s.act) (facts ++ step_facts fs cur n s) (suc n) ss (shown-second all more h))

operation-proved : (fs : List Field) (is : List InvariantTree) (op : ℕ) (o : OperationTree) → AreShown (operation_checks fs is op o) → AreProved (operation_duties fs is op o)
operation-proved fs is op o h =
    let first = first_values fs o.mode in
    let base = base_facts o.mode is in
    let kept = keeps_duties o op (facts_behind fs first base 1 o.steps) (last_values fs first o.steps) 0 is in
    let steps = step_checks fs op first base 1 o.steps in
    proved-append (step_duties fs op first base 1 o.steps) kept
    (steps-proved fs op first base 1 o.steps (shown-first steps (proves kept) h))
    (duties-proved kept (shown-second steps (proves kept) h))

operations-proved : (fs : List Field) (is : List InvariantTree) (op : ℕ) (os : List OperationTree) → AreShown (checks_from fs is op os) → AreProved (duties_from fs is op os)
unfolding checks_from duties_from
operations-proved fs is op [] h = tt
operations-proved fs is op (o ∷ os) h =
    proved-append (operation_duties fs is op o) (duties_from fs is (suc op) os)
    (operation-proved fs is op o (shown-first (operation_checks fs is op o) (checks_from fs is (suc op) os) h))
    (operations-proved fs is (suc op) os (shown-second (operation_checks fs is op o) (checks_from fs is (suc op) os) h))

pub all-proved : (m : MachineTree) → AreShown (checks_of m) → AreProved (duties_of m)
all-proved m h = operations-proved m.fields m.invariants 0 m.ops h
