-- The obligations that are checked are those that are listed, part by part.
use Rattle.std.proofs.Common.{◌≡◌, ℕ, suc, Bool, true, false, cond, List, [], ◌∷◌, ◌++◌, Option, Some, None, refl, ap, ◌∙◌}
use Rattle.std.specs.Option.{is_some}
use Rattle.sync_base.specs.declared.strategies.Strategy.{Strategy}
use Rattle.sync_base.specs.declared.strategies.Strategy.TheVariants.{Variable, Constant, NotTokenized, Option as OptionField, Map, Set, Multiset, Count, PersistentOption, PersistentMap, PersistentSet, PersistentCount, StorageMap}
use Rattle.sync_terms.specs.Trees.{Tree, Nil, Formula, tree_size}
use Rattle.sync_terms.specs.declared.proofs.Claim.TheVariants.{At, Keeps}
use Rattle.sync_terms.specs.declared.proofs.Obligation.{Obligation}
use Rattle.sync_machine.specs.declared.fields.Field.{Field}
use Rattle.sync_machine.specs.Machines.{ActTree, Init, Require, Assert, Update, HaveVariable, Add, Remove, Have, Deposit, Withdraw, Guard, PlaceTree, StepTree, OperationTree, InvariantTree, MachineTree}
use Rattle.sync_machine.specs.Statements.{safety, freshness, condition, after}
use Rattle.sync_machine.specs.States.{strategy_of, current_of, advanced, first_values, last_values}
use Rattle.sync_rules.specs.Obligations.{has_safety, safety_claims, has_to_keep, keeps_claims, claims_of}
use Rattle.sync_kernel_facts.specs.Facts.{Fact}
use Rattle.sync_induct_acts.specs.Conditions.{condition_size}
use Rattle.sync_induct.specs.Duties.{Duty, safety_duties, step_facts, facts_behind, kept_duty, keeps_duties, base_facts}
use Rattle.sync_induct.specs.Checklist.{Check, Proves, Fits, proves, statement_checks, step_checks, operation_checks, checks_from}
use Rattle.sync_induct.specs.Listed.{checked_obligations, ChecksAreListed}

checked-append : (xs ys : List Check) → checked_obligations (xs ++ ys) ≡ checked_obligations xs ++ checked_obligations ys
checked-append [] ys = refl
checked-append (Proves d ∷ cs) ys = ap (λ (os : List Obligation). d.obligation ∷ os) (checked-append cs ys)
checked-append (Fits line nodes ∷ cs) ys = checked-append cs ys

-- ---- the value that a field has does not matter to whether there is a safety condition

fresh-some : (k : Strategy) (cur : Tree) (p : PlaceTree) → is_some (freshness k cur p) ≡ is_some (freshness k Nil p)
unfolding freshness
fresh-some Variable cur p = refl
fresh-some Constant cur p = refl
fresh-some NotTokenized cur p = refl
fresh-some OptionField cur p = refl
fresh-some Map cur p = refl
fresh-some Set cur p = refl
fresh-some Multiset cur p = refl
fresh-some Count cur p = refl
fresh-some PersistentOption cur p = refl
fresh-some PersistentMap cur p = refl
fresh-some PersistentSet cur p = refl
fresh-some PersistentCount cur p = refl
fresh-some StorageMap cur p = refl

safety-some : (k : Strategy) (cur : Tree) (a : ActTree) → is_some (safety k cur a) ≡ is_some (safety k Nil a)
unfolding safety
safety-some k cur (Init f t) = refl
safety-some k cur (Require form) = refl
safety-some k cur (Assert form) = refl
safety-some k cur (Update f t) = refl
safety-some k cur (HaveVariable f) = refl
safety-some k cur (Add f p) = fresh-some k cur p
safety-some k cur (Remove f p) = refl
safety-some k cur (Have f p) = refl
safety-some k cur (Deposit f p) = refl
safety-some k cur (Withdraw f p) = refl
safety-some k cur (Guard f p) = refl

-- ---- one statement

own-listed : (op n line : ℕ) (facts : List Fact) (c : Option Formula) (l1 n1 l2 n2 : ℕ)
    → checked_obligations (proves (safety_duties op n line facts c) ++ Fits l1 n1 ∷ Fits l2 n2 ∷ [])
    ≡ cond (is_some c) (record { op = op; claim = At n; line = line } ∷ []) []
own-listed op n line facts (Some f) l1 n1 l2 n2 = refl
own-listed op n line facts None l1 n1 l2 n2 = refl

one-before : (b : Bool) (o : Obligation) (os : List Obligation) → cond b (o ∷ []) [] ++ os ≡ cond b (o ∷ os) os
one-before true o os = refl
one-before false o os = refl

steps-listed : (fs : List Field) (op : ℕ) (cur : List Tree) (facts : List Fact) (n : ℕ) (ss : List StepTree)
    → checked_obligations (step_checks fs op cur facts n ss) ≡ safety_claims fs op n ss
unfolding step_checks safety_claims
steps-listed fs op cur facts n [] = refl
steps-listed fs op cur facts n (s ∷ ss) =
    let k = strategy_of fs s.act in
    let now = current_of cur s.act in
    let o : Obligation = record { op = op; claim = At n; line = s.line } in
    let rest = step_checks fs op (advanced fs cur s.act) (facts ++ step_facts fs cur n s) (suc n) ss in
    checked-append (statement_checks op n facts k now s) rest
    ∙ (ap (λ (os : List Obligation). os ++ checked_obligations rest)
    (own-listed op n s.line facts (safety k now s.act) s.line (condition_size (condition k now s.act)) s.line (tree_size (after k now s.act)))
    ∙ (one-before (is_some (safety k now s.act)) o (checked_obligations rest)
    ∙ (ap (λ (b : Bool). cond b (o ∷ checked_obligations rest) (checked_obligations rest)) (safety-some k now s.act)
    ∙ ap (λ (os : List Obligation). cond (has_safety fs s) (o ∷ os) os)
    (steps-listed fs op (advanced fs cur s.act) (facts ++ step_facts fs cur n s) (suc n) ss))))

-- ---- the invariants that are kept

kept-listed : (b : Bool) (d : Duty) (ds : List Duty)
    → checked_obligations (proves (cond b (d ∷ ds) ds)) ≡ cond b (d.obligation ∷ checked_obligations (proves ds)) (checked_obligations (proves ds))
kept-listed true d ds = refl
kept-listed false d ds = refl

keeps-listed : (o : OperationTree) (op : ℕ) (facts : List Fact) (last : List Tree) (j : ℕ) (is : List InvariantTree)
    → checked_obligations (proves (keeps_duties o op facts last j is)) ≡ keeps_claims o op j is
unfolding keeps_duties keeps_claims
keeps-listed o op facts last j [] = refl
keeps-listed o op facts last j (i ∷ is) =
    let own : Obligation = record { op = op; claim = Keeps j; line = o.line } in
    kept-listed (has_to_keep o i) (kept_duty own facts last i) (keeps_duties o op facts last (suc j) is)
    ∙ ap (λ (os : List Obligation). cond (has_to_keep o i) (own ∷ os) os) (keeps-listed o op facts last (suc j) is)

-- ---- operations

operation-listed : (m : MachineTree) (op : ℕ) (o : OperationTree)
    → checked_obligations (operation_checks m.fields m.invariants op o) ≡ safety_claims m.fields op 1 o.steps ++ keeps_claims o op 0 m.invariants
operation-listed m op o =
    let first = first_values m.fields o.mode in
    let base = base_facts o.mode m.invariants in
    let behind = facts_behind m.fields first base 1 o.steps in
    let last = last_values m.fields first o.steps in
    let kept = proves (keeps_duties o op behind last 0 m.invariants) in
    checked-append (step_checks m.fields op first base 1 o.steps) kept
    ∙ (ap (λ (os : List Obligation). os ++ checked_obligations kept) (steps-listed m.fields op first base 1 o.steps)
    ∙ ap (λ (os : List Obligation). safety_claims m.fields op 1 o.steps ++ os) (keeps-listed o op behind last 0 m.invariants))

operations-listed : (m : MachineTree) (op : ℕ) (os : List OperationTree) → checked_obligations (checks_from m.fields m.invariants op os) ≡ claims_of m op os
unfolding checks_from claims_of
operations-listed m op [] = refl
operations-listed m op (o ∷ os) =
    checked-append (operation_checks m.fields m.invariants op o) (checks_from m.fields m.invariants (suc op) os)
    ∙ (ap (λ (xs : List Obligation). xs ++ checked_obligations (checks_from m.fields m.invariants (suc op) os)) (operation-listed m op o)
    ∙ ap (λ (xs : List Obligation). (safety_claims m.fields op 1 o.steps ++ keeps_claims o op 0 m.invariants) ++ xs) (operations-listed m (suc op) os))

pub all-listed : ChecksAreListed
all-listed m = operations-listed m 0 m.ops
