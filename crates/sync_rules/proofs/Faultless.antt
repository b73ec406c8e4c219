-- What holds of a machine that breaks no rule on strategies.
use Rattle.std.proofs.Common.{◌≡◌, ℕ, Bool, true, false, ◌&&◌, List, [], ◌∷◌, ◌++◌, Option, Some, None, refl, sym, ap, ◌∙◌, is_none}
use Rattle.std.specs.List.{AllByRecursion}
use Rattle.sync_base.specs.declared.stops.Rule.{Rule}
use Rattle.sync_base.specs.declared.stops.Rule.TheVariants.{S1, S2, S3, S4, S5}
use Rattle.sync_base.specs.declared.stops.Refusal.{Refusal}
use Rattle.sync_base.specs.Outcome.{first}
use Rattle.sync_machine.specs.declared.fields.Field.{Field}
use Rattle.sync_base.specs.declared.strategies.Strategy.{Strategy}
use Rattle.sync_base.specs.declared.strategies.OpMode.{OpMode}
use Rattle.sync_base.specs.declared.strategies.OpMode.TheVariants as mode
use Rattle.sync_machine.specs.Machines.{ActTree, StepTree, OperationTree, MachineTree}
use Rattle.sync_machine.specs.Statements.{changed_by}
use Rattle.sync_machine.specs.States.{strategy_of}
use Rattle.sync_machine.specs.Scope.{ChangesNothing}
use Rattle.sync_rules.specs.declared.kinds.OpKind.{OpKind}
use Rattle.sync_rules.specs.Strategies.{kind_of, HasKind, AreAllowed}
use Rattle.sync_rules.specs.Order.{may_stand_in, keeps_still}
use Rattle.sync_rules.specs.Faults.{has_kind, asks, broken_rule, refused_at, steps_fault, operations_fault, strategy_fault}

passes : (rule : Rule) (test : Bool) (later : Option Rule) → asks rule test later ≡ None → (test ≡ true) × (later ≡ None)
passes rule true later h = (refl, h)
passes rule false later h = absurd cc

both-none : (a b : Option Refusal) → first a b ≡ None → (a ≡ None) × (b ≡ None)
both-none None b h = (refl, h)
both-none (Some r) b h = absurd cc

not-refused : (line : ℕ) (r : Option Rule) → refused_at line r ≡ None → r ≡ None
not-refused line None h = refl
not-refused line (Some rule) h = absurd cc

and-left : (a b : Bool) → (a && b) ≡ true → a ≡ true
and-left true b h = refl
and-left false b h = absurd cc

HasKind-from_test : (s : Strategy) (kind : Option OpKind) → has_kind s kind ≡ true → HasKind s kind
HasKind-from_test s None h = tt
HasKind-from_test s (Some kind) h = h

none-from_test : (f : Option ℕ) → is_none f ≡ true → f ≡ None
none-from_test None h = refl
none-from_test (Some f) h = absurd cc

-- what the rules on strategies and on properties give of one statement
pub record IsSound (fs : List Field) (m : OpMode) (act : ActTree) : Type 0 where
  pub allowed : HasKind (strategy_of fs act) (kind_of act)
  pub still : keeps_still m act ≡ true

sound : (fs : List Field) (m : OpMode) (earlier : List StepTree) (act : ActTree) → broken_rule fs m earlier act ≡ None → IsSound fs m act
unfolding broken_rule
sound fs m earlier act h =
    let s1 = passes S1 _ _ h in
    let s2 = passes S2 _ _ s1.1 in
    let s3 = passes S3 _ _ s2.1 in
    let s4 = passes S4 _ _ s3.1 in
    let s5 = passes S5 _ _ s4.1 in
    record { allowed = HasKind-from_test (strategy_of fs act) (kind_of act) (and-left _ (may_stand_in m act) s1.0); still = s5.0 }

steps-sound : (fs : List Field) (m : OpMode) (earlier ss : List StepTree) → steps_fault fs m earlier ss ≡ None → AllByRecursion (λ (s : StepTree). IsSound fs m s.act) ss
unfolding steps_fault
steps-sound fs m earlier [] h = tt
steps-sound fs m earlier (s ∷ ss) h =
    let p = both-none _ _ h in
    (sound fs m earlier s.act (not-refused s.line _ p.0), steps-sound fs m (earlier ++ s ∷ []) ss p.1)

steps-allowed : (fs : List Field) (m : OpMode) (ss : List StepTree) → AllByRecursion (λ (s : StepTree). IsSound fs m s.act) ss → AreAllowed fs ss
steps-allowed fs m [] h = tt
steps-allowed fs m (s ∷ ss) h = (h.0.allowed, steps-allowed fs m ss h.1)

still-from : (fs : List Field) (m : OpMode) (ss : List StepTree) → m ≡ mode.Property → AllByRecursion (λ (s : StepTree). IsSound fs m s.act) ss → AllByRecursion (λ (s : StepTree). changed_by s.act ≡ None) ss
still-from fs m [] e h = tt
still-from fs m (s ∷ ss) e h =
    (none-from_test (changed_by s.act) (ap (λ o. keeps_still o s.act) (sym e) ∙ h.0.still), still-from fs m ss e h.1)

operations-allowed : (fs : List Field) (os : List OperationTree) → operations_fault fs os ≡ None → AllByRecursion (λ (o : OperationTree). AreAllowed fs o.steps) os
unfolding operations_fault
operations-allowed fs [] h = tt
operations-allowed fs (o ∷ os) h =
    let p = both-none _ _ h in
    (steps-allowed fs o.mode o.steps (steps-sound fs o.mode [] o.steps p.0), operations-allowed fs os p.1)

operations-still : (fs : List Field) (os : List OperationTree) → operations_fault fs os ≡ None → AllByRecursion ChangesNothing os
unfolding operations_fault
operations-still fs [] h = tt
operations-still fs (o ∷ os) h =
    let p = both-none _ _ h in
    ((λ e. still-from fs o.mode o.steps e (steps-sound fs o.mode [] o.steps p.0)), operations-still fs os p.1)

-- every statement is one that the strategy of its field has
pub AreAllowed-from_faultless : (m : MachineTree) → strategy_fault m ≡ None → AllByRecursion (λ (o : OperationTree). AreAllowed m.fields o.steps) m.ops
AreAllowed-from_faultless m h = operations-allowed m.fields m.ops h

-- no property changes a field
pub ChangesNothing-from_faultless : (m : MachineTree) → strategy_fault m ≡ None → AllByRecursion ChangesNothing m.ops
ChangesNothing-from_faultless m h = operations-still m.fields m.ops h
