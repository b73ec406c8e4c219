-- A machine that keeps the rules and holds always may be exchanged.
use Rattle.std.proofs.Common.{◌≡◌, None, Result, Ok, Err}
use Rattle.std.specs.Prelude.{IfOk}
use Rattle.sync_base.specs.declared.stops.Stop.{Stop}
use Rattle.sync_machine.specs.Machines.{MachineTree}
use Rattle.sync_machine.specs.Naming.{machine_fault, AreTextNames}
use Rattle.sync_machine.specs.States.{HoldsAlways}
use Rattle.sync_rules.specs.Faults.{strategy_fault}
use Rattle.sync_exchange.specs.Projection.{IsProved}
use Rattle.sync_exchange.proofs.Projecting.{projects, initialises}
use Rattle.sync_exchange.proofs.Moving.{moves-are-steps}
use Rattle.sync_exchange.proofs.MovesStarting.{starts-go-on}
use Rattle.sync_check_sharding.specs.Sharded.{IsSharded}

is-proved : (m : MachineTree) → AreTextNames m → machine_fault m ≡ None → strategy_fault m ≡ None → HoldsAlways m → IsProved m
is-proved m names formed form holds = record { symbols = names; named = formed; strategies = form; holds = holds }

is-sharded : (m : MachineTree) → IsProved m → IsSharded m
is-sharded m proved = record {
  proved = proved;
  steps = λ fits. projects fits m proved;
  starts = λ fits. initialises fits m proved;
  moves = λ fits. moves-are-steps fits m proved;
  from_start = λ fits. starts-go-on fits m proved;
}

pub are-sharded : {A : Type 0} (f : A → MachineTree) (r : Result A Stop) → IfOk r (λ x. AreTextNames (f x)) → IfOk r (λ x. machine_fault (f x) ≡ None) → IfOk r (λ x. strategy_fault (f x) ≡ None)
    → IfOk r (λ x. HoldsAlways (f x)) → IfOk r (λ x. IsSharded (f x))
are-sharded f (Ok x) names formed form holds = is-sharded (f x) (is-proved (f x) names formed form holds)
are-sharded f (Err stop) names formed form holds = tt
