use Rattle.std.proofs.Common.{◌≡◌, take, map}
use Rattle.sync_machine.specs.Views.{operation_tree}
use Rattle.sync_read_programs.specs.Scopes.{call_of}
use Rattle.sync_read_programs.proofs.scopes.calls.Given as goal

abbrev pub invariant-loop-number : goal.invariant-loop-number
invariant-loop-number l = l.held ≡ map (λ o. call_of l.machine.fields (operation_tree l.machine.terms o)) (take l.number l.machine.ops)
