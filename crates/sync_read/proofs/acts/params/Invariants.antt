use Rattle.std.proofs.Common.{◌≡◌, drop, []}
use Rattle.sync_machine.specs.Views.{symbols_of}
use Rattle.sync_read.specs.Acts.{params_from}
use Rattle.sync_read.proofs.acts.params.Given as goal

abbrev pub invariant-loop-named : goal.invariant-loop-named
invariant-loop-named l = params_from l.limited (symbols_of l.held) l.scope (drop l.named-index l.raw) ≡ params_from l.limited [] l.initial.scope l.raw
