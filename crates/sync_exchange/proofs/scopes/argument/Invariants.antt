use Rattle.std.proofs.Common.{◌≡◌, drop}
use Rattle.sync_machine.specs.Views.{symbols_of}
use Rattle.sync_exchange.specs.Exchange.{argument}
use Rattle.sync_exchange.proofs.scopes.argument.Given as goal

abbrev pub invariant-loop-i : goal.invariant-loop-i
invariant-loop-i l = argument (symbols_of (drop l.i l.params)) (drop l.i l.args) l.x ≡ argument (symbols_of l.params) l.args l.x
