use Rattle.std.proofs.Common.{◌≡◌, drop, []}
use Rattle.sync_read.specs.Scripts.{parts_from}
use Rattle.sync_read.proofs.scripts.parts.Given as goal

abbrev pub invariant-loop-part : goal.invariant-loop-part
invariant-loop-part l = parts_from l.scope l.held (drop l.part-index l.raw) ≡ parts_from l.scope [] l.raw
