use Rattle.std.proofs.Common.{◌≡◌, take}
use Rattle.sync_induct.specs.Closing.{field_pairs}
use Rattle.sync_induct.proofs.closing.field_pairs.Given as goal

abbrev pub invariant-loop-i : goal.invariant-loop-i
invariant-loop-i l = l.pairs.items ≡ field_pairs 0 (take l.i l.values)
