use Rattle.std.proofs.Common.{◌≡◌, drop}
use Rattle.sync_kernel.specs.Steps.{one_apart}
use Rattle.sync_kernel.proofs.Parts.{apart_rest}
use Rattle.sync_kernel.proofs.sums.one_apart.Given as goal

abbrev pub invariant-loop-one : goal.invariant-loop-one
invariant-loop-one l = one_apart l.used ≡ apart_rest l.found (drop l.one-index l.used)
