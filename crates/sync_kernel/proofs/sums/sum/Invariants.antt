use Rattle.std.proofs.Common.{drop}
use Rattle.sync_kernel.specs.SumLines.{WereLines}
use Rattle.sync_kernel_facts.specs.Branches.{facts_in}
use Rattle.sync_kernel.proofs.Parts.{Summing}
use Rattle.sync_kernel.proofs.sums.sum.Given as goal

abbrev pub invariant-loop-part : goal.invariant-loop-part
invariant-loop-part l =
    Summing l.terms (facts_in l.terms l.branch) l.parts (drop l.part-index l.parts) l.used.items l.total × WereLines l.terms l.lines
