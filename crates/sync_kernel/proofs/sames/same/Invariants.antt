use Rattle.std.proofs.Common.{◌-◌, length}
use Rattle.sync_kernel_facts.specs.Branches.{facts_in}
use Rattle.sync_kernel.specs.Seen.{IsSeen, seen_count}
use Rattle.sync_kernel.proofs.sames.same.Given as goal

abbrev pub invariant-loop-seen : goal.invariant-loop-seen
invariant-loop-seen l = IsSeen l.terms (facts_in l.terms l.branch) l.seen

abbrev pub decreases-loop-seen : goal.decreases-loop-seen
decreases-loop-seen l = length l.branch - seen_count l.seen
