use Rattle.sync_typing_reading.specs.Sayings.{stands_in}
use Rattle.sync_kernel_facts.specs.Branches.{facts_in}
use Rattle.sync_kernel.specs.Notes.{AreNotes}
use Rattle.sync_kernel.proofs.Checking.{Checking}
use Rattle.sync_kernel.proofs.blocks.+blocks.Given as goal

abbrev pub invariant-check_block-loop-step : goal.invariant-check_block-loop-step
invariant-check_block-loop-step l = record {
  checking : Checking (stands_in l.fn.terms l.names) l.fn.terms l.fn.branch l.block l.terms l.branch l.step-index l.left;
  notes : AreNotes l.terms (facts_in l.terms l.branch) l.notes;
}
