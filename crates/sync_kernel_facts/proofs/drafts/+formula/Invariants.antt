use Rattle.sync_kernel_facts.specs.Drafts.{connectives}
use Rattle.sync_kernel_facts.proofs.drafts.+formula.Given as goal

abbrev pub decreases-formula : goal.decreases-formula
decreases-formula l = connectives l.draft.now
