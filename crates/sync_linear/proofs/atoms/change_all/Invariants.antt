use Rattle.sync_linear.specs.Lines.{HasNoZero}
use Rattle.sync_linear.proofs.Adding.{Sums}
use Rattle.sync_linear.proofs.atoms.change_all.Given as goal

abbrev pub invariant-loop-id : goal.invariant-loop-id
invariant-loop-id l = Sums l.how l.fn.atoms.entries l.sum.entries l.by.entries l.id-iterator × (HasNoZero l.fn.atoms.entries → HasNoZero l.sum.entries)
