use Rattle.std.proofs.Common.{map}
use Rattle.sync_terms.specs.Stored.{Extends}
use Rattle.sync_machine.specs.Views.{invariant_tree}
use Rattle.sync_terms.specs.Proofs.{proofs_in}
use Rattle.sync_induct.proofs.Operating.{left_from}
use Rattle.sync_induct.proofs.Remaining.{Remains}
use Rattle.sync_induct.proofs.operations.check_operations.Given as goal

abbrev pub invariant-loop-i : goal.invariant-loop-i
invariant-loop-i l = record {
  keeps : Extends l.initial.terms l.terms;
  left : Remains (proofs_in l.initial.terms l.book.proofs.now)
      (left_from l.initial.terms l.fields (map (invariant_tree l.initial.terms) l.invariants) l.operations 0)
      (left_from l.initial.terms l.fields (map (invariant_tree l.initial.terms) l.invariants) l.operations l.i);
}
