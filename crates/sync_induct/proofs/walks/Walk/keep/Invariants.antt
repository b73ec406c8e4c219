use Rattle.sync_machine.specs.Views.{operation_tree}
use Rattle.sync_terms.specs.Proofs.{proofs_in}
use Rattle.sync_induct.proofs.Keeping.{IsKeeping}
use Rattle.sync_induct.proofs.walks.Walk.keep.Given as goal

abbrev pub invariant-loop-j : goal.invariant-loop-j
invariant-loop-j l =
    IsKeeping l.initial.terms l.terms l.initial.self l.self (operation_tree l.initial.terms l.operation) l.op l.invariants (proofs_in l.initial.terms l.book.proofs.now) l.j
