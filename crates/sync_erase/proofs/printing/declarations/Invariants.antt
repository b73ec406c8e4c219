use Rattle.sync_erase.specs.ErasedForm.{decl_text}
use Rattle.sync_erase.proofs.Lines.{FlatTo}
use Rattle.sync_erase.proofs.printing.declarations.Given as goal

abbrev pub invariant-loop-decl : goal.invariant-loop-decl
invariant-loop-decl l = FlatTo (decl_text l.names) l.initial.out.items l.out.items l.decl-index l.decls
