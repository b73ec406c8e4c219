-- Code of two threads that count a word to two, and of a final block that prints it.
use Rattle.std.specs.Prelude.{[], ◌∷◌, Some}
use Rattle.sync_thread.specs.declared.operands.CodeDecl.TheVariants.{Word}
use Rattle.sync_thread.specs.declared.operands.Opd.TheVariants.{Number, Local}
use Rattle.sync_thread.specs.declared.operands.WordOp.TheVariants.{Add, Load}
use Rattle.sync_thread.specs.Control.{Brace, On, End}
use Rattle.sync_thread.specs.Code.{CodeList, CodeTree, Operate, Print}

-- word 0; the threads 1 and 2; local 3 of each thread, and local 4 of the final block; the label 5
abbrev pub adding_tree : CodeList
adding_tree = On (Operate (Some 3) (Add (Number 1)) 0 (Number 0)) 0 (End tt 0 (Brace 0))

abbrev pub printing_tree : CodeList
printing_tree = On (Print 5 (Local 4)) 0 (Brace 0)

abbrev pub counting_tree : CodeTree
counting_tree = record {
  decls = Word 0 1 0 ∷ [];
  threads = record { name = 1; body = adding_tree } ∷ record { name = 2; body = adding_tree } ∷ [];
  last = Some (On (Operate (Some 4) Load 0 (Number 0)) 0 printing_tree);
}
