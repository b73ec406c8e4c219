use Rattle.std.proofs.Common.{◌≡◌, ◌++◌, drop, map}
use Rattle.sync_terms.specs.Stored.{Stored}
use Rattle.sync_thread.specs.Arrays.{code_decl}
use Rattle.sync_thread.specs.Views.{decl_tree}
use Rattle.sync_erase.proofs.erasing.declarations.Given as goal

abbrev pub invariant-loop-decl : goal.invariant-loop-decl
invariant-loop-decl l = (s : Stored) → l.code ++ map (λ d. code_decl (decl_tree s d)) (drop l.decl-index l.decls) ≡ map (λ d. code_decl (decl_tree s d)) l.decls
