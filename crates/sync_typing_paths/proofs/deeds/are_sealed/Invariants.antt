use Rattle.std.proofs.Common.{◌≡◌, drop, map}
use Rattle.std.specs.HashMap.{get}
use Rattle.std.specs.List.{list_all}
use Rattle.sync_terms.specs.Stored.{Stored}
use Rattle.sync_thread.specs.Arrays.{words_in}
use Rattle.sync_thread.specs.Views.{decl_tree}
use Rattle.sync_typing_paths.specs.Deeds.{is_sealed_in, same_deed}
use Rattle.sync_typing_paths.proofs.deeds.are_sealed.Given as goal

abbrev pub invariant-loop-decl : goal.invariant-loop-decl
invariant-loop-decl l = (s : Stored)
    → list_all (is_sealed_in (get same_deed l.deeds)) (words_in (map (decl_tree s) (drop l.decl-index l.decls)))
    ≡ list_all (is_sealed_in (get same_deed l.deeds)) (words_in (map (decl_tree s) l.decls))
