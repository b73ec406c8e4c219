use Rattle.std.proofs.Common.{ap, ◌∙◌, map}
use Rattle.sync_thread.specs.Arrays.{code_decl}
use Rattle.sync_thread.specs.Code.{code_thread}
use Rattle.sync_thread.specs.Views.{decl_tree, thread_tree}
use Rattle.sync_erase.proofs.Statements.{erased}
use Rattle.sync_erase.proofs.erasing.erase.Goals as goal

pub returns : goal.returns
returns c s = erased s c.args.p.now c.in_ok-decls.decls c.in_ok-threads.threads c.in_ok-last.last
    (c.in_ok-decls.ensures s ∙ ap (map (λ d. code_decl (decl_tree s d))) c.as_slice.ensures)
    (c.in_ok-threads.ensures s ∙ ap (map (λ t. code_thread (thread_tree s t))) c.as_slice-2.ensures)
    (c.in_ok-last.ensures s)
