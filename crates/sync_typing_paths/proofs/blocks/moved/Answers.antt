use Rattle.std.proofs.Common.{ap, sym, ◌∙◌}
use Rattle.sync_thread.specs.declared.program.ProofKind.{ProofKind}
use Rattle.sync_thread.specs.Views.{case_tree, proof_tree, word_tree}
use Rattle.sync_typing.specs.Blocks.{moved}
use Rattle.sync_typing_paths.specs.Statements.{stage_of}
use Rattle.sync_typing_paths.proofs.Staging.{moved_case, if_ok}
use Rattle.sync_typing_paths.proofs.blocks.moved.Goals as goal

pub returns-in-Case : goal.returns-in-Case
returns-in-Case c =
    if_ok c.decided.result _ _
    (λ new is s. is s ∙ moved_case (word_tree s c.args.word.now) (stage_of c.args.stage) (case_tree s c.in-Case.case)
    ∙ ap (λ (k : ProofKind). moved (word_tree s c.args.word.now) (stage_of c.args.stage) (proof_tree s k)) (sym c.in-Case.is)) c.decided.ensures
