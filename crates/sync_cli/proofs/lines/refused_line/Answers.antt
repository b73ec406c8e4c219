use Rattle.std.proofs.Common.{append_assoc, ◌∙◌}
use Rattle.std.proofs.lemmas.Result.{IfOk-weaker}
use Rattle.sync_cli.proofs.lines.refused_line.Goals as goal

pub returns : goal.returns
returns c =
    IfOk-weaker c.format.result _ _ (λ line h. h ∙ simp (append_assoc, c.code-code.ensures)) c.format.ensures.ok
