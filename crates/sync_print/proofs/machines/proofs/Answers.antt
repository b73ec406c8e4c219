use Rattle.std.proofs.Common.{sym, ◌∙◌}
use Rattle.sync_print.proofs.Steps.{more, shows}
use Rattle.sync_print.proofs.Endings.{no_proofs, some_proofs}
use Rattle.sync_print.proofs.machines.proofs.Goals as goal

pub returns-then-is_empty : goal.returns-then-is_empty
returns-then-is_empty c = no_proofs c.args.names.now _ c.args.list.now (sym c.is_empty.ensures ∙ c.if-is_empty.true)

pub returns : goal.returns
returns c =
    shows _ _ _ _ _
    (more _ _ _ _ _ _ (more _ _ _ _ _ _ (more _ _ _ _ _ _ c.in_ok-sign.ensures c.in_ok-sign-2.ensures) c.in_ok-proof_row.ensures) c.in_ok-sign-3.ensures)
    (some_proofs c.args.list.now (sym c.is_empty.ensures ∙ c.if-is_empty.false))
