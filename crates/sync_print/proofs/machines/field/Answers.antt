use Rattle.sync_print.proofs.Steps.{more}
use Rattle.sync_print.proofs.machines.field.Goals as goal

pub returns : goal.returns
returns c =
    more _ _ _ _ _ _ (more _ _ _ _ _ _ (more _ _ _ _ _ _ (more _ _ _ _ _ _ c.in_ok-sign.ensures c.in_ok-name.ensures) c.in_ok-sign-2.ensures) c.in_ok-strategy.ensures) c.in_ok-sign-3.ensures
