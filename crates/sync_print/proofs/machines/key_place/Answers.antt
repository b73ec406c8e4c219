use Rattle.sync_print.proofs.Steps.{more}
use Rattle.sync_print.proofs.machines.key_place.Goals as goal

pub returns : goal.returns
returns c =
    more _ _ _ _ _ _ (more _ _ _ _ _ _ c.in_ok-sign.ensures c.in_ok-expr.ensures) c.in_ok-sign-2.ensures
