use Rattle.sync_print.proofs.Steps.{more}
use Rattle.sync_print.proofs.scripts.inst_step.Goals as goal

pub returns : goal.returns
returns c =
    more _ _ _ _ _ _ (more _ _ _ _ _ _ (more _ _ _ _ _ _ (more _ _ _ _ _ _ (more _ _ _ _ _ _ (more _ _ _ _ _ _ c.in_ok-sign.ensures c.in_ok-hyp.ensures) c.in_ok-sign-2.ensures) c.in_ok-exprs.ensures) c.in_ok-sign-3.ensures) c.in_ok-as_name.ensures) c.in_ok-sign-4.ensures
