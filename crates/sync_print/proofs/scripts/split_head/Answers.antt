use Rattle.sync_print.proofs.Steps.{more}
use Rattle.sync_print.proofs.scripts.split_head.Goals as goal

pub returns : goal.returns
returns c =
    more _ _ _ _ _ _ (more _ _ _ _ _ _ c.in_ok-sign.ensures c.in_ok-hyp.ensures) c.in_ok-as_name.ensures
