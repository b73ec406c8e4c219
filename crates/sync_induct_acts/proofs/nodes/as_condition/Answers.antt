use Rattle.sync_induct_acts.proofs.ConditionLemmas.{BuildsCondition-some}
use Rattle.sync_induct_acts.proofs.nodes.as_condition.Goals as goal

pub returns : goal.returns
returns c = λ s f h. BuildsCondition-some c.args.answer c.map.result h c.map.ensures.cases
