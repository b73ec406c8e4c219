use Rattle.sync_terms.specs.Stored.{tree}
use Rattle.sync_machine.specs.declared.machine.Act.{Act}
use Rattle.sync_machine.specs.Statements.{condition}
use Rattle.sync_machine.specs.Views.{act_tree}
use Rattle.sync_induct_acts.specs.Conditions.{BuildsCondition}
use Rattle.sync_induct_acts.proofs.Choices.{by2-of}
use Rattle.sync_induct_acts.proofs.ConditionLemmas.{BuildsCondition-same}
use Rattle.sync_induct_acts.proofs.Otherwise.{condition-both}
use Rattle.sync_induct_acts.proofs.statements.condition.Goals as goal

pub returns-in-Withdraw-clause-built : goal.returns-in-Withdraw-clause-built
unfolding condition
returns-in-Withdraw-clause-built c =
    let made = c.as_condition.ensures _ _ c.is_there_at.ensures.built in
    by2-of (λ (a : Act). BuildsCondition c.is_there_at.new.terms (condition c.args.strategy (tree c.args.terms.now c.args.current) (act_tree c.args.terms.now a)) c.as_condition.result) c.in-Withdraw.is (λ _. made) (λ _. made)

pub returns-in_default-clause-built : goal.returns-in_default-clause-built
returns-in_default-clause-built c =
    BuildsCondition-same c.safety_and_enabling.ensures.built
    (condition-both c.args.terms.now c.args.strategy (tree c.args.terms.now c.args.current) c.args.act c.in_default.not-Withdraw c.in_default.not-Guard)
