use Rattle.sync_terms.specs.Stored.{tree}
use Rattle.sync_machine.specs.declared.machine.Act.{Act}
use Rattle.sync_machine.specs.Statements.{safety}
use Rattle.sync_machine.specs.Views.{act_tree}
use Rattle.sync_induct_acts.specs.Conditions.{BuildsCondition}
use Rattle.sync_induct_acts.proofs.Choices.{by1, by2-of}
use Rattle.sync_induct_acts.proofs.ConditionLemmas.{BuildsCondition-none, BuildsCondition-same}
use Rattle.sync_induct_acts.proofs.Otherwise.{safety-none}
use Rattle.sync_induct_acts.proofs.statements.safety.Goals as goal

pub returns-in-Init-clause-built : goal.returns-in-Init-clause-built
unfolding safety
returns-in-Init-clause-built c = by1 (λ (a : Act). BuildsCondition c.amount_is_natural.new.terms (safety c.args.strategy (tree c.args.terms.now c.args.current) (act_tree c.args.terms.now a)) c.amount_is_natural.result) c.in-Init.is c.amount_is_natural.ensures.built

pub returns-in-Assert-clause-built : goal.returns-in-Assert-clause-built
unfolding safety
returns-in-Assert-clause-built c = by1 (λ (a : Act). BuildsCondition c.args.terms.now (safety c.args.strategy (tree c.args.terms.now c.args.current) (act_tree c.args.terms.now a)) c.stored_form.result) c.in-Assert.is c.stored_form.ensures

pub returns-in-Add-clause-built : goal.returns-in-Add-clause-built
unfolding safety
returns-in-Add-clause-built c = by1 (λ (a : Act). BuildsCondition c.freshness.new.terms (safety c.args.strategy (tree c.args.terms.now c.args.current) (act_tree c.args.terms.now a)) c.freshness.result) c.in-Add.is c.freshness.ensures.built

pub returns-in-Remove-clause-built : goal.returns-in-Remove-clause-built
unfolding safety
returns-in-Remove-clause-built c =
    let made = c.amount_at_is_natural.ensures.built in
    by2-of (λ (a : Act). BuildsCondition c.amount_at_is_natural.new.terms (safety c.args.strategy (tree c.args.terms.now c.args.current) (act_tree c.args.terms.now a)) c.amount_at_is_natural.result) c.in-Remove.is (λ _. made) (λ _. made)

pub returns-in-Deposit-clause-built : goal.returns-in-Deposit-clause-built
unfolding safety
returns-in-Deposit-clause-built c = by1 (λ (a : Act). BuildsCondition c.is_free_at.new.terms (safety c.args.strategy (tree c.args.terms.now c.args.current) (act_tree c.args.terms.now a)) c.as_condition.result) c.in-Deposit.is (c.as_condition.ensures _ _ c.is_free_at.ensures.built)

pub returns-in-Withdraw-clause-built : goal.returns-in-Withdraw-clause-built
unfolding safety
returns-in-Withdraw-clause-built c =
    let made = c.as_condition-in-Withdraw.ensures _ _ c.storage.ensures.built in
    by2-of (λ (a : Act). BuildsCondition c.storage.new.terms (safety c.args.strategy (tree c.args.terms.now c.args.current) (act_tree c.args.terms.now a)) c.as_condition-in-Withdraw.result) c.in-Withdraw.is (λ _. made) (λ _. made)

pub returns-in-Require-clause-built : goal.returns-in-Require-clause-built
returns-in-Require-clause-built c = BuildsCondition-same BuildsCondition-none (safety-none c.args.terms.now c.args.strategy (tree c.args.terms.now c.args.current) c.args.act c.in-Require.is)
