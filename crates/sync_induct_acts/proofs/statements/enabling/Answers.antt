use Rattle.sync_terms.specs.Stored.{tree}
use Rattle.sync_terms.proofs.Extending.{Extends-refl}
use Rattle.sync_machine.specs.declared.machine.Act.{Act}
use Rattle.sync_machine.specs.Statements.{enabling}
use Rattle.sync_machine.specs.Views.{act_tree}
use Rattle.sync_induct_acts.specs.Conditions.{BuildsCondition}
use Rattle.sync_induct_acts.proofs.Choices.{by1, by2-of}
use Rattle.sync_induct_acts.proofs.ConditionLemmas.{BuildsCondition-none, BuildsCondition-same}
use Rattle.sync_induct_acts.proofs.Otherwise.{enabling-none}
use Rattle.sync_induct_acts.proofs.statements.enabling.Goals as goal

pub returns-in-Require-clause-built : goal.returns-in-Require-clause-built
unfolding enabling
returns-in-Require-clause-built c = by1 (λ (a : Act). BuildsCondition c.args.terms.now (enabling c.args.strategy (tree c.args.terms.now c.args.current) (act_tree c.args.terms.now a)) c.stored_form.result) c.in-Require.is c.stored_form.ensures

pub returns-in-Remove-clause-built : goal.returns-in-Remove-clause-built
unfolding enabling
returns-in-Remove-clause-built c =
    let made = c.presence.ensures.built in
    by2-of (λ (a : Act). BuildsCondition c.presence.new.terms (enabling c.args.strategy (tree c.args.terms.now c.args.current) (act_tree c.args.terms.now a)) c.presence.result) c.in-Remove.is (λ _. made) (λ _. made)

pub returns-in_default : goal.returns-in_default
returns-in_default c =
    let none = enabling-none c.args.terms.now c.args.strategy (tree c.args.terms.now c.args.current) c.args.act c.in_default.not-Require c.in_default.not-Remove c.in_default.not-Have in
    record { built = BuildsCondition-same BuildsCondition-none none; keeps = Extends-refl _ }
