use Rattle.std.proofs.Common.{Some}
use Rattle.sync_terms.specs.Trees.{Le}
use Rattle.sync_terms.specs.Stored.{tree}
use Rattle.sync_terms.proofs.Extending.{Extends-refl}
use Rattle.sync_base.specs.declared.strategies.Strategy.{Strategy}
use Rattle.sync_machine.specs.Statements.{zero, amount_is_natural}
use Rattle.sync_induct_acts.specs.Conditions.{BuildsCondition}
use Rattle.sync_induct_acts.proofs.Choices.{by1}
use Rattle.sync_induct_acts.proofs.ConditionLemmas.{BuildsCondition-none, BuildsCondition-same}
use Rattle.sync_induct_acts.proofs.Otherwise.{natural-none}
use Rattle.sync_induct_acts.proofs.conditions.amount_is_natural.Goals as goal

pub returns-in-Count-clause-built : goal.returns-in-Count-clause-built
unfolding amount_is_natural
returns-in-Count-clause-built c =
    let t = tree c.args.terms.now c.args.amount in
    let made : BuildsCondition c.is_natural.new.terms (Some (Le zero t)) c.as_condition.result = c.as_condition.ensures _ _ c.is_natural.ensures.built in
    by1 (λ (k : Strategy). BuildsCondition c.is_natural.new.terms (amount_is_natural k t) c.as_condition.result) c.in-Count.is made

pub returns-in_default : goal.returns-in_default
returns-in_default c = record { built = BuildsCondition-same BuildsCondition-none (natural-none c.args.strategy _ c.in_default.not-Count); keeps = Extends-refl _ }
