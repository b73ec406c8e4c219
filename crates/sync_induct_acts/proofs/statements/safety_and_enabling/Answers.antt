use Rattle.std.proofs.Common.{◌∙◌}
use Rattle.sync_terms.proofs.Extending.{Extends-refl, Extends-trans}
use Rattle.sync_terms.specs.Stored.{tree}
use Rattle.sync_machine.specs.Statements.{both, safety}
use Rattle.sync_machine.specs.Views.{act_tree}
use Rattle.sync_induct_acts.proofs.Lasting.{act-ids, enabling-stays}
use Rattle.sync_induct_acts.proofs.ConditionLemmas.{BuildsCondition-condition, BuildsCondition-same, condition-value, condition-stored}
use Rattle.sync_induct_acts.proofs.Otherwise.{both-left, both-right}
use Rattle.sync_induct_acts.proofs.statements.safety_and_enabling.Goals as goal

pub enabling-requires-clause-ids : goal.enabling-requires-clause-ids
enabling-requires-clause-ids c = act-ids c.args.terms.now c.safety.new.terms c.safety.ensures.keeps c.args.act c.requires.ids

pub both-requires-clause-first : goal.both-requires-clause-first
both-requires-clause-first c = condition-stored _ c.in_ok-safety.safety c.in_ok-safety.ensures.built.value c.enabling.ensures.keeps

pub returns-in_err-safety-clause-built : goal.returns-in_err-safety-clause-built
returns-in_err-safety-clause-built c = BuildsCondition-condition c.from_residual.result c.in_err-safety.ensures.built c.from_residual.ensures.1 (both-left _ _)

pub returns-in_err-enabling-clause-built : goal.returns-in_err-enabling-clause-built
returns-in_err-enabling-clause-built c =
    let same = enabling-stays c.args.terms.now c.safety.new.terms c.safety.ensures.keeps c.args.strategy c.args.current c.args.act c.requires.current c.requires.ids in
    BuildsCondition-condition c.from_residual-in_err-enabling.result (BuildsCondition-same c.in_err-enabling.ensures.built same) c.from_residual-in_err-enabling.ensures.1
    (both-right (safety c.args.strategy (tree c.args.terms.now c.args.current) (act_tree c.args.terms.now c.args.act)) _)

pub returns-in_err-enabling-clause-keeps : goal.returns-in_err-enabling-clause-keeps
returns-in_err-enabling-clause-keeps c = Extends-trans c.safety.ensures.keeps c.enabling.ensures.keeps

pub returns-clause-built : goal.returns-clause-built
returns-clause-built c =
    let same = enabling-stays c.args.terms.now c.safety.new.terms c.safety.ensures.keeps c.args.strategy c.args.current c.args.act c.requires.current c.requires.ids in
    let first = condition-value _ c.in_ok-safety.safety c.in_ok-safety.ensures.built.value c.enabling.ensures.keeps in
    let second = condition-value _ c.in_ok-enabling.enabling c.in_ok-enabling.ensures.built.value (Extends-refl _) ∙ same in
    BuildsCondition-same c.both.ensures.built (λ i. both (first i) (second i))

pub returns-clause-keeps : goal.returns-clause-keeps
returns-clause-keeps c = Extends-trans c.safety.ensures.keeps (Extends-trans c.enabling.ensures.keeps c.both.ensures.keeps)
