use Rattle.std.proofs.Common.{arith}
use Rattle.sync_terms.proofs.Extending.{Extends-trans}
use Rattle.sync_terms.specs.Trees.{formula_size}
use Rattle.sync_induct_acts.proofs.Lasting.{agreement-stays}
use Rattle.sync_terms.proofs.BuildingLemmas.{BuildsForm-form, BuildsForm-same}
use Rattle.sync_induct_acts.proofs.conditions.is_there_with.Goals as goal

pub returns-in_err-there-clause-built : goal.returns-in_err-there-clause-built
unfolding formula_size
returns-in_err-there-clause-built c = BuildsForm-form c.from_residual.result c.in_err-there.ensures.built c.from_residual.ensures.1 (omega arith)

pub returns-in_err-agrees-clause-built : goal.returns-in_err-agrees-clause-built
unfolding formula_size
returns-in_err-agrees-clause-built c =
    let same = agreement-stays c.args.terms.now c.is_there.new.terms c.is_there.ensures.keeps c.args.current c.args.key c.args.value c.requires.current c.requires.key c.requires.value in
    BuildsForm-form c.from_residual-in_err-agrees.result (BuildsForm-same c.in_err-agrees.ensures.built same) c.from_residual-in_err-agrees.ensures.1 (omega arith)

pub returns-in_err-agrees-clause-keeps : goal.returns-in_err-agrees-clause-keeps
returns-in_err-agrees-clause-keeps c = Extends-trans c.is_there.ensures.keeps c.has_value.ensures.keeps

pub returns-clause-keeps : goal.returns-clause-keeps
returns-clause-keeps c = Extends-trans c.is_there.ensures.keeps (Extends-trans c.has_value.ensures.keeps c.form.ensures.keeps)
