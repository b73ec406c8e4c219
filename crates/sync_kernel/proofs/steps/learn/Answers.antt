use Rattle.sync_kernel.specs.Readings.{tree_read}
use Rattle.sync_kernel.specs.MapFacts.{map_form}
use Rattle.sync_kernel.proofs.Fitting.{AreSaid-more}
use Rattle.sync_kernel.proofs.Adding.{built_form, leaves_from}
use Rattle.sync_kernel.proofs.steps.learn.Goals as goal

pub add_built-requires-clause-branch : goal.add_built-requires-clause-branch
add_built-requires-clause-branch c = AreSaid-more c.args.terms.now c.built-form.new.terms c.args.branch.now c.built-form.ensures.keeps c.requires.branch

pub add_built-requires-clause-form : goal.add_built-requires-clause-form
add_built-requires-clause-form c = built_form c.built-form.new.terms (map_form (tree_read c.args.terms.now c.args.names.now) c.args.fact) c.built-form.result c.built-form.ensures.built

pub returns-clause-leaves : goal.returns-clause-leaves
returns-clause-leaves c =
    leaves_from c.args.terms.now c.built-form.new.terms c.args.branch.now c.add_built.new.branch c.args.line c.args.name (map_form (tree_read c.args.terms.now c.args.names.now) c.args.fact) c.add_built.result c.built-form.ensures.keeps c.requires.branch
    (c.add_built.ensures.leaves (map_form (tree_read c.args.terms.now c.args.names.now) c.args.fact) c.built-form.ensures.built)
