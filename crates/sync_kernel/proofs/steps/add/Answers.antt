use Rattle.sync_kernel_facts.specs.Literals.{literal_form}
use Rattle.sync_kernel.proofs.Adding.{add_stops, add_leaves, add_said, add_begins}
use Rattle.sync_kernel.proofs.steps.add.Goals as goal

pub returns-then-not-fits-clause-leaves : goal.returns-then-not-fits-clause-leaves
returns-then-not-fits-clause-leaves c =
    add_stops c.args.terms.now c.args.branch.now c.args.name (literal_form c.args.terms.now c.args.says) c.said-said.result c.requires.branch c.said-said.ensures.said c.said-said.ensures.fact c.args.line c.refusal.result c.refusal.ensures c.if-not-fits.ensures

pub returns-clause-leaves : goal.returns-clause-leaves
returns-clause-leaves c =
    add_leaves c.args.terms.now c.args.branch.now c.args.name (literal_form c.args.terms.now c.args.says) c.said-said.result c.requires.branch c.said-said.ensures.said c.said-said.ensures.fact c.args.line c.push.new.self c.in_ok-push.ensures.ok c.if-not-fits.ensures

pub returns-clause-said : goal.returns-clause-said
returns-clause-said c = add_said c.args.terms.now c.args.branch.now c.push.new.self c.said-said.result c.requires.branch c.said-said.ensures.said c.in_ok-push.ensures.ok

pub returns-clause-begins : goal.returns-clause-begins
returns-clause-begins c = add_begins c.args.branch.now c.push.new.self c.said-said.result c.in_ok-push.ensures.ok
