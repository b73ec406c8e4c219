use Rattle.sync_linear.proofs.AtomLines.{atom_line}
use Rattle.sync_linear.proofs.terms.node_part.Goals as goal

pub returns-in-Name : goal.returns-in-Name
returns-in-Name c = atom_line c.args.terms.now c.args.t c.term.result c.requires c.term.ensures.shared c.in-Name.is c.term.ensures.value
