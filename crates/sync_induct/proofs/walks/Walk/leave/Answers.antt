use Rattle.sync_induct.proofs.Lasting.{walk-stays}
use Rattle.sync_induct.proofs.Stating.{left-behind}
use Rattle.sync_induct.proofs.walks.Walk.leave.Goals as goal

pub assign-requires-clause-walk : goal.assign-requires-clause-walk
assign-requires-clause-walk c = walk-stays c.args.terms.now c.after.new.terms c.in-Ok.ensures.keeps c.args.self.now c.requires.walk

pub returns-clause-come : goal.returns-clause-come
returns-clause-come c =
    left-behind c.args.terms.now c.after.new.terms c.in-Ok.ensures.keeps c.args.self.now c.assign.new.self c.requires.walk c.args.statement c.field_of.result c.in-Ok.value
    (c.field_of.ensures c.args.terms.now) c.in-Ok.ensures.built.value.value c.assign.ensures
