use Rattle.sync_induct.proofs.Lasting.{walk-stays}
use Rattle.sync_induct.proofs.Stating.{answer-is, learned-some, learned-none}
use Rattle.sync_induct.proofs.walks.Walk.learn.Goals as goal

pub add-requires-clause-walk : goal.add-requires-clause-walk
add-requires-clause-walk c = walk-stays c.args.terms.now c.condition.new.terms c.in-Ok-Some.ensures.keeps c.args.self.now c.requires.walk

pub returns-in_ok-add-in-Ok-Some-clause-come : goal.returns-in_ok-add-in-Ok-Some-clause-come
returns-in_ok-add-in-Ok-Some-clause-come c =
    learned-some c.args.terms.now c.condition.new.terms c.in-Ok-Some.ensures.keeps c.args.self.now c.add.new.self c.requires.walk c.args.statement c.in-Ok-Some.form
    (answer-is c.condition.new.terms _ _ _ c.in-Ok-Some.field-0-is c.in-Ok-Some.ensures.built.value) (rw c.new.ensures at c.in_ok-add-in-Ok-Some.ensures)

pub returns-in-Ok-None-clause-come : goal.returns-in-Ok-None-clause-come
returns-in-Ok-None-clause-come c =
    learned-none c.args.terms.now c.condition.new.terms c.in-Ok-None.ensures.keeps c.args.self.now c.args.self.now c.requires.walk c.args.statement
    (answer-is c.condition.new.terms _ _ _ c.in-Ok-None.field-0-is c.in-Ok-None.ensures.built.value)
    (walk-stays c.args.terms.now c.condition.new.terms c.in-Ok-None.ensures.keeps c.args.self.now c.requires.walk)
