use Rattle.std.proofs.Common.{refl}
use Rattle.sync_typing_places.proofs.Holding.{holds_renewed, whole_renewed, ids_renewed}
use Rattle.sync_typing_places.proofs.Beginning.{begins_renewed}
use Rattle.sync_typing_places.proofs.hands.Hand.renew.Goals as goal

pub returns-clause-holds : goal.returns-clause-holds
returns-clause-holds c = λ s terms hand holds.
    holds_renewed s c.args.self.now _ terms hand c.requires.whole holds c.raise_floor.ensures c.raise_floor-2.ensures refl

pub returns-clause-whole : goal.returns-clause-whole
returns-clause-whole c = whole_renewed c.args.self.now _ c.requires.whole c.raise_floor.ensures c.raise_floor-2.ensures refl

pub returns-clause-ids : goal.returns-clause-ids
returns-clause-ids c = λ s ids. ids_renewed s c.args.self.now _ ids c.raise_floor.ensures c.raise_floor-2.ensures

pub returns-clause-begins : goal.returns-clause-begins
returns-clause-begins c = begins_renewed c.args.self.now _ c.raise_floor.ensures c.raise_floor-2.ensures refl
