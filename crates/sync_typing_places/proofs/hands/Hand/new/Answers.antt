use Rattle.sync_typing_places.proofs.Beginning.{holds_new, whole_new, ids_new}
use Rattle.sync_typing_places.proofs.hands.Hand.new.Goals as goal

pub returns-clause-holds : goal.returns-clause-holds
returns-clause-holds c = λ s. holds_new s _ c.new.ensures c.new-2.ensures

pub returns-clause-whole : goal.returns-clause-whole
returns-clause-whole c = whole_new _ c.new.ensures c.new-2.ensures

pub returns-clause-ids : goal.returns-clause-ids
returns-clause-ids c = λ s. ids_new s _ c.new.ensures c.new-2.ensures
