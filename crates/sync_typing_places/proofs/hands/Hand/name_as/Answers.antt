use Rattle.std.proofs.Common.{Some, refl}
use Rattle.sync_typing_places.proofs.Holding.{holds_named, whole_named, ids_named}
use Rattle.sync_typing_places.proofs.Beginning.{on_ok, begins_named}
use Rattle.sync_typing_places.proofs.hands.Hand.name_as.Goals as goal

pub returns-clause-holds : goal.returns-clause-holds
returns-clause-holds c =
    on_ok c.say.result _ _
    (λ named s terms hand holds. holds_named s c.args.self.now _ terms hand c.requires.whole holds c.args.symbol.0 c.args.term c.requires.name named refl refl) c.say.ensures.ok

pub returns-clause-whole : goal.returns-clause-whole
returns-clause-whole c =
    on_ok c.say.result _ _ (λ named. whole_named c.args.self.now _ c.requires.whole c.args.symbol.0 (Some c.args.term) named refl refl) c.say.ensures.ok

pub returns-clause-ids : goal.returns-clause-ids
returns-clause-ids c =
    on_ok c.say.result _ _
    (λ named s stored ids. ids_named s c.args.self.now _ c.requires.whole ids c.args.symbol.0 c.args.term stored named refl refl) c.say.ensures.ok

pub returns-clause-begins : goal.returns-clause-begins
returns-clause-begins c =
    on_ok c.say.result _ _ (λ named. begins_named c.args.self.now _ c.args.symbol.0 (Some c.args.term) named refl refl) c.say.ensures.ok
