use Rattle.std.proofs.Common.{None, refl}
use Rattle.sync_typing_places.proofs.Holding.{holds_token, whole_token, ids_token}
use Rattle.sync_typing_places.proofs.Beginning.{on_ok, begins_token}
use Rattle.sync_typing_places.proofs.hands.Hand.let_go.Goals as goal

pub returns-clause-holds : goal.returns-clause-holds
returns-clause-holds c =
    on_ok c.say_held.result _ _
    (λ named s terms hand holds. holds_token s c.args.self.now _ terms hand c.requires.whole holds c.args.number None named c.in_ok-push.ensures.ok refl) c.say_held.ensures

pub returns-clause-whole : goal.returns-clause-whole
returns-clause-whole c =
    on_ok c.say_held.result _ _ (λ named. whole_token c.args.self.now _ c.requires.whole c.args.number None named c.in_ok-push.ensures.ok refl) c.say_held.ensures

pub returns-clause-ids : goal.returns-clause-ids
returns-clause-ids c =
    on_ok c.say_held.result _ _
    (λ named s ids. ids_token s c.args.self.now _ c.requires.whole ids c.args.number None (λ u e. absurd (cc)) named c.in_ok-push.ensures.ok refl) c.say_held.ensures

pub returns-clause-begins : goal.returns-clause-begins
returns-clause-begins c =
    on_ok c.say_held.result _ _ (λ named. begins_token c.args.self.now _ c.args.number None named c.in_ok-push.ensures.ok refl) c.say_held.ensures
