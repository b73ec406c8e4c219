use Rattle.std.proofs.Common.{Option, ap, subst, sym}
use Rattle.std.specs.Prelude.{IfSome, option_map}
use Rattle.sync_typing_places.specs.declared.hands.Token.{Token}
use Rattle.sync_typing_places.specs.Hands.{token_tree, IsTokenOf}
use Rattle.sync_typing_places.specs.Places.{env_of}
use Rattle.sync_typing_places.proofs.Placing.{stored_token}
use Rattle.sync_typing_places.proofs.places.Place.token.Goals as goal

pub returns-clause-token : goal.returns-clause-token
unfolding env_of
returns-clause-token c = λ s. ap (option_map (token_tree s)) c.token.ensures

pub returns-clause-ids : goal.returns-clause-ids
returns-clause-ids c = λ s own.
    subst (λ (o : Option Token). IfSome o (IsTokenOf s)) (sym c.token.ensures) (stored_token s c.args.self.now.hand c.args.number own.ids)
