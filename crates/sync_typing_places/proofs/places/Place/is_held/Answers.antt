use Rattle.std.proofs.Common.{Option, ap, sym, ◌∙◌}
use Rattle.std.specs.Prelude.{is_some}
use Rattle.sync_typing.specs.Environments.{TokenTree}
use Rattle.sync_typing_places.specs.Hands.{token_tree}
use Rattle.sync_typing_places.proofs.Placing.{some_seen}
use Rattle.sync_typing_places.proofs.places.Place.is_held.Goals as goal

pub returns : goal.returns
returns c = λ s.
    c.is_some.ensures ∙ sym (some_seen (token_tree s) c.token.result) ∙ ap (λ (o : Option TokenTree). is_some o) (c.token.ensures.token s)
