use Rattle.std.proofs.Common.{ℕ, Bool, ap, ◌∙◌}
use Rattle.sync_thread.specs.Views.{scripts_tree}
use Rattle.sync_typing.specs.Symbols.{scripts_name_only}
use Rattle.sync_typing_places.specs.Places.{env_of}
use Rattle.sync_typing_places.proofs.Holding.{at_hand_is}
use Rattle.sync_typing_places.proofs.Placing.{own_holds}
use Rattle.sync_typing_places.proofs.places.Place.has_names_in.Goals as goal

pub returns : goal.returns
returns c =
    let s = c.args.terms.now in
    let p = c.args.self.now in
    c.scripts_at_hand.ensures
    ∙ ap (λ (q : ℕ → Bool). scripts_name_only q (scripts_tree s c.args.scripts.now)) (at_hand_is s p.hand (env_of s p) (own_holds s p c.requires.own))
