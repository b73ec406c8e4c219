use Rattle.std.proofs.Common.{ℕ, Bool, ◌&&◌, map, ap, ◌∙◌}
use Rattle.std.specs.List.{list_all}
use Rattle.sync_base.specs.declared.stops.Rule.TheVariants.{T1}
use Rattle.sync_rules.specs.Locality.{form_names_only, names_only}
use Rattle.sync_terms.specs.Stored.{formula, tree}
use Rattle.sync_thread.specs.Views.{scripts_tree}
use Rattle.sync_typing.specs.Symbols.{scripts_name_only}
use Rattle.sync_typing_places.specs.Places.{env_of, wanted}
use Rattle.sync_typing_places.proofs.Holding.{at_hand_is}
use Rattle.sync_typing_places.proofs.Placing.{own_holds}
use Rattle.sync_typing_places.proofs.places.Place.at_hand.Goals as goal

pub returns : goal.returns
returns c =
    let s = c.args.terms.now in
    let p = c.args.self.now in
    c.wants.ensures ∙ ap (λ (b : Bool). wanted c.args.line T1 b)
    (c.all_at_hand-known.ensures
    ∙ ap (λ (q : ℕ → Bool). list_all (names_only q) (map (tree s) c.args.list.now)
    && (list_all (form_names_only q) (map (formula s) c.args.forms.now) && scripts_name_only q (scripts_tree s c.args.scripts.now)))
    (at_hand_is s p.hand (env_of s p) (own_holds s p c.requires.own)))
