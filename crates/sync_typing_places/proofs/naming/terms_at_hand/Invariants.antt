use Rattle.std.proofs.Common.{◌≡◌, drop, map}
use Rattle.std.specs.List.{list_all}
use Rattle.sync_rules.specs.Locality.{names_only}
use Rattle.sync_terms.specs.Stored.{tree}
use Rattle.sync_typing_places.specs.Hands.{is_at_hand_in}
use Rattle.sync_typing_places.proofs.naming.terms_at_hand.Given as goal

abbrev pub invariant-loop-id : goal.invariant-loop-id
invariant-loop-id l =
    list_all (names_only (is_at_hand_in l.names)) (map (tree l.terms) l.list)
    ≡ list_all (names_only (is_at_hand_in l.names)) (map (tree l.terms) (drop l.id-index l.list))
