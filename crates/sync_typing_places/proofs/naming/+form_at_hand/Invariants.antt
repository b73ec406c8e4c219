use Rattle.sync_typing_places.proofs.naming.+form_at_hand.Given as goal

abbrev pub decreases-form_at_hand : goal.decreases-form_at_hand
decreases-form_at_hand l = l.id.0
