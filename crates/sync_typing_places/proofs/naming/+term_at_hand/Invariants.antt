use Rattle.sync_typing_places.proofs.naming.+term_at_hand.Given as goal

abbrev pub decreases-term_at_hand : goal.decreases-term_at_hand
decreases-term_at_hand l = l.id.0
