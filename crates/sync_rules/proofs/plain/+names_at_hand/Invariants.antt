use Rattle.sync_rules.proofs.plain.+names_at_hand.Given as goal

abbrev pub decreases-names_at_hand : goal.decreases-names_at_hand
decreases-names_at_hand l = l.id.0
