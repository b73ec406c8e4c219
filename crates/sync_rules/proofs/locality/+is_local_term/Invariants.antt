use Rattle.sync_rules.proofs.locality.+is_local_term.Given as goal

abbrev pub decreases-is_local_term : goal.decreases-is_local_term
decreases-is_local_term l = l.id.0
