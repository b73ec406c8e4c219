use Rattle.sync_thread_events.proofs.finding.+list_at.Given as goal

abbrev pub decreases-list_at : goal.decreases-list_at
decreases-list_at l = goal.size-list_at l
