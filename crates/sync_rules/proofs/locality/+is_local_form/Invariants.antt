use Rattle.sync_rules.proofs.locality.+is_local_form.Given as goal

abbrev pub decreases-is_local_form : goal.decreases-is_local_form
decreases-is_local_form l = l.id.0
