use Rattle.sync_rules.proofs.mentions.+form_names.Given as goal

abbrev pub decreases-form_names : goal.decreases-form_names
decreases-form_names l = l.id.0
