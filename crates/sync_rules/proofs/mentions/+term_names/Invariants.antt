use Rattle.sync_rules.proofs.mentions.+term_names.Given as goal

abbrev pub decreases-term_names : goal.decreases-term_names
decreases-term_names l = l.id.0
