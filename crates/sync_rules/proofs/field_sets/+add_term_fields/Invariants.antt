use Rattle.sync_rules.proofs.field_sets.+add_term_fields.Given as goal

abbrev pub decreases-add_term_fields : goal.decreases-add_term_fields
decreases-add_term_fields l = l.id.0
