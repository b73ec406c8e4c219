use Rattle.sync_rules.proofs.field_sets.+add_form_fields.Given as goal

abbrev pub decreases-add_form_fields : goal.decreases-add_form_fields
decreases-add_form_fields l = l.id.0
