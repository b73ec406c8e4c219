use Rattle.std.proofs.Common.{ap, ◌∙◌, ◌||◌}
use Rattle.sync_rules.specs.Obligations.{form_names}
use Rattle.sync_terms.specs.Stored.{formula}
use Rattle.sync_rules.proofs.Marked.{marks_of-from_places}
use Rattle.sync_rules.proofs.field_sets.fields_of.Goals as goal

pub returns : goal.returns
returns c =
    marks_of-from_places _ _ (c.add_form_fields.ensures.count ∙ c.empty-set.ensures.count) (λ x l. c.add_form_fields.ensures.added x l
    ∙ ap (λ b. b || form_names x (formula c.args.terms.now c.args.id)) (c.empty-set.ensures.none x l))
