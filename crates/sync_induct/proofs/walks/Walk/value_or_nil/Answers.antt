use Rattle.std.proofs.Common.{◌∙◌}
use Rattle.sync_terms.specs.Stored.{shape}
use Rattle.sync_induct.proofs.walks.Walk.value_or_nil.Goals as goal

pub returns-in-Ok-clause-value : goal.returns-in-Ok-clause-value
unfolding shape
returns-in-Ok-clause-value c = record { stored = c.in-Ok.ensures.id.0; value = c.in-Ok.ensures.id.1 ∙ c.in_default.ensures.value c.args.terms.now }
