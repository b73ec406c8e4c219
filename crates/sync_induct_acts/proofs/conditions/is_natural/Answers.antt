use Rattle.sync_terms.proofs.Extending.{Extends-trans}
use Rattle.sync_induct_acts.proofs.conditions.is_natural.Goals as goal

pub returns-clause-keeps : goal.returns-clause-keeps
returns-clause-keeps c = Extends-trans c.zero.ensures.keeps c.form.ensures.keeps
