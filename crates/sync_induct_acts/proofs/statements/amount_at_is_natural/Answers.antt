use Rattle.sync_terms.proofs.Extending.{Extends-trans}
use Rattle.sync_induct_acts.proofs.statements.amount_at_is_natural.Goals as goal

pub returns-clause-keeps : goal.returns-clause-keeps
returns-clause-keeps c = Extends-trans c.terms_of.ensures.keeps c.amount_is_natural.ensures.keeps
