use Rattle.sync_terms.proofs.Extending.{Extends-trans}
use Rattle.sync_induct_acts.proofs.values.with_object.Goals as goal

pub returns-clause-keeps : goal.returns-clause-keeps
returns-clause-keeps c = Extends-trans c.terms_of.ensures.keeps c.term.ensures.keeps
