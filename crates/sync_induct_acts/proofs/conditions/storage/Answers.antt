use Rattle.sync_terms.proofs.Extending.{Extends-trans}
use Rattle.sync_induct_acts.proofs.conditions.storage.Goals as goal

pub returns-in-Some-Bind-clause-keeps : goal.returns-in-Some-Bind-clause-keeps
returns-in-Some-Bind-clause-keeps c = Extends-trans c.terms_of.ensures.keeps c.is_there.ensures.keeps

pub returns-in-Some-Term-clause-keeps : goal.returns-in-Some-Term-clause-keeps
returns-in-Some-Term-clause-keeps c = Extends-trans c.terms_of.ensures.keeps c.is_there_with.ensures.keeps
