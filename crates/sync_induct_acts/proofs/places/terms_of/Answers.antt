use Rattle.sync_terms.proofs.Extending.{Extends-trans}
use Rattle.sync_induct_acts.proofs.Lasting.{place-ids}
use Rattle.sync_induct_acts.proofs.places.terms_of.Goals as goal

pub value_of-requires : goal.value_of-requires
value_of-requires c = place-ids c.args.terms.now c.key_of.new.terms c.key_of.ensures.keeps c.args.place c.requires

pub returns-in_err-value-clause-keeps : goal.returns-in_err-value-clause-keeps
returns-in_err-value-clause-keeps c = Extends-trans c.key_of.ensures.keeps c.value_of.ensures.keeps

pub returns-clause-keeps : goal.returns-clause-keeps
returns-clause-keeps c = Extends-trans c.key_of.ensures.keeps c.value_of.ensures.keeps
