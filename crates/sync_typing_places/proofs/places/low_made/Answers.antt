use Rattle.sync_terms.specs.Trees.{Le}
use Rattle.sync_terms.proofs.Extending.{Extends-trans}
use Rattle.sync_typing_places.proofs.Binding.{made_as}
use Rattle.sync_typing_places.proofs.places.low_made.Goals as goal

pub returns-clause-made : goal.returns-clause-made
returns-clause-made c =
    made_as c.form.new.terms c.args.line _ _ c.form_made.result
    (λ i. Le (c.in_ok-zero.ensures.value.value i) ((c.literal.ensures.keeps.terms c.args.term c.requires.term).1 i))
    (c.form_made.ensures _ _ c.form.ensures.built)

pub returns-clause-keeps : goal.returns-clause-keeps
returns-clause-keeps c = Extends-trans c.literal.ensures.keeps c.form.ensures.keeps
