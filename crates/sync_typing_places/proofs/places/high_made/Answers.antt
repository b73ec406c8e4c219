use Rattle.std.proofs.Common.{ℤ, ap, ◌∙◌}
use Rattle.std.proofs.lemmas.Int.{to_z-of_z}
use Rattle.std.specs.Int.{w128}
use Rattle.sync_terms.specs.Trees.{Le, Lit}
use Rattle.sync_terms.proofs.Extending.{Extends-trans}
use Rattle.sync_typing_places.proofs.Binding.{made_as}
use Rattle.sync_typing_places.proofs.places.high_made.Goals as goal

pub returns-clause-made : goal.returns-clause-made
returns-clause-made c =
    let limit = c.in_ok-limit.ensures.value.value ∙ ap (λ (n : ℤ). Lit n) (to_z-of_z w128 c.args.number c.ranges.number) in
    made_as c.form.new.terms c.args.line _ _ c.form_made.result
    (λ i. Le ((c.literal.ensures.keeps.terms c.args.term c.requires.term).1 i) (limit i))
    (c.form_made.ensures _ _ c.form.ensures.built)

pub returns-clause-keeps : goal.returns-clause-keeps
returns-clause-keeps c = Extends-trans c.literal.ensures.keeps c.form.ensures.keeps
