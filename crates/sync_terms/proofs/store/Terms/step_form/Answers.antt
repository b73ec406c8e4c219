use Rattle.std.proofs.Common.{◌≡◌, ◌<◌, ◌≤◌, Err, refl, ap, ◌∙◌, subst}
use Rattle.sync_terms.specs.declared.store.TermStop.TheVariants.{TooLarge}
use Rattle.sync_terms.specs.Trees.{most_nodes}
use Rattle.sync_terms.specs.Replacing.{new_size}
use Rattle.sync_terms.specs.Stored.{form_shape}
use Rattle.sync_terms.specs.Trees.{formula_size}
use Rattle.sync_terms.proofs.Steps.{renamed-form-is, Waits-part, Replaces-form, ok_is_no_err, le_from_not}
use Rattle.sync_terms.proofs.store.Terms.step_form.Goals as goal

pub returns-in-Some-clause-step : goal.returns-in-Some-clause-step
returns-in-Some-clause-step c =
    let node = c.form-node in
    (refl, refl, Waits-part c.args.self.now c.args.done.now c.args.id node.result c.in-Some.first node.ensures.value node.ensures.children node.ensures.earlier c.in-Some.ensures.child c.in-Some.ensures.range c.in-Some.ensures.missing)

pub add_form-requires : goal.add_form-requires
add_form-requires c =
    let made = renamed-form-is c.args.self.now c.args.done.now c.requires.done c.args.id c.form-node.result c.renamed_form.result c.renamed_form.ensures c.in_default.ensures.none c.form-node.ensures.value in
    record { children = made.0 }

pub returns-in-Err-clause-too_large : goal.returns-in-Err-clause-too_large
unfolding new_size
returns-in-Err-clause-too_large c e =
    let stop : c.in-Err.stop ≡ TooLarge = cc in
    let made = renamed-form-is c.args.self.now c.args.done.now c.requires.done c.args.id c.form-node.result c.renamed_form.result c.renamed_form.ensures c.in_default.ensures.none c.form-node.ensures.value in
    subst (λ t. most_nodes < formula_size t) made.1 (c.in-Err.ensures.too_large.0 (ap (λ x. Err x) stop))

pub returns-clause-step : goal.returns-clause-step
returns-clause-step c =
    let made = renamed-form-is c.args.self.now c.args.done.now c.requires.done c.args.id c.form-node.result c.renamed_form.result c.renamed_form.ensures c.in_default.ensures.none c.form-node.ensures.value in
    let new = c.in-Ok.ensures.id in
    let large : most_nodes < formula_size (form_shape c.args.self.now c.renamed_form.result) → ⊥ = λ h. ok_is_no_err c.in-Ok.new TooLarge (c.in-Ok.ensures.too_large.1 h) in
    let fits = subst (λ t. formula_size t ≤ most_nodes) made.1 (le_from_not large) in
    Replaces-form c.args.self.now _ c.args.done.now c.requires.done c.in-Ok.ensures.keeps _ c.args.id c.in-Ok.new c.requires.form new.0 (new.1 ∙ made.1) fits refl refl c.in_default-insert.ensures.updates.0
