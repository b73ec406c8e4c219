use Rattle.std.proofs.Common.{◌≡◌, ◌<◌, ◌≤◌, Err, refl, ap, ◌∙◌, subst}
use Rattle.sync_terms.specs.declared.store.TermStop.TheVariants.{TooLarge}
use Rattle.sync_terms.specs.Trees.{most_nodes}
use Rattle.sync_terms.specs.Replacing.{under_way, new_size}
use Rattle.sync_terms.specs.Stored.{shape}
use Rattle.sync_terms.specs.Trees.{tree_size, replaced}
use Rattle.sync_terms.proofs.Steps.{Waits-child, Replaces-term, ok_is_no_err, le_from_not}
use Rattle.sync_terms.proofs.store.Terms.step_term.Goals as goal

pub returns-in-Some-clause-step : goal.returns-in-Some-clause-step
returns-in-Some-clause-step c =
    let node = c.term-node in
    (refl, refl, Waits-child c.args.self.now c.args.done.now c.args.id node.result c.in-Some.first node.ensures.value node.ensures.children node.ensures.earlier c.in-Some.ensures.child c.in-Some.ensures.range c.in-Some.ensures.missing)

pub returns-in-Err-clause-too_large : goal.returns-in-Err-clause-too_large
unfolding new_size
returns-in-Err-clause-too_large c e =
    let stop : c.in-Err.stop ≡ TooLarge = cc in
    let added = c.replaced_node-node.ensures.shape ∙ ap (replaced (under_way c.args.self.now c.args.done.now)) c.term-node.ensures.value in
    subst (λ t. most_nodes < tree_size t) added (c.in-Err.ensures.too_large.0 (ap (λ x. Err x) stop))

pub returns-clause-step : goal.returns-clause-step
returns-clause-step c =
    let added = c.replaced_node-node.ensures.shape ∙ ap (replaced (under_way c.args.self.now c.args.done.now)) c.term-node.ensures.value in
    let new = c.in-Ok.ensures.id in
    let large : most_nodes < tree_size (shape c.args.self.now c.replaced_node-node.result) → ⊥ = λ h. ok_is_no_err c.in-Ok.new TooLarge (c.in-Ok.ensures.too_large.1 h) in
    let fits = subst (λ t. tree_size t ≤ most_nodes) added (le_from_not large) in
    Replaces-term c.args.self.now _ c.args.done.now c.requires.done c.in-Ok.ensures.keeps _ c.args.id c.in-Ok.new c.requires.term new.0 (new.1 ∙ added) fits refl refl c.in_default-insert.ensures.updates.0
