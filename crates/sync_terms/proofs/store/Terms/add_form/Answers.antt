use Rattle.std.proofs.Common.{◌≡◌, sym, ◌∙◌, subst}
use Rattle.std.proofs.lemmas.Option.{get_or_from_slice_get, slice_get_within}
use Rattle.sync_terms.specs.declared.nodes.FormNode.TheVariants as form
use Rattle.sync_terms.specs.StoreLists.{form_at}
use Rattle.sync_terms.specs.Stored.{HasParts, form_shape}
use Rattle.sync_terms.specs.Trees.{formula_size}
use Rattle.sync_terms.proofs.Equal.{form_eq, form_eq-refl, form_same_from_eq}
use Rattle.sync_terms.proofs.Keeping.{AreInOrder-insert_form, Extends-insert_form, GainsForm-insert_form, formula-insert_form}
use Rattle.sync_terms.proofs.Sharing.{once-from_distinct, IsShared-from_kept}
use Rattle.sync_terms.proofs.store.Terms.add_form.Goals as goal

pub invariant_of-self-2 : goal.invariant_of-self-2
invariant_of-self-2 c =
    let below = subst (λ s. HasParts s c.args.node) (sym c.self.view_is) c.requires.children in
    let size = subst (λ s. c.form_node_size-size.result ≡ formula_size (form_shape s c.args.node)) (sym c.self.view_is) c.form_node_size-size.ensures.size in
    let once = once-from_distinct form_eq (form.Le (record { 0 = 0 }) (record { 0 = 0 })) form_eq-refl c.insert_node.new.nodes.keys c.in-Ok.ensures.unique in
    AreInOrder-insert_form _ _ _ c.args.node c.form_node_size-size.result c.insert_node.new.nodes.keys c.insert_node.new.sizes.items c.self.invariant below c.in-Ok.ensures.placed size c.if-size-gt-MOST_NODES.false once

pub returns-clause-id : goal.returns-clause-id
returns-clause-id c =
    let below = subst (λ s. HasParts s c.args.node) (sym c.self.view_is) c.requires.children in
    let at = c.in-Ok.ensures.at in
    let here : form_at c.insert_node.new.nodes.keys c.in-Ok.at ≡ c.args.node = get_or_from_slice_get c.insert_node.new.nodes.keys c.in-Ok.at at.0 (form.Le (record { 0 = 0 }) (record { 0 = 0 })) at.1 ∙ sym (form_same_from_eq c.args.node at.0 at.2) in
    let within = slice_get_within c.insert_node.new.nodes.keys c.in-Ok.at at.0 at.1 in
    let kept = invariant_of-self-2 c in
    let made = formula-insert_form _ _ _ c.args.node c.form_node_size-size.result c.insert_node.new.nodes.keys c.insert_node.new.sizes.items c.self.invariant below c.in-Ok.ensures.placed kept c.in-Ok.at within here in
    (within, rw (← c.self.view_is) made)

pub returns-clause-keeps : goal.returns-clause-keeps
returns-clause-keeps c =
    let below = subst (λ s. HasParts s c.args.node) (sym c.self.view_is) c.requires.children in
    rw (← c.self.view_is) (Extends-insert_form _ _ _ c.args.node c.form_node_size-size.result c.insert_node.new.nodes.keys c.insert_node.new.sizes.items c.self.invariant below c.in-Ok.ensures.placed)

pub returns-clause-gains : goal.returns-clause-gains
returns-clause-gains c =
    let below = subst (λ s. HasParts s c.args.node) (sym c.self.view_is) c.requires.children in
    rw (← c.self.view_is) (GainsForm-insert_form _ _ _ c.args.node c.form_node_size-size.result c.insert_node.new.nodes.keys c.insert_node.new.sizes.items c.self.invariant below c.in-Ok.ensures.placed)

pub returns-clause-shared : goal.returns-clause-shared
returns-clause-shared c = IsShared-from_kept _ _ _ (invariant_of-self-2 c)
