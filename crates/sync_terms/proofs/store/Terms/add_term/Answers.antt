use Rattle.std.proofs.Common.{◌≡◌, pos, sym, ◌∙◌, subst}
use Rattle.std.proofs.lemmas.Option.{get_or_from_slice_get, slice_get_within}
use Rattle.sync_terms.specs.declared.nodes.Node.TheVariants as node
use Rattle.sync_terms.specs.StoreLists.{node_at}
use Rattle.sync_terms.specs.Stored.{HasChildren, shape}
use Rattle.sync_terms.specs.Trees.{tree_size}
use Rattle.sync_terms.proofs.Equal.{node_eq, node_eq-refl, same_from_eq}
use Rattle.sync_terms.proofs.Keeping.{AreInOrder-insert_term, Extends-insert_term, GainsTerm-insert_term, tree-insert_term}
use Rattle.sync_terms.proofs.Sharing.{once-from_distinct, IsShared-from_kept}
use Rattle.sync_terms.proofs.store.Terms.add_term.Goals as goal

pub invariant_of-self-2 : goal.invariant_of-self-2
invariant_of-self-2 c =
    let below = subst (λ s. HasChildren s c.args.node) (sym c.self.view_is) c.requires.children in
    let size = subst (λ s. c.node_size-size.result ≡ tree_size (shape s c.args.node)) (sym c.self.view_is) c.node_size-size.ensures.size in
    let once = once-from_distinct node_eq (node.Lit (pos 0)) node_eq-refl c.insert_node.new.nodes.keys c.in-Ok.ensures.unique in
    AreInOrder-insert_term _ _ _ c.args.node c.node_size-size.result c.insert_node.new.nodes.keys c.insert_node.new.sizes.items c.self.invariant below c.in-Ok.ensures.placed size c.if-size-gt-MOST_NODES.false once

pub returns-clause-id : goal.returns-clause-id
returns-clause-id c =
    let below = subst (λ s. HasChildren s c.args.node) (sym c.self.view_is) c.requires.children in
    let at = c.in-Ok.ensures.at in
    let here : node_at c.insert_node.new.nodes.keys c.in-Ok.at ≡ c.args.node = get_or_from_slice_get c.insert_node.new.nodes.keys c.in-Ok.at at.0 (node.Lit (pos 0)) at.1 ∙ sym (same_from_eq c.args.node at.0 at.2) in
    let within = slice_get_within c.insert_node.new.nodes.keys c.in-Ok.at at.0 at.1 in
    let kept = invariant_of-self-2 c in
    let made = tree-insert_term _ _ _ c.args.node c.node_size-size.result c.insert_node.new.nodes.keys c.insert_node.new.sizes.items c.self.invariant below c.in-Ok.ensures.placed kept c.in-Ok.at within here in
    (within, rw (← c.self.view_is) made)

pub returns-clause-keeps : goal.returns-clause-keeps
returns-clause-keeps c =
    let below = subst (λ s. HasChildren s c.args.node) (sym c.self.view_is) c.requires.children in
    rw (← c.self.view_is) (Extends-insert_term _ _ _ c.args.node c.node_size-size.result c.insert_node.new.nodes.keys c.insert_node.new.sizes.items c.self.invariant below c.in-Ok.ensures.placed)

pub returns-clause-gains : goal.returns-clause-gains
returns-clause-gains c =
    let below = subst (λ s. HasChildren s c.args.node) (sym c.self.view_is) c.requires.children in
    rw (← c.self.view_is) (GainsTerm-insert_term _ _ _ c.args.node c.node_size-size.result c.insert_node.new.nodes.keys c.insert_node.new.sizes.items c.self.invariant below c.in-Ok.ensures.placed)

pub returns-clause-shared : goal.returns-clause-shared
returns-clause-shared c = IsShared-from_kept _ _ _ (invariant_of-self-2 c)
