-- That `==` on nodes is equality.
use Rattle.std.proofs.Common.{◌≡◌, Bool, true, rules}
use Rattle.sync_terms.specs.declared.nodes.Node.{Node}
use Rattle.sync_terms.specs.declared.nodes.FormNode.{FormNode}
use Rattle.sync_terms.specs.declared.nodes.Node.TheVariants as node
use Rattle.sync_terms.specs.declared.nodes.FormNode.TheVariants as form
use Rattle.sync_terms.specs.contracts.nodes.NodePartialEq.TheImpl as for_node
use Rattle.sync_terms.specs.contracts.nodes.FormNodePartialEq.TheImpl as for_form

abbrev pub node_eq : Node → Node → Bool
node_eq = (for_node.eq-value).it

abbrev pub form_eq : FormNode → FormNode → Bool
form_eq = (for_form.eq-value).it

pub same_from_eq : (x y : Node) → node_eq x y ≡ true → x ≡ y
same_from_eq x y h = search rules

pub form_same_from_eq : (x y : FormNode) → form_eq x y ≡ true → x ≡ y
form_same_from_eq x y h = search rules

pub node_eq-refl : (x : Node) → node_eq x x ≡ true
node_eq-refl (node.Lit k) = search rules
node_eq-refl (node.Name y) = search rules
node_eq-refl (node.Add a b) = search rules
node_eq-refl (node.Sub a b) = search rules
node_eq-refl (node.Scale k a) = search rules
node_eq-refl (node.Get a b) = search rules
node_eq-refl (node.Has a b) = search rules
node_eq-refl (node.Size a) = search rules
node_eq-refl (node.Sum a) = search rules
node_eq-refl node.Nil = search rules
node_eq-refl (node.Put a b c) = search rules
node_eq-refl (node.Del a b) = search rules
node_eq-refl (node.Bump a b c) = search rules

pub form_eq-refl : (x : FormNode) → form_eq x x ≡ true
form_eq-refl (form.Le a b) = search rules
form_eq-refl (form.Lt a b) = search rules
form_eq-refl (form.Eq a b) = search rules
form_eq-refl (form.Not f) = search rules
form_eq-refl (form.And f g) = search rules
form_eq-refl (form.Or f g) = search rules
form_eq-refl (form.Imp f g) = search rules
