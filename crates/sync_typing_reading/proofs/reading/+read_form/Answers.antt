use Rattle.std.proofs.Common.{◌≡◌, ◌∙◌, ap, subst}
use Rattle.sync_terms.specs.Trees.{replaced, replaced_in, tree_size, formula_size}
use Rattle.sync_terms.specs.Stored.{tree, formula}
use Rattle.sync_terms.specs.Building.{node_formula, StopsBuilding}
use Rattle.sync_terms.proofs.BuildingLemmas.{BuildsForm-same, HasTerm-more, HasTerm-same, HasForm-more, HasForm-same}
use Rattle.sync_terms.proofs.Extending.{Extends-trans}
use Rattle.sync_terms.specs.declared.nodes.FormNode.{FormNode}
use Rattle.sync_typing_reading.specs.Nodes.{compared_over, joined_over}
use Rattle.sync_typing_reading.specs.Sayings.{stands_in}
use Rattle.sync_typing_reading.proofs.Staying.{AreSaidOf-more}
use Rattle.sync_typing_reading.proofs.Formulas.{compares, joins, negated_fits, negated_read, term_then, form_then, whole, part_stops}
use Rattle.sync_typing_reading.proofs.reading.+read_form.Goals as goal

pub returns-in_err-new-in-Not-clause-built : goal.returns-in_err-new-in-Not-clause-built
returns-in_err-new-in-Not-clause-built t c =
    let s = c.args.terms.now in
    let g = stands_in s c.args.names.now in
    let n = c.form-node.result in
    part_stops g s c.read_form.new.terms n c.args.id (formula_size (replaced_in g (formula s c.in-Not.f))) c.in_err-new-in-Not.field-0.0 c.from_residual.result
    c.form-node.ensures.value (negated_fits g s c.in-Not.f n c.in-Not.is) c.in_err-new-in-Not.ensures.built.stop c.from_residual.ensures.1

pub returns-in_ok-new-in-Not-clause-built : goal.returns-in_ok-new-in-Not-clause-built
returns-in_ok-new-in-Not-clause-built t c =
    let s = c.args.terms.now in
    let g = stands_in s c.args.names.now in
    let n = c.form-node.result in
    BuildsForm-same c.form.ensures.built
    (negated_read g s c.read_form.new.terms c.in-Not.f c.in_ok-new-in-Not.new n c.in-Not.is c.in_ok-new-in-Not.ensures.built.value ∙ whole g s n c.args.id c.form-node.ensures.value)

pub returns-in_ok-new-in-Not-clause-keeps : goal.returns-in_ok-new-in-Not-clause-keeps
returns-in_ok-new-in-Not-clause-keeps t c = Extends-trans c.read_form.ensures.keeps c.form.ensures.keeps

pub returns-in_err-left-in-Le-clause-built : goal.returns-in_err-left-in-Le-clause-built
returns-in_err-left-in-Le-clause-built t c =
    let s = c.args.terms.now in
    let k = c.args.names.now in
    let g = stands_in s k in
    let n = c.form-node.result in
    let is = c.in-Le.is in
    let of = compares c.in-Le.a c.in-Le.b n is in
    part_stops g s c.read_term.new.terms n c.args.id (tree_size (replaced g (tree s c.in-Le.a))) c.in_err-left-in-Le.field-0.0 c.from_residual-in_err-left-in-Le.result
    c.form-node.ensures.value (of.left g s) c.in_err-left-in-Le.ensures.built.stop c.from_residual-in_err-left-in-Le.ensures.1

pub returns-in_err-right-in-Le-clause-built : goal.returns-in_err-right-in-Le-clause-built
returns-in_err-right-in-Le-clause-built t c =
    let s = c.args.terms.now in
    let k = c.args.names.now in
    let g = stands_in s k in
    let n = c.form-node.result in
    let is = c.in-Le.is in
    let of = compares c.in-Le.a c.in-Le.b n is in
    let same = term_then k c.read_term.ensures.keeps c.requires.said c.in-Le.b (of.parts s c.form-node.ensures.children).1 in
    part_stops g s c.read_term-in-Le.new.terms n c.args.id (tree_size (replaced g (tree s c.in-Le.b))) c.in_err-right-in-Le.field-0.0 c.from_residual-in_err-right-in-Le.result
    c.form-node.ensures.value (of.right g s)
    (subst (λ x. StopsBuilding (tree_size x) c.in_err-right-in-Le.field-0.0) same c.in_err-right-in-Le.ensures.built.stop) c.from_residual-in_err-right-in-Le.ensures.1

pub returns-in_err-right-in-Le-clause-keeps : goal.returns-in_err-right-in-Le-clause-keeps
returns-in_err-right-in-Le-clause-keeps t c = Extends-trans c.read_term.ensures.keeps c.read_term-in-Le.ensures.keeps

pub returns-in_ok-right-in-Le-clause-built : goal.returns-in_ok-right-in-Le-clause-built
returns-in_ok-right-in-Le-clause-built t c =
    let s = c.args.terms.now in
    let k = c.args.names.now in
    let g = stands_in s k in
    let n = c.form-node.result in
    let is = c.in-Le.is in
    let of = compares c.in-Le.a c.in-Le.b n is in
    let same = term_then k c.read_term.ensures.keeps c.requires.said c.in-Le.b (of.parts s c.form-node.ensures.children).1 in
    let u = c.read_term-in-Le.new.terms in
    let made = of.read g s u c.in_ok-left-in-Le.left c.in_ok-right-in-Le.right
    (HasTerm-more c.in_ok-left-in-Le.ensures.built.value c.read_term-in-Le.ensures.keeps) (HasTerm-same c.in_ok-right-in-Le.ensures.built.value same) in
    let node : c.in-Le.node ≡ n = cc in
    BuildsForm-same c.form-in-Le.ensures.built
    (ap (node_formula u) c.compared.ensures ∙ ap (λ (m : FormNode). node_formula u (compared_over m c.in_ok-left-in-Le.left c.in_ok-right-in-Le.right)) node ∙ made.1 ∙ whole g s n c.args.id c.form-node.ensures.value)

pub returns-in_ok-right-in-Le-clause-keeps : goal.returns-in_ok-right-in-Le-clause-keeps
returns-in_ok-right-in-Le-clause-keeps t c =
    Extends-trans c.read_term.ensures.keeps (Extends-trans c.read_term-in-Le.ensures.keeps c.form-in-Le.ensures.keeps)

pub returns-in_err-left-in-And-clause-built : goal.returns-in_err-left-in-And-clause-built
returns-in_err-left-in-And-clause-built t c =
    let s = c.args.terms.now in
    let k = c.args.names.now in
    let g = stands_in s k in
    let n = c.form-node.result in
    let is = c.in-And.is in
    let of = joins c.in-And.f c.in-And.g n is in
    part_stops g s c.read_form-in-And.new.terms n c.args.id (formula_size (replaced_in g (formula s c.in-And.f))) c.in_err-left-in-And.field-0.0 c.from_residual-in_err-left-in-And.result
    c.form-node.ensures.value (of.left g s) c.in_err-left-in-And.ensures.built.stop c.from_residual-in_err-left-in-And.ensures.1

pub returns-in_err-right-in-And-clause-built : goal.returns-in_err-right-in-And-clause-built
returns-in_err-right-in-And-clause-built t c =
    let s = c.args.terms.now in
    let k = c.args.names.now in
    let g = stands_in s k in
    let n = c.form-node.result in
    let is = c.in-And.is in
    let of = joins c.in-And.f c.in-And.g n is in
    let same = form_then k c.read_form-in-And.ensures.keeps c.requires.said c.in-And.g (of.parts s c.form-node.ensures.children).1 in
    part_stops g s c.read_form-in-And-2.new.terms n c.args.id (formula_size (replaced_in g (formula s c.in-And.g))) c.in_err-right-in-And.field-0.0 c.from_residual-in_err-right-in-And.result
    c.form-node.ensures.value (of.right g s)
    (subst (λ x. StopsBuilding (formula_size x) c.in_err-right-in-And.field-0.0) same c.in_err-right-in-And.ensures.built.stop) c.from_residual-in_err-right-in-And.ensures.1

pub returns-in_err-right-in-And-clause-keeps : goal.returns-in_err-right-in-And-clause-keeps
returns-in_err-right-in-And-clause-keeps t c = Extends-trans c.read_form-in-And.ensures.keeps c.read_form-in-And-2.ensures.keeps

pub returns-in_ok-right-in-And-clause-built : goal.returns-in_ok-right-in-And-clause-built
returns-in_ok-right-in-And-clause-built t c =
    let s = c.args.terms.now in
    let k = c.args.names.now in
    let g = stands_in s k in
    let n = c.form-node.result in
    let is = c.in-And.is in
    let of = joins c.in-And.f c.in-And.g n is in
    let same = form_then k c.read_form-in-And.ensures.keeps c.requires.said c.in-And.g (of.parts s c.form-node.ensures.children).1 in
    let u = c.read_form-in-And-2.new.terms in
    let made = of.read g s u c.in_ok-left-in-And.left c.in_ok-right-in-And.right
    (HasForm-more c.in_ok-left-in-And.ensures.built.value c.read_form-in-And-2.ensures.keeps) (HasForm-same c.in_ok-right-in-And.ensures.built.value same) in
    let node : c.in-And.node ≡ n = cc in
    BuildsForm-same c.form-in-And.ensures.built
    (ap (node_formula u) c.joined.ensures ∙ ap (λ (m : FormNode). node_formula u (joined_over m c.in_ok-left-in-And.left c.in_ok-right-in-And.right)) node ∙ made.1 ∙ whole g s n c.args.id c.form-node.ensures.value)

pub returns-in_ok-right-in-And-clause-keeps : goal.returns-in_ok-right-in-And-clause-keeps
returns-in_ok-right-in-And-clause-keeps t c =
    Extends-trans c.read_form-in-And.ensures.keeps (Extends-trans c.read_form-in-And-2.ensures.keeps c.form-in-And.ensures.keeps)

pub read_term-requires-in-Le-clause-said : goal.read_term-requires-in-Le-clause-said
read_term-requires-in-Le-clause-said t c = AreSaidOf-more c.read_term.ensures.keeps c.args.names.now c.requires.said
