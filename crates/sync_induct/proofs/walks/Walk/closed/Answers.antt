use Rattle.std.proofs.Common.{◌<◌, subst}
use Rattle.std.proofs.lemmas.List.Elements.{All-from_recursion}
use Rattle.sync_terms.specs.Trees.{most_nodes}
use Rattle.sync_terms.specs.Trees.{Formula, formula_size}
use Rattle.sync_terms.specs.Stored.{IsTerm}
use Rattle.sync_terms.specs.declared.nodes.Sym.{Sym}
use Rattle.sync_terms.specs.declared.nodes.TermId.{TermId}
use Rattle.sync_terms.proofs.Extending.{Extends-trans}
use Rattle.sync_induct.specs.Walks.{values_of}
use Rattle.sync_induct.proofs.Substituting.{all-pairs, closes, closes-to}
use Rattle.sync_induct.proofs.walks.Walk.closed.Goals as goal

pub subst-requires-clause-terms : goal.subst-requires-clause-terms
subst-requires-clause-terms c =
    let s = c.args.terms.now in
    let t = c.add_dollars.new.terms in
    let pairs = all-pairs s t c.args.self.now.current.items c.as_slice.result.now c.in_ok-pairs.pairs.items c.add_dollars.new.pairs.items c.as_slice-3.result.now c.args.invariant.now.params c.as_slice-2.result.now
    c.requires.walk.values c.in_ok-pairs.ensures c.as_slice.ensures.value c.in_ok-add_dollars.ensures.pairs c.as_slice-2.ensures c.as_slice-3.ensures.value in
    All-from_recursion (λ (p : Sym × TermId). IsTerm t p.1) c.as_slice-3.result.now pairs.terms

pub returns-clause-value : goal.returns-clause-value
returns-clause-value c =
    let s = c.args.terms.now in
    let t = c.add_dollars.new.terms in
    let pairs = all-pairs s t c.args.self.now.current.items c.as_slice.result.now c.in_ok-pairs.pairs.items c.add_dollars.new.pairs.items c.as_slice-3.result.now c.args.invariant.now.params c.as_slice-2.result.now
    c.requires.walk.values c.in_ok-pairs.ensures c.as_slice.ensures.value c.in_ok-add_dollars.ensures.pairs c.as_slice-2.ensures c.as_slice-3.ensures.value in
    closes-to s t c.subst.new.self c.subst.result c.as_slice-3.result.now (values_of s c.args.self.now) c.args.invariant.now c.in_ok-add_dollars.ensures.keeps c.requires.invariant.form pairs c.subst.ensures.value

pub returns-clause-too_large : goal.returns-clause-too_large
returns-clause-too_large c = λ large.
    let s = c.args.terms.now in
    let t = c.add_dollars.new.terms in
    let pairs = all-pairs s t c.args.self.now.current.items c.as_slice.result.now c.in_ok-pairs.pairs.items c.add_dollars.new.pairs.items c.as_slice-3.result.now c.args.invariant.now.params c.as_slice-2.result.now
    c.requires.walk.values c.in_ok-pairs.ensures c.as_slice.ensures.value c.in_ok-add_dollars.ensures.pairs c.as_slice-2.ensures c.as_slice-3.ensures.value in
    subst (λ (f : Formula). most_nodes < formula_size f)
    (closes s t c.as_slice-3.result.now (values_of s c.args.self.now) c.args.invariant.now c.in_ok-add_dollars.ensures.keeps c.requires.invariant.form pairs)
    (c.subst.ensures.too_large large)

pub returns-clause-keeps : goal.returns-clause-keeps
returns-clause-keeps c = Extends-trans c.in_ok-add_dollars.ensures.keeps c.subst.ensures.keeps
