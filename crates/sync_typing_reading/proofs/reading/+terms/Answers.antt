use Rattle.std.proofs.Common.{◌∙◌, sym, ap, subst, arith}
use Rattle.sync_terms.specs.Trees.{replaced}
use Rattle.sync_terms.specs.Stored.{HasChildren}
use Rattle.sync_terms.specs.Building.{node_tree, StopsBuilding}
use Rattle.sync_terms.specs.declared.nodes.Node.{Node}
use Rattle.sync_terms.proofs.BuildingLemmas.{shape-node, BuildsTerm-same}
use Rattle.sync_terms.proofs.Extending.{Extends-trans}
use Rattle.sync_typing_reading.specs.Nodes.{child_size}
use Rattle.sync_typing_reading.specs.Sayings.{stands_in}
use Rattle.sync_typing_reading.proofs.Staying.{AreSaidOf-more}
use Rattle.sync_typing_reading.proofs.Terms.{each_by, named, name_read, child_stops, children_are, children_below, children_fit, IsChildOf-more, size_then, all_read, all_by, over_read}
use Rattle.sync_typing_reading.proofs.reading.+terms.Goals as goal

pub read_term-read_name-requires-clause-named : goal.read_term-read_name-requires-clause-named
read_term-read_name-requires-clause-named t c = named c.args.terms.now c.term-node.result c.args.id c.in-Name.symbol c.term-node.ensures.value c.in-Name.is

pub read_term-returns-in-Name-clause-built : goal.read_term-returns-in-Name-clause-built
read_term-returns-in-Name-clause-built t c =
    let s = c.args.terms.now in
    BuildsTerm-same c.read_name.ensures
    (name_read (stands_in s c.args.names.now) s c.args.id c.in-Name.symbol.0 (named s c.term-node.result c.args.id c.in-Name.symbol c.term-node.ensures.value c.in-Name.is))

pub read_term-returns-in_err-first : goal.read_term-returns-in_err-first
read_term-returns-in_err-first t c =
    let s = c.args.terms.now in
    let g = stands_in s c.args.names.now in
    let n = c.term-node.result in
    let fits = (each_by c.children_of-old.ensures (children_fit g s n)).first in record {
      built = child_stops g s c.read_child.new.terms n c.args.id (child_size (replaced g) s c.children_of-old.result.first) c.in_err-first.field-0.0 c.from_residual.result
          c.term-node.ensures.value fits c.in_err-first.ensures.stop c.from_residual.ensures.1;
      keeps = c.read_child.ensures.keeps;
    }

pub read_term-read_child-requires-2 : goal.read_term-read_child-requires-2
read_term-read_child-requires-2 t c =
    let all = c.decreases in
    let kids = each_by c.children_of-old.ensures (children_are c.args.terms.now c.term-node.result c.term-node.ensures.children) in
    let below = each_by c.children_of-old.ensures (children_below c.args.id.0 c.term-node.result c.term-node.ensures.earlier) in
    (omega (arith, all), (IsChildOf-more c.read_child.ensures.keeps c.children_of-old.result.second kids.second, (below.second, AreSaidOf-more c.read_child.ensures.keeps c.args.names.now c.requires.said)))

pub read_term-returns-in_err-second : goal.read_term-returns-in_err-second
read_term-returns-in_err-second t c =
    let s = c.args.terms.now in
    let k = c.args.names.now in
    let g = stands_in s k in
    let n = c.term-node.result in
    let fits = (each_by c.children_of-old.ensures (children_fit g s n)).second in
    let kids = each_by c.children_of-old.ensures (children_are s n c.term-node.ensures.children) in
    let size = size_then k c.read_child.ensures.keeps c.requires.said c.children_of-old.result.second kids.second in record {
      built = child_stops g s c.read_child-2.new.terms n c.args.id (child_size (replaced g) s c.children_of-old.result.second) c.in_err-second.field-0.0 c.from_residual-in_err-second.result
          c.term-node.ensures.value fits (subst (λ m. StopsBuilding m c.in_err-second.field-0.0) size c.in_err-second.ensures.stop) c.from_residual-in_err-second.ensures.1;
      keeps = Extends-trans c.read_child.ensures.keeps c.read_child-2.ensures.keeps;
    }

pub read_term-read_child-requires-3 : goal.read_term-read_child-requires-3
read_term-read_child-requires-3 t c =
    let all = c.decreases in
    let more = Extends-trans c.read_child.ensures.keeps c.read_child-2.ensures.keeps in
    let kids = each_by c.children_of-old.ensures (children_are c.args.terms.now c.term-node.result c.term-node.ensures.children) in
    let below = each_by c.children_of-old.ensures (children_below c.args.id.0 c.term-node.result c.term-node.ensures.earlier) in
    (omega (arith, all), (IsChildOf-more more c.children_of-old.result.third kids.third, (below.third, AreSaidOf-more more c.args.names.now c.requires.said)))

pub read_term-returns-in_err-third : goal.read_term-returns-in_err-third
read_term-returns-in_err-third t c =
    let s = c.args.terms.now in
    let k = c.args.names.now in
    let g = stands_in s k in
    let n = c.term-node.result in
    let more = Extends-trans c.read_child.ensures.keeps c.read_child-2.ensures.keeps in
    let fits = (each_by c.children_of-old.ensures (children_fit g s n)).third in
    let kids = each_by c.children_of-old.ensures (children_are s n c.term-node.ensures.children) in
    let size = size_then k more c.requires.said c.children_of-old.result.third kids.third in record {
      built = child_stops g s c.read_child-3.new.terms n c.args.id (child_size (replaced g) s c.children_of-old.result.third) c.in_err-third.field-0.0 c.from_residual-in_err-third.result
          c.term-node.ensures.value fits (subst (λ m. StopsBuilding m c.in_err-third.field-0.0) size c.in_err-third.ensures.stop) c.from_residual-in_err-third.ensures.1;
      keeps = Extends-trans more c.read_child-3.ensures.keeps;
    }

pub read_term-term-requires : goal.read_term-term-requires
read_term-term-requires t c =
    let s = c.args.terms.now in
    let k = c.args.names.now in
    let n = c.term-node.result in
    let u = c.read_child-3.new.terms in
    let more = Extends-trans c.read_child.ensures.keeps c.read_child-2.ensures.keeps in
    let kids = each_by c.children_of-old.ensures (children_are s n c.term-node.ensures.children) in
    let e = c.children_of-old.ensures in
    let read = all_read k s c.read_child.new.terms c.read_child-2.new.terms u c.read_child.ensures.keeps c.read_child-2.ensures.keeps c.read_child-3.ensures.keeps c.requires.said
    c.children_of-old.result kids c.in_ok-first.first c.in_ok-second.second c.in_ok-third.third c.in_ok-first.ensures.read c.in_ok-second.ensures.read c.in_ok-third.ensures.read in
    subst (λ (m : Node). HasChildren u m) (sym c.over.ensures) (over_read (stands_in s k) s u n _ c.in_default.not-Name (all_by (stands_in s k) s u _ e read)).0

pub read_term-returns : goal.read_term-returns
read_term-returns t c =
    let s = c.args.terms.now in
    let k = c.args.names.now in
    let n = c.term-node.result in
    let u = c.read_child-3.new.terms in
    let more = Extends-trans c.read_child.ensures.keeps c.read_child-2.ensures.keeps in
    let kids = each_by c.children_of-old.ensures (children_are s n c.term-node.ensures.children) in
    let e = c.children_of-old.ensures in
    let read = all_read k s c.read_child.new.terms c.read_child-2.new.terms u c.read_child.ensures.keeps c.read_child-2.ensures.keeps c.read_child-3.ensures.keeps c.requires.said
    c.children_of-old.result kids c.in_ok-first.first c.in_ok-second.second c.in_ok-third.third c.in_ok-first.ensures.read c.in_ok-second.ensures.read c.in_ok-third.ensures.read in
    let made = (over_read (stands_in s k) s u n _ c.in_default.not-Name (all_by (stands_in s k) s u _ e read)).1 in record {
      built = BuildsTerm-same c.term.ensures.built
          (ap (node_tree u) c.over.ensures ∙ made ∙ ap (replaced (stands_in s k)) (sym (shape-node s n) ∙ c.term-node.ensures.value));
      keeps = Extends-trans more (Extends-trans c.read_child-3.ensures.keeps c.term.ensures.keeps);
    }
