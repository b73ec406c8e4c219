use Rattle.std.proofs.Common.{◌≡◌, ◌∙◌, arith}
use Rattle.sync_terms.proofs.Extending.{Extends-trans}
use Rattle.sync_terms.specs.Trees.{Sub, tree_size}
use Rattle.sync_terms.specs.Stored.{tree}
use Rattle.sync_machine.specs.Statements.{zero, one}
use Rattle.sync_terms.proofs.BuildingLemmas.{BuildsTerm-term, BuildsTerm-same}
use Rattle.sync_induct_acts.proofs.values.once_less.Goals as goal

pub returns-in_err-one-clause-keeps : goal.returns-in_err-one-clause-keeps
returns-in_err-one-clause-keeps c = Extends-trans c.zero.ensures.keeps c.one.ensures.keeps

pub returns-in_err-less-clause-built : goal.returns-in_err-less-clause-built
unfolding tree_size
returns-in_err-less-clause-built c =
    let none : tree c.one.new.terms c.in_ok-zero.zero ≡ zero = (c.one.ensures.keeps.terms c.in_ok-zero.zero c.in_ok-zero.ensures.found.value.stored).1 ∙ c.in_ok-zero.ensures.found.value.value in
    let single : tree c.one.new.terms c.in_ok-one.one ≡ one = c.in_ok-one.ensures.found.value.value in
    let less : Sub (tree c.one.new.terms c.in_ok-zero.zero) (tree c.one.new.terms c.in_ok-one.one) ≡ Sub zero one = λ i. Sub (none i) (single i) in
    BuildsTerm-term c.from_residual-in_err-less.result (BuildsTerm-same c.in_err-less.ensures.built less) c.from_residual-in_err-less.ensures.1 (omega arith)

pub returns-in_err-less-clause-keeps : goal.returns-in_err-less-clause-keeps
returns-in_err-less-clause-keeps c = Extends-trans c.zero.ensures.keeps (Extends-trans c.one.ensures.keeps c.term.ensures.keeps)

pub returns-clause-keeps : goal.returns-clause-keeps
returns-clause-keeps c = Extends-trans c.zero.ensures.keeps (Extends-trans c.one.ensures.keeps (Extends-trans c.term.ensures.keeps c.term-2.ensures.keeps))
