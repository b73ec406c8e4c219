use Rattle.std.proofs.Common.{◌+◌, arith, subst}
use Rattle.sync_terms.specs.Trees.{tree_size}
use Rattle.sync_terms.specs.Building.{StopsBuilding}
use Rattle.sync_terms.proofs.Extending.{Extends-trans}
use Rattle.sync_terms.proofs.BuildingLemmas.{HasTerm-same, StopsBuilding-more}
use Rattle.sync_typing_reading.proofs.Staying.{AreSaidOf-more}
use Rattle.sync_kernel.specs.Readings.{tree_read}
use Rattle.sync_kernel.proofs.Pairing.{tree_read-more}
use Rattle.sync_kernel.proofs.Reading.{if_err}
use Rattle.sync_kernel.proofs.readings.read_both.Goals as goal

pub read_term-requires-2-clause-said : goal.read_term-requires-2-clause-said
read_term-requires-2-clause-said c = AreSaidOf-more c.read_term.ensures.keeps c.args.names.now c.requires.said

pub returns-in_err-second-clause-stop : goal.returns-in_err-second-clause-stop
returns-in_err-second-clause-stop c =
    let s = c.args.terms.now in
    let k = c.args.names.now in
    let e = c.in_err-second.field-0.0 in
    let m = tree_size (tree_read s k c.args.left) in
    let n = tree_size (tree_read s k c.args.right) in
    if_err (StopsBuilding (m + n)) e c.from_residual-in_err-second.result c.from_residual-in_err-second.ensures.1
    (StopsBuilding-more e (subst (λ x. StopsBuilding (tree_size x) e) (tree_read-more s c.read_term.new.terms k c.args.right c.read_term.ensures.keeps c.requires.said c.requires.right) c.in_err-second.ensures.built.stop)
    (omega arith))

pub returns-in_err-second-clause-keeps : goal.returns-in_err-second-clause-keeps
returns-in_err-second-clause-keeps c = Extends-trans c.read_term.ensures.keeps c.read_term-2.ensures.keeps

pub returns-clause-right : goal.returns-clause-right
returns-clause-right c =
    HasTerm-same c.in_ok-second.ensures.built.value
    (tree_read-more c.args.terms.now c.read_term.new.terms c.args.names.now c.args.right c.read_term.ensures.keeps c.requires.said c.requires.right)

pub returns-clause-keeps : goal.returns-clause-keeps
returns-clause-keeps c = Extends-trans c.read_term.ensures.keeps c.read_term-2.ensures.keeps
