use Rattle.std.proofs.Common.{◌+◌, ap, arith, subst, sym, ◌∙◌}
use Rattle.sync_terms.specs.Trees.{tree_size, formula_size}
use Rattle.sync_terms.specs.Building.{StopsBuilding}
use Rattle.sync_terms.proofs.Extending.{Extends-trans}
use Rattle.sync_terms.proofs.BuildingLemmas.{BuildsForm-same, BuildsForm-stop, HasTerm-more, StopsBuilding-more}
use Rattle.sync_typing_reading.proofs.Staying.{AreSaidOf-more}
use Rattle.sync_kernel_facts.specs.Lemmas.{cong_fact}
use Rattle.sync_kernel.specs.MapFacts.{map_form, HasMapIds}
use Rattle.sync_kernel.specs.Readings.{tree_read}
use Rattle.sync_kernel.proofs.Pairing.{tree_read-more}
use Rattle.sync_kernel.proofs.Reading.{cong_fits, read_fits, size_fits, total_fits}
use Rattle.sync_kernel.proofs.steps.built.Goals as goal

pub returns-in_err-at-in-Read-clause-built : goal.returns-in_err-at-in-Read-clause-built
returns-in_err-at-in-Read-clause-built c =
    let read = tree_read c.args.terms.now c.args.names.now in
    let i = c.in-Read in
    let e = c.in_err-at-in-Read.field-0.0 in
    let stop = StopsBuilding-more e c.in_err-at-in-Read.ensures.stop (read_fits (read i.map) (read i.key)) in
    BuildsForm-stop e c.from_residual.result c.from_residual.ensures.1
    (subst (λ f. StopsBuilding (formula_size (map_form read f)) e) (sym i.is) stop)

pub returns-in_ok-at-in-Read-clause-keeps : goal.returns-in_ok-at-in-Read-clause-keeps
returns-in_ok-at-in-Read-clause-keeps c = Extends-trans c.read_both.ensures.keeps c.read_fact.ensures.keeps

pub returns-in_err-at-in-Size-clause-built : goal.returns-in_err-at-in-Size-clause-built
returns-in_err-at-in-Size-clause-built c =
    let read = tree_read c.args.terms.now c.args.names.now in
    let i = c.in-Size in
    let e = c.in_err-at-in-Size.field-0.0 in
    let stop = StopsBuilding-more e c.in_err-at-in-Size.ensures.stop (size_fits (read i.map) (read i.key)) in
    BuildsForm-stop e c.from_residual-in_err-at-in-Size.result c.from_residual-in_err-at-in-Size.ensures.1
    (subst (λ f. StopsBuilding (formula_size (map_form read f)) e) (sym i.is) stop)

pub returns-in_ok-at-in-Size-clause-keeps : goal.returns-in_ok-at-in-Size-clause-keeps
returns-in_ok-at-in-Size-clause-keeps c = Extends-trans c.read_both-in-Size.ensures.keeps c.size_fact.ensures.keeps

pub returns-in_err-at-in-Total-clause-built : goal.returns-in_err-at-in-Total-clause-built
returns-in_err-at-in-Total-clause-built c =
    let read = tree_read c.args.terms.now c.args.names.now in
    let i = c.in-Total in
    let e = c.in_err-at-in-Total.field-0.0 in
    let stop = StopsBuilding-more e c.in_err-at-in-Total.ensures.stop (total_fits (read i.map) (read i.key)) in
    BuildsForm-stop e c.from_residual-in_err-at-in-Total.result c.from_residual-in_err-at-in-Total.ensures.1
    (subst (λ f. StopsBuilding (formula_size (map_form read f)) e) (sym i.is) stop)

pub returns-in_ok-at-in-Total-clause-keeps : goal.returns-in_ok-at-in-Total-clause-keeps
returns-in_ok-at-in-Total-clause-keeps c = Extends-trans c.read_both-in-Total.ensures.keeps c.total_fact.ensures.keeps

pub returns-in_err-at-in-Cong-clause-built : goal.returns-in_err-at-in-Cong-clause-built
returns-in_err-at-in-Cong-clause-built c =
    let read = tree_read c.args.terms.now c.args.names.now in
    let i = c.in-Cong in
    let e = c.in_err-at-in-Cong.field-0.0 in
    let all = cong_fits (read i.map) (read i.left) (read i.right) in
    let stop = StopsBuilding-more e c.in_err-at-in-Cong.ensures.built.stop (omega (arith, all)) in
    BuildsForm-stop e c.from_residual-in_err-at-in-Cong.result c.from_residual-in_err-at-in-Cong.ensures.1
    (subst (λ f. StopsBuilding (formula_size (map_form read f)) e) (sym i.is) stop)

pub read_both-requires-in-Cong-clause-said : goal.read_both-requires-in-Cong-clause-said
read_both-requires-in-Cong-clause-said c = AreSaidOf-more c.read_term.ensures.keeps c.args.names.now c.requires.said

pub returns-in_err-keys-in-Cong-clause-built : goal.returns-in_err-keys-in-Cong-clause-built
returns-in_err-keys-in-Cong-clause-built c =
    let s = c.args.terms.now in
    let k = c.args.names.now in
    let t = c.read_term.new.terms in
    let read = tree_read s k in
    let i = c.in-Cong in
    let e = c.in_err-keys-in-Cong.field-0.0 in
    let ids = subst (HasMapIds s) i.is c.requires.fact in
    let all = cong_fits (read i.map) (read i.left) (read i.right) in
    let left = tree_read-more s t k i.left c.read_term.ensures.keeps c.requires.said ids.1 in
    let right = tree_read-more s t k i.right c.read_term.ensures.keeps c.requires.said ids.2 in
    let stop = subst (λ n. StopsBuilding n e) (λ j. tree_size (left j) + tree_size (right j)) c.in_err-keys-in-Cong.ensures.stop in
    BuildsForm-stop e c.from_residual-in_err-keys-in-Cong.result c.from_residual-in_err-keys-in-Cong.ensures.1
    (subst (λ f. StopsBuilding (formula_size (map_form read f)) e) (sym i.is) (StopsBuilding-more e stop (omega (arith, all))))

pub returns-in_err-keys-in-Cong-clause-keeps : goal.returns-in_err-keys-in-Cong-clause-keeps
returns-in_err-keys-in-Cong-clause-keeps c = Extends-trans c.read_term.ensures.keeps c.read_both-in-Cong.ensures.keeps

pub returns-in_ok-keys-in-Cong-clause-built : goal.returns-in_ok-keys-in-Cong-clause-built
returns-in_ok-keys-in-Cong-clause-built c =
    let s = c.args.terms.now in
    let k = c.args.names.now in
    let t = c.read_term.new.terms in
    let read = tree_read s k in
    let i = c.in-Cong in
    let ids = subst (HasMapIds s) i.is c.requires.fact in
    let map = HasTerm-more c.in_ok-at-in-Cong.ensures.built.value c.read_both-in-Cong.ensures.keeps in
    let left = c.in_ok-keys-in-Cong.ensures.left.value ∙ tree_read-more s t k i.left c.read_term.ensures.keeps c.requires.said ids.1 in
    let right = c.in_ok-keys-in-Cong.ensures.right.value ∙ tree_read-more s t k i.right c.read_term.ensures.keeps c.requires.said ids.2 in
    BuildsForm-same c.cong_fact.ensures.built ((λ j. cong_fact (map.value j) (left j) (right j)) ∙ ap (map_form read) (sym i.is))

pub returns-in_ok-keys-in-Cong-clause-keeps : goal.returns-in_ok-keys-in-Cong-clause-keeps
returns-in_ok-keys-in-Cong-clause-keeps c = Extends-trans c.read_term.ensures.keeps (Extends-trans c.read_both-in-Cong.ensures.keeps c.cong_fact.ensures.keeps)
