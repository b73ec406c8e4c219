use Rattle.std.proofs.Common.{◌≡◌, List, Result}
use Rattle.std.proofs.lemmas.Result.{err_from_is_err_and}
use Rattle.sync_base.specs.declared.stops.Rule.{Rule}
use Rattle.sync_terms.specs.Trees.{Formula}
use Rattle.sync_kernel_facts.specs.Facts.{Fact, newest}
use Rattle.sync_kernel_facts.specs.Branches.{facts_in}
use Rattle.sync_kernel_facts.specs.Literals.{literal_form}
use Rattle.sync_kernel.specs.Readings.{trees_read}
use Rattle.sync_kernel.specs.Taking.{instance}
use Rattle.sync_kernel.specs.Scripts.{with_fact, fitting, with_instance}
use Rattle.sync_kernel.specs.Holding.{Leaves}
use Rattle.sync_kernel.proofs.Fitting.{AreSaid-more}
use Rattle.sync_kernel.proofs.Stepping.{leaves_err, made_err, made_ok, made_literal}
use Rattle.sync_kernel.proofs.Adding.{leaves_from}
use Rattle.sync_kernel.proofs.steps.inst.Goals as goal

pub returns-in_err-says-clause-leaves : goal.returns-in_err-says-clause-leaves
returns-in_err-says-clause-leaves c =
    let s = c.args.terms.now in
    let t = c.instance.new.terms in
    let fs = facts_in s c.args.branch.now in
    let q = err_from_is_err_and c.from_residual.result c.from_residual.ensures.1 in
    leaves_err c.args.line (λ _ known. facts_in t c.args.branch.now ≡ known) c.from_residual.result c.in_err-says.field-0.0 (with_instance fs c.args.hyp (trees_read s c.args.names.now c.args.list.now) c.args.name) (cc)
    (made_err t c.args.line c.in_err-says.field-0.0 (instance (newest c.args.hyp fs) (trees_read s c.args.names.now c.args.list.now)) fs c.args.name c.in_err-says.ensures.makes)

pub add-requires-clause-branch : goal.add-requires-clause-branch
add-requires-clause-branch c = AreSaid-more c.args.terms.now c.instance.new.terms c.args.branch.now c.instance.ensures.keeps c.requires.branch

pub add-requires-clause-says : goal.add-requires-clause-says
add-requires-clause-says c =
    made_literal c.instance.new.terms c.args.line c.in_ok-says.says (instance (newest c.args.hyp (facts_in c.args.terms.now c.args.branch.now)) (trees_read c.args.terms.now c.args.names.now c.args.list.now)) c.in_ok-says.ensures.makes

pub returns-clause-leaves : goal.returns-clause-leaves
returns-clause-leaves c =
    let s = c.args.terms.now in
    let t = c.instance.new.terms in
    let fs = facts_in s c.args.branch.now in
    made_ok t c.args.line c.in_ok-says.says (instance (newest c.args.hyp fs) (trees_read s c.args.names.now c.args.list.now)) (λ (f : Formula). fitting (with_fact fs c.args.name f))
    (λ (w : Result (List Fact) Rule). Leaves c.args.line c.add.result (λ _ known. facts_in t c.add.new.branch ≡ known) w) c.in_ok-says.ensures.makes
    (leaves_from s t c.args.branch.now c.add.new.branch c.args.line c.args.name (literal_form t c.in_ok-says.says) c.add.result c.instance.ensures.keeps c.requires.branch c.add.ensures.leaves)
