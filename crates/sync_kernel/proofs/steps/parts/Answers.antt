use Rattle.std.proofs.Common.{◌≡◌, Result, sym, subst}
use Rattle.std.proofs.lemmas.Result.{err_from_is_err_and}
use Rattle.sync_base.specs.Outcome.{◌>>=◌}
use Rattle.sync_base.specs.declared.stops.Rule.{Rule}
use Rattle.sync_kernel_facts.specs.declared.literals.Literal.{Literal}
use Rattle.sync_kernel_facts.specs.Facts.{Fact, newest}
use Rattle.sync_kernel_facts.specs.Branches.{facts_in}
use Rattle.sync_kernel_facts.specs.Literals.{literal_form, IsLiteral}
use Rattle.sync_kernel.specs.Pairs.{pair_forms}
use Rattle.sync_kernel.specs.Taking.{Two, parts_of, plain_fact, taken}
use Rattle.sync_kernel.specs.Scripts.{with_fact, fitting, with_parts}
use Rattle.sync_kernel.specs.Holding.{StopsFor}
use Rattle.sync_kernel.proofs.Stepping.{leaves_err, behind_first}
use Rattle.sync_kernel.proofs.Adding.{still_stops, parts_taken}
use Rattle.sync_kernel.proofs.steps.parts.Goals as goal

pub returns-in_err-add-clause-leaves : goal.returns-in_err-add-clause-leaves
returns-in_err-add-clause-leaves c =
    let s = c.args.terms.now in
    let fs = facts_in s c.args.branch.now in
    let forms = pair_forms s c.in-Some.pair in
    let q = err_from_is_err_and c.from_residual-in_err-add.result c.from_residual-in_err-add.ensures.1 in
    leaves_err c.args.line (λ _ known. facts_in s c.add.new.branch ≡ known) c.from_residual-in_err-add.result c.in_err-add.field-0.0 (with_parts fs c.args.hyp c.args.left c.args.right) (cc)
    (behind_first c.args.line (λ (l : Literal) (f : Fact). (literal_form s l ≡ f.form) × IsLiteral s l) c.in_ok-says.says (plain_fact (newest c.args.hyp fs))
    (λ (f : Fact). taken (parts_of f.form) >>= (λ (t : Two). fitting (with_fact (with_fact fs c.args.left t.left) c.args.right t.right)))
    (StopsFor c.args.line c.in_err-add.field-0.0) c.in_ok-says.ensures
    (λ f p. subst (λ (r : Result Two Rule). StopsFor c.args.line c.in_err-add.field-0.0 (r >>= (λ (t : Two). fitting (with_fact (with_fact fs c.args.left t.left) c.args.right t.right))))
    (sym (parts_taken s c.in_ok-says.says c.in-Some.pair f c.parts_of.result p.0 c.parts_of.ensures.pair c.in-Some.is))
    (still_stops c.args.line c.in_err-add.field-0.0 fs c.args.left c.args.right forms.left forms.right c.in_err-add.ensures.leaves)))
