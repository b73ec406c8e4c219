use Rattle.std.proofs.lemmas.Result.{err_from_is_err_and}
use Rattle.std.proofs.Common.{sym, ◌∙◌}
use Rattle.sync_terms.specs.Stored.{formula}
use Rattle.sync_entries.specs.Narrow.{is_narrow}
use Rattle.sync_exchange.specs.Works.{now_of}
use Rattle.sync_exchange.proofs.Acting.{require-stop, require-false, require-true}
use Rattle.sync_exchange.proofs.works.Work.require.Goals as goal

pub returns-in_err-truth : goal.returns-in_err-truth
returns-in_err-truth c =
    let case = c.args.case.now in
    let p = err_from_is_err_and c.from_residual.result c.from_residual.ensures.1 in
    rw (p.1, p.2) (require-stop is_narrow case.outer.fields.now c.args.line (now_of case c.args.self.now) (formula case.m.now.terms c.args.form) _ c.in_err-truth.ensures)

pub returns-then-not-branch : goal.returns-then-not-branch
returns-then-not-branch c =
    let case = c.args.case.now in
    require-false is_narrow case.outer.fields.now c.args.line (now_of case c.args.self.now) (formula case.m.now.terms c.args.form) c.in_ok-truth.ensures.0 (sym c.in_ok-truth.ensures.1 ∙ c.if-not-branch.true)

pub returns : goal.returns
returns c =
    let case = c.args.case.now in
    require-true is_narrow case.outer.fields.now c.args.line (now_of case c.args.self.now) (formula case.m.now.terms c.args.form) c.in_ok-truth.ensures.0 (sym c.in_ok-truth.ensures.1 ∙ c.if-not-branch.false)
