use Rattle.std.proofs.lemmas.Result.{err_from_is_err_and}
use Rattle.sync_terms.specs.Stored.{tree}
use Rattle.sync_entries.specs.Narrow.{is_narrow}
use Rattle.sync_join.specs.Views.{value_tree}
use Rattle.sync_exchange.specs.Works.{now_of}
use Rattle.sync_exchange.proofs.Acting.{update-stop, update-done}
use Rattle.sync_exchange.proofs.works.Work.update.Goals as goal

pub returns-in_err-value : goal.returns-in_err-value
returns-in_err-value c = λ line.
    let case = c.args.case.now in
    let p = err_from_is_err_and c.from_residual.result c.from_residual.ensures.1 in
    rw (p.1, p.2) (update-stop is_narrow case.outer.fields.now line (now_of case c.args.self.now) c.args.field (tree case.m.now.terms c.args.t) _ c.in_err-value.ensures)

pub returns : goal.returns
returns c = λ line.
    let case = c.args.case.now in
    update-done is_narrow case.outer.fields.now line (now_of case c.args.self.now) c.args.field (tree case.m.now.terms c.args.t) (value_tree c.in_ok-value.value) _
    c.in_ok-value.ensures.0 c.in_ok-value.ensures.1 c.in_ok-change.ensures
