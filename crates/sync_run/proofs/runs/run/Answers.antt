use Rattle.std.proofs.Common.{refl}
use Rattle.std.proofs.lemmas.Result.{err_from_is_err_and}
use Rattle.sync_thread.specs.Views.{code_tree}
use Rattle.sync_run.proofs.Told.{not_started, told}
use Rattle.sync_run.proofs.runs.run.Goals as goal

pub returns-in_err-moment : goal.returns-in_err-moment
returns-in_err-moment g c =
    let p = err_from_is_err_and c.from_residual.result c.from_residual.ensures.1 in
    rw (p.1, p.2) (not_started (code_tree c.args.code.now) _ c.in_err-moment.ensures.starts)

pub returns : goal.returns
returns g c = told c.args.code.now c.args.budget c.run_in_turn.new.interpreter c.in_ok-steps.steps.items _ c.in_ok-steps.ensures.runs
    refl refl refl refl c.how_ended-ended.ensures
