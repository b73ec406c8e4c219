use Rattle.std.proofs.lemmas.Result.{err_from_is_err_and}
use Rattle.sync_thread.specs.Views.{code_tree}
use Rattle.sync_run.proofs.Rounds.{halted_on}
use Rattle.sync_run.proofs.turns.rounds.Goals as goal

pub returns-in_err-round-clause-leads : goal.returns-in_err-round-clause-leads
returns-in_err-round-clause-leads g c =
    let p = err_from_is_err_and c.from_residual.result c.from_residual.ensures.1 in
    rw (p.1, p.2) (halted_on (code_tree c.args.code.now) (g.I.Interpreter.place c.args.code.now c.args.interpreter.now)
    (g.I.Interpreter.place c.args.code.now c.loop-made.interpreter) c.args.steps.now.items c.loop-made.steps.items
    _ c.loop-made.invariant.2 c.in_err-round.ensures.leads)
