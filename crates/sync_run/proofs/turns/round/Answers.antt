use Rattle.std.proofs.Common.{◌≡◌, length, arith}
use Rattle.std.proofs.lemmas.Result.{err_from_is_err_and}
use Rattle.sync_thread.specs.Views.{code_tree}
use Rattle.sync_run.proofs.Rounds.{tree_long, halted_on, round_ends}
use Rattle.sync_run.proofs.turns.round.Goals as goal

pub returns-in_err-visit-clause-leads : goal.returns-in_err-visit-clause-leads
returns-in_err-visit-clause-leads g c =
    let p = err_from_is_err_and c.from_residual.result c.from_residual.ensures.1 in
    rw (p.1, p.2) (halted_on (code_tree c.args.code.now) (g.I.Interpreter.place c.args.code.now c.args.interpreter.now)
    (g.I.Interpreter.place c.args.code.now c.loop-number.interpreter) c.args.steps.now.items c.loop-number.steps.items
    _ c.loop-number.invariant.2 c.in_err-visit.ensures.leads)

pub returns-clause-ends : goal.returns-clause-ends
returns-clause-ends g c =
    let x = code_tree c.args.code.now in
    let last : c.loop-number.number ≡ length x.threads = omega (arith, c.loop-number.invariant.3, c.loop-number-test.false, tree_long c.args.code.now, c.len-number-end.ensures) in
    round_ends x c.args.made c.loop-number.number (g.I.Interpreter.place c.args.code.now c.loop-number.interpreter)
    c.loop-number.steps.items last c.loop-number.invariant.1
