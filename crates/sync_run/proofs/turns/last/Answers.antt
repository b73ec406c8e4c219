use Rattle.std.proofs.Common.{◌≡◌, Err, sym, ◌∙◌, arith}
use Rattle.std.proofs.lemmas.Result.{err_from_is_err_and}
use Rattle.sync_thread.specs.Code.{code_meaning}
use Rattle.sync_thread.specs.Control.{Broken, event}
use Rattle.sync_thread.specs.Views.{code_tree}
use Rattle.sync_run.specs.Turns.{GetsStuck}
use Rattle.sync_run.proofs.Rounds.{tree_long, halted_on, halted_along, gets_stuck, last_more, last_on}
use Rattle.sync_run.proofs.turns.last.Goals as goal

pub returns-in_err-turn-clause-leads : goal.returns-in_err-turn-clause-leads
returns-in_err-turn-clause-leads g c =
    let p = err_from_is_err_and c.from_residual.result c.from_residual.ensures.1 in
    rw (p.1, p.2) (halted_on (code_tree c.args.code.now) (g.I.Interpreter.place c.args.code.now c.args.interpreter.now)
    (g.I.Interpreter.place c.args.code.now c.loop-made.interpreter) c.args.steps.now.items c.loop-made.steps.items
    _ c.loop-made.invariant.2
    (halted_along (event (code_meaning (code_tree c.args.code.now)) c.len-number.result (g.I.Interpreter.place c.args.code.now c.loop-made.interpreter) ≡ Err Broken)
    (GetsStuck (code_tree c.args.code.now) (g.I.Interpreter.place c.args.code.now c.loop-made.interpreter) c.loop-made.steps.items) _
    (gets_stuck (code_tree c.args.code.now) c.len-number.result (g.I.Interpreter.place c.args.code.now c.loop-made.interpreter) c.loop-made.steps.items)
    c.in_err-turn.ensures.goes))

pub loop-made-preserved : goal.loop-made-preserved
loop-made-preserved g c = (
  c.in_ok-turn.ensures.stays,
  last_more (code_tree c.args.code.now) c.args.budget c.loop-made.made c.len-number.result
      (g.I.Interpreter.place c.args.code.now c.loop-made.interpreter) (g.I.Interpreter.place c.args.code.now c.turn.new.interpreter)
      c.loop-made.steps.items c.turn.new.steps.items (c.len-number.ensures ∙ sym (tree_long c.args.code.now))
      (sym c.waits.ensures ∙ c.if-not-waits.false) c.in_ok-turn.ensures.goes c.in_ok-turn.ensures.counts c.loop-made.invariant.1,
  last_on (code_tree c.args.code.now) c.args.budget c.loop-made.made c.len-number.result
      (g.I.Interpreter.place c.args.code.now c.args.interpreter.now)
      (g.I.Interpreter.place c.args.code.now c.loop-made.interpreter) (g.I.Interpreter.place c.args.code.now c.turn.new.interpreter)
      c.args.steps.now.items c.loop-made.steps.items c.turn.new.steps.items (c.len-number.ensures ∙ sym (tree_long c.args.code.now))
      (sym c.waits.ensures ∙ c.if-not-waits.false) c.in_ok-turn.ensures.goes c.in_ok-turn.ensures.counts c.loop-made.invariant.1
      c.loop-made.invariant.2,
  omega (arith, c.loop-made-test.true),
)
