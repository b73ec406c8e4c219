use Rattle.std.proofs.Common.{◌<◌, length, sym, ◌∙◌, arith}
use Rattle.sync_thread.specs.Views.{code_tree}
use Rattle.sync_run.proofs.Rounds.{tree_long, visited_either}
use Rattle.sync_run.proofs.turns.visit.Goals as goal

pub returns-clause-leads : goal.returns-clause-leads
returns-clause-leads g c =
    let x = code_tree c.args.code.now in
    let thread : c.args.number < length x.threads = omega (arith, c.requires.known, tree_long c.args.code.now) in
    visited_either x c.args.made c.args.number (g.I.Interpreter.place c.args.code.now c.args.interpreter.now)
    (g.I.Interpreter.place c.args.code.now c.turn.new.interpreter) c.args.steps.now.items c.turn.new.steps.items c.turn.result
    thread (sym c.waits.ensures ∙ c.if-not-waits.false) c.turn.ensures.goes c.turn.ensures.counts c.requires.begins
