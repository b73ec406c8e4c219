use Rattle.std.proofs.Common.{◌≤◌, length}
use Rattle.sync_thread.specs.Views.{code_tree}
use Rattle.sync_run.specs.Turns.{IsInRound, LeadsOn}
use Rattle.sync_run.proofs.turns.round.Given as goal

abbrev pub invariant-loop-number : goal.invariant-loop-number
invariant-loop-number g l = g.I.Interpreter.is_of l.code l.interpreter
    × IsInRound (code_tree l.code) l.made l.number (g.I.Interpreter.place l.code l.interpreter) l.steps.items
    × LeadsOn (code_tree l.code) (g.I.Interpreter.place l.code l.initial.interpreter) l.initial.steps.items
    (g.I.Interpreter.place l.code l.interpreter) l.steps.items
    × l.number ≤ length l.code.threads
