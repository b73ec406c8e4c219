use Rattle.std.proofs.Common.{◌≤◌}
use Rattle.sync_thread.specs.Views.{code_tree}
use Rattle.sync_run.specs.Turns.{IsInLast, LeadsOn}
use Rattle.sync_run.proofs.turns.last.Given as goal

abbrev pub invariant-loop-made : goal.invariant-loop-made
invariant-loop-made g l = g.I.Interpreter.is_of l.code l.interpreter
    × IsInLast (code_tree l.code) l.budget l.made (g.I.Interpreter.place l.code l.interpreter) l.steps.items
    × LeadsOn (code_tree l.code) (g.I.Interpreter.place l.code l.initial.interpreter) l.initial.steps.items
    (g.I.Interpreter.place l.code l.interpreter) l.steps.items
    × l.made ≤ l.budget
