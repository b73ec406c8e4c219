use Rattle.std.proofs.Common.{◌≡◌, ℕ, ◌<◌, false}
use Rattle.sync_thread.specs.Control.{waits_at}
use Rattle.sync_run.proofs.turns.thread_waits.Given as goal

abbrev pub invariant-loop-number : goal.invariant-loop-number
invariant-loop-number g l =
    (t : ℕ) → t < l.number → waits_at t (g.I.Interpreter.place l.code l.interpreter).places ≡ false
