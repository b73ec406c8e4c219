use Rattle.std.proofs.Common.{◌≡◌, ℕ, ◌<◌, false}
use Rattle.sync_thread.specs.Control.{waits_at}
use Rattle.sync_thread_events.specs.Moments.{config_of}
use Rattle.sync_run.proofs.runs.how_ended.Given as goal

abbrev pub invariant-loop-number : goal.invariant-loop-number
invariant-loop-number l = (u : ℕ) → u < l.number → waits_at u (config_of l.code l.moment).places ≡ false
