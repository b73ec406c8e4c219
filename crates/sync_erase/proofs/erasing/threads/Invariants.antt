use Rattle.std.proofs.Common.{◌≡◌, ◌++◌, drop, map}
use Rattle.sync_terms.specs.Stored.{Stored}
use Rattle.sync_thread.specs.Code.{code_thread}
use Rattle.sync_thread.specs.Views.{code_thread_tree, thread_tree}
use Rattle.sync_erase.proofs.erasing.threads.Given as goal

abbrev pub invariant-loop-thread : goal.invariant-loop-thread
invariant-loop-thread l =
    (s : Stored) → map code_thread_tree l.code ++ map (λ t. code_thread (thread_tree s t)) (drop l.thread-index l.threads) ≡ map (λ t. code_thread (thread_tree s t)) l.threads
