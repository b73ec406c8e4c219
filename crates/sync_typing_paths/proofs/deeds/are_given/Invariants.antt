use Rattle.std.proofs.Common.{◌≡◌, drop, map}
use Rattle.std.specs.HashMap.{get}
use Rattle.std.specs.List.{list_all}
use Rattle.sync_thread.specs.declared.program.Thread.{Thread}
use Rattle.sync_typing_paths.specs.Deeds.{gives, is_once, same_deed}
use Rattle.sync_typing_paths.proofs.deeds.are_given.Given as goal

abbrev pub invariant-loop-thread : goal.invariant-loop-thread
invariant-loop-thread l =
    list_all (λ n. is_once (get same_deed l.deeds (gives n))) (map (λ (t : Thread). t.name) (drop l.thread-index l.threads))
    ≡ list_all (λ n. is_once (get same_deed l.deeds (gives n))) (map (λ (t : Thread). t.name) l.threads)
