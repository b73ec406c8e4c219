use Rattle.std.proofs.Common.{◌≡◌, ◌-◌}
use Rattle.std.specs.HashMap.{get}
use Rattle.std.specs.List.{list_all, range_with_len}
use Rattle.sync_typing_paths.specs.Deeds.{is_once, same_deed, seals}
use Rattle.sync_typing_paths.proofs.deeds.has_seals.Given as goal

abbrev pub invariant-loop-at : goal.invariant-loop-at
invariant-loop-at l =
    list_all (λ i. is_once (get same_deed l.deeds (seals l.word.name i))) (range_with_len l.at (l.word.len - l.at))
    ≡ list_all (λ i. is_once (get same_deed l.deeds (seals l.word.name i))) (range_with_len 0 l.word.len)
