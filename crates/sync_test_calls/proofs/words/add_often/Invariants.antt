-- The seat stays, whatever it adds.
use Rattle.sync_words.specs.Views.{IsSameSeat}
use Rattle.sync_words.specs.Names.{view, Belongs}
use Rattle.sync_test_calls.proofs.words.add_often.Given as goal

abbrev pub invariant-loop-i : goal.invariant-loop-i
invariant-loop-i l = Belongs l.words l.seat × IsSameSeat (view l.initial.seat) (view l.seat)
