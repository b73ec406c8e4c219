use Rattle.std.proofs.Common.{[], drop, take}
use Rattle.sync_typing.specs.Environments.{hand_after}
use Rattle.sync_typing_places.specs.Places.{env_of, named_tokens, with_hand, Becomes}
use Rattle.sync_typing_places.proofs.places.Place.take_in.Given as goal

abbrev pub invariant-loop-number : goal.invariant-loop-number
invariant-loop-number l =
    Becomes l.terms l.terms l.fn.self l.self
    (with_hand (env_of l.terms l.fn.self) (env_of l.terms l.fn.self).terms
    (hand_after (take l.number-index l.gone) [] (env_of l.terms l.fn.self).hand))

abbrev pub invariant-loop-i : goal.invariant-loop-i
invariant-loop-i l =
    Becomes l.terms l.terms l.fn.self l.self
    (with_hand (env_of l.terms l.fn.self) (env_of l.terms l.fn.self).terms
    (hand_after l.gone (named_tokens l.terms (drop l.i l.new)) (env_of l.terms l.fn.self).hand))
