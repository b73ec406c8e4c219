-- What an init leaves is a beginning of lists of moves.
use Rattle.std.proofs.Common.{◌≡◌, List, [], ◌∷◌, ◌++◌, sym, ap, subst, ◌∙◌, append-nil}
use Rattle.sync_machine.specs.States.{starts}
use Rattle.sync_join.specs.declared.tokens.Token.{Token}
use Rattle.sync_join.specs.Shards.{AreSoundShards}
use Rattle.sync_join.specs.Join.{join_of}
use Rattle.sync_exchange.specs.Exchange.{tokens_in}
use Rattle.sync_exchange.proofs.Projecting.{initialises}
use Rattle.sync_exchange.specs.Moves.{bag_of}
use Rattle.sync_exchange.specs.MoveLaws.{StartsGoOn}
use Rattle.sync_exchange.proofs.MovesExchanging.{apart-exchange}
use Rattle.sync_exchange.proofs.Moving.{moves-are-steps}

pub starts-go-on : StartsGoOn
starts-go-on fits m proved o declared init args enough tokens given hand names permissions kept blank stored whole x is moves new list =
    let begins = initialises fits m proved o declared init args enough tokens given hand names permissions kept blank stored whole x is in
    let alone : bag_of (x.hand ∷ []) [] ≡ tokens_in x.hand = append-nil (tokens_in x.hand ++ []) ∙ append-nil (tokens_in x.hand) in
    let apart = apart-exchange fits m.fields o args tokens given whole hand kept names x is in
    let on = moves-are-steps fits m proved moves (record { hands = x.hand ∷ []; loose = []; kept = x.kept }) new list (apart, tt)
    (subst (λ (ts : List Token). AreSoundShards m.fields ts x.kept) (sym alone) begins.sound)
    begins.state (ap (λ (ts : List Token). join_of m.fields ts x.kept) alone ∙ begins.joined) (starts o args begins.start) in (
      record { first = begins.state; start = begins.start; on = on.0 },
      on.1,
    )
