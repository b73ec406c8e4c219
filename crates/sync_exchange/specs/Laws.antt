-- Laws of exchanges.
use Rattle.std.specs.Prelude.{◌≡◌, ℕ, ℤ, Bool, List, Err}
use Rattle.sync_machine.specs.declared.fields.Field.{Field}
use Rattle.sync_machine.specs.Machines.{OperationTree}
use Rattle.sync_machine.specs.States.{State}
use Rattle.sync_join.specs.Shards.{Kept}
use Rattle.sync_exchange.specs.declared.hands.Held.{Held}
use Rattle.sync_exchange.specs.declared.hands.XStop.TheVariants.{Width}
use Rattle.sync_exchange.specs.Exchange.{exchange_in, exchange_of}

-- Where a bound on numbers is not left, it makes no difference.
abbrev pub BoundAlone : Type 0
BoundAlone = (fits : ℤ → Bool) (fs : List Field) (o : OperationTree) (args : List ℤ) (tokens given : List ℕ) (whole : State) (hand : List Held) (kept : Kept)
    → (exchange_in fits fs o args tokens given whole hand kept ≡ Err Width → ⊥)
    → exchange_in fits fs o args tokens given whole hand kept ≡ exchange_of fs o args tokens given whole hand kept
