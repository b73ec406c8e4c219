-- The laws of moves by any holders.
use Rattle.std.specs.Prelude.{◌≡◌, ℕ, ℤ, Bool, List, [], ◌∷◌, length, Some, Ok}
use Rattle.std.specs.List.{Contains}
use Rattle.sync_machine.specs.Machines.{OperationTree, MachineTree}
use Rattle.sync_machine.specs.States.{State, IsInit, Starts, IsReached}
use Rattle.sync_join.specs.declared.tokens.Token.{Token}
use Rattle.sync_join.specs.Shards.{Kept, AreSoundShards}
use Rattle.sync_join.specs.Join.{join_of}
use Rattle.sync_exchange.specs.declared.hands.Held.{Held}
use Rattle.sync_exchange.specs.Exchange.{Exchanged, exchange_in, tokens_in}
use Rattle.sync_exchange.specs.Projection.{AreNames, ArePermissions, AreBlank, IsProved}
use Rattle.sync_exchange.specs.Moves.{Move, Holders, all_tokens, AreApart, IsMove, AreMoves}
use Rattle.sync_exchange.specs.Runs.{Call, calls_of, RunsOn}

-- A move leaves the names of each hand apart, whatever the bound of numbers.
abbrev pub NamesStayApart : Type 0
NamesStayApart = (fits : ℤ → Bool) (m : MachineTree) (move : Move) (old new : Holders) → IsMove fits m old move new
    → AreApart old.hands → AreApart new.hands

-- Where all tokens, the loose ones too, with what is kept are the shards of a reached state of a machine, a list of moves
-- leads to shards of a state that the list's exchanges lead to as declared steps.
abbrev pub MovesAreStepsOf : (ℤ → Bool) → MachineTree → Type 0
MovesAreStepsOf fits m = (moves : List Move) (old new : Holders) → AreMoves fits m old moves new
    → AreApart old.hands → AreSoundShards m.fields (all_tokens old) old.kept
    → (s : State) → join_of m.fields (all_tokens old) old.kept ≡ Some s → IsReached m s
    → RunsOn m s (calls_of moves) (all_tokens new) new.kept × AreApart new.hands

-- so of every proved machine, whatever the bound of numbers
abbrev pub MovesAreSteps : Type 0
MovesAreSteps = (fits : ℤ → Bool) (m : MachineTree) → IsProved m → MovesAreStepsOf fits m

-- a declared start of this operation, from which these calls lead, as declared steps, to a state of which these are the shards
pub record RunsFromStart (m : MachineTree) (o : OperationTree) (args : List ℤ) (calls : List Call) (bag : List Token) (kept : Kept) : Type 0 where
  pub first : State
  pub start : Starts m o args first
  pub on : RunsOn m first calls bag kept

-- The exchange of an init by a holder of permissions alone, where nothing is recorded or stored, and then any list of moves:
-- the list leads to shards of a state that the list's exchanges lead to, as declared steps, from a declared start.
abbrev pub StartsGoOnOf : (ℤ → Bool) → MachineTree → Type 0
StartsGoOnOf fits m = (o : OperationTree) → Contains m.ops o → IsInit o → (args : List ℤ) → length args ≡ length o.params
    → (tokens given : List ℕ) (hand : List Held) → AreNames m.fields o tokens given hand
    → ArePermissions (tokens_in hand) → (kept : Kept) → AreBlank m.fields kept.records → kept.stored ≡ []
    → (whole : State) (x : Exchanged) → exchange_in fits m.fields o args tokens given whole hand kept ≡ Ok x
    → (moves : List Move) (new : Holders) → AreMoves fits m (record { hands = x.hand ∷ []; loose = []; kept = x.kept }) moves new
    → RunsFromStart m o args (calls_of moves) (all_tokens new) new.kept × AreApart new.hands

-- so of every proved machine, whatever the bound of numbers
abbrev pub StartsGoOn : Type 0
StartsGoOn = (fits : ℤ → Bool) (m : MachineTree) → IsProved m → StartsGoOnOf fits m
