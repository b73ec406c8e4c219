-- The declared steps that moves stand for, and states that lists of declared steps lead to.
use Rattle.std.specs.Prelude.{◌≡◌, ℤ, List, [], ◌∷◌, filter_map, Option, Some, None}
use Rattle.sync_machine.specs.Machines.{OperationTree, MachineTree}
use Rattle.sync_machine.specs.States.{State, Steps, IsReached}
use Rattle.sync_join.specs.declared.tokens.Token.{Token}
use Rattle.sync_join.specs.Shards.{Kept, AreSoundShards}
use Rattle.sync_join.specs.Join.{join_of}
use Rattle.sync_exchange.specs.Moves.{Move, Exchange, Split, Merge, Copy}

-- an operation with its arguments
pub record Call : Type 0 where
  pub operation : OperationTree
  pub args : List ℤ

-- An exchange stands for its operation with its arguments, any other move for no step.
abbrev pub call_of : Move → Option Call
call_of (Exchange o args tokens given whole) = Some (record { operation = o; args = args })
call_of (Split name amount first second) = None
call_of (Merge a b into) = None
call_of (Copy name new) = None

abbrev pub calls_of : List Move → List Call
calls_of moves = filter_map call_of moves

-- From one state to another by exactly these declared steps, in order.
pub data Runs (m : MachineTree) : State → List Call → State → Type 0 where
  no_step : {s : State} → Runs m s [] s
  one_step : {s t u : State} {c : Call} {cs : List Call} → Steps m s c.operation c.args t → Runs m t cs u → Runs m s (c ∷ cs) u

-- These tokens and what is kept are the shards of a state that these declared steps lead to from s, and it is reached.
pub record RunsOn (m : MachineTree) (s : State) (calls : List Call) (bag : List Token) (kept : Kept) : Type 0 where
  pub sound : AreSoundShards m.fields bag kept
  pub state : State
  pub joined : join_of m.fields bag kept ≡ Some state
  pub run : Runs m s calls state
  pub reached : IsReached m state
