-- What the guards of an operation show: the cells and the contents of stored objects, which stay where they are.
use Rattle.std.specs.Prelude.{◌≡◌, ℕ, ◌≤◌, ℤ, Bool, true, List, ◌++◌, length, filter_map, ◌⊎◌, Option, Some, None, Ok}
use Rattle.std.specs.List.{AllByRecursion, Contains}
use Rattle.sync_terms.specs.Values.{Valuation}
use Rattle.sync_machine.specs.declared.fields.Field.{Field}
use Rattle.sync_base.specs.declared.strategies.OpMode.TheVariants as mode
use Rattle.sync_machine.specs.Machines.{ActTree, StepTree, OperationTree, MachineTree}
use Rattle.sync_machine.specs.Machines as acts
use Rattle.sync_machine.specs.States.{State, IsReached}
use Rattle.sync_rules.specs.Plain.{is_plain}
use Rattle.sync_join.specs.declared.tokens.Token.{Token}
use Rattle.sync_join.specs.Shards.{Kept, AreSoundShards}
use Rattle.sync_join.specs.Join.{join_of}
use Rattle.sync_exchange.specs.declared.hands.Held.{Held}
use Rattle.sync_exchange.specs.Exchange.{Exchanged, tokens_in, token_of, stored_at, exchange_in}
use Rattle.sync_exchange.specs.Projection.{AreNames, IsProved}
use Rattle.sync_exchange_laws.specs.Conditions.{valuation_at}
use Rattle.sync_exchange_laws.specs.Permissions.{stored_often}
use Rattle.sync_exchange_laws.specs.Along.{key_under, value_under}

-- the stored object that a guard shows: its key is a cell's number, and its value is the cell's content
abbrev pub shown_by : Valuation → ActTree → Option Token
shown_by v (acts.Guard f p) = Some (token_of f (key_under v p) (value_under v p))
shown_by v (acts.Init f t) = None
shown_by v (acts.Require form) = None
shown_by v (acts.Assert form) = None
shown_by v (acts.Update f t) = None
shown_by v (acts.HaveVariable f) = None
shown_by v (acts.Add f p) = None
shown_by v (acts.Remove f p) = None
shown_by v (acts.Have f p) = None
shown_by v (acts.Deposit f p) = None
shown_by v (acts.Withdraw f p) = None

abbrev pub shown : Valuation → List StepTree → List Token
shown v ss = filter_map (λ (s : StepTree). shown_by v s.act) ss

-- what an operation guards at a state, with these arguments and these values of the names that it binds
abbrev pub guarded : List Field → State → OperationTree → List ℤ → List ℤ → List Token
guarded fs s o args bound = shown (valuation_at fs s o args bound) o.steps

-- The object is stored at its key, with its value. So its content is there at least once.
pub record IsShown (kept : Kept) (t : Token) : Type 0 where
  pub there : stored_at t.field t.key kept.stored ≡ Some t.value
  pub counted : 1 ≤ stored_often t.key t.value kept.stored

-- Under what the theorem of sharding asks, the exchange of a property that succeeds leaves what is kept as it was,
-- and all that it guards is stored.
abbrev pub PropertiesShowGuards : Type 0
PropertiesShowGuards = (fits : ℤ → Bool) (m : MachineTree) → IsProved m → (o : OperationTree) → Contains m.ops o
    → o.mode ≡ mode.Property
    → (args : List ℤ) → length args ≡ length o.params
    → (tokens given : List ℕ) (hand : List Held) → AreNames m.fields o tokens given hand
    → (others : List Token) (kept : Kept) → AreSoundShards m.fields (tokens_in hand ++ others) kept
    → (s : State) → join_of m.fields (tokens_in hand ++ others) kept ≡ Some s → IsReached m s
    → (whole : State) → (whole ≡ s) ⊎ (is_plain m.fields o ≡ true)
    → (x : Exchanged) → exchange_in fits m.fields o args tokens given whole hand kept ≡ Ok x
    → (x.kept ≡ kept) × AllByRecursion (IsShown kept) (guarded m.fields s o args x.bound)
