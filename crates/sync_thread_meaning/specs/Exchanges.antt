-- What an exchange does to the tokens of a thread, with the state that all shards make.
use Rattle.std.specs.Prelude.{ℕ, ℤ, pos, Bool, true, false, ◌&&◌, ◌||◌, if◌then◌else◌, nat_lt, List, [], ◌∷◌, length}
use Rattle.std.specs.Prelude.{slice_get, slice_index_or, Option, Some, None, Result, Ok, Err}
use Rattle.std.specs.List.{list_all}
use Rattle.std.specs.Ordering.{int_eq}
use Rattle.sync_base.specs.Outcome.{◌>>=◌}
use Rattle.sync_terms.specs.Trees.{Tree, Get}
use Rattle.sync_terms.specs.Maps as maps
use Rattle.sync_terms.specs.Values.{Valuation, num, with_value}
use Rattle.sync_machine.specs.declared.fields.Field.{Field}
use Rattle.sync_exchange.specs.declared.hands.XStop.{XStop}
use Rattle.sync_exchange.specs.declared.hands.XStop.TheVariants as stop
use Rattle.sync_thread.specs.declared.operands.WordOp.TheVariants as op
use Rattle.sync_machine.specs.Machines.{StepTree, OperationTree, ActTree, PlaceTree}
use Rattle.sync_machine.specs.Machines as acts
use Rattle.sync_machine.specs.Statements.{key_of, binds, safety}
use Rattle.sync_machine.specs.Tests.{is_met}
use Rattle.sync_machine.specs.States.{Value, Number, Mapped, State, strategy_of, current_of, advanced, first_values}
use Rattle.sync_join.specs.Join.{join_of, number_of, entries_of}
use Rattle.sync_exchange_values.specs.Fitting.{values_fit}
use Rattle.sync_exchange.specs.Exchange.{argument, exchange_in, Exchanged}
use Rattle.sync_rules.specs.Plain.{is_plain}
use Rattle.sync_thread.specs.Control.{Halt, Broken, Wide}
use Rattle.sync_thread.specs.Programs.{DoTree, Assert}
use Rattle.sync_thread.specs.Arrays.{token_numbers}
use Rattle.sync_thread_meaning.specs.MachineWithProgram.{MachineWithProgram, fields_of, decls_of}
use Rattle.sync_thread.specs.Code.{Memory}
use Rattle.sync_thread_meaning.specs.Shares.{Shares, hand_of, with_hand, all_shards, only_if, bounded, found, Sight}
use Rattle.sync_thread_meaning.specs.Shares.{term_values, differ, are_new}

-- ---- operations at a state

-- the fields' values and the arguments
abbrev pub state_number : List Field → State → OperationTree → List ℤ → ℕ → ℤ
state_number fs s o args x =
    if nat_lt x (length fs) then number_of (slice_index_or s x (Number (pos 0))) else argument o.params args x

abbrev pub operation_names : List Field → State → OperationTree → List ℤ → Valuation
operation_names fs s o args =
    record { number = state_number fs s o args; mapping = λ x. entries_of (slice_index_or s x (Number (pos 0))) }

abbrev pub binding_place : ActTree → Option PlaceTree
binding_place (acts.Remove f p) = Some p
binding_place (acts.Have f p) = Some p
binding_place (acts.Withdraw f p) = Some p
binding_place (acts.Guard f p) = Some p
binding_place (acts.Init f t) = None
binding_place (acts.Require form) = None
binding_place (acts.Assert form) = None
binding_place (acts.Update f t) = None
binding_place (acts.HaveVariable f) = None
binding_place (acts.Add f p) = None
binding_place (acts.Deposit f p) = None

-- a name that a place binds stands for what the field has there
abbrev pub bound_at : Tree → PlaceTree → Option ℕ → Valuation → Valuation
bound_at cur p (Some y) v = with_value y (num v (Get cur (key_of p))) maps.nil v
bound_at cur p None v = v

abbrev pub with_bound : Tree → Option PlaceTree → Valuation → Valuation
with_bound cur (Some p) v = bound_at cur p (binds p) v
with_bound cur None v = v

-- every safety condition is true, from these values of the fields on
unfoldable pub are_safe : List Field → Valuation → List Tree → List StepTree → Bool
are_safe fs v cur [] = true
are_safe fs v cur (s ∷ ss) = let w = with_bound (current_of cur s.act) (binding_place s.act) v in
    is_met w (safety (strategy_of fs s.act) (current_of cur s.act) s.act) && are_safe fs w (advanced fs cur s.act) ss

abbrev pub guarded_place : ActTree → Option PlaceTree
guarded_place (acts.Guard f p) = Some p
guarded_place other = None

abbrev pub key_or : Valuation → Option PlaceTree → Option ℤ → Option ℤ
key_or v (Some p) later = Some (num v (key_of p))
key_or v None later = later

-- the key of the place that an operation guards first
unfoldable pub guarded_key : List Field → Valuation → List Tree → List StepTree → Option ℤ
guarded_key fs v cur [] = None
guarded_key fs v cur (s ∷ ss) =
    key_or v (guarded_place s.act) (guarded_key fs (with_bound (current_of cur s.act) (binding_place s.act) v)
    (advanced fs cur s.act) ss)

-- the numbers of a state are within the bound
abbrev pub number_or_map_fits : (ℤ → Bool) → Value → Bool
number_or_map_fits fits (Number n) = fits n
number_or_map_fits fits (Mapped m) = values_fit fits m

abbrev pub state_fits : (ℤ → Bool) → State → Bool
state_fits fits s = list_all (number_or_map_fits fits) s

-- ---- exchanges

abbrev pub exchange_left : Bool → ℕ → Shares → Result Exchanged XStop → Result Shares Halt
exchange_left safe t g (Ok x) = only_if safe (Ok (with_hand t x.hand (record g { kept = x.kept })))
exchange_left safe t g (Err stop.Width) = Err Wide
exchange_left safe t g (Err (stop.Missing n)) = Err Broken
exchange_left safe t g (Err (stop.Differs n)) = Err Broken
exchange_left safe t g (Err (stop.RequireFalse n)) = Err Broken
exchange_left safe t g (Err (stop.StoreEmpty n)) = Err Broken
exchange_left safe t g (Err stop.Memory) = Err Broken

-- an exchange with the tokens of one hand, where the whole state is s
abbrev pub exchanged : (ℤ → Bool) → MachineWithProgram → ℕ → Sight → DoTree → State → Shares → Result Shares Halt
exchanged fits x t v form s g =
    found (slice_get x.machine.ops form.op) >>= (λ (o : OperationTree). term_values fits v form.args >>= (λ args.
    only_if (differ (token_numbers (decls_of x) form.tokens) && are_new form.given (hand_of g t))
    (exchange_left (are_safe (fields_of x) (operation_names (fields_of x) s o args)
    (first_values (fields_of x) o.mode) o.steps) t g
    (exchange_in fits (fields_of x) o args (token_numbers (decls_of x) form.tokens) form.given s
    (hand_of g t) g.kept))))

abbrev pub op_is_plain : MachineWithProgram → Option OperationTree → Bool
op_is_plain x (Some o) = is_plain x.machine.fields o
op_is_plain x None = true

-- The whole state is the join of all shards.
abbrev pub exchanged_at_join : (ℤ → Bool) → MachineWithProgram → ℕ → Sight → DoTree → Shares → Result Shares Halt
exchanged_at_join fits x t v form g = found (join_of (fields_of x) (all_shards g) g.kept) >>= (λ (s : State).
    bounded (op_is_plain x (slice_get x.machine.ops form.op) || state_fits fits s) (exchanged fits x t v form s g))

-- whether the property guards this cell, with these arguments at the join
abbrev pub guards_cell : (ℤ → Bool) → MachineWithProgram → Sight → DoTree → Shares → ℕ → Result Bool Halt
guards_cell fits x v form g c =
    found (slice_get x.machine.ops form.op)
    >>= (λ (o : OperationTree). found (join_of (fields_of x) (all_shards g) g.kept) >>= (λ (s : State).
    term_values fits v form.args >>= (λ args. Ok
    (is_key (guarded_key (fields_of x) (operation_names (fields_of x) s o args)
    (first_values (fields_of x) o.mode) o.steps))))) where
      is_key : Option ℤ → Bool
      is_key (Some k) = int_eq k (pos c)
      is_key None = false
