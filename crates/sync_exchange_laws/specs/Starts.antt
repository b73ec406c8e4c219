-- Exchanges of inits: along one valuation, with conditions that are computed, and over terms.
use Rattle.std.specs.Prelude.{◌≡◌, ℕ, ℤ, Bool, true, List, [], length, Some, None, Ok}
use Rattle.std.specs.List.{AllByRecursion, Contains}
use Rattle.sync_terms.specs.Trees.{Tree}
use Rattle.sync_terms.specs.Values.{Valuation, Holds, with_terms}
use Rattle.sync_machine.specs.declared.fields.Field.{Field}
use Rattle.sync_machine.specs.Machines.{OperationTree, MachineTree}
use Rattle.sync_machine.specs.Naming.{machine_fault, AreTextNames}
use Rattle.sync_machine.specs.States.{State, AreGiven, IsInit, Starts}
use Rattle.sync_rules.specs.Faults.{strategy_fault}
use Rattle.sync_join.specs.Shards.{Kept}
use Rattle.sync_join.specs.Join.{join_of}
use Rattle.sync_exchange.specs.declared.hands.Held.{Held}
use Rattle.sync_exchange.specs.Exchange.{Exchanging, Exchanged, tokens_in, use_variables, variable_slots, beginning, exchange_in, exchange_of}
use Rattle.sync_exchange.specs.Projection.{AreNames, ArePermissions, AreBlank, IsProved}
use Rattle.sync_exchange_laws.specs.Conditions.{valuation_at, conditions_hold, safety_holds, state_after}
use Rattle.sync_exchange_laws.specs.Along.{AreThere, all_left, begun_under, ended, IsAlong}
use Rattle.sync_exchange_laws.specs.Terms.{TermsUnderWay, HasTerms, AllReadSame, all_dues, all_terms_left}

-- An init has no state before it, and binds no name: parameters stand for the arguments, and all else for nothing.
abbrev pub start_valuation : List Field → OperationTree → List ℤ → Valuation
start_valuation fs o args = valuation_at fs [] o args []

-- the exchange of an init behind its variables' slots, and what it leaves, along this valuation
abbrev pub first_begun : List Field → OperationTree → List ℤ → List ℕ → List ℕ → State → List Held → Kept → Exchanging
first_begun fs o args tokens given whole hand kept =
    begun_under fs (start_valuation fs o args) o args tokens given whole hand kept

abbrev pub first_left : List Field → OperationTree → List ℤ → List ℕ → List ℕ → State → List Held → Kept → Exchanged
first_left fs o args tokens given whole hand kept =
    ended (all_left fs (start_valuation fs o args) o.steps (first_begun fs o args tokens given whole hand kept))

-- ---- conditions that are computed

-- Where the conditions of an init hold, as computed, it gives the state that is computed.
abbrev pub ConditionsMakeStarts : Type 0
ConditionsMakeStarts = (m : MachineTree) → AreTextNames m → machine_fault m ≡ None → strategy_fault m ≡ None
    → (o : OperationTree) → Contains m.ops o → IsInit o → (args : List ℤ) → length args ≡ length o.params
    → conditions_hold m.fields [] o args [] ≡ true → Starts m o args (state_after m.fields [] o args [])

-- ---- along one valuation

-- The exchange of an init that succeeds binds no name and goes along one valuation. Its conditions and its safety
-- conditions hold there, as computed, and what it leaves are the shards of the state that is computed.
pub record StartsAlongOne (m : MachineTree) (o : OperationTree) (args : List ℤ) (tokens given : List ℕ)
    (hand : List Held)
    (kept : Kept) (whole : State) (x : Exchanged) : Type 0 where
  pub named_as : AreGiven o.params args (start_valuation m.fields o args)
  pub none_bound : x.bound ≡ []
  pub along : IsAlong m.fields (start_valuation m.fields o args) o args tokens given hand kept whole x
  pub conditions : conditions_hold m.fields [] o args [] ≡ true
  pub safe : safety_holds m.fields [] o args [] ≡ true
  pub joined : join_of m.fields (tokens_in x.hand) x.kept ≡ Some (state_after m.fields [] o args [])

abbrev pub StartsGoAlong : Type 0
StartsGoAlong = (fits : ℤ → Bool) (m : MachineTree) → IsProved m → (o : OperationTree) → Contains m.ops o → IsInit o
    → (args : List ℤ) → length args ≡ length o.params
    → (tokens given : List ℕ) (hand : List Held) → AreNames m.fields o tokens given hand
    → ArePermissions (tokens_in hand) → (kept : Kept) → AreBlank m.fields kept.records → kept.stored ≡ []
    → (whole : State) (x : Exchanged) → exchange_in fits m.fields o args tokens given whole hand kept ≡ Ok x
    → StartsAlongOne m o args tokens given hand kept whole x

-- And it succeeds, without a bound of numbers, where each statement finds what it asks along this valuation.
abbrev pub StartsFollow : Type 0
StartsFollow = (m : MachineTree) → IsProved m → (o : OperationTree) → Contains m.ops o → IsInit o
    → (args : List ℤ) → length args ≡ length o.params
    → (tokens given : List ℕ) (hand : List Held) → AreNames m.fields o tokens given hand
    → ArePermissions (tokens_in hand) → (kept : Kept) → AreBlank m.fields kept.records → kept.stored ≡ []
    → (whole : State)
    → AreThere m.fields (start_valuation m.fields o args) o.steps (first_begun m.fields o args tokens given whole hand kept)
    → exchange_of m.fields o args tokens given whole hand kept
    ≡ Ok (first_left m.fields o args tokens given whole hand kept)

-- ---- over terms

-- So it succeeds where the terms of the parameters have, for all that the statements read, the values of the
-- arguments, and the dues hold; and it leaves the values of the terms.
abbrev pub StartsOfTermsFollow : Type 0
StartsOfTermsFollow = (m : MachineTree) → IsProved m → (o : OperationTree) → Contains m.ops o → IsInit o
    → (args : List ℤ) → length args ≡ length o.params
    → (tokens given : List ℕ) (hand : List Held) → AreNames m.fields o tokens given hand
    → ArePermissions (tokens_in hand) → (kept : Kept) → AreBlank m.fields kept.records → kept.stored ≡ []
    → (whole : State) (begun : Exchanging)
    → use_variables (variable_slots m.fields o) (beginning m.fields o args tokens given whole hand kept) ≡ Ok begun
    → (names : ℕ → Tree) (v : Valuation)
    → AllReadSame m.fields (with_terms names v) (start_valuation m.fields o args) o.steps
    → (d : TermsUnderWay) → HasTerms v d begun → AllByRecursion (Holds v) (all_dues m.fields names o.steps d)
    → (exchange_of m.fields o args tokens given whole hand kept
    ≡ Ok (ended (all_left m.fields (with_terms names v) o.steps begun)))
    × HasTerms v (all_terms_left m.fields names o.steps d) (all_left m.fields (with_terms names v) o.steps begun)
