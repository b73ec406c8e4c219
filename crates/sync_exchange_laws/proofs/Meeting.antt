-- Computed: a machine that keeps the rules and always holds, shards of a state that it reaches, and an exchange that has what it
-- asks of the holder. So the premises of the laws can be met.
use Rattle.std.proofs.Common.{◌≡◌, ℕ, zero, suc, ◌<◌, ℤ, pos, List, [], ◌∷◌, ◌++◌, Some, None, Ok, Err, inr, refl, subst, arith}
use Rattle.std.specs.Prelude.{Contains, slice_index_or}
use Rattle.std.specs.List.{AllByRecursion, IsDistinct}
use Rattle.std.proofs.lemmas.Int.{ints}
use Rattle.sync_terms.specs.Trees.{Lit, Name, replaced}
use Rattle.sync_terms.specs.Maps as maps
use Rattle.sync_terms.specs.Values.{Valuation, truth, Holds, with_terms}
use Rattle.sync_base.specs.declared.strategies.Strategy.TheVariants.{Count}
use Rattle.sync_base.specs.declared.strategies.OpMode.TheVariants as mode
use Rattle.sync_machine.specs.Machines.{Term, StepTree, OperationTree, MachineTree}
use Rattle.sync_machine.specs.Machines as acts
use Rattle.sync_machine.specs.Statements.{condition, enabling, safety, amount_is_natural, field_of, changed_by, after}
use Rattle.sync_machine.specs.States.{State, Number, sort_of, IsInit, AreGiven, IsKeptSafe, AreMet, last_values, first_values, IsReached, starts, HoldsAlways}
use Rattle.sync_machine.specs.Naming.{first_fault, act_fault, step_fault, bound_by, is_started, field_fault, head_fault, operation_fault, invariant_rule, machine_fault, number_fault, AreTextNames}
use Rattle.sync_rules.specs.Faults.{broken_rule, steps_fault, operations_fault, strategy_fault}
use Rattle.sync_rules.specs.Strategies.{kind_of}
use Rattle.sync_rules.specs.Locality.{names_only, has_local_terms}
use Rattle.sync_rules.specs.Shapes.{has_shape, fits}
use Rattle.sync_rules.specs.Order.{may_start}
use Rattle.sync_rules.specs.Slots.{act_slot}
use Rattle.sync_join.specs.Shards.{Kept, AreSoundShards}
use Rattle.sync_exchange.specs.declared.hands.Held.{Held}
use Rattle.sync_exchange_values.specs.Fitting.{number_fits}
use Rattle.sync_exchange.specs.declared.hands.XStop.TheVariants.{Missing}
use Rattle.sync_exchange.specs.Exchange.{Exchanged, held_as, token_of, tokens_in, beginning, does, exchange_of}
use Rattle.sync_exchange.specs.Projection.{AreNames, IsProved}
use Rattle.sync_exchange.proofs.Widening.{unbounded}
use Rattle.sync_exchange_laws.specs.Progress.{AreBrought, NamesToken}
use Rattle.sync_exchange_laws.specs.Conditions.{valuation_at, MeetsConditions}
use Rattle.sync_exchange_laws.specs.Along.{IsAlong, all_left, ended}
use Rattle.sync_exchange_laws.specs.Terms.{terms_as, TermsUnderWay, all_dues, all_terms_left}
use Rattle.sync_exchange_laws.specs.Guards.{guarded, IsShown}
use Rattle.sync_exchange_laws.proofs.Progressing.{progresses, stops-are-holders}
use Rattle.sync_exchange_laws.proofs.Ending.{exchanges-meet-conditions}
use Rattle.sync_exchange_laws.proofs.Guarding.{properties-show-guards}
use Rattle.sync_exchange_laws.proofs.Returning.{exchanges-follow}
use Rattle.sync_exchange_laws.proofs.Substituting.{exchanges-of-terms-follow}

-- three at the start
abbrev begin : OperationTree
begin = record { name = 1; mode = mode.Init; params = []; steps = record { act = acts.Init 0 (Lit (pos 3)); line = 3 } ∷ []; line = 2 }

-- one is taken
abbrev pub spend : OperationTree
spend = record {
  name = 2;
  mode = mode.Transition;
  params = [];
  steps = record { act = acts.Remove 0 (record { key = None; value = Some (Term (Lit (pos 1))) }); line = 5 } ∷ [];
  line = 4;
}

-- one is there
abbrev look : OperationTree
look = record {
  name = 3;
  mode = mode.Property;
  params = [];
  steps = record { act = acts.Have 0 (record { key = None; value = Some (Term (Lit (pos 1))) }); line = 7 } ∷ [];
  line = 6;
}

abbrev pub counted : MachineTree
counted = record { name = 0; fields = record { name = 0; strategy = Count; line = 1 } ∷ []; ops = begin ∷ spend ∷ look ∷ []; invariants = [] }

pub symbols : AreTextNames counted
unfolding bound_by
symbols = record {
  ops = (record { params = tt; bound = (tt, tt) }, (record { params = tt; bound = (tt, tt) }, (record { params = tt; bound = (tt, tt) }, tt)));
  invariants = tt;
}

pub named : machine_fault counted ≡ None
unfolding machine_fault first_fault field_fault operation_fault head_fault step_fault act_fault number_fault
    is_started bound_by invariant_rule sort_of
named = refl

pub ruled : strategy_fault counted ≡ None
unfolding operations_fault steps_fault broken_rule kind_of has_local_terms names_only fits has_shape field_of
    changed_by sort_of may_start
ruled = refl

-- an operation of the machine is one of the three
any-is : (P : OperationTree → Type 0) (o : OperationTree) → Contains counted.ops o → P begin → P spend → P look → P o
any-is P o has one two three = at has.0 has.1 has.2 where
  at : (i : ℕ) → i < 3 → slice_index_or counted.ops i o ≡ o → P o
  at zero lt is = subst P is one
  at (suc zero) lt is = subst P is two
  at (suc (suc zero)) lt is = subst P is three
  at (suc (suc (suc i))) lt is = absurd (omega (arith, lt))

look-safe : (v : Valuation) (args : List ℤ) → AreGiven look.params args v
    → IsKeptSafe counted.fields v (first_values counted.fields look.mode) look.steps
unfolding IsKeptSafe safety amount_is_natural field_of truth
look-safe v args given = (refl, λ met. tt)

spend-safe : (v : Valuation) (args : List ℤ) → AreGiven spend.params args v
    → IsKeptSafe counted.fields v (first_values counted.fields spend.mode) spend.steps
unfolding IsKeptSafe safety amount_is_natural field_of truth
spend-safe v args given = (refl, λ met. tt)

begin-safe : (v : Valuation) (args : List ℤ) → AreGiven begin.params args v
    → IsKeptSafe counted.fields v (first_values counted.fields begin.mode) begin.steps
unfolding IsKeptSafe safety amount_is_natural field_of truth
begin-safe v args given = (refl, λ met. tt)

holds : HoldsAlways counted
holds = record {
  starts_safe = λ o has init args v given.
      any-is (λ p. IsInit p → AreGiven p.params args v → IsKeptSafe counted.fields v (first_values counted.fields p.mode) p.steps) o has
      (λ i g. begin-safe v args g) (λ i g. absurd (cc)) (λ i g. absurd (cc)) init given;
  meets = λ s reached. tt;
  safe = λ s reached o has other args v at given.
      any-is (λ p. (IsInit p → ⊥) → AreGiven p.params args v → IsKeptSafe counted.fields v (first_values counted.fields p.mode) p.steps) o has
      (λ n g. absurd (n refl)) (λ n g. spend-safe v args g) (λ n g. look-safe v args g) other given;
}

pub proved : IsProved counted
proved = record { symbols = symbols; named = named; strategies = ruled; holds = holds }

abbrev pub three : State
three = Number (pos 3) ∷ []

nothing-known : Valuation
nothing-known = record { number = λ x. pos 0; mapping = λ x. maps.nil }

pub reached : IsReached counted three
unfolding AreMet condition enabling safety amount_is_natural field_of last_values after sort_of truth
reached = starts begin [] (record { names = nothing-known; declared = (0, omega arith, refl); is_init = refl; given = tt; met = (refl, tt); leaves = refl })

-- a token of one, and one of two
abbrev pub hand : List Held
hand = record { name = 1; token = token_of 0 (pos 0) (pos 1) } ∷ record { name = 2; token = token_of 0 (pos 0) (pos 2) } ∷ []

abbrev pub kept : Kept
kept = record { records = Number (pos 0) ∷ []; stored = [] }

pub sound : AreSoundShards counted.fields (tokens_in hand ++ []) kept
unfolding sort_of
sound = record {
  shaped = record {
    tokens = (inr (omega arith, record { tokens = refl; keys = λ e. refl; elements = λ e. absurd (cc) }), (inr (omega arith, record { tokens = refl; keys = λ e. refl; elements = λ e. absurd (cc) }), tt));
    records = (tt, tt);
    stored = tt;
  };
  natural = ((λ e. omega (arith, ints)), ((λ e. omega (arith, ints)), tt));
}

pub names : AreNames counted.fields spend (1 ∷ []) [] hand
unfolding act_slot IsDistinct
names = record {
  enough_tokens = refl;
  enough_given = refl;
  held_apart = ((refl, tt), (tt, tt));
  given_apart = tt;
  given_new = λ name has among. absurd (let lt = has.1 in omega (arith, lt));
}

other-names : AreNames counted.fields spend (5 ∷ []) [] hand
unfolding act_slot IsDistinct
other-names = record {
  enough_tokens = refl;
  enough_given = refl;
  held_apart = ((refl, tt), (tt, tt));
  given_apart = tt;
  given_new = λ name has among. absurd (let lt = has.1 in omega (arith, lt));
}

look-names : AreNames counted.fields look (1 ∷ []) [] hand
unfolding act_slot IsDistinct
look-names = record {
  enough_tokens = refl;
  enough_given = refl;
  held_apart = ((refl, tt), (tt, tt));
  given_apart = tt;
  given_new = λ name has among. absurd (let lt = has.1 in omega (arith, lt));
}

brought : AreBrought counted.fields spend.steps (beginning counted.fields spend [] (1 ∷ []) [] [] hand kept)
unfolding held_as
brought = ((token_of 0 (pos 0) (pos 1), refl, refl), λ y e. tt)

spends : (x : Exchanged) × (exchange_of counted.fields spend [] (1 ∷ []) [] [] hand kept ≡ Ok x)
spends = progresses counted proved spend (1, omega arith, refl) (λ e. absurd (cc)) [] refl (1 ∷ []) [] hand names [] kept sound three refl reached [] (inr refl) _ refl brought

-- the exchange along the valuation of no bound names finds its token
goes : IsAlong counted.fields (valuation_at counted.fields three spend [] []) spend [] (1 ∷ []) [] hand kept []
    (record { hand = record { name = 2; token = token_of 0 (pos 0) (pos 2) } ∷ []; kept = kept; bound = [] })
unfolding held_as
goes = record { variables = tt; found = (refl, tt); leaves = refl }

pub follows : exchange_of counted.fields spend [] (1 ∷ []) [] [] hand kept ≡ Ok (record { hand = record { name = 2; token = token_of 0 (pos 0) (pos 2) } ∷ []; kept = kept; bound = [] })
unfolding bound_by
follows = (exchanges-follow counted proved spend (1, omega arith, refl) (λ e. absurd (cc)) [] refl (1 ∷ []) [] hand names [] kept sound three refl reached [] (inr refl) [] refl _ goes).0

-- so its conditions are met at the state, as computed, and two are left
meets : MeetsConditions counted three spend [] [] (token_of 0 (pos 0) (pos 2) ∷ []) kept
meets = exchanges-meet-conditions unbounded counted proved spend (1, omega arith, refl) (λ e. absurd (cc)) [] refl (1 ∷ []) [] hand names [] kept sound three refl reached [] (inr refl) _ follows

-- a name that is not held stops it, at its first slot
stops : exchange_of counted.fields spend [] (5 ∷ []) [] [] hand kept ≡ Err (Missing 0)
unfolding held_as does
stops = refl

stops-at-slot : NamesToken counted.fields spend 0
stops-at-slot =
    stops-are-holders counted proved spend (1, omega arith, refl) (λ e. absurd (cc)) [] refl (5 ∷ []) [] hand
    other-names [] kept sound three refl reached [] (inr refl) (Missing 0) stops

-- a property keeps what is kept
looks : exchange_of counted.fields look [] (1 ∷ []) [] [] hand kept ≡ Ok (record { hand = hand; kept = kept; bound = [] })
unfolding held_as does number_fits
looks = refl

still-kept : (kept ≡ kept) × AllByRecursion (IsShown kept) (guarded counted.fields three look [] [])
still-kept = properties-show-guards unbounded counted proved look (2, omega arith, refl) refl [] refl (1 ∷ []) [] hand look-names [] kept sound three refl reached [] (inr refl) _ looks

-- the same over terms: three dues, which hold, and two are left
abbrev terms : TermsUnderWay
terms = record {
  tokens = 1 ∷ [];
  given = [];
  variables = [];
  hand = record { name = 1; token = record { field = 0; key = Lit (pos 0); value = Lit (pos 1) } }
      ∷ record { name = 2; token = record { field = 0; key = Lit (pos 0); value = Lit (pos 2) } } ∷ [];
  entered = [];
}

dues-hold : AllByRecursion (Holds nothing-known) (all_dues counted.fields Name spend.steps terms)
unfolding terms_as replaced truth
dues-hold = (refl, (refl, (refl, tt)))

two-are-left : (all_terms_left counted.fields Name spend.steps terms).hand
    ≡ record { name = 2; token = record { field = 0; key = Lit (pos 0); value = Lit (pos 2) } } ∷ []
unfolding replaced
two-are-left = refl

of-terms : exchange_of counted.fields spend [] (1 ∷ []) [] [] hand kept
    ≡ Ok (ended (all_left counted.fields (with_terms Name nothing-known) spend.steps (beginning counted.fields spend [] (1 ∷ []) [] [] hand kept)))
unfolding bound_by
of-terms = (exchanges-of-terms-follow counted proved spend (1, omega arith, refl) (λ e. absurd (cc)) [] refl (1 ∷ []) [] hand names [] kept sound three refl reached [] (inr refl) [] refl _ refl
    Name nothing-known ((refl, refl), tt) terms
    (record { tokens = refl; given = refl; variables = refl; hand = refl; entered = refl }) dues-hold (tt, tt)).0
