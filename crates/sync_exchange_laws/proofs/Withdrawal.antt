-- Computed: a machine with a variable and a store, whose init deposits an object and whose step withdraws it, asserts
-- its
-- content and changes the variable. Its exchanges go by other valuations and by terms, the init's too; and what was
-- withdrawn is written.
use Rattle.std.proofs.Common.{◌≡◌, ℕ, zero, suc, ◌<◌, ℤ, pos, nat_eq, if◌then◌else◌, true, false, List, [], ◌∷◌, ◌++◌, Some, None, Ok, inl, inr, ◌⊎◌, refl, sym, ap, subst, ◌∙◌, arith}
use Rattle.std.specs.Prelude.{Contains, slice_index_or}
use Rattle.std.specs.List.{AllByRecursion, IsDistinct}
use Rattle.std.specs.Ordering.{int_eq, int_cmp}
use Rattle.std.specs.FinMap.{get-empty}
use Rattle.std.specs.FinMap as finmap
use Rattle.std.proofs.lemmas.Int.{ints}
use Rattle.sync_terms.specs.Trees.{Tree, Lit, Name, Nil, Eq, replaced, replaced_in}
use Rattle.sync_terms.specs.Maps as maps
use Rattle.sync_terms.specs.Values.{Valuation, truth, Holds, with_terms}
use Rattle.sync_machine.specs.declared.fields.Field.{Field}
use Rattle.sync_base.specs.declared.strategies.Strategy.TheVariants.{Variable, StorageMap}
use Rattle.sync_base.specs.declared.strategies.OpMode.TheVariants as mode
use Rattle.sync_machine.specs.Machines.{Bind, Term, PlaceTree, StepTree, OperationTree, MachineTree}
use Rattle.sync_machine.specs.Machines as acts
use Rattle.sync_machine.specs.Statements.{condition, enabling, safety, amount_is_natural, field_of, changed_by, after}
use Rattle.sync_machine.specs.States.{State, Number, Mapped, sort_of, IsInit, IsAt, IsKeptSafe, AreMet, last_values, first_values, Starts, Steps, IsReached, starts, steps, HoldsAlways}
use Rattle.sync_machine.specs.Naming.{first_fault, act_fault, step_fault, bound_by, is_started, field_fault, head_fault, operation_fault, invariant_rule, machine_fault, formula_fault, number_fault, map_fault, begins_unknown, AreTextNames}
use Rattle.sync_rules.specs.Faults.{broken_rule, steps_fault, operations_fault, strategy_fault}
use Rattle.sync_rules.specs.Strategies.{kind_of}
use Rattle.sync_rules.specs.Locality.{names_only, form_names_only, has_local_terms}
use Rattle.sync_rules.specs.Obligations.{names, form_names}
use Rattle.sync_rules.specs.Shapes.{has_shape, fits}
use Rattle.sync_rules.specs.Order.{may_start}
use Rattle.sync_rules.specs.Slots.{act_slot, needs, started_at, updated_to}
use Rattle.sync_join.specs.Shards.{Kept, perm, AreSoundShards}
use Rattle.sync_join.specs.Join.{join_of}
use Rattle.sync_join.proofs.Leaving.{get-put_same}
use Rattle.sync_join.proofs.Maps.{equal}
use Rattle.sync_exchange.specs.declared.hands.Held.{Held}
use Rattle.sync_exchange_values.specs.Fitting.{number_fits, form_fits}
use Rattle.sync_exchange.specs.Exchange.{Exchanged, held_as, stored_at, token_of, token_name, permission, argument, tokens_in, does, exchange_of}
use Rattle.sync_exchange.specs.Projection.{AreNames, ArePermissions, AreBlank, IsProved, LeadsOn}
use Rattle.sync_exchange.proofs.Projecting.{projects}
use Rattle.sync_exchange.proofs.Terms.{and_right}
use Rattle.sync_exchange.proofs.Widening.{unbounded}
use Rattle.sync_exchange_laws.specs.Conditions.{valuation_at}
use Rattle.sync_exchange_laws.specs.Starts.{start_valuation}
use Rattle.sync_exchange_laws.specs.Succeeding.{values_bound_at}
use Rattle.sync_exchange_laws.specs.Terms.{HeldTerms, terms_as, hand_under}
use Rattle.sync_exchange_laws.specs.Agreeing.{Agrees, BringsAll, GoesBy, exchanged_under, end_valuation}
use Rattle.sync_exchange_laws.specs.WholeTerms.{exchange_dues, hand_exchanged, GoesByTerms}
use Rattle.sync_exchange_laws.proofs.Writing.{writes-keep-shards}
use Rattle.sync_exchange_laws.proofs.Agreeing.{exchanges-go-by-any, starts-go-by-any}
use Rattle.sync_exchange_laws.proofs.WholeTerms.{exchanges-go-by-terms, starts-go-by-terms}

-- ---- the machine

abbrev fields : List Field
fields = record { name = 0; strategy = Variable; line = 1 } ∷ record { name = 1; strategy = StorageMap; line = 2 } ∷ []

-- the symbols of a parameter and of a bound name
abbrev amount : ℕ
amount = 104

abbrev content : ℕ
content = 108

-- the cell 0 with content 3 is stored
abbrev begin : OperationTree
begin = record {
  name = 2;
  mode = mode.Init;
  params = amount ∷ [];
  steps = record { act = acts.Require (Eq (Name amount) (Lit (pos 3))); line = 4 }
      ∷ record { act = acts.Init 0 (Lit (pos 1)); line = 5 }
      ∷ record { act = acts.Init 1 Nil; line = 6 }
      ∷ record {
        act = acts.Deposit 1 (record { key = Some (Lit (pos 0)); value = Some (Term (Name amount)) });
        line
            = 7;
      } ∷ [];
  line = 3;
}

-- it is taken out, once
abbrev take_out : OperationTree
take_out = record {
  name = 3;
  mode = mode.Transition;
  params = [];
  steps = record { act = acts.Require (Eq (Name 0) (Lit (pos 1))); line = 9 }
      ∷ record { act = acts.Withdraw 1 (record { key = Some (Lit (pos 0)); value = Some (Bind content) }); line = 10 }
      ∷ record { act = acts.Assert (Eq (Name content) (Lit (pos 3))); line = 11 }
      ∷ record { act = acts.Update 0 (Lit (pos 2)); line = 12 } ∷ [];
  line = 8;
}

abbrev once_only : MachineTree
once_only = record { name = 0; fields = fields; ops = begin ∷ take_out ∷ []; invariants = [] }

symbols : AreTextNames once_only
unfolding bound_by
symbols = record {
  ops = (
    record { params = ((10, refl, omega arith), tt); bound = (tt, (tt, (tt, (tt, tt)))) },
    (record { params = tt; bound = (tt, ((11, refl, omega arith), (tt, (tt, tt)))) }, tt),
  );
  invariants = tt;
}

named : machine_fault once_only ≡ None
unfolding machine_fault first_fault field_fault operation_fault head_fault step_fault act_fault formula_fault
    number_fault map_fault begins_unknown is_started bound_by invariant_rule sort_of
named = refl

ruled : strategy_fault once_only ≡ None
unfolding operations_fault steps_fault broken_rule kind_of has_local_terms names_only form_names_only fits has_shape
    field_of changed_by sort_of may_start
ruled = refl

any-is : (P : OperationTree → Type 0) (o : OperationTree) → Contains once_only.ops o → P begin → P take_out → P o
any-is P o has one two = at has.0 has.1 has.2 where
  at : (i : ℕ) → i < 2 → slice_index_or once_only.ops i o ≡ o → P o
  at zero lt is = subst P is one
  at (suc zero) lt is = subst P is two
  at (suc (suc i)) lt is = absurd (omega (arith, lt))

-- ---- it always holds: at 1 the object is stored, and then it is 2 for good

abbrev IsBefore : State → Type 0
IsBefore s = s ≡ Number (pos 1) ∷ Mapped (maps.put maps.nil (pos 0) (pos 3)) ∷ []

abbrev IsBehind : State → Type 0
IsBehind s = (m : maps.Map) × (s ≡ Number (pos 2) ∷ Mapped m ∷ [])

cell-free : int_eq (maps.has maps.nil (pos 0)) (pos 0) ≡ true
cell-free = let none : finmap.get maps.nil (pos 0) ≡ None = get-empty int_cmp (pos 0) in rw none refl

begin-leaves : (args : List ℤ) (t : State) → Starts once_only begin args t → IsBefore t
unfolding AreMet condition enabling safety amount_is_natural last_values after field_of sort_of truth
begin-leaves args t st =
    let is = equal (st.names.number amount) (pos 3) st.met.0 in
    st.leaves ∙ ap (λ (n : ℤ). Number (pos 1) ∷ Mapped (maps.put maps.nil (pos 0) n) ∷ []) is

take-leaves : (s : State) (args : List ℤ) (t : State) → Steps once_only s take_out args t → IsBehind t
unfolding last_values after field_of sort_of
take-leaves s args t st = (maps.del (st.names.mapping 1) (pos 0), st.leaves)

two-states : (s : State) → IsReached once_only s → IsBefore s ⊎ IsBehind s
two-states t (starts o args st) =
    any-is (λ p. Starts once_only p args t → IsBefore t ⊎ IsBehind t) o st.declared (λ st. inl (begin-leaves args t st))
    (λ st. absurd (let no = st.is_init in cc)) st
two-states t (steps {s = s} o args r st) =
    any-is (λ p. Steps once_only s p args t → IsBefore t ⊎ IsBehind t) o st.declared (λ st. absurd (st.no_init refl))
    (λ st. inr (take-leaves s args t st)) st

begin-safe : (v : Valuation) → IsKeptSafe fields v (first_values fields begin.mode) begin.steps
unfolding IsKeptSafe condition enabling safety amount_is_natural field_of after sort_of truth
begin-safe v = (tt, λ one. (tt, λ two. (tt, λ three. (cell-free, λ four. tt))))

take-safe : (s : State) (v : Valuation) → IsBefore s ⊎ IsBehind s → IsAt s v
    → IsKeptSafe fields v (first_values fields take_out.mode) take_out.steps
unfolding IsKeptSafe condition enabling safety amount_is_natural field_of after truth
take-safe s v (inl is) at =
    let here = subst (λ (t : State). IsAt t v) is at in
    let there = get-put_same maps.nil (pos 0) (pos 3) in (
      tt,
      λ one. (
        subst (λ (m : maps.Map). int_eq (maps.has m (pos 0)) (pos 1) ≡ true) (sym here.1.0) (rw there refl),
        λ two. (
          (let is_there = subst (λ (m : maps.Map). int_eq (maps.get m (pos 0)) (v.number content) ≡ true) here.1.0
              (and_right _ _ two) in
              let same : pos 3 ≡ v.number content = equal (pos 3) (v.number content) (rw there at is_there) in
              rw (sym same) refl),
          λ three. (tt, λ four. tt),
        ),
      ),
    )
take-safe s v (inr (m, is)) at =
    let here = subst (λ (t : State). IsAt t v) is at in
    (tt, λ one. absurd (let no = subst (λ (n : ℤ). int_eq n (pos 1) ≡ true) here.0 one in cc))

holds : HoldsAlways once_only
holds = record {
  starts_safe = λ o has init args v given.
      any-is (λ p. IsInit p → IsKeptSafe fields v (first_values fields p.mode) p.steps) o has (λ i. begin-safe v)
      (λ i. absurd (cc)) init;
  meets = λ s reached. tt;
  safe = λ s reached o has other args v at given.
      any-is (λ p. (IsInit p → ⊥) → IsKeptSafe fields v (first_values fields p.mode) p.steps) o has
      (λ n. absurd (n refl)) (λ n. take-safe s v (two-states s reached) at) other;
}

proved : IsProved once_only
proved = record { symbols = symbols; named = named; strategies = ruled; holds = holds }

-- ---- the object is withdrawn

abbrev before : State
before = Number (pos 1) ∷ Mapped (maps.put maps.nil (pos 0) (pos 3)) ∷ []

abbrev begin_values : Valuation
begin_values = record { number = λ x. pos 3; mapping = λ x. maps.nil }

reached : IsReached once_only before
unfolding AreMet condition enabling safety amount_is_natural field_of last_values after sort_of truth
reached = starts begin (pos 3 ∷ []) (record {
  names = begin_values;
  declared = (0, omega arith, refl);
  is_init = refl;
  given = (refl, tt);
  met = (refl, (tt, (tt, (cell-free, tt))));
  leaves = refl;
})

abbrev variable : ℤ → Held
variable n = record { name = 1; token = token_of 0 (pos 0) n }

abbrev stored : Kept
stored = record { records = Number (pos 0) ∷ Mapped maps.nil ∷ []; stored = token_of 1 (pos 0) (pos 3) ∷ [] }

abbrev empty : Kept
empty = record { records = Number (pos 0) ∷ Mapped maps.nil ∷ []; stored = [] }

sound : AreSoundShards fields (tokens_in (variable (pos 1) ∷ []) ++ []) stored
unfolding sort_of
sound = record {
  shaped = record {
    tokens = (inr (omega arith, record { tokens = refl; keys = λ e. refl; elements = λ e. absurd (cc) }), tt);
    records = (tt, (tt, tt));
    stored = (refl, tt);
  };
  natural = ((λ e. absurd (cc)), tt);
}

take-names : AreNames fields take_out (1 ∷ []) (8 ∷ []) (variable (pos 1) ∷ [])
unfolding act_slot needs started_at updated_to names form_names IsDistinct
take-names = record {
  enough_tokens = refl;
  enough_given = refl;
  held_apart = (tt, tt);
  given_apart = (tt, tt);
  given_new = λ name has among. given-new name has among;
} where
  given-new : (name : ℕ) → Contains (8 ∷ []) name → Contains (1 ∷ []) name → ⊥
  given-new name (zero, lt, is) (zero, lu, at) = let no = is ∙ sym at in absurd (cc)
  given-new name (suc i, lt, is) among = absurd (omega (arith, lt))
  given-new name (zero, lt, is) (suc i, lu, at) = absurd (omega (arith, lu))

abbrev taken : Exchanged
taken = record {
  hand = variable (pos 2) ∷ record { name = 8; token = permission (pos 0) (pos 3) } ∷ [];
  kept = empty;
  bound = pos 3 ∷ [];
}

takes : exchange_of fields take_out [] (1 ∷ []) (8 ∷ []) before (variable (pos 1) ∷ []) stored ≡ Ok taken
unfolding act_slot needs started_at updated_to names form_names does held_as stored_at token_name number_fits form_fits
    truth sort_of argument
takes = refl

-- another valuation: it says 7 of all that the operation does not read
abbrev other_values : Valuation
other_values = record {
  number = λ x. if nat_eq x 0 then pos 1 else (if nat_eq x content then pos 3 else pos 7);
  mapping = λ x. maps.nil;
}

bound-is : values_bound_at fields before take_out [] (1 ∷ []) (8 ∷ []) before (variable (pos 1) ∷ []) stored ≡ pos 3
    ∷ []
unfolding act_slot needs started_at updated_to names form_names does held_as stored_at token_name number_fits form_fits
    truth sort_of argument bound_by
bound-is = refl

other-agrees : Agrees fields take_out other_values (valuation_at fields before take_out [] (pos 3 ∷ []))
unfolding act_slot needs started_at updated_to names form_names truth argument bound_by sort_of
other-agrees = record { variables = (λ taken. refl, tt); statements = (refl, ((refl, refl), (tt, (refl, tt)))) }

agrees : Agrees fields take_out other_values
    (end_valuation fields before take_out [] (1 ∷ []) (8 ∷ []) before (variable (pos 1) ∷ []) stored)
agrees =
    subst (λ (bs : List ℤ). Agrees fields take_out other_values (valuation_at fields before take_out [] bs))
    (sym bound-is)
    other-agrees

goes : GoesBy fields other_values take_out [] (1 ∷ []) (8 ∷ []) (variable (pos 1) ∷ []) stored before
goes = exchanges-go-by-any once_only proved take_out (1, omega arith, refl) (λ e. absurd (cc)) [] refl (1 ∷ []) (8 ∷ [])
    (variable (pos 1) ∷ []) take-names [] stored sound before refl reached before (inl refl) other_values agrees

-- so it asked what that valuation says, and where this is brought it succeeds
brings : BringsAll fields other_values take_out [] (1 ∷ []) (8 ∷ []) (variable (pos 1) ∷ []) stored before
brings = (goes.alone taken takes).0

succeeds : exchange_of fields take_out [] (1 ∷ []) (8 ∷ []) before (variable (pos 1) ∷ []) stored
    ≡ Ok (exchanged_under fields other_values take_out [] (1 ∷ []) (8 ∷ []) before (variable (pos 1) ∷ []) stored)
succeeds = goes.succeeds brings

-- ---- and over terms: the variable's token has the value of a local, and what is withdrawn is named

abbrev local : ℕ
local = 200

abbrev withdrawn_content : ℕ
withdrawn_content = 204

abbrev terms : ℕ → Tree
terms x = if nat_eq x 0 then Name local else
    (if nat_eq x 104 then Name withdrawn_content else
    (if nat_eq x content then Name withdrawn_content else Lit (pos 0)))

abbrev known : Valuation
known = record { number = λ x. if nat_eq x local then pos 1 else pos 3; mapping = λ x. maps.nil }

abbrev hand_of_terms : List HeldTerms
hand_of_terms =
    record { name = 1; token = record { field = 0; key = Lit (pos 0); value = Name local } } ∷ []

terms-agree : Agrees fields take_out (with_terms terms known) (valuation_at fields before take_out [] (pos 3 ∷ []))
unfolding act_slot needs started_at updated_to names form_names truth argument bound_by sort_of
terms-agree = record { variables = (λ taken. refl, tt); statements = (refl, ((refl, refl), (tt, (refl, tt)))) }

by-terms : GoesByTerms fields terms known take_out [] (1 ∷ []) (8 ∷ []) hand_of_terms stored before
by-terms = exchanges-go-by-terms once_only proved take_out (1, omega arith, refl) (λ e. absurd (cc)) [] refl known
    (1 ∷ [])
    (8 ∷ []) hand_of_terms take-names [] stored sound before refl reached before (inl refl) terms
    (subst (λ (bs : List ℤ). Agrees fields take_out (with_terms terms known)
    (valuation_at fields before take_out [] bs))
    (sym bound-is) terms-agree)

dues-hold : AllByRecursion (Holds known) (exchange_dues fields terms take_out (1 ∷ []) (8 ∷ []) hand_of_terms)
dues-hold = by-terms.alone taken takes

hand-left : taken.hand ≡ hand_under known (hand_exchanged fields terms take_out (1 ∷ []) (8 ∷ []) hand_of_terms)
hand-left = by-terms.leaves taken takes

-- ---- the init over terms: the owner's permission has the content of a name

abbrev owner : List HeldTerms
owner = record { name = 7; token = record { field = perm; key = Lit (pos 0); value = Name withdrawn_content } } ∷ []

begin-names : AreNames fields begin (7 ∷ []) (1 ∷ []) (hand_under known owner)
unfolding act_slot needs started_at updated_to names form_names IsDistinct
begin-names = record {
  enough_tokens = refl;
  enough_given = refl;
  held_apart = (tt, tt);
  given_apart = (tt, tt);
  given_new = λ name has among. given-new name has among;
} where
  given-new : (name : ℕ) → Contains (1 ∷ []) name → Contains (7 ∷ []) name → ⊥
  given-new name (zero, lt, is) (zero, lu, at) = let no = is ∙ sym at in absurd (cc)
  given-new name (suc i, lt, is) among = absurd (omega (arith, lt))
  given-new name (zero, lt, is) (suc i, lu, at) = absurd (omega (arith, lu))

nothing-kept : AreBlank fields empty.records
unfolding sort_of
nothing-kept = (refl, (refl, tt))

permissions : ArePermissions (tokens_in (hand_under known owner))
unfolding IsDistinct
permissions = record { permissions = (refl, tt); apart = (tt, tt) }

start-agrees : Agrees fields begin (with_terms terms known) (start_valuation fields begin (pos 3 ∷ []))
unfolding act_slot needs started_at updated_to names form_names truth argument bound_by sort_of
start-agrees = record
    { variables = (λ taken. absurd (taken refl), tt); statements = (refl, (refl, (refl, ((refl, refl), tt)))) }

start-by-terms : GoesByTerms fields terms known begin (pos 3 ∷ []) (7 ∷ []) (1 ∷ []) owner empty []
start-by-terms = starts-go-by-terms once_only proved begin (0, omega arith, refl) refl (pos 3 ∷ []) refl known (7 ∷ [])
    (1 ∷ []) owner begin-names permissions empty nothing-kept refl [] terms start-agrees

start-dues-hold : AllByRecursion (Holds known) (exchange_dues fields terms begin (7 ∷ []) (1 ∷ []) owner)
unfolding act_slot needs started_at updated_to names form_names terms_as replaced replaced_in truth token_name
start-dues-hold = (refl, (refl, (refl, (refl, tt))))

begins : exchange_of fields begin (pos 3 ∷ []) (7 ∷ []) (1 ∷ []) [] (hand_under known owner) empty
    ≡ Ok (exchanged_under fields (with_terms terms known) begin (pos 3 ∷ []) (7 ∷ []) (1 ∷ []) []
    (hand_under known owner) empty)
begins = start-by-terms.succeeds start-dues-hold

-- ---- what was withdrawn is written

leads : LeadsOn once_only before take_out [] (pos 3 ∷ []) (tokens_in taken.hand ++ []) empty
leads = projects unbounded once_only proved take_out (1, omega arith, refl) (λ e. absurd (cc)) [] refl (1 ∷ []) (8 ∷ [])
    (variable (pos 1) ∷ []) take-names [] stored sound before refl reached before (inl refl) taken takes

-- the shards stay sound, and make the same state
written : AreSoundShards fields (token_of 0 (pos 0) (pos 2) ∷ permission (pos 0) (pos 9) ∷ []) empty
    × (join_of fields (token_of 0 (pos 0) (pos 2) ∷ permission (pos 0) (pos 9) ∷ []) empty
    ≡ join_of fields (token_of 0 (pos 0) (pos 2) ∷ permission (pos 0) (pos 3) ∷ []) empty)
written = writes-keep-shards fields (omega arith) (pos 0) (pos 3) (pos 9) (token_of 0 (pos 0) (pos 2) ∷ []) [] empty
    leads.sound
