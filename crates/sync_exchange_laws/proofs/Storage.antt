-- Computed: a machine with a count and a store, whose operations have a parameter, a require, a guard and a deposit. It
-- keeps the rules and always holds; its init is exchanged, and from what this leaves on a spend, over terms too, and a
-- look at the store.
use Rattle.std.proofs.Common.{◌≡◌, ℕ, zero, suc, ◌<◌, ℤ, pos, ◌-ℤ◌, nat_eq, if◌then◌else◌, true, List, [], ◌∷◌, ◌++◌, Some, None, Ok, inr, refl, sym, ap, subst, ◌∙◌, arith}
use Rattle.std.specs.Prelude.{Contains, slice_index_or}
use Rattle.std.specs.List.{AllByRecursion, IsDistinct}
use Rattle.std.specs.Ordering.{int_eq, int_cmp}
use Rattle.std.specs.FinMap.{get-empty}
use Rattle.std.specs.FinMap as finmap
use Rattle.std.proofs.lemmas.Int.{ints}
use Rattle.sync_terms.specs.Trees.{Tree, Lit, Name, Nil, Eq, replaced, replaced_in}
use Rattle.sync_terms.specs.Maps as maps
use Rattle.sync_terms.specs.Values.{Valuation, truth, Holds, with_terms}
use Rattle.sync_machine.specs.declared.fields.Field.{Field}
use Rattle.sync_base.specs.declared.strategies.Strategy.TheVariants.{Count, StorageMap}
use Rattle.sync_base.specs.declared.strategies.OpMode.TheVariants as mode
use Rattle.sync_machine.specs.Machines.{Bind, Term, PlaceTree, StepTree, OperationTree, MachineTree}
use Rattle.sync_machine.specs.Machines as acts
use Rattle.sync_machine.specs.Statements.{condition, enabling, safety, presence, amount_is_natural, field_of, changed_by, after, removed}
use Rattle.sync_machine.specs.States.{State, Number, Mapped, sort_of, IsInit, IsAt, IsKeptSafe, AreMet, last_values, first_values, Starts, Steps, IsReached, starts, steps, HoldsAlways}
use Rattle.sync_machine.specs.Naming.{first_fault, act_fault, step_fault, bound_by, is_started, field_fault, head_fault, operation_fault, invariant_rule, machine_fault, formula_fault, number_fault, map_fault, begins_unknown, AreTextNames}
use Rattle.sync_rules.specs.Faults.{broken_rule, steps_fault, operations_fault, strategy_fault}
use Rattle.sync_rules.specs.Strategies.{kind_of}
use Rattle.sync_rules.specs.Locality.{names_only, form_names_only, has_local_terms}
use Rattle.sync_rules.specs.Shapes.{has_shape, fits}
use Rattle.sync_rules.specs.Order.{may_start}
use Rattle.sync_rules.specs.Slots.{act_slot}
use Rattle.sync_join.specs.Shards.{Kept, AreSoundShards}
use Rattle.sync_join.proofs.Leaving.{get-put_same}
use Rattle.sync_join.proofs.Maps.{equal}
use Rattle.sync_exchange.specs.declared.hands.Held.{Held}
use Rattle.sync_exchange_values.specs.Fitting.{number_fits, form_fits}
use Rattle.sync_exchange.specs.Exchange.{Exchanging, Exchanged, held_as, stored_at, token_of, permission, argument, tokens_in, beginning, does, exchange_of}
use Rattle.sync_exchange.specs.Projection.{AreNames, ArePermissions, AreBlank, IsProved}
use Rattle.sync_exchange.proofs.Widening.{unbounded}
use Rattle.sync_exchange_laws.specs.Conditions.{valuation_at}
use Rattle.sync_exchange_laws.specs.Along.{AreThere, begun_under, all_left, ended}
use Rattle.sync_exchange_laws.specs.Succeeding.{AreBroughtUnder, values_bound_at, SucceedsWith}
use Rattle.sync_exchange_laws.specs.Starts.{start_valuation, StartsAlongOne}
use Rattle.sync_exchange_laws.specs.Terms.{terms_as, TermsUnderWay, all_dues, AllReadSame}
use Rattle.sync_exchange_laws.specs.Guards.{IsShown}
use Rattle.sync_exchange_laws.proofs.Succeeding.{exchanges-succeed}
use Rattle.sync_exchange_laws.proofs.Guarding.{properties-show-guards}
use Rattle.sync_exchange_laws.proofs.TermsSucceeding.{exchanges-of-terms-succeed}
use Rattle.sync_exchange_laws.proofs.Starting.{starts-go-along, starts-follow}

-- ---- the machine

abbrev pub fields : List Field
fields = record { name = 0; strategy = Count; line = 1 } ∷ record { name = 1; strategy = StorageMap; line = 2 } ∷ []

-- the symbols of a parameter and of a bound name
abbrev amount : ℕ
amount = 104

abbrev content : ℕ
content = 108

abbrev new_object : PlaceTree
new_object = record { key = Some (Lit (pos 0)); value = Some (Term (Name amount)) }

-- three at the start; the cell 0 with this content is stored
abbrev pub begin : OperationTree
begin = record {
  name = 2;
  mode = mode.Init;
  params = amount ∷ [];
  steps = record { act = acts.Require (Eq (Name amount) (Lit (pos 3))); line = 4 }
      ∷ record { act = acts.Init 0 (Name amount); line = 5 }
      ∷ record { act = acts.Init 1 Nil; line = 6 }
      ∷ record { act = acts.Deposit 1 new_object; line = 7 } ∷ [];
  line = 3;
}

-- what is stored in cell 0
abbrev guard : StepTree
guard = record { act = acts.Guard 1 (record { key = Some (Lit (pos 0)); value = Some (Bind content) }); line = 12 }

-- one is taken, and the object is shown
abbrev pub spend : OperationTree
spend = record {
  name = 3;
  mode = mode.Transition;
  params = amount ∷ [];
  steps = record { act = acts.Require (Eq (Name amount) (Lit (pos 1))); line = 9 }
      ∷ record { act = acts.Remove 0 (record { key = None; value = Some (Term (Name amount)) }); line = 10 }
      ∷ guard ∷ [];
  line = 8;
}

-- the object is shown
abbrev look : OperationTree
look = record { name = 4; mode = mode.Property; params = []; steps = guard ∷ []; line = 11 }

abbrev pub stored_cell : MachineTree
stored_cell = record { name = 0; fields = fields; ops = begin ∷ spend ∷ look ∷ []; invariants = [] }

symbols : AreTextNames stored_cell
unfolding bound_by
symbols = record {
  ops = (
    record { params = ((10, refl, omega arith), tt); bound = (tt, (tt, (tt, (tt, tt)))) },
    (
      record { params = ((10, refl, omega arith), tt); bound = (tt, (tt, ((11, refl, omega arith), tt))) },
      (record { params = tt; bound = ((11, refl, omega arith), tt) }, tt),
    ),
  );
  invariants = tt;
}

named : machine_fault stored_cell ≡ None
unfolding machine_fault first_fault field_fault operation_fault head_fault step_fault act_fault formula_fault
    number_fault map_fault begins_unknown is_started bound_by invariant_rule sort_of
named = refl

ruled : strategy_fault stored_cell ≡ None
unfolding operations_fault steps_fault broken_rule kind_of has_local_terms names_only form_names_only fits has_shape
    field_of changed_by sort_of may_start
ruled = refl

any-is : (P : OperationTree → Type 0) (o : OperationTree) → Contains stored_cell.ops o → P begin
    → P spend → P look → P o
any-is P o has one two three = at has.0 has.1 has.2 where
  at : (i : ℕ) → i < 3 → slice_index_or stored_cell.ops i o ≡ o → P o
  at zero lt is = subst P is one
  at (suc zero) lt is = subst P is two
  at (suc (suc zero)) lt is = subst P is three
  at (suc (suc (suc i))) lt is = absurd (omega (arith, lt))

-- ---- it always holds: cell 0 is stored in each state that it reaches

record HasCell (s : State) : Type 0 where
  count : ℤ
  held : ℤ
  is : s ≡ Number count ∷ Mapped (maps.put maps.nil (pos 0) held) ∷ []

cell-there : (s : State) (v : Valuation) → HasCell s → IsAt s v → int_eq (maps.has (v.mapping 1) (pos 0)) (pos 1) ≡ true
cell-there s v h at =
    let here = subst (λ (t : State). IsAt t v) h.is at in
    subst (λ (m : maps.Map). int_eq (maps.has m (pos 0)) (pos 1) ≡ true) (sym here.1.0)
    (rw (get-put_same maps.nil (pos 0) h.held) refl)

cell-free : int_eq (maps.has maps.nil (pos 0)) (pos 0) ≡ true
cell-free = let none : finmap.get maps.nil (pos 0) ≡ None = get-empty int_cmp (pos 0) in rw none refl

begin-leaves : (args : List ℤ) (t : State) → Starts stored_cell begin args t → HasCell t
unfolding last_values after field_of sort_of
begin-leaves args t st = record { count = st.names.number amount; held = st.names.number amount; is = st.leaves }

spend-leaves : (s : State) (args : List ℤ) (t : State) → HasCell s → Steps stored_cell s spend args t → HasCell t
unfolding last_values after removed field_of sort_of
spend-leaves s args t h st =
    let here = subst (λ (u : State). IsAt u st.names) h.is st.before in
    record {
      count = st.names.number 0 -ℤ st.names.number amount;
      held = h.held;
      is = st.leaves
          ∙ ap (λ (m : maps.Map). Number (st.names.number 0 -ℤ st.names.number amount) ∷ Mapped m ∷ []) here.1.0;
    }

look-leaves : (s : State) (args : List ℤ) (t : State) → HasCell s → Steps stored_cell s look args t → HasCell t
unfolding last_values after field_of sort_of
look-leaves s args t h st =
    let here = subst (λ (u : State). IsAt u st.names) h.is st.before in
    record {
      count = st.names.number 0;
      held = h.held;
      is = st.leaves ∙ ap (λ (m : maps.Map). Number (st.names.number 0) ∷ Mapped m ∷ []) here.1.0;
    }

cell-stays : (s : State) → IsReached stored_cell s → HasCell s
cell-stays t (starts o args st) =
    any-is (λ p. Starts stored_cell p args t → HasCell t) o st.declared (λ st. begin-leaves args t st)
    (λ st. absurd (let no = st.is_init in cc)) (λ st. absurd (let no = st.is_init in cc)) st
cell-stays t (steps {s = s} o args r st) =
    let h = cell-stays s r in
    any-is (λ p. Steps stored_cell s p args t → HasCell t) o st.declared (λ st. absurd (st.no_init refl))
    (λ st. spend-leaves s args t h st) (λ st. look-leaves s args t h st) st

begin-safe : (v : Valuation) → IsKeptSafe fields v (first_values fields begin.mode) begin.steps
unfolding IsKeptSafe condition enabling safety amount_is_natural field_of after sort_of truth
begin-safe v = (
  tt,
  λ one. (
    (let is = equal (v.number amount) (pos 3) one in rw is refl),
    λ two. (tt, λ three. (cell-free, λ four. tt)),
  ),
)

spend-safe : (s : State) (v : Valuation) → HasCell s → IsAt s v
    → IsKeptSafe fields v (first_values fields spend.mode) spend.steps
unfolding IsKeptSafe condition enabling safety presence amount_is_natural field_of after truth
spend-safe s v h at = (
  tt,
  λ one. (
    (let is = equal (v.number amount) (pos 1) one in rw is refl),
    λ two. (cell-there s v h at, λ three. tt),
  ),
)

look-safe : (s : State) (v : Valuation) → HasCell s → IsAt s v
    → IsKeptSafe fields v (first_values fields look.mode) look.steps
unfolding IsKeptSafe safety field_of truth
look-safe s v h at = (cell-there s v h at, λ one. tt)

holds : HoldsAlways stored_cell
holds = record {
  starts_safe = λ o has init args v given.
      any-is (λ p. IsInit p → IsKeptSafe fields v (first_values fields p.mode) p.steps) o has (λ i. begin-safe v)
      (λ i. absurd (cc)) (λ i. absurd (cc)) init;
  meets = λ s reached. tt;
  safe = λ s reached o has other args v at given.
      any-is (λ p. (IsInit p → ⊥) → IsKeptSafe fields v (first_values fields p.mode) p.steps) o has
      (λ n. absurd (n refl)) (λ n. spend-safe s v (cell-stays s reached) at)
      (λ n. look-safe s v (cell-stays s reached) at) other;
}

pub proved : IsProved stored_cell
proved = record { symbols = symbols; named = named; strategies = ruled; holds = holds }

-- ---- its init is exchanged, by a holder of the permission

abbrev pub owner : List Held
owner = record { name = 7; token = permission (pos 0) (pos 3) } ∷ []

abbrev pub blank : Kept
blank = record { records = Number (pos 0) ∷ Mapped maps.nil ∷ []; stored = [] }

abbrev pub kept : Kept
kept = record { records = Number (pos 0) ∷ Mapped maps.nil ∷ []; stored = token_of 1 (pos 0) (pos 3) ∷ [] }

abbrev pub all_three : Exchanged
all_three = record { hand = record { name = 1; token = token_of 0 (pos 0) (pos 3) } ∷ []; kept = kept; bound = [] }

pub begin-names : AreNames fields begin (7 ∷ []) (1 ∷ []) owner
unfolding act_slot IsDistinct
begin-names = record {
  enough_tokens = refl;
  enough_given = refl;
  held_apart = (tt, tt);
  given_apart = (tt, tt);
  given_new = λ name has among. given-new name has among;
} where
  given-new : (name : ℕ) → Contains (1 ∷ []) name → Contains (7 ∷ []) name → ⊥
  given-new name (zero, lt, is) (zero, lu, at) = let no = is ∙ sym at in absurd (cc)
  given-new name (suc i, lt, is) among = absurd (omega (arith, lt))
  given-new name (zero, lt, is) (suc i, lu, at) = absurd (omega (arith, lu))

pub nothing-kept : AreBlank fields blank.records
unfolding sort_of
nothing-kept = (refl, (refl, tt))

pub permissions : ArePermissions (tokens_in owner)
unfolding IsDistinct
permissions = record { permissions = (refl, tt); apart = (tt, tt) }

asked : AreThere fields (start_valuation fields begin (pos 3 ∷ [])) begin.steps
    (begun_under fields (start_valuation fields begin (pos 3 ∷ [])) begin (pos 3 ∷ []) (7 ∷ []) (1 ∷ []) [] owner blank)
unfolding held_as argument bound_by truth sort_of
asked = (refl, (tt, (tt, (refl, tt))))

pub begins : exchange_of fields begin (pos 3 ∷ []) (7 ∷ []) (1 ∷ []) [] owner blank ≡ Ok all_three
unfolding argument bound_by sort_of
begins = starts-follow stored_cell proved begin (0, omega arith, refl) refl (pos 3 ∷ []) refl (7 ∷ []) (1 ∷ []) owner
    begin-names permissions blank nothing-kept refl [] asked

begun-along : StartsAlongOne stored_cell begin (pos 3 ∷ []) (7 ∷ []) (1 ∷ []) owner blank [] all_three
begun-along = starts-go-along unbounded stored_cell proved begin (0, omega arith, refl) refl (pos 3 ∷ []) refl
    (7 ∷ []) (1 ∷ []) owner begin-names permissions blank nothing-kept refl [] all_three begins

-- ---- one is spent

abbrev pub three : State
three = Number (pos 3) ∷ Mapped (maps.put maps.nil (pos 0) (pos 3)) ∷ []

abbrev begin_values : Valuation
begin_values = record { number = λ x. pos 3; mapping = λ x. maps.nil }

pub reached : IsReached stored_cell three
unfolding AreMet condition enabling safety amount_is_natural field_of last_values after sort_of truth
reached = starts begin (pos 3 ∷ []) (record {
  names = begin_values;
  declared = (0, omega arith, refl);
  is_init = refl;
  given = (refl, tt);
  met = (refl, (refl, (tt, (cell-free, tt))));
  leaves = refl;
})

-- a token of one, and one of two
abbrev hand : List Held
hand = record { name = 1; token = token_of 0 (pos 0) (pos 1) }
    ∷ record { name = 2; token = token_of 0 (pos 0) (pos 2) } ∷ []

sound : AreSoundShards fields (tokens_in hand ++ []) kept
unfolding sort_of
sound = record {
  shaped = record {
    tokens = (
      inr (omega arith, record { tokens = refl; keys = λ e. refl; elements = λ e. absurd (cc) }),
      (inr (omega arith, record { tokens = refl; keys = λ e. refl; elements = λ e. absurd (cc) }), tt),
    );
    records = (tt, (tt, tt));
    stored = (refl, tt);
  };
  natural = ((λ e. omega (arith, ints)), ((λ e. omega (arith, ints)), tt));
}

spend-names : AreNames fields spend (1 ∷ []) [] hand
unfolding act_slot IsDistinct
spend-names = record {
  enough_tokens = refl;
  enough_given = refl;
  held_apart = ((refl, tt), (tt, tt));
  given_apart = tt;
  given_new = λ name has among. absurd (let lt = has.1 in omega (arith, lt));
}

bound-is : values_bound_at fields three spend (pos 1 ∷ []) (1 ∷ []) [] [] hand kept ≡ pos 3 ∷ []
unfolding does held_as stored_at argument number_fits form_fits truth bound_by
bound-is = refl

brought : AreBroughtUnder fields (valuation_at fields three spend (pos 1 ∷ []) (pos 3 ∷ [])) spend.steps
    (begun_under fields (valuation_at fields three spend (pos 1 ∷ []) []) spend (pos 1 ∷ []) (1 ∷ []) [] [] hand kept)
unfolding held_as argument truth bound_by
brought = (refl, (refl, (tt, tt)))

spends : SucceedsWith stored_cell three spend (pos 1 ∷ []) (1 ∷ []) [] hand kept [] (pos 3 ∷ [])
spends =
    subst (SucceedsWith stored_cell three spend (pos 1 ∷ []) (1 ∷ []) [] hand kept []) bound-is
    (exchanges-succeed stored_cell proved spend (1, omega arith, refl) (λ e. absurd (cc)) (pos 1 ∷ []) refl (1 ∷ [])
    [] hand spend-names [] kept sound three refl reached [] (inr refl) tt
    (subst (λ (bs : List ℤ). AreBroughtUnder fields (valuation_at fields three spend (pos 1 ∷ []) bs) spend.steps
    (begun_under fields (valuation_at fields three spend (pos 1 ∷ []) []) spend (pos 1 ∷ []) (1 ∷ []) [] [] hand kept))
    (sym bound-is) brought))

-- ---- and over terms: of a local of value 1, and what the store shows is named

abbrev local : ℕ
local = 200

abbrev shown_content : ℕ
shown_content = 204

abbrev names : ℕ → Tree
names x = if nat_eq x amount then Name local else (if nat_eq x content then Name shown_content else Lit (pos 0))

abbrev known : Valuation
known = record { number = λ x. if nat_eq x local then pos 1 else pos 3; mapping = λ x. maps.nil }

abbrev terms : TermsUnderWay
terms = record {
  tokens = 1 ∷ [];
  given = [];
  variables = [];
  hand = record { name = 1; token = record { field = 0; key = Lit (pos 0); value = Name local } }
      ∷ record { name = 2; token = record { field = 0; key = Lit (pos 0); value = Lit (pos 2) } } ∷ [];
  entered = [];
}

abbrev begun : Exchanging
begun = beginning fields spend (pos 1 ∷ []) (1 ∷ []) [] [] hand kept

dues-hold : AllByRecursion (Holds known) (all_dues fields names spend.steps terms)
unfolding terms_as replaced replaced_in truth
dues-hold = (refl, (refl, (refl, (refl, tt))))

reads-same : AllReadSame fields (with_terms names known) (valuation_at fields three spend (pos 1 ∷ []) (pos 3 ∷ []))
    spend.steps
unfolding argument truth bound_by
reads-same = (refl, ((refl, refl), ((refl, refl), tt)))

of-terms : exchange_of fields spend (pos 1 ∷ []) (1 ∷ []) [] [] hand kept
    ≡ Ok (ended (all_left fields (with_terms names known) spend.steps begun))
of-terms =
    (exchanges-of-terms-succeed stored_cell proved spend (1, omega arith, refl) (λ e. absurd (cc)) (pos 1 ∷ []) refl
    (1 ∷ []) [] hand spend-names [] kept sound three refl reached [] (inr refl) begun refl names known
    (subst (λ (bs : List ℤ). AllReadSame fields (with_terms names known)
    (valuation_at fields three spend (pos 1 ∷ []) bs) spend.steps) (sym bound-is) reads-same)
    terms (record { tokens = refl; given = refl; variables = refl; hand = refl; entered = refl }) dues-hold).1

-- ---- the store is shown

look-names : AreNames fields look [] [] hand
unfolding act_slot IsDistinct
look-names = record {
  enough_tokens = refl;
  enough_given = refl;
  held_apart = ((refl, tt), (tt, tt));
  given_apart = tt;
  given_new = λ name has among. absurd (let lt = has.1 in omega (arith, lt));
}

looks : exchange_of fields look [] [] [] [] hand kept ≡ Ok (record { hand = hand; kept = kept; bound = pos 3 ∷ [] })
unfolding does stored_at number_fits
looks = refl

is-shown : IsShown kept (token_of 1 (pos 0) (pos 3))
unfolding argument bound_by
is-shown =
    (properties-show-guards unbounded stored_cell proved look (2, omega arith, refl) refl [] refl [] [] hand
    look-names [] kept sound three refl reached [] (inr refl) _ looks).1.0
