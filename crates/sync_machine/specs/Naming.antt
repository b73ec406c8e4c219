-- The first rule of names, sorts and limits that a machine breaks, and its line.
--
-- Places stand in the order of the text: the fields, the operations with their statements, the invariants; in a
-- statement its field, then its key, then its value or formula, each from left to right. At one place the rule with
-- the smaller number counts. A place's line is that of its statement, else of its field, operation or invariant.
use Rattle.std.specs.Prelude.{◌≡◌, ℕ, ◌+◌, ◌*◌, ◌<◌, List, [], ◌∷◌, ◌++◌, length, Bool, true, false, not, ◌||◌, if◌then◌else◌, nat_eq, nat_le, Option, Some, None, is_none, count_by, filter_map, Result, Ok, Err}
use Rattle.std.specs.List.{list_any, list_all, range_with_len, AllByRecursion}
use Rattle.sync_base.specs.declared.stops.Refusal.{Refusal}
use Rattle.sync_base.specs.declared.stops.Rule.{Rule}
use Rattle.sync_base.specs.declared.stops.Rule.TheVariants.{N1, N2, N4, N5, N6}
use Rattle.sync_base.specs.Outcome.{first}
use Rattle.sync_terms.specs.Trees.{Tree, Lit, Name, Add, Sub, Scale, Get, Has, Size, Sum, Nil, Put, Del, Bump, Formula, Le, Lt, Eq, Not, And, Or, Imp}
use Rattle.sync_machine.specs.declared.fields.Field.{Field}
use Rattle.sync_base.specs.declared.strategies.OpMode.{OpMode}
use Rattle.sync_base.specs.declared.strategies.OpMode.TheVariants as mode
use Rattle.sync_machine.specs.Machines.{PatternTree, Bind, Term, PlaceTree, ActTree, StepTree, OperationTree, InvariantTree, MachineTree}
use Rattle.sync_machine.specs.Machines as acts
use Rattle.sync_machine.specs.Statements.{binds}
use Rattle.sync_machine.specs.States.{Sort, Numbers, Maps, sort_of, strategy_at}
use Rattle.sync_machine.specs.Scope.{Known, knows}

-- a check passes where there is no fault, and else tells it
abbrev pub Tells : {A R : Type 0} → Result A R → Option R → Type 0
Tells (Ok x) fault = fault ≡ None
Tells (Err r) fault = fault ≡ Some r

-- a rule that is broken where a test says so
abbrev pub broken : Bool → Rule → Option Rule
broken true r = Some r
broken false r = None

abbrev pub at_line : ℕ → Option Rule → Option Refusal
at_line line (Some r) = Some (record { line = line; rule = r })
at_line line None = None

-- the first fault of a list, where each element is judged beside those before it
unfoldable pub first_fault : {A R : Type 0} → (List A → A → Option R) → List A → List A → Option R
first_fault judge before [] = None
first_fault judge before (x ∷ xs) = first (judge before x) (first_fault judge (before ++ x ∷ []) xs)

abbrev pub is_map_sort : Sort → Bool
is_map_sort Numbers = false
is_map_sort Maps = true

-- ---- terms and formulas

-- an unknown name, or one of the other sort
abbrev pub sort_fault : Sort → Option Sort → Option Rule
sort_fault wanted None = Some N1
sort_fault Numbers (Some Numbers) = None
sort_fault Numbers (Some Maps) = Some N6
sort_fault Maps (Some Maps) = None
sort_fault Maps (Some Numbers) = Some N6

-- the first lexeme of a term is an unknown name
unfoldable pub begins_unknown : Known → Tree → Bool
begins_unknown k (Name x) = is_none (k x)
begins_unknown k (Add a b) = begins_unknown k a
begins_unknown k (Sub a b) = begins_unknown k a
begins_unknown k (Lit n) = false
begins_unknown k (Scale n a) = false
begins_unknown k (Get m i) = false
begins_unknown k (Has m i) = false
begins_unknown k (Size m) = false
begins_unknown k (Sum m) = false
begins_unknown k Nil = false
begins_unknown k (Put m i v) = false
begins_unknown k (Del m i) = false
begins_unknown k (Bump m i n) = false

-- a sum or a difference where a map is wanted, by its first operand
abbrev pub no_map : Known → Tree → Option Rule
no_map k a = Some (if begins_unknown k a then N1 else N6)

unfoldable mutual
  -- a term where a number is wanted
  pub number_fault : Known → Tree → Option Rule
  number_fault k (Lit n) = None
  number_fault k (Name x) = sort_fault Numbers (k x)
  number_fault k (Add a b) = first (number_fault k a) (number_fault k b)
  number_fault k (Sub a b) = first (number_fault k a) (number_fault k b)
  number_fault k (Scale n a) = number_fault k a
  number_fault k (Get m i) = first (map_fault k m) (number_fault k i)
  number_fault k (Has m i) = first (map_fault k m) (number_fault k i)
  number_fault k (Size m) = map_fault k m
  number_fault k (Sum m) = map_fault k m
  number_fault k Nil = Some N6
  number_fault k (Put m i v) = Some N6
  number_fault k (Del m i) = Some N6
  number_fault k (Bump m i n) = Some N6

  -- a term where a map is wanted
  pub map_fault : Known → Tree → Option Rule
  map_fault k (Name x) = sort_fault Maps (k x)
  map_fault k Nil = None
  map_fault k (Put m i v) = first (map_fault k m) (first (number_fault k i) (number_fault k v))
  map_fault k (Del m i) = first (map_fault k m) (number_fault k i)
  map_fault k (Bump m i n) = first (map_fault k m) (first (number_fault k i) (number_fault k n))
  map_fault k (Add a b) = no_map k a
  map_fault k (Sub a b) = no_map k a
  map_fault k (Lit n) = Some N6
  map_fault k (Scale n a) = Some N6
  map_fault k (Get m i) = Some N6
  map_fault k (Has m i) = Some N6
  map_fault k (Size m) = Some N6
  map_fault k (Sum m) = Some N6

unfoldable pub formula_fault : Known → Formula → Option Rule
formula_fault k (Le a b) = first (number_fault k a) (number_fault k b)
formula_fault k (Lt a b) = first (number_fault k a) (number_fault k b)
formula_fault k (Eq a b) = first (number_fault k a) (number_fault k b)
formula_fault k (Not f) = formula_fault k f
formula_fault k (And f g) = first (formula_fault k f) (formula_fault k g)
formula_fault k (Or f g) = first (formula_fault k f) (formula_fault k g)
formula_fault k (Imp f g) = first (formula_fault k f) (formula_fault k g)

abbrev pub value_fault : Known → Sort → Tree → Option Rule
value_fault k Numbers t = number_fault k t
value_fault k Maps t = map_fault k t

-- ---- statements

-- the name that a statement binds, if it binds one
unfoldable pub bound_by : ActTree → Option ℕ
bound_by (acts.Add f p) = binds p
bound_by (acts.Remove f p) = binds p
bound_by (acts.Have f p) = binds p
bound_by (acts.Deposit f p) = binds p
bound_by (acts.Withdraw f p) = binds p
bound_by (acts.Guard f p) = binds p
bound_by (acts.Init f t) = None
bound_by (acts.Require form) = None
bound_by (acts.Assert form) = None
bound_by (acts.Update f t) = None
bound_by (acts.HaveVariable f) = None

abbrev pub bound_names : List StepTree → List ℕ
bound_names ss = filter_map (λ (s : StepTree). bound_by s.act) ss

abbrev pub is_in : ℕ → List ℕ → Bool
is_in x xs = list_any (nat_eq x) xs

-- a field has the name of this symbol
abbrev pub is_fields : List Field → ℕ → Bool
is_fields fs x = list_any (λ (f : Field). nat_eq x (64 + 4 * f.name)) fs

-- a parameter or bound name that is a field's, or one that its operation or invariant has already
abbrev pub repeated : List Field → List ℕ → ℕ → Option Rule
repeated fs names x = broken (is_fields fs x || is_in x names) N2

abbrev pub unknown_field : List Field → ℕ → Option Rule
unknown_field fs f = broken (nat_le (length fs) f) N1

abbrev pub key_fault : Known → Option Tree → Option Rule
key_fault k None = None
key_fault k (Some t) = number_fault k t

abbrev pub pattern_fault : List Field → List ℕ → Option PatternTree → Option Rule
pattern_fault fs names None = None
pattern_fault fs names (Some (Bind x)) = repeated fs names x
pattern_fault fs names (Some (Term t)) = number_fault (knows fs names) t

-- a field, and what stands behind it in the statement
abbrev pub on_place : List Field → List ℕ → ℕ → PlaceTree → Option Rule
on_place fs names f p = first (unknown_field fs f) (first (key_fault (knows fs names) p.key) (pattern_fault fs names p.value))

abbrev pub on_value : List Field → List ℕ → ℕ → Tree → Option Rule
on_value fs names f t = first (unknown_field fs f) (value_fault (knows fs names) (sort_of (strategy_at fs f)) t)

unfoldable pub act_fault : List Field → List ℕ → ActTree → Option Rule
act_fault fs names (acts.Init f t) = on_value fs names f t
act_fault fs names (acts.Update f t) = on_value fs names f t
act_fault fs names (acts.Require form) = formula_fault (knows fs names) form
act_fault fs names (acts.Assert form) = formula_fault (knows fs names) form
act_fault fs names (acts.HaveVariable f) = unknown_field fs f
act_fault fs names (acts.Add f p) = on_place fs names f p
act_fault fs names (acts.Remove f p) = on_place fs names f p
act_fault fs names (acts.Have f p) = on_place fs names f p
act_fault fs names (acts.Deposit f p) = on_place fs names f p
act_fault fs names (acts.Withdraw f p) = on_place fs names f p
act_fault fs names (acts.Guard f p) = on_place fs names f p

-- a statement that its operation has no room for, or its first fault; it knows the names that earlier ones bind
unfoldable pub step_fault : List Field → List ℕ → List StepTree → StepTree → Option Refusal
step_fault fs params earlier s = at_line s.line (first (broken (nat_le 64 (length earlier)) N5) (act_fault fs (params ++ bound_names earlier) s.act))

-- ---- fields, operations and invariants

abbrev pub initialises : ℕ → ActTree → Bool
initialises f (acts.Init g t) = nat_eq f g
initialises f (acts.Require form) = false
initialises f (acts.Assert form) = false
initialises f (acts.Update g t) = false
initialises f (acts.HaveVariable g) = false
initialises f (acts.Add g p) = false
initialises f (acts.Remove g p) = false
initialises f (acts.Have g p) = false
initialises f (acts.Deposit g p) = false
initialises f (acts.Withdraw g p) = false
initialises f (acts.Guard g p) = false

-- each field is initialised exactly once
unfoldable pub is_started : List Field → List StepTree → Bool
is_started fs steps = list_all (λ f. nat_eq (count_by (λ (s : StepTree). initialises f s.act) steps) 1) (range_with_len 0 (length fs))

abbrev pub start_fault : List Field → OpMode → List StepTree → Option Rule
start_fault fs mode.Init steps = broken (not (is_started fs steps)) N4
start_fault fs mode.Transition steps = None
start_fault fs mode.Property steps = None

abbrev pub is_field_name : List Field → ℕ → Bool
is_field_name fs n = list_any (λ (f : Field). nat_eq n f.name) fs

abbrev pub is_operation_name : List OperationTree → ℕ → Bool
is_operation_name os n = list_any (λ (o : OperationTree). nat_eq n o.name) os

abbrev pub is_invariant_name : List InvariantTree → ℕ → Bool
is_invariant_name is n = list_any (λ (i : InvariantTree). nat_eq n i.name) is

-- a name that a field or one of these operations has
abbrev pub is_taken : List Field → List OperationTree → ℕ → Bool
is_taken fs os n = is_field_name fs n || is_operation_name os n

-- a field that the machine has no room for, or one whose name an earlier field has
unfoldable pub field_fault : List Field → Field → Option Refusal
field_fault earlier f = at_line f.line (first (broken (nat_le 32 (length earlier)) N5) (broken (is_field_name earlier f.name) N2))

-- a parameter of an operation, which has at most 8
abbrev pub parameter_fault : List Field → List ℕ → ℕ → Option Rule
parameter_fault fs earlier x = first (repeated fs earlier x) (broken (nat_le 8 (length earlier)) N5)

-- an operation without its statements
unfoldable pub head_fault : List Field → List OperationTree → OperationTree → Option Rule
head_fault fs earlier o = first (start_fault fs o.mode o.steps)
    (first (broken (nat_le 64 (length earlier)) N5)
    (first (broken (is_taken fs earlier o.name) N2)
    (first_fault (parameter_fault fs) [] o.params)))

unfoldable pub operation_fault : List Field → List OperationTree → OperationTree → Option Refusal
operation_fault fs earlier o = first (at_line o.line (head_fault fs earlier o)) (first_fault (step_fault fs o.params) [] o.steps)

unfoldable pub invariant_rule : List Field → List OperationTree → List InvariantTree → InvariantTree → Option Rule
invariant_rule fs os earlier i = first (broken (nat_le 64 (length earlier)) N5)
    (first (broken (is_taken fs os i.name || is_invariant_name earlier i.name) N2)
    (first (first_fault (repeated fs) [] i.params)
    (formula_fault (knows fs i.params) i.form)))

abbrev pub invariant_fault : List Field → List OperationTree → List InvariantTree → InvariantTree → Option Refusal
invariant_fault fs os earlier i = at_line i.line (invariant_rule fs os earlier i)

-- the first broken rule of a machine
unfoldable pub machine_fault : MachineTree → Option Refusal
machine_fault m = first (first_fault field_fault [] m.fields)
    (first (first_fault (operation_fault m.fields) [] m.ops)
    (first_fault (invariant_fault m.fields m.ops) [] m.invariants))

-- ---- symbols of names

-- the symbol of a name's number, as a parameter or bound name; a text has fewer than 1,048,576 names
abbrev pub IsTextName : ℕ → Type 0
IsTextName x = (n : ℕ) × (x ≡ 64 + 4 * n) × (n < 1048576)

abbrev pub BindsTextName : Option ℕ → Type 0
BindsTextName (Some x) = IsTextName x
BindsTextName None = Unit {0}

-- the parameters and bound names of an operation
pub record HasTextNames (o : OperationTree) : Type 0 where
  pub params : AllByRecursion IsTextName o.params
  pub bound : AllByRecursion (λ (s : StepTree). BindsTextName (bound_by s.act)) o.steps

-- each parameter and bound name of a machine is the symbol of a name
pub record AreTextNames (m : MachineTree) : Type 0 where
  pub ops : AllByRecursion HasTextNames m.ops
  pub invariants : AllByRecursion (λ (i : InvariantTree). AllByRecursion IsTextName i.params) m.invariants
