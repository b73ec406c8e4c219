-- The list of what has to be proved of a machine.
use Rattle.std.specs.Prelude.{ℕ, suc, List, [], ◌∷◌, ◌++◌, Bool, true, false, ◌||◌, nat_eq, is_some, Option, Some, None, if◌then◌else◌}
use Rattle.std.specs.List.{list_any}
use Rattle.sync_terms.specs.Trees.{Tree, Lit, Name, Add, Sub, Scale, Get, Has, Size, Sum, Nil, Put, Del, Bump, Formula, Le, Lt, Eq, Not, And, Or, Imp}
use Rattle.sync_machine.specs.declared.fields.Field.{Field}
use Rattle.sync_base.specs.declared.strategies.OpMode.{OpMode}
use Rattle.sync_base.specs.declared.strategies.OpMode.TheVariants as mode
use Rattle.sync_machine.specs.Machines.{StepTree, OperationTree, InvariantTree, MachineTree}
use Rattle.sync_machine.specs.Statements.{safety, changed_by}
use Rattle.sync_machine.specs.States.{strategy_of}
use Rattle.sync_terms.specs.declared.proofs.Claim.TheVariants.{At, Keeps}
use Rattle.sync_terms.specs.declared.proofs.Obligation.{Obligation}

-- a term names a symbol
unfoldable pub names : ℕ → Tree → Bool
names x (Lit n) = false
names x (Name y) = nat_eq x y
names x (Add a b) = names x a || names x b
names x (Sub a b) = names x a || names x b
names x (Scale n a) = names x a
names x (Get m k) = names x m || names x k
names x (Has m k) = names x m || names x k
names x (Size m) = names x m
names x (Sum m) = names x m
names x Nil = false
names x (Put m k v) = names x m || names x k || names x v
names x (Del m k) = names x m || names x k
names x (Bump m k n) = names x m || names x k || names x n

-- a formula names a symbol
unfoldable pub form_names : ℕ → Formula → Bool
form_names x (Le a b) = names x a || names x b
form_names x (Lt a b) = names x a || names x b
form_names x (Eq a b) = names x a || names x b
form_names x (Not f) = form_names x f
form_names x (And f g) = form_names x f || form_names x g
form_names x (Or f g) = form_names x f || form_names x g
form_names x (Imp f g) = form_names x f || form_names x g

-- a statement has a safety condition; which term its field has by then does not matter to that
abbrev pub has_safety : List Field → StepTree → Bool
has_safety fs s = is_some (safety (strategy_of fs s.act) Nil s.act)

-- the statements with safety conditions, numbered from n
unfoldable pub safety_claims : List Field → ℕ → ℕ → List StepTree → List Obligation
safety_claims fs op n [] = []
safety_claims fs op n (s ∷ ss) =
    if has_safety fs s then record { op = op; claim = At n; line = s.line } ∷ safety_claims fs op (suc n) ss
    else safety_claims fs op (suc n) ss

-- a formula names this field, if there is one
abbrev pub touches : Formula → Option ℕ → Bool
touches form (Some f) = form_names f form
touches form None = false

-- a formula names a field that a changing statement operates on
abbrev pub is_touched : Formula → List StepTree → Bool
is_touched form ss = list_any (λ (s : StepTree). touches form (changed_by s.act)) ss

-- An init has to keep every formula, a transition those that it touches, and a property, which changes nothing, none.
abbrev pub is_kept_by : OpMode → List StepTree → Formula → Bool
is_kept_by mode.Init ss form = true
is_kept_by mode.Transition ss form = is_touched form ss
is_kept_by mode.Property ss form = false

-- which invariants an operation has to keep
abbrev pub has_to_keep : OperationTree → InvariantTree → Bool
has_to_keep o i = is_kept_by o.mode o.steps i.form

-- the invariants, numbered from j, that an operation has to keep
unfoldable pub keeps_claims : OperationTree → ℕ → ℕ → List InvariantTree → List Obligation
keeps_claims o op j [] = []
keeps_claims o op j (i ∷ is) =
    if has_to_keep o i then record { op = op; claim = Keeps j; line = o.line } ∷ keeps_claims o op (suc j) is
    else keeps_claims o op (suc j) is

-- the operations, numbered from op: of each its safety conditions, then the invariants that it keeps
unfoldable pub claims_of : MachineTree → ℕ → List OperationTree → List Obligation
claims_of m op [] = []
claims_of m op (o ∷ os) = (safety_claims m.fields op 1 o.steps ++ keeps_claims o op 0 m.invariants) ++ claims_of m (suc op) os

-- what has to be proved of a machine, in order
abbrev pub obligations_of : MachineTree → List Obligation
obligations_of m = claims_of m 0 m.ops
