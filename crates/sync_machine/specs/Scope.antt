-- Which symbols stand for what in a term, so that its value depends on these alone.
use Rattle.std.specs.Prelude.{◌≡◌, ℕ, ◌+◌, ◌*◌, List, length, nat_lt, nat_eq, if◌then◌else◌, Option, Some, None}
use Rattle.std.specs.List.{list_any, AllByRecursion}
use Rattle.sync_terms.specs.Trees.{Tree, Lit, Name, Add, Sub, Scale, Get, Has, Size, Sum, Nil, Put, Del, Bump, Formula, Le, Lt, Eq, Not, And, Or, Imp}
use Rattle.sync_machine.specs.declared.fields.Field.{Field}
use Rattle.sync_base.specs.declared.strategies.OpMode.TheVariants as mode
use Rattle.sync_machine.specs.Machines.{StepTree, OperationTree, InvariantTree}
use Rattle.sync_machine.specs.Statements.{changed_by}
use Rattle.sync_machine.specs.States.{Sort, Numbers, Maps, sort_of, strategy_at}

-- the sort of each known symbol
abbrev pub Known : Type 0
Known = ℕ → Option Sort

-- a term that is a number, and one that is a map, over known symbols alone
abbrev mutual
  pub IsNumber : Known → Tree → Type 0
  IsNumber k (Lit n) = Unit {0}
  IsNumber k (Name x) = k x ≡ Some Numbers
  IsNumber k (Add a b) = IsNumber k a × IsNumber k b
  IsNumber k (Sub a b) = IsNumber k a × IsNumber k b
  IsNumber k (Scale n a) = IsNumber k a
  IsNumber k (Get m i) = IsMap k m × IsNumber k i
  IsNumber k (Has m i) = IsMap k m × IsNumber k i
  IsNumber k (Size m) = IsMap k m
  IsNumber k (Sum m) = IsMap k m
  IsNumber k Nil = ⊥
  IsNumber k (Put m i v) = ⊥
  IsNumber k (Del m i) = ⊥
  IsNumber k (Bump m i n) = ⊥

  pub IsMap : Known → Tree → Type 0
  IsMap k (Name x) = k x ≡ Some Maps
  IsMap k Nil = Unit {0}
  IsMap k (Put m i v) = IsMap k m × IsNumber k i × IsNumber k v
  IsMap k (Del m i) = IsMap k m × IsNumber k i
  IsMap k (Bump m i n) = IsMap k m × IsNumber k i × IsNumber k n
  IsMap k (Lit n) = ⊥
  IsMap k (Add a b) = ⊥
  IsMap k (Sub a b) = ⊥
  IsMap k (Scale n a) = ⊥
  IsMap k (Get m i) = ⊥
  IsMap k (Has m i) = ⊥
  IsMap k (Size m) = ⊥
  IsMap k (Sum m) = ⊥

-- a formula over known symbols alone, with numbers where it compares
abbrev pub IsFormula : Known → Formula → Type 0
IsFormula k (Le a b) = IsNumber k a × IsNumber k b
IsFormula k (Lt a b) = IsNumber k a × IsNumber k b
IsFormula k (Eq a b) = IsNumber k a × IsNumber k b
IsFormula k (Not f) = IsFormula k f
IsFormula k (And f g) = IsFormula k f × IsFormula k g
IsFormula k (Or f g) = IsFormula k f × IsFormula k g
IsFormula k (Imp f g) = IsFormula k f × IsFormula k g

abbrev pub HasSort : Known → Sort → Tree → Type 0
HasSort k Numbers t = IsNumber k t
HasSort k Maps t = IsMap k t

-- the symbols of the fields, and of a list of numbers
abbrev pub knows : List Field → List ℕ → Known
knows fs names x = if nat_lt x (length fs) then Some (sort_of (strategy_at fs x)) else (if list_any (nat_eq x) names then Some Numbers else None)

-- a number that a name of the text may have as a parameter or bound name: 64, 68, 72, ..
abbrev pub IsNameSymbol : ℕ → Type 0
IsNameSymbol x = (n : ℕ) × (x ≡ 64 + 4 * n)

-- an invariant speaks of the fields and its parameters alone
pub record IsScopedInvariant (fs : List Field) (i : InvariantTree) : Type 0 where
  pub are_names : AllByRecursion IsNameSymbol i.params
  pub form : IsFormula (knows fs i.params) i.form

-- a property changes nothing
abbrev pub ChangesNothing : OperationTree → Type 0
ChangesNothing o = o.mode ≡ mode.Property → AllByRecursion (λ (s : StepTree). changed_by s.act ≡ None) o.steps
