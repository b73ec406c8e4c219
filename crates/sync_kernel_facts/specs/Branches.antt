-- The facts of a branch as the code has them: a stack, with the place of each name's newest fact.
use Rattle.std.specs.Prelude.{◌≡◌, ℕ, Bool, suc, ◌+◌, ◌-◌, ◌^◌, ◌≤◌, min, List, [], ◌∷◌, map, length, take, Option, Some, None, if◌then◌else◌}
use Rattle.std.specs.List.{AllByRecursion}
use Rattle.sync_base.specs.Outcome.{first}
use Rattle.sync_terms.specs.declared.nodes.Sym.{Sym}
use Rattle.sync_terms.specs.declared.scripts.HypName.{HypName}
use Rattle.sync_terms.specs.contracts.scripts.HypNamePartialEq.TheImpl.{eq-value}
use Rattle.sync_terms.specs.Trees.{formula_size}
use Rattle.sync_terms.specs.Stored.{Stored}
use Rattle.sync_kernel_facts.specs.declared.branches.Said.{Said}
use Rattle.sync_kernel_facts.specs.Facts.{Fact, same_name}
use Rattle.sync_kernel_facts.specs.Literals.{literal_form, IsLiteral}

abbrev pub said_fact : Stored → Said → Fact
said_fact s x = record { name = x.name; params = map (λ (p : Sym). p.0) x.params; form = literal_form s x.says }

abbrev pub facts_in : Stored → List Said → List Fact
facts_in s xs = map (said_fact s) xs

-- its formula is stored, and its size is that of what it says
abbrev pub IsSaid : Stored → Said → Type 0
IsSaid s x = IsLiteral s x.says × (x.size ≡ formula_size (literal_form s x.says))

abbrev pub AreSaid : Stored → List Said → Type 0
AreSaid s xs = AllByRecursion (IsSaid s) xs

-- whether two names are the same, as the program's `==` tells
abbrev pub equal_names : HypName → HypName → Bool
equal_names = eq-value.it

-- the newest of a name
abbrev pub newest_said : HypName → List Said → Option Said
newest_said name [] = None
newest_said name (x ∷ xs) = first (newest_said name xs) (if same_name x.name name then Some x else None)

-- its place, counted from n
abbrev pub place_from : ℕ → HypName → List Said → Option ℕ
place_from n name [] = None
place_from n name (x ∷ xs) = first (place_from (suc n) name xs) (if same_name x.name name then Some n else None)

-- the nodes of all
abbrev pub said_size : List Said → ℕ
said_size [] = 0
said_size (x ∷ xs) = x.size + said_size xs

-- a count that stands still at the end of its type
abbrev pub capped : ℕ → ℕ
capped n = min n (2 ^ 64 - 1)

-- the branch begins with these facts
abbrev pub Begins : List Said → List Said → Type 0
Begins xs ys = (length xs ≤ length ys) × (take (length xs) ys ≡ xs)
