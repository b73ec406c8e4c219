-- Literals in the order in which they came; a place may have none.
use Rattle.std.specs.Prelude.{ℕ, suc, Bool, false, List, [], ◌∷◌, Option, Some, None, if◌then◌else◌}
use Rattle.std.specs.List.{list_any}
use Rattle.sync_kernel_facts.specs.declared.literals.Literal.{Literal}
use Rattle.sync_kernel_facts.specs.Literals.{same_literal}

-- a place has this literal
abbrev pub is_entry : Literal → Option Literal → Bool
is_entry l None = false
is_entry l (Some m) = same_literal m l

-- one of the places does
abbrev pub has_entry : List (Option Literal) → Literal → Bool
has_entry es l = list_any (is_entry l) es

-- the first of them, counted from n
abbrev pub first_place : ℕ → Literal → List (Option Literal) → Option ℕ
first_place n l [] = None
first_place n l (e ∷ es) = if is_entry l e then Some n else first_place (suc n) l es
