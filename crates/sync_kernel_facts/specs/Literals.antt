-- Formulas of a store and their negations, as the code has them.
use Rattle.std.specs.Prelude.{◌≡◌, Bool, true, false, ◌&&◌, nat_eq, Option, Some, None, if◌then◌else◌}
use Rattle.std.specs.Bool.{beq}
use Rattle.sync_terms.specs.Trees.{Formula, Le, Lt, Eq, Not, And, Or, Imp}
use Rattle.sync_terms.specs.Stored.{Stored, formula, IsForm}
use Rattle.sync_kernel_facts.specs.declared.literals.Literal.{Literal}

-- what a literal says
abbrev pub literal_form : Stored → Literal → Formula
literal_form s l = if l.negated then Not (formula s l.form) else formula s l.form

abbrev pub IsLiteral : Stored → Literal → Type 0
IsLiteral s l = IsForm s l.form

abbrev pub same_literal : Literal → Literal → Bool
same_literal a b = nat_eq a.form.0 b.form.0 && beq a.negated b.negated

abbrev pub is_negation : Formula → Bool
is_negation (Not f) = true
is_negation (Le t u) = false
is_negation (Lt t u) = false
is_negation (Eq t u) = false
is_negation (And f g) = false
is_negation (Or f g) = false
is_negation (Imp f g) = false

-- a literal whose `!`, if it says one first, stands outside of its stored formula
abbrev pub IsBare : Stored → Literal → Type 0
IsBare s l = l.negated ≡ false → is_negation (formula s l.form) ≡ false

-- what a formula denies: `!F` denies F
abbrev pub denied_by : Formula → Option Formula
denied_by (Not f) = Some f
denied_by (Le t u) = None
denied_by (Lt t u) = None
denied_by (Eq t u) = None
denied_by (And f g) = None
denied_by (Or f g) = None
denied_by (Imp f g) = None

-- the bare literal of a formula, or neither is there
abbrev pub IsEntry : Stored → Option Literal → Option Formula → Type 0
IsEntry s None None = Unit {0}
IsEntry s None (Some f) = ⊥
IsEntry s (Some l) None = ⊥
IsEntry s (Some l) (Some f) = (literal_form s l ≡ f) × IsLiteral s l × IsBare s l
