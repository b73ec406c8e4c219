-- When `same` and `sum` close a branch, and the rule that is broken where they do not.
use Rattle.std.specs.Prelude.{ℕ, ℤ, pos, Bool, true, false, ◌&&◌, ◌||◌, int_lt, List, [], ◌∷◌, ◌++◌, Option, Some, None, option_map, Result, Ok, Err, if◌then◌else◌}
use Rattle.std.specs.Ordering.{int_eq}
use Rattle.std.specs.List.{list_all, list_any}
use Rattle.sync_base.specs.declared.stops.Refusal.{Refusal}
use Rattle.sync_base.specs.declared.stops.Rule.{Rule}
use Rattle.sync_base.specs.declared.stops.Rule.TheVariants.{K1, K2, K4, K5, K6, K7}
use Rattle.sync_terms.specs.declared.scripts.Part.{Part}
use Rattle.sync_terms.specs.Trees.{Tree, Lit, Add, Scale, neg}
use Rattle.sync_linear.specs.Forms.{constant_of}
use Rattle.sync_kernel.specs.declared.rows.Kind.{Kind}
use Rattle.sync_kernel.specs.declared.rows.Kind.TheVariants.{AtMostZero, Zero, NotZero}
use Rattle.sync_kernel.specs.declared.rows.Used.{Used}
use Rattle.sync_kernel_facts.specs.Facts.{Fact, is_plain, newest}
use Rattle.sync_kernel.specs.Rows.{Row, row_of, within, narrow, no_atom, is_false, formula_eq}

-- a rule that is broken at a line
abbrev pub at_line : ℕ → Option Rule → Option Refusal
at_line line fault = option_map (λ (r : Rule). record { line = line; rule = r }) fault

-- the negation of a formula is a fact too
abbrev pub is_opposed : List Fact → Fact → Bool
is_opposed facts f = list_any (λ (g : Fact). is_plain g && formula_eq g.form (neg f.form)) facts

-- a line without atoms that is false; one outside 128 bits is passed over
abbrev pub is_false_row : Option Row → Bool
is_false_row None = false
is_false_row (Some r) = narrow r.line && (no_atom r.line && is_false r.kind (constant_of r.line))

-- `same` closes where two facts are a formula and its negation, or one is a false line
abbrev pub same_fault : List Fact → Option Rule
same_fault facts = if list_any (λ (f : Fact). is_plain f && (is_opposed facts f || is_false_row (row_of f.form))) facts then None else Some K4

-- the line of a fact; one with parameters has none
abbrev pub usable : Fact → Option Row
usable f = if is_plain f then row_of f.form else None

-- a line that is at most 0, with a negative number
abbrev pub is_turned : Kind → ℤ → Bool
is_turned AtMostZero n = int_lt n (pos 0)
is_turned Zero n = false
is_turned NotZero n = false

-- the line, the line so many times, and the sum with it stay within 128 bits
abbrev pub fits_in : Tree → ℤ → Tree → Bool
fits_in sum n line = narrow line && (within (Scale n line) && within (Add sum (Scale n line)))

-- the sum after a part, and what was used
pub record Next : Type 0 where
  pub sum : Tree
  pub used : Used

abbrev pub with_row : Option Row → Tree → Part → Result Next Rule
with_row None sum p = Err K2
with_row (Some r) sum p =
    if is_turned r.kind p.times then Err K6
    else (if fits_in sum p.times r.line then Ok (record { sum = Add sum (Scale p.times r.line); used = record { times = p.times; kind = r.kind } }) else Err K7)

-- one part of a `sum`
abbrev pub with_part : Option Fact → Tree → Part → Result Next Rule
with_part None sum p = Err K1
with_part (Some f) sum p = with_row (usable f) sum p

-- a line that is at most 0 or 0
abbrev pub is_bound : Kind → Bool
is_bound AtMostZero = true
is_bound Zero = true
is_bound NotZero = false

abbrev pub is_equation : Kind → Bool
is_equation AtMostZero = false
is_equation Zero = true
is_equation NotZero = false

abbrev pub apart_first : Kind → ℤ → Bool → Bool → Bool
apart_first AtMostZero n equations apart = false
apart_first Zero n equations apart = apart
apart_first NotZero n equations apart = int_eq n (pos 1) && equations

-- exactly one line is not 0, with the number 1, and the others are equations
abbrev pub one_apart : List Used → Bool
one_apart [] = false
one_apart (u ∷ us) = apart_first u.kind u.times (list_all (λ (v : Used). is_equation v.kind) us) (one_apart us)

-- no atom stays, and the constant is above 0 where no line is "not 0", or 0 where exactly one is and the others are equations
abbrev pub closes : List Used → Tree → Bool
closes used sum =
    no_atom sum && ((int_lt (pos 0) (constant_of sum) && list_all (λ (u : Used). is_bound u.kind) used) || (int_eq (constant_of sum) (pos 0) && one_apart used))

abbrev pub go_on : Result Next Rule → (Next → Option Rule) → Option Rule
go_on (Err rule) rest = Some rule
go_on (Ok next) rest = rest next

-- the parts of a `sum`, from the left, behind a sum of what was used before; the first partial sum is the first scaled line
abbrev pub added : List Fact → Tree → List Used → List Part → Option Rule
added facts sum used [] = if closes used sum then None else Some K5
added facts sum used (p ∷ ps) = go_on (with_part (newest p.hyp facts) sum p) (λ (n : Next). added facts n.sum (used ++ n.used ∷ []) ps)

abbrev pub sum_fault : List Fact → List Part → Option Rule
sum_fault facts parts = added facts (Lit (pos 0)) [] parts
