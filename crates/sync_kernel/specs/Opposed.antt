-- A fact whose negation is a fact, looked for from the negated side.
use Rattle.std.specs.Prelude.{Bool, false, ◌&&◌, ◌||◌, List}
use Rattle.std.specs.List.{list_any}
use Rattle.sync_terms.specs.Trees.{Formula, Le, Lt, Eq, Not, And, Or, Imp}
use Rattle.sync_kernel_facts.specs.Facts.{Fact, is_plain}
use Rattle.sync_kernel.specs.Rows.{row_of, formula_eq}
use Rattle.sync_kernel.specs.Steps.{is_false_row}

-- a fact without parameters says this
abbrev pub is_fact : List Fact → Formula → Bool
is_fact facts form = list_any (λ (g : Fact). is_plain g && formula_eq g.form form) facts

-- the formula is the negation of such a fact
abbrev pub is_undone : List Fact → Formula → Bool
is_undone facts (Not f) = is_fact facts f
is_undone facts (Le t u) = false
is_undone facts (Lt t u) = false
is_undone facts (Eq t u) = false
is_undone facts (And f g) = false
is_undone facts (Or f g) = false
is_undone facts (Imp f g) = false

-- the formula alone, or with such a fact, is a contradiction
abbrev pub is_closing : List Fact → Formula → Bool
is_closing facts form = is_undone facts form || is_false_row (row_of form)

-- the formula alone, or with such a fact on either side, is a contradiction
abbrev pub is_closing_with : List Fact → Formula → Bool
is_closing_with facts form = (is_undone facts form || is_fact facts (Not form)) || is_false_row (row_of form)

abbrev pub closes_same : List Fact → Fact → Bool
closes_same facts f = is_plain f && is_closing facts f.form
