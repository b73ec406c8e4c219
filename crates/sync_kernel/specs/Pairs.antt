-- Two formulas as the code has them.
use Rattle.std.specs.Prelude.{◌≡◌, ◌<◌, Option, Some, None, Result, Ok, Err}
use Rattle.sync_terms.specs.declared.store.TermStop.{TermStop}
use Rattle.sync_terms.specs.declared.store.TermStop.TheVariants.{TooLarge, Memory}
use Rattle.sync_terms.specs.Trees.{most_nodes, formula_size}
use Rattle.sync_terms.specs.Stored.{Stored}
use Rattle.sync_kernel_facts.specs.Literals.{literal_form, IsLiteral}
use Rattle.sync_kernel.specs.declared.splits.Pair.{Pair}
use Rattle.sync_kernel.specs.Taking.{Two}

abbrev pub pair_forms : Stored → Pair → Two
pair_forms s p = record { left = literal_form s p.left; right = literal_form s p.right }

abbrev pub IsPair : Stored → Pair → Type 0
IsPair s p = IsLiteral s p.left × IsLiteral s p.right

-- unless memory was wanting, the two that are wanted, if there are any; too large only where the first of them is
abbrev pub TakesApart : Stored → Result (Option Pair) TermStop → Option Two → Type 0
TakesApart s (Ok (Some p)) (Some two) = (pair_forms s p ≡ two) × IsPair s p
TakesApart s (Ok (Some p)) None = ⊥
TakesApart s (Ok None) (Some two) = ⊥
TakesApart s (Ok None) None = Unit {0}
TakesApart s (Err TooLarge) (Some two) = most_nodes < formula_size two.left
TakesApart s (Err TooLarge) None = ⊥
TakesApart s (Err Memory) wanted = Unit {0}
