use Rattle.std.proofs.Common.{ℤ, List, sym, subst}
use Rattle.sync_entries.specs.Narrow.{HasNarrowValues}
use Rattle.sync_entries.proofs.Lookups.{map_in}
use Rattle.sync_entries.proofs.Narrowing.{narrow-nil}
use Rattle.sync_entries.proofs.entries.Entries.new.Goals as goal

pub invariant_of-result : goal.invariant_of-result
invariant_of-result c = subst (λ (es : List (ℤ × ℤ)). HasNarrowValues (map_in es)) (sym c.new.ensures.empty) narrow-nil
