use Rattle.std.proofs.Common.{ℤ, List, sym, ap, subst, ◌∙◌}
use Rattle.sync_entries.specs.Narrow.{HasNarrowValues}
use Rattle.sync_entries.proofs.Lookups.{map_in}
use Rattle.sync_entries.proofs.entries.Entries.copy.Goals as goal

pub returns-in_err-copied-clause-narrow : goal.returns-in_err-copied-clause-narrow
returns-in_err-copied-clause-narrow c = subst HasNarrowValues c.self.view_is c.self.invariant

pub invariant_of-result : goal.invariant_of-result
invariant_of-result c = subst (λ (es : List (ℤ × ℤ)). HasNarrowValues (map_in es)) (sym c.in_ok-copied.ensures) c.self.invariant

pub returns-clause-same : goal.returns-clause-same
returns-clause-same c = ap map_in c.in_ok-copied.ensures ∙ c.self.view_is

pub returns-clause-narrow : goal.returns-clause-narrow
returns-clause-narrow c = subst HasNarrowValues c.self.view_is c.self.invariant
