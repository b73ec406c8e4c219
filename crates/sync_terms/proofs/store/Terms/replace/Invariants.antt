use Rattle.std.proofs.Common.{[], ◌∷◌, ◌++◌}
use Rattle.sync_terms.specs.declared.subst.Part.TheVariants as part
use Rattle.sync_terms.proofs.Walking.{IsWay, work}
use Rattle.sync_terms.proofs.store.Terms.replace.Given as goal

abbrev pub invariant-loop-first : goal.invariant-loop-first
invariant-loop-first l = IsWay l.fn.self l.fn.done (part.Form l.form) l.self l.done (l.above.items ++ l.part ∷ [])

abbrev pub decreases-loop-first : goal.decreases-loop-first
decreases-loop-first l = work l.done l.part
