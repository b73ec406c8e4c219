use Rattle.std.proofs.Common.{◌≡◌, drop, [], map}
use Rattle.sync_terms.specs.Stored.{Stored, Extends}
use Rattle.sync_read.specs.Scripts.{thens_from, then_of, step_of}
use Rattle.sync_read.proofs.scripts.+blocks.Given as goal

abbrev pub invariant-block-loop-step : goal.invariant-block-loop-step
invariant-block-loop-step l =
    ((t : Stored) → Extends l.terms t → thens_from (map (then_of t) l.steps) (map (step_of l.scope) (drop l.step-index l.step-items)) ≡ thens_from [] (map (step_of l.scope) l.step-items))
    × Extends l.initial.terms l.terms
