-- A shared step with its values is the step of the code.
use Rattle.std.specs.Prelude.{◌≡◌, ℕ, ◌<◌, List, length, Ok}
use Rattle.sync_base.specs.Outcome.{◌>>=◌}
use Rattle.sync_thread.specs.declared.operands.CodeDecl.{CodeDecl}
use Rattle.sync_thread.specs.Arrays.{words_named, cells_named}
use Rattle.sync_thread.specs.Code.{CodeShared, Memory, code_step}
use Rattle.sync_thread_places.specs.Runs.{holding}
use Rattle.sync_thread_events.specs.declared.steps.SharedStep.{SharedStep}
use Rattle.sync_thread_events.specs.Steps.{asked_with, assigned_if, done_on, found_by, local_of}

-- the memory after a step that thread t asked for with these locals
abbrev pub memory_after : ℕ → (ℕ → ℕ) → CodeShared → Memory → SharedStep → Memory
memory_after t f a m s = holding t (assigned_if (local_of a) (found_by s m.words m.cells) f) (done_on s m)

abbrev pub StepsAreCodeSteps : Type 0
StepsAreCodeSteps = (ds : List CodeDecl) (t : ℕ) (f : ℕ → ℕ) (a : CodeShared) (m : Memory) → t < length m.locals
    → code_step ds t a (holding t f m)
    ≡ asked_with (λ x. words_named x ds) (λ x. cells_named x ds) f a >>= (λ (s : SharedStep). Ok (memory_after t f a m s))
