-- What a store is after a step.
use Rattle.std.specs.Prelude.{◌≡◌, ℕ}
use Rattle.sync_thread_events.specs.declared.steps.SharedStep.{SharedStep}
use Rattle.sync_thread_events.specs.declared.stores.Store.{Store}
use Rattle.sync_thread_events.specs.Steps.{found_by, words_after, cells_after, lines_after}

-- The step found this in the store, and left it so.
pub record HasDone (step : SharedStep) (before : Store) (found : ℕ) (after : Store) : Type 0 where
  pub finds : found ≡ found_by step before.words.items before.cells.items
  pub words : after.words.items ≡ words_after step before.words.items
  pub cells : after.cells.items ≡ cells_after step before.cells.items
  pub lines : after.lines.items ≡ lines_after step before.lines.items
