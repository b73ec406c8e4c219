-- Code that fits, from its start on, event by event.
use Rattle.std.specs.Prelude.{◌≡◌, ℕ, ◌<◌, true, false, ◌⊎◌, List, length, Ok}
use Rattle.sync_thread.specs.declared.operands.Moved.{Moved}
use Rattle.sync_thread.specs.declared.operands.Moved.TheVariants.{Stepped, Nothing}
use Rattle.sync_thread.specs.declared.program.Code.{Code}
use Rattle.sync_thread.specs.Control.{waits_at}
use Rattle.sync_thread.specs.Code.{CodeTree, erased_after, ErasedConfig}
use Rattle.sync_thread.specs.Views.{code_tree}
use Rattle.sync_thread_events.specs.declared.moments.Moment.{Moment}
use Rattle.sync_thread_events.specs.Moments.{config_of, IsMomentOf}

-- The events of some list of numbers leave the code there.
pub record IsLeft (x : Code) (m : Moment) : Type 0 where
  pub made : IsMomentOf x m
  pub sigma : List ℕ
  pub leaves : erased_after (code_tree x) sigma ≡ Ok (config_of x m)

-- a thread, by its number, has not ended
pub record HasNotEnded (x : CodeTree) (t : ℕ) (c : ErasedConfig) : Type 0 where
  pub thread : t < length x.threads
  pub waits : waits_at t c.places ≡ true

-- Whoever has this number waits nowhere, so it has ended; or it is the final block, and a thread has not ended.
abbrev pub HasNoEvent : CodeTree → ℕ → ErasedConfig → Type 0
HasNoEvent x t c = (waits_at t c.places ≡ false) ⊎ ((t ≡ length x.threads) × (u : ℕ) × HasNotEnded x u c)

-- nothing exactly where this is so
abbrev pub MovesUnless : Type 0 → Moved → Type 0
MovesUnless P Nothing = P
MovesUnless P Stepped = P → ⊥

-- The final block waits only where all threads have ended.
abbrev pub FinalBlockWaitsLast : Type 0
FinalBlockWaitsLast = (x : CodeTree) (sigma : List ℕ) (c : ErasedConfig) → erased_after x sigma ≡ Ok c
    → waits_at (length x.threads) c.places ≡ true → (t : ℕ) → HasNotEnded x t c → ⊥
