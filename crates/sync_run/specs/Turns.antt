-- How far a run in turn has come, and what it comes to.
use Rattle.std.specs.Prelude.{◌≡◌, ℕ, suc, ◌<◌, ◌≤◌, true, List, length, map, slice_index, Ok}
use Rattle.std.specs.List.{range_with_len}
use Rattle.sync_thread.specs.Control.{AllMove, events, waits_at}
use Rattle.sync_thread.specs.Code.{CodeTree, code_meaning, ErasedConfig, erased_start, IsStuck}
use Rattle.sync_thread.specs.Reports.{steps_in, IsWhole}

-- The events of a schedule lead there, each a step of somebody who waits, and these are the steps that each made.
pub record LeadsTo (x : CodeTree) (start now : ErasedConfig) (steps : List ℕ) : Type 0 where
  pub sigma : List ℕ
  pub moves : AllMove (code_meaning x) sigma start
  pub leaves : events (code_meaning x) sigma start ≡ Ok now
  pub counts : (t : ℕ) → slice_index steps t ≡ steps_in sigma t

-- Whatever led to the first place, with these steps, leads on to the second one, with those.
abbrev pub LeadsOn : CodeTree → ErasedConfig → List ℕ → ErasedConfig → List ℕ → Type 0
LeadsOn x old before new after = (start : ErasedConfig) → LeadsTo x start old before → LeadsTo x start new after

-- Whatever led here, some schedule is stuck.
abbrev pub GetsStuck : CodeTree → ErasedConfig → List ℕ → Type 0
GetsStuck x old before = (start : ErasedConfig) → erased_start x ≡ Ok start → LeadsTo x start old before
    → (sigma : List ℕ) × IsStuck x sigma

-- somebody has made k steps, or fewer where he does not wait
pub record HasMade (k t : ℕ) (c : ErasedConfig) (steps : List ℕ) : Type 0 where
  pub most : slice_index steps t ≤ k
  pub all : waits_at t c.places ≡ true → k ≤ slice_index steps t

-- In the round number k, from 0, the threads before t have made their step, and the final block has made none.
pub record IsInRound (x : CodeTree) (k t : ℕ) (c : ErasedConfig) (steps : List ℕ) : Type 0 where
  pub count : length steps ≡ suc (length x.threads)
  pub done : (u : ℕ) → u < t → HasMade (suc k) u c steps
  pub next : (u : ℕ) → t ≤ u → u < length x.threads → HasMade k u c steps
  pub last : slice_index steps (length x.threads) ≡ 0

-- All threads have ended or made as many steps as they may, and the final block has made k of them.
pub record IsInLast (x : CodeTree) (budget k : ℕ) (c : ErasedConfig) (steps : List ℕ) : Type 0 where
  pub count : length steps ≡ suc (length x.threads)
  pub threads : (u : ℕ) → u < length x.threads → HasMade budget u c steps
  pub last : HasMade k (length x.threads) c steps

-- The steps are those of one whole schedule, which leaves it there.
pub record IsRun (x : CodeTree) (budget : ℕ) (steps : List ℕ) (last : ErasedConfig) : Type 0 where
  pub sigma : List ℕ
  pub whole : IsWhole x sigma budget
  pub ends : whole.end ≡ last
  pub counts : steps ≡ map (steps_in sigma) (range_with_len 0 (suc (length x.threads)))
