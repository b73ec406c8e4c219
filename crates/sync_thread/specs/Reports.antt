-- What a run of code tells: the report of a schedule, and when a schedule is a whole run.
use Rattle.std.specs.Prelude.{◌≡◌, ℕ, suc, ◌<◌, ◌≤◌, false, ◌⊎◌, nat_eq, List, length, map, count_by, Result, Ok}
use Rattle.std.specs.List.{range_with_len}
use Rattle.sync_base.specs.Outcome.{◌>>=◌}
use Rattle.sync_thread.specs.declared.operands.Line.{Line}
use Rattle.sync_thread.specs.Control.{Halt, AllMove, waits_at}
use Rattle.sync_thread.specs.Code.{CodeTree, code_meaning, erased_start, erased_after, ErasedConfig}

pub record ReportTree : Type 0 where
  pub lines : List Line
  pub words : List ℕ
  pub cells : List ℕ
  pub steps : List ℕ

-- how often a number stands in a list
abbrev pub steps_in : List ℕ → ℕ → ℕ
steps_in sigma t = count_by (nat_eq t) sigma

abbrev pub report_from : CodeTree → List ℕ → ErasedConfig → ReportTree
report_from x sigma c = record {
  lines = c.state.lines;
  words = c.state.words;
  cells = c.state.cells;
  steps = map (steps_in sigma) (range_with_len 0 (suc (length x.threads)));
}

abbrev pub report_of : CodeTree → List ℕ → Result ReportTree Halt
report_of x sigma = erased_after x sigma >>= (λ (c : ErasedConfig). Ok (report_from x sigma c))

-- Each event is a step; nobody has more than the budget; and each has ended or used it up.
pub record IsWhole (x : CodeTree) (sigma : List ℕ) (budget : ℕ) : Type 0 where
  pub start : ErasedConfig
  pub starts : erased_start x ≡ Ok start
  pub moves : AllMove (code_meaning x) sigma start
  pub end : ErasedConfig
  pub leaves : erased_after x sigma ≡ Ok end
  pub within : (t : ℕ) → steps_in sigma t ≤ budget
  pub used : (t : ℕ) → t < length x.threads → (waits_at t end.places ≡ false) ⊎ (steps_in sigma t ≡ budget)
  -- the final block waits only where all threads have ended
  pub last : (waits_at (length x.threads) end.places ≡ false) ⊎ (steps_in sigma (length x.threads) ≡ budget)
