-- The report of a run.
use Rattle.std.specs.Prelude.{◌≡◌, ℕ, ◌<◌, ◌≤◌, true, false, List, length, Ok}
use Rattle.sync_thread.specs.Control.{waits_at}
use Rattle.sync_thread.specs.Code.{CodeTree, ErasedConfig}
use Rattle.sync_thread.specs.Reports.{IsWhole, ReportTree, report_of}
use Rattle.sync_run.specs.declared.reports.Ended.{Ended}
use Rattle.sync_run.specs.declared.reports.Ended.TheVariants.{All, Budget}
use Rattle.sync_run.specs.declared.reports.Report.{Report}

abbrev pub report_tree : Report → ReportTree
report_tree r = record {
  lines = r.lines.items;
  words = r.words.items;
  cells = r.cells.items;
  steps = r.steps.items;
}

-- Nobody waits any more; or somebody does, and nobody before him.
abbrev pub HasEnded : CodeTree → ErasedConfig → Ended → Type 0
HasEnded x c All = (t : ℕ) → t ≤ length x.threads → waits_at t c.places ≡ false
HasEnded x c (Budget t) = (t ≤ length x.threads) × (waits_at t c.places ≡ true) × ((u : ℕ) → u < t → waits_at u c.places ≡ false)

-- One whole schedule has this report, and ends so.
pub record IsReport (x : CodeTree) (budget : ℕ) (r : Report) : Type 0 where
  pub sigma : List ℕ
  pub whole : IsWhole x sigma budget
  pub tells : report_of x sigma ≡ Ok (report_tree r)
  pub ended : HasEnded x whole.end r.ended
