-- What a run has come to, as its report tells it.
use Rattle.std.proofs.Common.{◌≡◌, ℕ, ◌+◌, ◌<◌, ◌≤◌, true, false, List, [], length, Ok, Err, sym, ap, ◌∙◌, subst, arith}
use Rattle.sync_base.specs.Outcome.{◌>>=◌}
use Rattle.sync_thread.specs.declared.operands.Line.{Line}
use Rattle.sync_thread.specs.declared.program.Code.{Code}
use Rattle.sync_thread.specs.Control.{Broken, events, waits_at}
use Rattle.sync_thread.specs.Code.{code_meaning, CodeTree, erased_start, ErasedConfig, IsStuck}
use Rattle.sync_thread.specs.Reports.{report_from, ReportTree}
use Rattle.sync_thread.specs.Views.{code_tree}
use Rattle.sync_thread_events.specs.declared.endings.Halted.{Halted}
use Rattle.sync_thread_events.specs.declared.moments.Moment.{Moment}
use Rattle.sync_thread_events.specs.Moments.{config_of}
use Rattle.sync_thread_events.specs.Moves.{Halts}
use Rattle.sync_run.specs.declared.reports.Report.{Report}
use Rattle.sync_run.specs.Turns.{IsRun}
use Rattle.sync_run.specs.Reports.{HasEnded, IsReport}
use Rattle.sync_run.proofs.Rounds.{halted_along, tree_long}

pub told : (x : Code) (budget : ℕ) (m : Moment) (steps : List ℕ) (r : Report) → IsRun (code_tree x) budget steps (config_of x m)
    → r.lines.items ≡ m.store.lines.items → r.words.items ≡ m.store.words.items → r.cells.items ≡ m.store.cells.items
    → r.steps.items ≡ steps → HasEnded (code_tree x) (config_of x m) r.ended → IsReport (code_tree x) budget r
told x budget m steps r run lines words cells made ended = record {
  sigma = run.sigma;
  whole = run.whole;
  tells = ap (λ q. q >>= (λ (c : ErasedConfig). Ok (report_from (code_tree x) run.sigma c))) run.whole.leaves
      ∙ ap (λ (c : ErasedConfig). Ok (report_from (code_tree x) run.sigma c)) run.ends
      ∙ ap (λ (ss : List ℕ). Ok (tree m.store.lines.items m.store.words.items m.store.cells.items ss)) (sym run.counts ∙ sym made)
      ∙ ap (λ ls. Ok (tree ls m.store.words.items m.store.cells.items r.steps.items)) (sym lines)
      ∙ ap (λ ws. Ok (tree r.lines.items ws m.store.cells.items r.steps.items)) (sym words)
      ∙ ap (λ cs. Ok (tree r.lines.items r.words.items cs r.steps.items)) (sym cells);
  ended = subst (λ (c : ErasedConfig). HasEnded (code_tree x) c r.ended) (sym run.ends) ended;
} where
  tree : List Line → List ℕ → List ℕ → List ℕ → ReportTree
  tree ls ws cs ss = record { lines = ls; words = ws; cells = cs; steps = ss }

-- a start that is stuck is a stuck schedule
pub not_started : (x : CodeTree) (h : Halted) → Halts (erased_start x ≡ Err Broken) h → Halts ((sigma : List ℕ) × IsStuck x sigma) h
not_started x h = halted_along (erased_start x ≡ Err Broken) ((sigma : List ℕ) × IsStuck x sigma) h
    (λ stops. ([], ap (λ q. q >>= events (code_meaning x) []) stops))

-- ---- how it ended

pub budget_used : (x : Code) (c : ErasedConfig) (t : ℕ) → t < length x.threads + 1 → waits_at t c.places ≡ true
    → ((u : ℕ) → u < t → waits_at u c.places ≡ false)
    → (t ≤ length (code_tree x).threads) × (waits_at t c.places ≡ true) × ((u : ℕ) → u < t → waits_at u c.places ≡ false)
budget_used x c t within waits before = (omega (arith, within, tree_long x), waits, before)

pub all_over : (x : Code) (c : ErasedConfig) (n : ℕ) → length x.threads + 1 ≤ n → ((u : ℕ) → u < n → waits_at u c.places ≡ false)
    → (t : ℕ) → t ≤ length (code_tree x).threads → waits_at t c.places ≡ false
all_over x c n past before t within = before t (omega (arith, past, within, tree_long x))
