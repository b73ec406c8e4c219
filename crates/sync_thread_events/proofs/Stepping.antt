-- The event of somebody who waits, by the tables.
use Rattle.std.proofs.Common.{◌≡◌, ℕ, ◌<◌, ◌≤◌, ◌⊎◌, inl, inr, true, false, List, length, get_or, slice_get, slice_set, Option, Some, None, Result, Ok, Err, refl, sym, ap, ◌∙◌, arith}
use Rattle.sync_thread.specs.declared.program.Code.{Code}
use Rattle.sync_thread.specs.declared.program.CodeStmt.{CodeStmt}
use Rattle.sync_thread.specs.Control.{Halt, Broken, Paused, event, event_at, hand_over, is_waiting, waits_at}
use Rattle.sync_thread.specs.Code.{code_language, code_meaning, ErasedConfig}
use Rattle.sync_thread.specs.Views.{code_tree}
use Rattle.sync_thread_places.specs.declared.standings.Standing.{Standing}
use Rattle.sync_thread_events.specs.declared.endings.Halted.{Halted}
use Rattle.sync_thread_events.specs.declared.moments.Moment.{Moment}
use Rattle.sync_thread_events.specs.declared.stores.Store.{Store}
use Rattle.sync_thread_events.specs.Doing.{HasDone}
use Rattle.sync_thread_events.specs.Moves.{AsksNothing, Halts, IsMoved}
use Rattle.sync_thread_events.specs.Moments.{config_in, config_of, IsMomentOf, lists_of}
use Rattle.sync_thread_events.proofs.Tables.{some_same, got_within}
use Rattle.sync_thread_events.proofs.Configs.{afterwards, after_last, after_thread, lists_long, steps_idly, steps_off, steps_on}
use Rattle.sync_thread_events.proofs.Leading.{halts_along, ready_as, stands_as}
use Rattle.sync_thread_events.proofs.Waiting.{waits_back}

-- who waits is in the tables
pub waits_within : (x : Code) (m : Moment) (t : ℕ) → IsMomentOf x m → waits_at t (config_of x m).places ≡ true
    → (t ≤ length x.threads) × (t < length m.standings.items)
waits_within x m t is waits =
    let (list, s, at, stands, still) = waits_back (lists_of x) m.standings.items t is.ready waits in
    let one : t < length (lists_of x) = got_within (lists_of x) t list at in
    let two : t < length m.standings.items = got_within m.standings.items t s stands in
    (omega (arith, one, lists_long x), two)

pub waits_still : (x : Code) (m : Moment) (t : ℕ) (list : List CodeStmt) (s : Standing) → IsMomentOf x m
    → waits_at t (config_of x m).places ≡ true → slice_get (lists_of x) t ≡ Some list → s ≡ get_or m.standings.items t s → s.waits ≡ true
waits_still x m t list s is waits at value =
    let (l, z, there, stands, still) = waits_back (lists_of x) m.standings.items t is.ready waits in
    ap (λ (y : Standing). y.waits) (some_same s z (sym (stands_as x m t list s is at value) ∙ stands)) ∙ still

-- the step, and what comes afterwards
pub stepped_on : (x : Code) (m : Moment) (t : ℕ) (list : List CodeStmt) (s new : Standing) (after : Store) → IsMomentOf x m
    → waits_at t (config_of x m).places ≡ true → slice_get (lists_of x) t ≡ Some list → s ≡ get_or m.standings.items t s
    → IsMoved HasDone true list m.spans s m.store new after
    → event (code_meaning (code_tree x)) t (config_of x m)
    ≡ afterwards x t (config_in (lists_of x) after (slice_set m.standings.items t new))
stepped_on x m t list s new after is waits at value moved =
    steps_on x t m.standings.items list m.spans s new m.store after at (stands_as x m t list s is at value) is.spans
    (ready_as x m t list s is at value).there (waits_still x m t list s is waits at value) moved

pub stepped_off : (x : Code) (m : Moment) (t : ℕ) (list : List CodeStmt) (s new : Standing) (after : Store) (h : Halted) → IsMomentOf x m
    → waits_at t (config_of x m).places ≡ true → slice_get (lists_of x) t ≡ Some list → s ≡ get_or m.standings.items t s
    → Halts (AsksNothing list m.spans s ⊎ IsMoved HasDone false list m.spans s m.store new after) h
    → Halts (event (code_meaning (code_tree x)) t (config_of x m) ≡ Err Broken) h
stepped_off x m t list s new after h is waits at value =
    halts_along (AsksNothing list m.spans s ⊎ IsMoved HasDone false list m.spans s m.store new after)
    (event (code_meaning (code_tree x)) t (config_of x m) ≡ Err Broken) h by where
      by : AsksNothing list m.spans s ⊎ IsMoved HasDone false list m.spans s m.store new after
          → event (code_meaning (code_tree x)) t (config_of x m) ≡ Err Broken
      by (inl nothing) = steps_idly x t m.standings.items list m.spans s m.store at (stands_as x m t list s is at value) is.spans
          (ready_as x m t list s is at value).there (waits_still x m t list s is waits at value) nothing
      by (inr moved) = steps_off x t m.standings.items list m.spans s new m.store after at (stands_as x m t list s is at value) is.spans
          (ready_as x m t list s is at value).there (waits_still x m t list s is waits at value) moved

-- of a thread, and of the final block
pub thread_stepped : (x : Code) (t : ℕ) (c d : ErasedConfig) (r : Result ErasedConfig Halt) → t < length x.threads
    → event (code_meaning (code_tree x)) t c ≡ afterwards x t d → hand_over (code_meaning (code_tree x)) d ≡ r
    → event (code_meaning (code_tree x)) t c ≡ r
thread_stepped x t c d r thread goes over = goes ∙ after_thread x t d thread ∙ over

pub thread_stuck : (x : Code) (t : ℕ) (c d : ErasedConfig) (h : Halted) → t < length x.threads
    → event (code_meaning (code_tree x)) t c ≡ afterwards x t d → Halts (hand_over (code_meaning (code_tree x)) d ≡ Err Broken) h
    → Halts (event (code_meaning (code_tree x)) t c ≡ Err Broken) h
thread_stuck x t c d h thread goes =
    halts_along (hand_over (code_meaning (code_tree x)) d ≡ Err Broken) (event (code_meaning (code_tree x)) t c ≡ Err Broken) h
    (thread_stepped x t c d (Err Broken) thread goes)

pub last_stepped : (x : Code) (t : ℕ) (c d : ErasedConfig) → length x.threads ≤ t
    → event (code_meaning (code_tree x)) t c ≡ afterwards x t d → event (code_meaning (code_tree x)) t c ≡ Ok d
last_stepped x t c d last goes = goes ∙ after_last x t d last

-- nobody waits, and nothing is changed
pub nothing_done : (x : Code) (t : ℕ) (c : ErasedConfig) → waits_at t c.places ≡ false → event (code_meaning (code_tree x)) t c ≡ Ok c
nothing_done x t c rests = by (slice_get c.places t) rests where
  by : (o : Option (Option (Paused code_language))) → is_waiting o ≡ false → event_at (code_meaning (code_tree x)) t c o ≡ Ok c
  by (Some (Some w)) e = absurd (let no : true ≡ false = e in cc)
  by (Some None) e = refl
  by None e = refl
