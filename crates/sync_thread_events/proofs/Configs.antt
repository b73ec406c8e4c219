-- Events of a program by its tables: what the meaning says of them.
use Rattle.std.proofs.Common.{◌≡◌, ℕ, zero, suc, ◌<◌, ◌≤◌, true, false, if◌then◌else◌, List, [], ◌∷◌, ◌++◌, length, map, nat_lt, slice_get, slice_set, Option, Some, None, Result, Ok, Err, refl, ap, ◌∙◌, arith}
use Rattle.std.proofs.lemmas.Bool.{lt-ltb, le-ltb}
use Rattle.sync_base.specs.Outcome.{◌>>=◌}
use Rattle.sync_thread.specs.declared.program.Code.{Code}
use Rattle.sync_thread.specs.declared.program.CodeStmt.{CodeStmt}
use Rattle.sync_thread.specs.declared.program.CodeThread.{CodeThread}
use Rattle.sync_thread.specs.Control.{Halt, Broken, At, Nexts, Breaks, Meets, Ends, Over, Fails, Paused, Signal, event, event_at, hand_over, paused_at, run, running, step, unwind}
use Rattle.sync_thread.specs.Code.{CodeTree, CodeList, code_language, code_meaning, code_statements, ErasedConfig, Memory}
use Rattle.sync_thread.specs.Code as code
use Rattle.sync_thread.specs.Logs.{Lane, lane_at}
use Rattle.sync_thread.specs.Views.{code_tree, code_list_tree, code_thread_tree}
use Rattle.sync_thread_places.specs.declared.standings.Standing.{Standing}
use Rattle.sync_thread_places.specs.Places.{place_of, locals_in}
use Rattle.sync_thread_places.specs.Runs.{holding}
use Rattle.sync_thread_events.specs.declared.steps.Spans.{Spans}
use Rattle.sync_thread_events.specs.declared.stores.Store.{Store}
use Rattle.sync_thread_events.specs.Doing.{HasDone}
use Rattle.sync_thread_events.specs.Moves.{AreSpansOf, AsksNothing, IsBegun, IsMoved, IsThere, lane_left}
use Rattle.sync_thread_events.specs.Moments.{begun_in, begun_at, config_in, last_list, lists_of, memory_of, places_of}
use Rattle.sync_thread_events.proofs.Tables.{some_same, ok_same, err_same, got_within, map_got, map_set, places_got, places_set}
use Rattle.sync_thread_events.proofs.Stored.{laid, held_already, stepped, stopped}

-- ---- where one list ended up

paused_ok : (x : CodeTree) (t : ℕ) (ps : List (Option (Paused code_language))) (o : Signal code_language) (l : Lane) → lane_at o ≡ Ok l
    → paused_at (code_meaning x) t ps o ≡ Ok (running {g = code_language} l.memory (slice_set ps t l.place))
paused_ok x t ps (At rest frames m) l e =
    ap (λ (k : Lane). Ok (running {g = code_language} k.memory (slice_set ps t k.place))) (ok_same {A = Lane} {B = Halt} (record { memory = m; place = Some (record { rest = rest; frames = frames }) }) l e)
paused_ok x t ps (Ends j m) l e = ap (λ (k : Lane). Ok (running {g = code_language} k.memory (slice_set ps t k.place))) (ok_same {A = Lane} {B = Halt} (record { memory = m; place = None }) l e)
paused_ok x t ps (Over m) l e = ap (λ (k : Lane). Ok (running {g = code_language} k.memory (slice_set ps t k.place))) (ok_same {A = Lane} {B = Halt} (record { memory = m; place = None }) l e)
paused_ok x t ps (Nexts j m) l e = absurd cc
paused_ok x t ps (Breaks j m) l e = absurd cc
paused_ok x t ps (Meets j m) l e = absurd cc
paused_ok x t ps (Fails h) l e = absurd cc

paused_err : (x : CodeTree) (t : ℕ) (ps : List (Option (Paused code_language))) (o : Signal code_language) (h : Halt) → lane_at o ≡ Err h
    → paused_at (code_meaning x) t ps o ≡ Err h
paused_err x t ps (At rest frames m) h e = absurd cc
paused_err x t ps (Ends j m) h e = absurd cc
paused_err x t ps (Over m) h e = absurd cc
paused_err x t ps (Nexts j m) h e = ap Err (err_same Broken h e)
paused_err x t ps (Breaks j m) h e = ap Err (err_same Broken h e)
paused_err x t ps (Meets j m) h e = ap Err (err_same Broken h e)
paused_err x t ps (Fails k) h e = ap Err (err_same k h e)

-- the tables with the new standing
left_at : (x : CodeTree) (t : ℕ) (lists : List (List CodeStmt)) (ss : List Standing) (list : List CodeStmt) (new : Standing) (store : Store)
    (o : Signal code_language) → slice_get lists t ≡ Some list → lane_at o ≡ lane_left true list t new (memory_of store ss)
    → paused_at (code_meaning x) t (places_of lists ss) o ≡ Ok (config_in lists store (slice_set ss t new))
left_at x t lists ss list new store o at e =
    paused_ok x t (places_of lists ss) o (record { memory = holding t (locals_in new.locals.items) (memory_of store ss); place = place_of list new }) e
    ∙ ap (λ ls. Ok (running {g = code_language} (laid store ls) (slice_set (places_of lists ss) t (place_of list new))))
    (map_set (λ (s : Standing). locals_in s.locals.items) ss t new)
    ∙ ap (λ ps. Ok (running {g = code_language} (memory_of store (slice_set ss t new)) ps)) (places_set lists ss t list new at)

-- ---- a list that begins

pub begins_on : (x : Code) (t : ℕ) (ss : List Standing) (list : List CodeStmt) (s new : Standing) (store : Store)
    → slice_get (lists_of x) t ≡ Some list → slice_get ss t ≡ Some s → IsBegun true list s new
    → begun_at x t (config_in (lists_of x) store ss) ≡ Ok (config_in (lists_of x) store (slice_set ss t new))
begins_on x t ss list s new store at stands begun =
    let got = map_got (λ (z : Standing). locals_in z.locals.items) ss t s stands in
    ap (begun_in (code_tree x) t (config_in (lists_of x) store ss)) at
    ∙ left_at (code_tree x) t (lists_of x) ss list new store (run (code_statements x.decls t) (code_list_tree list) (memory_of store ss)) at
    (ap (λ m. lane_at (run (code_statements x.decls t) (code_list_tree list) m))
    (held_already store (map (λ (z : Standing). locals_in z.locals.items) ss) t (locals_in s.locals.items) got)
    ∙ begun x.decls t (memory_of store ss) (got_within (map (λ (z : Standing). locals_in z.locals.items) ss) t (locals_in s.locals.items) got))

pub begins_off : (x : Code) (t : ℕ) (ss : List Standing) (list : List CodeStmt) (s new : Standing) (store : Store)
    → slice_get (lists_of x) t ≡ Some list → slice_get ss t ≡ Some s → IsBegun false list s new
    → begun_at x t (config_in (lists_of x) store ss) ≡ Err Broken
begins_off x t ss list s new store at stands begun =
    let got = map_got (λ (z : Standing). locals_in z.locals.items) ss t s stands in
    ap (begun_in (code_tree x) t (config_in (lists_of x) store ss)) at
    ∙ paused_err (code_tree x) t (places_of (lists_of x) ss) (run (code_statements x.decls t) (code_list_tree list) (memory_of store ss)) Broken
    (ap (λ m. lane_at (run (code_statements x.decls t) (code_list_tree list) m))
    (held_already store (map (λ (z : Standing). locals_in z.locals.items) ss) t (locals_in s.locals.items) got)
    ∙ begun x.decls t (memory_of store ss) (got_within (map (λ (z : Standing). locals_in z.locals.items) ss) t (locals_in s.locals.items) got))

-- ---- a shared step, and what follows

-- what comes after it where it is a thread's
abbrev pub afterwards : Code → ℕ → ErasedConfig → Result ErasedConfig Halt
afterwards x t d =
    if nat_lt t (length (code_meaning (code_tree x)).bodies) then hand_over (code_meaning (code_tree x)) d else Ok d

pub steps_on : (x : Code) (t : ℕ) (ss : List Standing) (list : List CodeStmt) (spans : Spans) (s new : Standing) (before after : Store)
    → slice_get (lists_of x) t ≡ Some list → slice_get ss t ≡ Some s → AreSpansOf spans x.decls → IsThere list s → s.waits ≡ true
    → IsMoved HasDone true list spans s before new after
    → event (code_meaning (code_tree x)) t (config_in (lists_of x) before ss) ≡ afterwards x t (config_in (lists_of x) after (slice_set ss t new))
steps_on x t ss list spans s new before after at stands are there waits moved =
    let got = map_got (λ (z : Standing). locals_in z.locals.items) ss t s stands in
    let (w, is) = there waits in
    ap (event_at (code_meaning (code_tree x)) t (config_in (lists_of x) before ss))
    (places_got (lists_of x) ss t list s at stands ∙ ap Some is)
    ∙ ap (λ r. r >>= afterwards x t)
    (left_at (code_tree x) t (lists_of x) ss list new after
    (unwind (code_statements x.decls t) w.frames (step (code_statements x.decls t) w.rest (memory_of before ss))) at
    (stepped x.decls t (map (λ (z : Standing). locals_in z.locals.items) ss) list spans s new before after true w are got moved is))

pub steps_off : (x : Code) (t : ℕ) (ss : List Standing) (list : List CodeStmt) (spans : Spans) (s new : Standing) (before after : Store)
    → slice_get (lists_of x) t ≡ Some list → slice_get ss t ≡ Some s → AreSpansOf spans x.decls → IsThere list s → s.waits ≡ true
    → IsMoved HasDone false list spans s before new after
    → event (code_meaning (code_tree x)) t (config_in (lists_of x) before ss) ≡ Err Broken
steps_off x t ss list spans s new before after at stands are there waits moved =
    let got = map_got (λ (z : Standing). locals_in z.locals.items) ss t s stands in
    let (w, is) = there waits in
    ap (event_at (code_meaning (code_tree x)) t (config_in (lists_of x) before ss))
    (places_got (lists_of x) ss t list s at stands ∙ ap Some is)
    ∙ ap (λ r. r >>= afterwards x t)
    (paused_err (code_tree x) t (places_of (lists_of x) ss)
    (unwind (code_statements x.decls t) w.frames (step (code_statements x.decls t) w.rest (memory_of before ss))) Broken
    (stepped x.decls t (map (λ (z : Standing). locals_in z.locals.items) ss) list spans s new before after false w are got moved is))

pub steps_idly : (x : Code) (t : ℕ) (ss : List Standing) (list : List CodeStmt) (spans : Spans) (s : Standing) (before : Store)
    → slice_get (lists_of x) t ≡ Some list → slice_get ss t ≡ Some s → AreSpansOf spans x.decls → IsThere list s → s.waits ≡ true
    → AsksNothing list spans s
    → event (code_meaning (code_tree x)) t (config_in (lists_of x) before ss) ≡ Err Broken
steps_idly x t ss list spans s before at stands are there waits nothing =
    let got = map_got (λ (z : Standing). locals_in z.locals.items) ss t s stands in
    let (w, is) = there waits in
    ap (event_at (code_meaning (code_tree x)) t (config_in (lists_of x) before ss))
    (places_got (lists_of x) ss t list s at stands ∙ ap Some is)
    ∙ ap (λ r. r >>= afterwards x t)
    (paused_err (code_tree x) t (places_of (lists_of x) ss)
    (unwind (code_statements x.decls t) w.frames (step (code_statements x.decls t) w.rest (memory_of before ss))) Broken
    (stopped x.decls t (map (λ (z : Standing). locals_in z.locals.items) ss) list spans s before w are got nothing is))

-- ---- lists by number

pub bodies_long : (x : Code) → length (code_meaning (code_tree x)).bodies ≡ length x.threads
bodies_long x = by x.threads where
  by : (ts : List CodeThread) → length (map (λ (t : code.CodeThread). t.body) (map code_thread_tree ts)) ≡ length ts
  by [] = refl
  by (t ∷ ts) = ap suc (by ts)

pub lists_long : (x : Code) → length (lists_of x) ≡ suc (length x.threads)
lists_long x = by x.threads where
  by : (ts : List CodeThread) → length (map (λ (t : CodeThread). t.body) ts ++ last_list x.last ∷ []) ≡ suc (length ts)
  by [] = refl
  by (t ∷ ts) = ap suc (by ts)

pub list_of_thread : (x : Code) (t : ℕ) (thread : CodeThread) → slice_get x.threads t ≡ Some thread → slice_get (lists_of x) t ≡ Some thread.body
list_of_thread x t thread at = by x.threads t at where
  by : (ts : List CodeThread) (u : ℕ) → slice_get ts u ≡ Some thread
      → slice_get (map (λ (s : CodeThread). s.body) ts ++ last_list x.last ∷ []) u ≡ Some thread.body
  by [] u e = absurd cc
  by (s ∷ ts) zero e = ap (λ (z : CodeThread). Some z.body) (some_same s thread e)
  by (s ∷ ts) (suc u) e = by ts u e

pub list_of_last : (x : Code) → slice_get (lists_of x) (length x.threads) ≡ Some (last_list x.last)
list_of_last x = by x.threads where
  by : (ts : List CodeThread) → slice_get (map (λ (s : CodeThread). s.body) ts ++ last_list x.last ∷ []) (length ts) ≡ Some (last_list x.last)
  by [] = refl
  by (s ∷ ts) = by ts

-- after the event of a thread the final block may take over; after one of its own not
pub after_thread : (x : Code) (t : ℕ) (d : ErasedConfig) → t < length x.threads → afterwards x t d ≡ hand_over (code_meaning (code_tree x)) d
after_thread x t d thread =
    ap (λ b. if b then hand_over (code_meaning (code_tree x)) d else Ok d)
    (lt-ltb t (length (code_meaning (code_tree x)).bodies) (omega (arith, bodies_long x, thread)))

pub after_last : (x : Code) (t : ℕ) (d : ErasedConfig) → length x.threads ≤ t → afterwards x t d ≡ Ok d
after_last x t d last =
    ap (λ b. if b then hand_over (code_meaning (code_tree x)) d else Ok d)
    (le-ltb t (length (code_meaning (code_tree x)).bodies) (omega (arith, bodies_long x, last)))
