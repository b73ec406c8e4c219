-- The step of one who waits, on a store, is the step of the meaning on its memory.
use Rattle.std.proofs.Common.{◌≡◌, ℕ, Bool, List, [], ◌∷◌, slice_get, Some, Result, Ok, Err, refl, sym, ap, ◌∙◌}
use Rattle.sync_base.specs.Outcome.{◌>>=◌}
use Rattle.sync_thread.specs.declared.operands.CodeDecl.{CodeDecl}
use Rattle.sync_thread.specs.declared.program.CodeStmt.{CodeStmt}
use Rattle.sync_thread.specs.Arrays.{words_named, cells_named}
use Rattle.sync_thread.specs.Control.{Halt, Broken, Brace, Do, On, OnWhen, If, Loop, Next, Break, Meet, End, Fails, Frame, InBranch, InLoop, Paused, from_state, run, step, unwind}
use Rattle.sync_thread.specs.Code.{CodeList, CodeShared, code_language, code_statements, code_step, Memory}
use Rattle.sync_thread.specs.Logs.{Lane, lane_at}
use Rattle.sync_thread_places.specs.declared.standings.Standing.{Standing}
use Rattle.sync_thread_places.specs.Places.{place_of, locals_in}
use Rattle.sync_thread_places.specs.Runs.{holding}
use Rattle.sync_thread_events.specs.declared.steps.SharedStep.{SharedStep}
use Rattle.sync_thread_events.specs.declared.steps.Spans.{Spans}
use Rattle.sync_thread_events.specs.declared.stores.Store.{Store}
use Rattle.sync_thread_events.specs.Steps.{asked_with, assigned_if, done_on, local_of, cells_after, lines_after}
use Rattle.sync_thread_events.specs.Laws.{memory_after}
use Rattle.sync_thread_events.specs.Doing.{HasDone}
use Rattle.sync_thread_events.specs.Moves.{AreSpansOf, asked_from, AsksNothing, IsMoved, lane_left}
use Rattle.sync_thread_events.proofs.CodeSteps.{steps_are_code_steps}
use Rattle.sync_thread_events.proofs.Tables.{some_same, got_within, set_same}

-- a store as a memory in which all have these locals
abbrev pub laid : Store → List (ℕ → ℕ) → Memory
laid s fs = record { words = s.words.items; cells = s.cells.items; lines = s.lines.items; locals = fs }

pub held_already : (s : Store) (fs : List (ℕ → ℕ)) (t : ℕ) (f : ℕ → ℕ) → slice_get fs t ≡ Some f → laid s fs ≡ holding t f (laid s fs)
held_already s fs t f got = ap (laid s) (sym (set_same fs t f got))

-- what is asked of the tables is asked of the declarations
asked_same : (spans : Spans) (ds : List CodeDecl) (f : ℕ → ℕ) (a : CodeShared) (line : ℕ) (rest : CodeList) → AreSpansOf spans ds
    → asked_with (λ x. words_named x ds) (λ x. cells_named x ds) f a ≡ asked_from spans f (On a line rest)
asked_same spans ds f a line rest are = λ i. asked_with (λ x. sym (are.words x) i) (λ x. sym (are.cells x) i) f a

done_same : (s : SharedStep) (before after : Store) (found : ℕ) (fs : List (ℕ → ℕ)) → HasDone s before found after
    → done_on s (laid before fs) ≡ laid after fs
done_same s before after found fs done =
    ap (λ ws. record { words = ws; cells = cells_after s before.cells.items; lines = lines_after s before.lines.items; locals = fs }) (sym done.words)
    ∙ ap (λ cs. record { words = after.words.items; cells = cs; lines = lines_after s before.lines.items; locals = fs }) (sym done.cells)
    ∙ ap (λ ls. record { words = after.words.items; cells = after.cells.items; lines = ls; locals = fs }) (sym done.lines)

-- a step of the meaning, by what it asks for
code_steps : (spans : Spans) (ds : List CodeDecl) (t : ℕ) (f : ℕ → ℕ) (fs : List (ℕ → ℕ)) (a : CodeShared) (line : ℕ) (rest : CodeList) (s : Store)
    → AreSpansOf spans ds → slice_get fs t ≡ Some f
    → code_step ds t a (laid s fs) ≡ asked_from spans f (On a line rest) >>= (λ (st : SharedStep). Ok (memory_after t f a (laid s fs) st))
code_steps spans ds t f fs a line rest s are got =
    ap (code_step ds t a) (held_already s fs t f got)
    ∙ steps_are_code_steps ds t f a (laid s fs) (got_within fs t f got)
    ∙ ap (λ r. r >>= (λ (st : SharedStep). Ok (memory_after t f a (laid s fs) st))) (asked_same spans ds f a line rest are)

pub stepped : (ds : List CodeDecl) (t : ℕ) (fs : List (ℕ → ℕ)) (list : List CodeStmt) (spans : Spans) (old new : Standing) (before after : Store)
    (goes : Bool) (w : Paused code_language) → AreSpansOf spans ds → slice_get fs t ≡ Some (locals_in old.locals.items)
    → IsMoved HasDone goes list spans old before new after → place_of list old ≡ Some w
    → lane_at (unwind (code_statements ds t) w.frames (step (code_statements ds t) w.rest (laid before fs))) ≡ lane_left goes list t new (laid after fs)
stepped ds t fs list spans old new before after goes w are got moved at =
    let f = locals_in old.locals.items in
    let g = code_statements ds t in
    let go : Memory → Result Lane Halt = λ m. lane_at (unwind g moved.frames (run g moved.rest m)) in
    ap (λ p. lane_at (unwind g p.frames (step g p.rest (laid before fs))))
    (some_same w (record { rest = On moved.shared 0 moved.rest; frames = moved.frames }) (sym at ∙ moved.waits))
    ∙ ap (λ r. lane_at (unwind g moved.frames (from_state r (run g moved.rest))))
    (code_steps spans ds t f fs moved.shared 0 moved.rest before are got
    ∙ ap (λ r. r >>= (λ (st : SharedStep). Ok (memory_after t f moved.shared (laid before fs) st))) moved.asks)
    ∙ ap (λ n. go (holding t (assigned_if (local_of moved.shared) n f) (done_on moved.step (laid before fs)))) (sym moved.made.finds)
    ∙ ap (λ m. go (holding t (assigned_if (local_of moved.shared) moved.found f) m)) (done_same moved.step before after moved.found fs moved.made)
    ∙ moved.leaves ds t (laid after fs) (got_within fs t f got)

-- ---- nothing goes on

fails_out : (ds : List CodeDecl) (t : ℕ) (h : Halt) (fs : List (Frame code_language)) → unwind (code_statements ds t) fs (Fails h) ≡ Fails h
unfolding unwind
fails_out ds t h [] = refl
fails_out ds t h (InBranch joined rest v ∷ fs) = fails_out ds t h fs
fails_out ds t h (InLoop k body left rest v ∷ fs) = fails_out ds t h fs

step_fails : (spans : Spans) (ds : List CodeDecl) (t : ℕ) (f : ℕ → ℕ) (fs : List (ℕ → ℕ)) (s : Store) (list : CodeList)
    → AreSpansOf spans ds → slice_get fs t ≡ Some f → asked_from spans f list ≡ Err Broken
    → step (code_statements ds t) list (laid s fs) ≡ Fails Broken
step_fails spans ds t f fs s (On a n rest) are got asks =
    ap (λ r. from_state r (run (code_statements ds t) rest))
    (code_steps spans ds t f fs a n rest s are got
    ∙ ap (λ r. r >>= (λ (st : SharedStep). Ok (memory_after t f a (laid s fs) st))) asks)
step_fails spans ds t f fs s (Brace n) are got asks = refl
step_fails spans ds t f fs s (Do l n rest) are got asks = refl
step_fails spans ds t f fs s (OnWhen a n p q k rest) are got asks = absurd a
step_fails spans ds t f fs s (If c n p q k rest) are got asks = refl
step_fails spans ds t f fs s (Loop k j n b l rest) are got asks = refl
step_fails spans ds t f fs s (Next j n rest) are got asks = refl
step_fails spans ds t f fs s (Break j n rest) are got asks = refl
step_fails spans ds t f fs s (Meet j n rest) are got asks = refl
step_fails spans ds t f fs s (End j n rest) are got asks = refl

pub stopped : (ds : List CodeDecl) (t : ℕ) (fs : List (ℕ → ℕ)) (list : List CodeStmt) (spans : Spans) (old : Standing) (before : Store)
    (w : Paused code_language) → AreSpansOf spans ds → slice_get fs t ≡ Some (locals_in old.locals.items)
    → AsksNothing list spans old → place_of list old ≡ Some w
    → lane_at (unwind (code_statements ds t) w.frames (step (code_statements ds t) w.rest (laid before fs))) ≡ Err Broken
stopped ds t fs list spans old before w are got nothing at =
    let g = code_statements ds t in
    ap (λ o. lane_at (unwind g w.frames o))
    (step_fails spans ds t (locals_in old.locals.items) fs before w.rest are got (nothing w at))
    ∙ ap lane_at (fails_out ds t Broken w.frames)
