-- How a thread that waits in a list goes on by one event, on what it shares with others.
use Rattle.std.specs.Prelude.{◌≡◌, ℕ, ◌<◌, Bool, true, false, not, is_none, List, length, Some, Result, Ok, Err}
use Rattle.sync_thread.specs.declared.operands.CodeDecl.{CodeDecl}
use Rattle.sync_thread.specs.declared.program.CodeStmt.{CodeStmt}
use Rattle.sync_thread.specs.Arrays.{words_named, cells_named}
use Rattle.sync_thread.specs.Control.{Halt, Broken, Brace, Do, On, OnWhen, If, Loop, Next as IsNext, Break as IsBreak, Meet, End as IsEnd, Frame, Paused, run, unwind}
use Rattle.sync_thread.specs.Code.{CodeList, CodeShared, code_language, code_statements, Memory}
use Rattle.sync_thread.specs.Logs.{Lane, lane_at}
use Rattle.sync_thread.specs.Views.{code_list_tree}
use Rattle.sync_thread_places.specs.declared.standings.Standing.{Standing}
use Rattle.sync_thread_places.specs.declared.standings.Outcome.{Outcome}
use Rattle.sync_thread_places.specs.declared.standings.Outcome.TheVariants.{Waits, Next, Break, End, Over as IsOver, Stuck}
use Rattle.sync_thread_places.specs.Places.{place_of, locals_in, led_to, way_from}
use Rattle.sync_thread_places.specs.Runs.{holding}
use Rattle.sync_thread_events.specs.declared.endings.Halted.{Halted}
use Rattle.sync_thread_events.specs.declared.endings.Halted.TheVariants as halted
use Rattle.sync_thread_events.specs.declared.steps.SharedStep.{SharedStep}
use Rattle.sync_thread_events.specs.declared.steps.Spans.{Spans}
use Rattle.sync_thread_events.specs.Steps.{spanned, span_in, asked_with, assigned_if, local_of}

-- where something halts because the code cannot go on, this is so
abbrev pub Halts : Type 0 → Halted → Type 0
Halts P halted.Stuck = P
Halts P halted.Memory = Unit {0}

-- These tables say where the declared arrays are.
pub record AreSpansOf (spans : Spans) (ds : List CodeDecl) : Type 0 where
  pub words : (x : ℕ) → spanned (span_in spans.words.items x) ≡ words_named x ds
  pub cells : (x : ℕ) → spanned (span_in spans.cells.items x) ≡ cells_named x ds

-- one who is said to wait does wait somewhere
abbrev pub IsThere : List CodeStmt → Standing → Type 0
IsThere list s = s.waits ≡ true → (w : Paused code_language) × (place_of list s ≡ Some w)

-- a thread that has come to its standing, or that cannot go on
abbrev pub lane_left : Bool → List CodeStmt → ℕ → Standing → Memory → Result Lane Halt
lane_left true list t s m = Ok (record { memory = holding t (locals_in s.locals.items) m; place = place_of list s })
lane_left false list t s m = Err Broken

-- A list is begun and run up to its first shared step, or it cannot be.
abbrev pub IsBegun : Bool → List CodeStmt → Standing → Standing → Type 0
IsBegun goes list old new = (ds : List CodeDecl) (t : ℕ) (m : Memory) → t < length m.locals
    → lane_at (run (code_statements ds t) (code_list_tree list) (holding t (locals_in old.locals.items) m))
    ≡ lane_left goes list t new m

-- the shared step that a list begins with
abbrev pub asked_from : Spans → (ℕ → ℕ) → CodeList → Result SharedStep Halt
asked_from spans f (On a n rest) =
    asked_with (λ x. spanned (span_in spans.words.items x)) (λ x. spanned (span_in spans.cells.items x)) f a
asked_from spans f (Brace n) = Err Broken
asked_from spans f (Do l n rest) = Err Broken
asked_from spans f (OnWhen a n p q k rest) = Err Broken
asked_from spans f (If c n p q k rest) = Err Broken
asked_from spans f (Loop k j n b l rest) = Err Broken
asked_from spans f (IsNext j n rest) = Err Broken
asked_from spans f (IsBreak j n rest) = Err Broken
asked_from spans f (Meet j n rest) = Err Broken
asked_from spans f (IsEnd j n rest) = Err Broken

-- One who waits makes his step, on what he shares with others, and goes on with what it found up to the next one.
pub record IsMoved {S : Type 0} (does : SharedStep → S → ℕ → S → Type 0) (goes : Bool) (list : List CodeStmt)
    (spans : Spans) (old : Standing) (before : S) (new : Standing) (after : S) : Type 0 where
  pub shared : CodeShared
  pub rest : CodeList
  pub frames : List (Frame code_language)
  pub waits : place_of list old ≡ Some (record { rest = On shared 0 rest; frames = frames })
  pub step : SharedStep
  pub asks : asked_from spans (locals_in old.locals.items) (On shared 0 rest) ≡ Ok step
  pub found : ℕ
  pub made : does step before found after
  pub leaves : (ds : List CodeDecl) (t : ℕ) (m : Memory) → t < length m.locals
      → lane_at (unwind (code_statements ds t) frames (run (code_statements ds t) rest
      (holding t (assigned_if (local_of shared) found (locals_in old.locals.items)) m)))
      ≡ lane_left goes list t new m

-- What he waits for is no step on a word or a cell that is there.
abbrev pub AsksNothing : List CodeStmt → Spans → Standing → Type 0
AsksNothing list spans s = (w : Paused code_language) → place_of list s ≡ Some w
    → asked_from spans (locals_in s.locals.items) w.rest ≡ Err Broken

-- whether a list that ends so leaves its thread in order, and whether it waits then
abbrev pub goes_on : Outcome → List CodeStmt → Standing → Bool
goes_on Waits list s = not (is_none (led_to (way_from 0 s) list))
goes_on End list s = true
goes_on IsOver list s = true
goes_on Next list s = false
goes_on Break list s = false
goes_on Stuck list s = false

abbrev pub waits_then : Outcome → Bool
waits_then Waits = true
waits_then End = false
waits_then IsOver = false
waits_then Next = false
waits_then Break = false
waits_then Stuck = false

-- A standing of a list that has ended so: it waits where it stands, or waits nowhere.
pub record IsSettled (outcome : Outcome) (list : List CodeStmt) (old new : Standing) (goes : Bool) : Type 0 where
  pub ends : goes ≡ goes_on outcome list old
  pub waits : goes ≡ true → new.waits ≡ waits_then outcome
  pub hops : new.hops ≡ old.hops
  pub depth : new.depth ≡ old.depth
  pub at : new.at ≡ old.at
  pub locals : new.locals.items ≡ old.locals.items

-- The tables of a standing stay as long as they are.
pub record KeepsTables (old new : Standing) : Type 0 where
  pub hops : length new.hops.items ≡ length old.hops.items
  pub locals : length new.locals.items ≡ length old.locals.items
