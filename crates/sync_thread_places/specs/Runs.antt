-- What lists of statements do, in the words of the code's meaning.
use Rattle.std.specs.Prelude.{◌≡◌, ℕ, suc, ◌+◌, ◌<◌, ◌≤◌, List, ◌∷◌, length, drop, map, slice_set, Option, Some, None, Result, Ok, Err}
use Rattle.sync_thread.specs.declared.operands.CodeDecl.{CodeDecl}
use Rattle.sync_thread.specs.declared.program.CodeStmt.{CodeStmt}
use Rattle.sync_thread.specs.Control.{Halt, Broken, Signal, At, Nexts, Breaks, Ends, Over as IsOver, Fails, Paused, run, unwind}
use Rattle.sync_thread.specs.Code.{code_language, code_statements, Memory}
use Rattle.sync_thread.specs.Views.{code_list_tree}
use Rattle.sync_thread_places.specs.declared.standings.Hop.{Hop}
use Rattle.sync_thread_places.specs.declared.standings.Standing.{Standing}
use Rattle.sync_thread_places.specs.declared.standings.Outcome.{Outcome}
use Rattle.sync_thread_places.specs.declared.standings.Outcome.TheVariants.{Waits, Next, Break, End, Over, Stuck}
use Rattle.sync_thread_places.specs.Places.{Enclosed, most, nesting, width, led_to, place_in, way_from, locals_in}

-- the memory in which thread t has these locals
abbrev pub holding : ℕ → (ℕ → ℕ) → Memory → Memory
holding t f m = record m { locals = slice_set m.locals t f }

abbrev pub at_place : Option (Paused code_language) → Memory → Signal code_language
at_place (Some w) m = At w.rest w.frames m
at_place None m = Fails Broken

-- How a list ends, as the meaning says it; `on` is what comes behind what is over.
abbrev pub signal_of : List CodeStmt → (Memory → Signal code_language) → Outcome → List Hop → ℕ → Memory
    → Signal code_language
signal_of list on Waits hops at m = at_place (place_in hops at list) m
signal_of list on Next hops at m = Nexts tt m
signal_of list on Break hops at m = Breaks tt m
signal_of list on End hops at m = Ends tt m
signal_of list on Over hops at m = on m
signal_of list on Stuck hops at m = Fails Broken

abbrev pub told : List CodeStmt → (Memory → Signal code_language) → Outcome → ℕ → Standing → ℕ → Memory
    → Signal code_language
told list on outcome depth s t m =
    signal_of list on outcome (way_from depth s) s.at (holding t (locals_in s.locals.items) m)

-- The list from statement `from` on, run with the locals of a standing, ends so and leaves this standing.
abbrev pub IsRun : List CodeStmt → ℕ → ℕ → Standing → Standing → Outcome → Type 0
IsRun list from depth old new outcome = (ds : List CodeDecl) (t : ℕ) (m : Memory) → t < length m.locals
    → run (code_statements ds t) (code_list_tree (drop from list)) (holding t (locals_in old.locals.items) m)
    ≡ told list IsOver outcome depth new t m

-- So does one statement of it, where it is over with what stands behind it.
abbrev pub IsPassed : List CodeStmt → ℕ → ℕ → Standing → Standing → Outcome → Type 0
IsPassed list at depth old new outcome = (ds : List CodeDecl) (t : ℕ) (m : Memory) → t < length m.locals
    → run (code_statements ds t) (code_list_tree (drop at list)) (holding t (locals_in old.locals.items) m)
    ≡ told list (run (code_statements ds t) (code_list_tree (drop (suc at) list))) outcome depth new t m

-- a form stands before the way of a standing that waits inside it
pub record IsMarked (hop : Hop) (depth : ℕ) (outcome : Outcome) (old new : Standing) : Type 0 where
  pub way : outcome ≡ Waits → way_from depth new ≡ hop ∷ way_from (depth + 1) old
  pub at : new.at ≡ old.at
  pub locals : new.locals.items ≡ old.locals.items

-- A list of a form is run from its beginning, and its place is one inside the form.
abbrev pub IsRunInside : List CodeStmt → Hop → ℕ → Standing → Standing → Outcome → Type 0
IsRunInside list hop depth old new outcome =
    (between : Standing) × IsRun list 0 (depth + 1) old between outcome × IsMarked hop depth outcome between new

-- on from statement `from` of a list, then out of the frames round it
abbrev pub gone_on : List CodeDecl → ℕ → ℕ → Memory → Option Enclosed → Signal code_language
gone_on ds t from m (Some e) =
    unwind (code_statements ds t) e.frames (run (code_statements ds t) (code_list_tree (drop from e.list)) m)
gone_on ds t from m None = Fails Broken

-- The list is gone on with from statement `from` at the end of a standing's way.
abbrev pub IsResumed : List CodeStmt → ℕ → ℕ → Standing → Standing → Outcome → Type 0
IsResumed list depth from old new outcome = (ds : List CodeDecl) (t : ℕ) (m : Memory) → t < length m.locals
    → gone_on ds t from (holding t (locals_in old.locals.items) m) (led_to (way_from depth old) list)
    ≡ told list IsOver outcome depth new t m

abbrev pub IsResumedInside : List CodeStmt → Hop → ℕ → ℕ → Standing → Standing → Outcome → Type 0
IsResumedInside list hop depth from old new outcome =
    (between : Standing) × IsResumed list (depth + 1) from old between outcome × IsMarked hop depth outcome between new

-- So it is, where the way goes through the form number `at`, up to the end of this form.
abbrev pub IsReturned : List CodeStmt → ℕ → ℕ → ℕ → Standing → Standing → Outcome → Type 0
IsReturned list at depth from old new outcome = (ds : List CodeDecl) (t : ℕ) (m : Memory) → t < length m.locals
    → gone_on ds t from (holding t (locals_in old.locals.items) m) (led_to (way_from depth old) list)
    ≡ told list (run (code_statements ds t) (code_list_tree (drop (suc at) list))) outcome depth new t m

-- ---- room

-- a standing has room for a list whose forms have numbers from `depth` on
abbrev pub HasRoom : List CodeStmt → ℕ → Standing → Type 0
HasRoom list depth s =
    (depth + most (map nesting list) ≤ length s.hops.items) × (most (map width list) ≤ length s.locals.items)

-- the tables stay as long as they are; where the list waits, its place is inside
pub record KeepsRoom (depth : ℕ) (old new : Standing) (outcome : Outcome) : Type 0 where
  pub hops : length new.hops.items ≡ length old.hops.items
  pub locals : length new.locals.items ≡ length old.locals.items
  pub deep : outcome ≡ Waits → depth ≤ new.depth

-- ---- parts of a step

-- a number is set, or there is none and nothing goes on
abbrev pub IsSet : Result ℕ Halt → ℕ → List ℕ → List ℕ → Outcome → Type 0
IsSet (Ok n) x old new outcome = (new ≡ slice_set old x n) × (outcome ≡ Over)
IsSet (Err h) x old new outcome = (new ≡ old) × (outcome ≡ Stuck) × (h ≡ Broken)

-- how a loop ends where its body, begun since the last shared step, ended so
abbrev pub after_body : Outcome → Outcome
after_body Waits = Waits
after_body Next = Stuck
after_body Break = Over
after_body End = End
after_body Over = Stuck
after_body Stuck = Stuck
