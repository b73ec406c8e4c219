-- A program of code between two events, as the meaning has it.
use Rattle.std.specs.Prelude.{◌≡◌, ℕ, Bool, true, false, List, [], ◌∷◌, ◌++◌, map, slice_get, Option, Some, None, Result, Ok}
use Rattle.sync_thread.specs.declared.operands.Moved.{Moved}
use Rattle.sync_thread.specs.declared.operands.Moved.TheVariants.{Stepped, Nothing}
use Rattle.sync_thread.specs.declared.program.Code.{Code}
use Rattle.sync_thread.specs.declared.program.CodeStmt.{CodeStmt}
use Rattle.sync_thread.specs.declared.program.CodeThread.{CodeThread}
use Rattle.sync_thread.specs.Control.{Halt, Paused, paused_at, run}
use Rattle.sync_thread.specs.Code.{CodeTree, code_language, code_meaning, code_statements, ErasedConfig, Memory}
use Rattle.sync_thread.specs.Views.{code_list_tree, code_tree}
use Rattle.sync_thread_places.specs.declared.standings.Standing.{Standing}
use Rattle.sync_thread_places.specs.Places.{place_of, locals_in}
use Rattle.sync_thread_places.specs.Runs.{HasRoom}
use Rattle.sync_thread_events.specs.declared.moments.Moment.{Moment}
use Rattle.sync_thread_events.specs.declared.stores.Store.{Store}
use Rattle.sync_thread_events.specs.Moves.{AreSpansOf, IsThere}
use Rattle.sync_thread_events.specs.Steps.{AreNarrow}

abbrev pub last_list : Option (List CodeStmt) → List CodeStmt
last_list (Some list) = list
last_list None = []

-- the lists of the threads, and then that of the final block
abbrev pub lists_of : Code → List (List CodeStmt)
lists_of x = map (λ (t : CodeThread). t.body) x.threads ++ last_list x.last ∷ []

-- where each of them waits
abbrev pub places_of : List (List CodeStmt) → List Standing → List (Option (Paused code_language))
places_of [] ss = []
places_of (list ∷ lists) [] = []
places_of (list ∷ lists) (s ∷ ss) = place_of list s ∷ places_of lists ss

-- what the store has, and each one's locals
abbrev pub memory_of : Store → List Standing → Memory
memory_of store ss = record {
  words = store.words.items;
  cells = store.cells.items;
  lines = store.lines.items;
  locals = map (λ (s : Standing). locals_in s.locals.items) ss;
}

abbrev pub config_in : List (List CodeStmt) → Store → List Standing → ErasedConfig
config_in lists store ss = record { state = memory_of store ss; places = places_of lists ss }

abbrev pub config_of : Code → Moment → ErasedConfig
config_of x m = config_in (lists_of x) m.store m.standings.items

-- a standing has room for its list, and is somewhere if it waits
pub record IsReady (list : List CodeStmt) (s : Standing) : Type 0 where
  pub room : HasRoom list 0 s
  pub there : IsThere list s

-- a standing with room, of one who has not begun
pub record IsFresh (list : List CodeStmt) (s : Standing) : Type 0 where
  pub room : HasRoom list 0 s
  pub rests : s.waits ≡ false
  pub zero : (x : ℕ) → locals_in s.locals.items x ≡ 0

-- each list with the standing that has its number
abbrev pub Pairwise : (List CodeStmt → Standing → Type 0) → List (List CodeStmt) → List Standing → Type 0
Pairwise P [] [] = Unit {0}
Pairwise P [] (s ∷ ss) = ⊥
Pairwise P (list ∷ lists) [] = ⊥
Pairwise P (list ∷ lists) (s ∷ ss) = P list s × Pairwise P lists ss

-- The tables are those of this code.
pub record IsMomentOf (x : Code) (m : Moment) : Type 0 where
  pub spans : AreSpansOf m.spans x.decls
  pub narrow_words : AreNarrow m.spans.words.items
  pub narrow_cells : AreNarrow m.spans.cells.items
  pub ready : Pairwise IsReady (lists_of x) m.standings.items

-- the list with this number begins, and runs up to its first shared step
abbrev pub begun_in : CodeTree → ℕ → ErasedConfig → Option (List CodeStmt) → Result ErasedConfig Halt
begun_in x t c (Some list) =
    paused_at (code_meaning x) t c.places (run (code_statements x.decls t) (code_list_tree list) c.state)
begun_in x t c None = Ok c

abbrev pub begun_at : Code → ℕ → ErasedConfig → Result ErasedConfig Halt
begun_at x t c = begun_in (code_tree x) t c (slice_get (lists_of x) t)

-- what an event says of itself
abbrev pub moved_if : Bool → Moved
moved_if true = Stepped
moved_if false = Nothing
