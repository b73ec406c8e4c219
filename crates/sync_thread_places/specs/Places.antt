-- Where a thread stands in its code, and what its locals are.
use Rattle.std.specs.Prelude.{◌≡◌, ℕ, suc, Bool, if◌then◌else◌, List, [], ◌∷◌, ◌++◌, length, take, drop, max, slice_get, slice_index, option_map, Option, Some, None}
use Rattle.sync_thread.specs.declared.program.CodeStmt.{CodeStmt, out-CodeStmt, fold-CodeStmt}
use Rattle.sync_thread.specs.declared.program.CodeStmt.TheOpen.{CodeStmt-F}
use Rattle.sync_thread.specs.Control.{Frame, InBranch, InLoop, Paused}
use Rattle.sync_thread.specs.Code.{code_language}
use Rattle.sync_thread.specs.Views.{code_list_tree}
use Rattle.sync_thread_places.specs.declared.standings.Hop.{Hop}
use Rattle.sync_thread_places.specs.declared.standings.Standing.{Standing}

-- A list of statements, and the frames round it, innermost first.
pub record Enclosed : Type 0 where
  pub list : List CodeStmt
  pub frames : List (Frame code_language)

-- the list of a statement that the way goes through, and the frame that the statement is round it
abbrev pub form_of : List CodeStmt → Bool → CodeStmt-F CodeStmt → Option Enclosed
form_of rest second (CodeStmt-F.If c p q) = Some (record {
  list = if second then q else p;
  frames = InBranch None (code_list_tree rest) tt ∷ [];
})
form_of rest second (CodeStmt-F.Loop body) = Some (record {
  list = body;
  frames = InLoop tt (code_list_tree body) (Some tt) (code_list_tree rest) tt ∷ [];
})
form_of rest second (CodeStmt-F.Set x c) = None
form_of rest second (CodeStmt-F.Read x c i) = None
form_of rest second (CodeStmt-F.Write c i o) = None
form_of rest second (CodeStmt-F.Peek x c i) = None
form_of rest second (CodeStmt-F.Word x op w i) = None
form_of rest second (CodeStmt-F.Print l o) = None
form_of rest second CodeStmt-F.Next = None
form_of rest second CodeStmt-F.Break = None
form_of rest second CodeStmt-F.End = None

abbrev pub form_at : List CodeStmt → Hop → Option CodeStmt → Option Enclosed
form_at list h (Some s) = form_of (drop (suc h.at) list) h.second (out-CodeStmt s)
form_at list h None = None

-- inside further frames
abbrev pub inside : List (Frame code_language) → Enclosed → Enclosed
inside fs e = record { list = e.list; frames = e.frames ++ fs }

abbrev pub through : (List CodeStmt → Option Enclosed) → Option Enclosed → Option Enclosed
through further (Some e) = option_map (inside e.frames) (further e.list)
through further None = None

-- the list to which a way leads, outermost form first
abbrev pub led_to : List Hop → List CodeStmt → Option Enclosed
led_to [] list = Some (record { list = list; frames = [] })
led_to (h ∷ hs) list = through (led_to hs) (form_at list h (slice_get list h.at))

-- the list to which a way leads, whatever stands round it
abbrev pub LeadsTo : List Hop → List CodeStmt → List CodeStmt → Type 0
LeadsTo hops list inner =
    (fs : List (Frame code_language)) × (led_to hops list ≡ Some (record { list = inner; frames = fs }))

abbrev pub paused : ℕ → Enclosed → Paused code_language
paused at e = record { rest = code_list_tree (drop at e.list); frames = e.frames }

-- where the statement with number `at` is the next one, at the end of a way
abbrev pub place_in : List Hop → ℕ → List CodeStmt → Option (Paused code_language)
place_in hops at list = option_map (paused at) (led_to hops list)

-- the way of a thread from its form number `depth` on
abbrev pub way_from : ℕ → Standing → List Hop
way_from depth s = drop depth (take s.depth s.hops.items)

-- where a thread waits in its list
abbrev pub place_of : List CodeStmt → Standing → Option (Paused code_language)
place_of list s = if s.waits then place_in (way_from 0 s) s.at list else None

-- a table of locals as what each local is
abbrev pub locals_in : List ℕ → ℕ → ℕ
locals_in ns x = slice_index ns x

-- ---- how much room code needs

abbrev pub most : List ℕ → ℕ
most [] = 0
most (n ∷ ns) = max n (most ns)

-- how deep the forms of a statement stand in one another, itself counted
abbrev pub nesting_step : CodeStmt-F ℕ → ℕ
nesting_step (CodeStmt-F.If c p q) = suc (max (most p) (most q))
nesting_step (CodeStmt-F.Loop body) = suc (most body)
nesting_step (CodeStmt-F.Set x c) = 1
nesting_step (CodeStmt-F.Read x c i) = 1
nesting_step (CodeStmt-F.Write c i o) = 1
nesting_step (CodeStmt-F.Peek x c i) = 1
nesting_step (CodeStmt-F.Word x op w i) = 1
nesting_step (CodeStmt-F.Print l o) = 1
nesting_step CodeStmt-F.Next = 1
nesting_step CodeStmt-F.Break = 1
nesting_step CodeStmt-F.End = 1

abbrev pub nesting : CodeStmt → ℕ
nesting = fold-CodeStmt ℕ nesting_step

abbrev pub local_room : Option ℕ → ℕ
local_room (Some x) = suc x
local_room None = 0

-- one more than the largest local that a statement sets
abbrev pub width_step : CodeStmt-F ℕ → ℕ
width_step (CodeStmt-F.If c p q) = max (most p) (most q)
width_step (CodeStmt-F.Loop body) = most body
width_step (CodeStmt-F.Set x c) = suc x
width_step (CodeStmt-F.Read x c i) = suc x
width_step (CodeStmt-F.Write c i o) = 0
width_step (CodeStmt-F.Peek x c i) = suc x
width_step (CodeStmt-F.Word x op w i) = local_room x
width_step (CodeStmt-F.Print l o) = 0
width_step CodeStmt-F.Next = 0
width_step CodeStmt-F.Break = 0
width_step CodeStmt-F.End = 0

abbrev pub width : CodeStmt → ℕ
width = fold-CodeStmt ℕ width_step
