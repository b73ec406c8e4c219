-- One event of a thread: what waits, what is asked for, and where the thread comes to.
use Rattle.std.proofs.Common.{add-one, ◌≡◌, ℕ, suc, ◌+◌, ◌<◌, ◌≤◌, Bool, true, false, not, is_none, if◌then◌else◌, List, length, map, take, drop, get_or, Option, Some, None, IfSome, option_map, Result, Ok, Err, refl, sym, ap, ◌∙◌, subst, arith}
use Rattle.std.proofs.Math.ListN.{drop_of_length-le}
use Rattle.sync_thread.specs.declared.program.CodeStmt.{CodeStmt, out-CodeStmt, roll-CodeStmt, roll-out-CodeStmt}
use Rattle.sync_thread.specs.declared.program.CodeStmt.TheOpen.{CodeStmt-F}
use Rattle.sync_thread.specs.declared.program.CodeStmt.TheVariants.{rolls-Set, rolls-Read, rolls-Write, rolls-Peek, rolls-Word, rolls-Print, rolls-If, rolls-Loop, rolls-Next, rolls-Break, rolls-End}
use Rattle.sync_thread.specs.Control.{Over as IsOver, Halt, Broken, On, Frame, Paused, run, unwind}
use Rattle.sync_thread.specs.Code.{CodeList, CodeShared, code_language, code_statements, Memory}
use Rattle.sync_thread.specs.Code as code
use Rattle.sync_thread.specs.Logs.{Lane, lane_at}
use Rattle.sync_thread.specs.Views.{code_stmt_tree, code_list_tree}
use Rattle.sync_thread_places.specs.declared.standings.Standing.{Standing}
use Rattle.sync_thread_places.specs.declared.standings.Outcome.{Outcome}
use Rattle.sync_thread_places.specs.declared.standings.Outcome.TheVariants.{Waits, Next, Break, End, Over, Stuck}
use Rattle.sync_thread_places.specs.Places.{Enclosed, LeadsTo, place_of, place_in, paused, locals_in, led_to, way_from}
use Rattle.sync_thread_places.specs.Runs.{holding, at_place, told, IsRun, IsResumed, gone_on}
use Rattle.sync_thread_places.proofs.Held.{locals_set}
use Rattle.sync_thread_places.proofs.Trees.{here, set_tree, read_tree, write_tree, peek_tree, word_tree, print_tree, if_tree, loop_tree, next_tree, break_tree, end_tree}
use Rattle.sync_thread_events.specs.declared.steps.SharedStep.{SharedStep}
use Rattle.sync_thread_events.specs.declared.steps.Spans.{Spans}
use Rattle.sync_thread_events.specs.Steps.{shared_of, asked_by, asked_if, assigned_if, local_in, with_local, spanned, span_in}
use Rattle.sync_thread_events.proofs.Tables.{some_same}
use Rattle.sync_thread_places.specs.Places.{most, width}
use Rattle.sync_thread_places.proofs.Tables.{most_of}
use Rattle.sync_thread_events.specs.Moves.{IsThere, lane_left, IsBegun, asked_from, IsMoved, AsksNothing, IsSettled}

-- ---- where a list has ended

pub same_way : (depth : ℕ) (old new : Standing) → new.hops ≡ old.hops → new.depth ≡ old.depth → way_from depth new ≡ way_from depth old
same_way depth old new hops deep =
    ap (λ h. drop depth (take new.depth h.items)) hops ∙ ap (λ n. drop depth (take n old.hops.items)) deep

waits_there : (list : List CodeStmt) (s : Standing) → s.waits ≡ true → place_of list s ≡ place_in (way_from 0 s) s.at list
waits_there list s waits = ap (λ b. if b then place_in (way_from 0 s) s.at list else None) waits

rests_nowhere : (list : List CodeStmt) (s : Standing) → s.waits ≡ false → place_of list s ≡ None
rests_nowhere list s rests = ap (λ b. if b then place_in (way_from 0 s) s.at list else None) rests

lane_same : (list : List CodeStmt) (t : ℕ) (m : Memory) (old new : Standing) (w : Option (Paused code_language)) (goes : Bool)
    → goes ≡ true → new.locals.items ≡ old.locals.items → place_of list new ≡ w
    → ◌≡◌ {A = Result Lane Halt} (Ok (record { memory = holding t (locals_in old.locals.items) m; place = w })) (lane_left goes list t new m)
lane_same list t m old new w goes indeed locals at =
    ap (λ ns. Ok (record { memory = holding t (locals_in ns) m; place = w })) (sym locals)
    ∙ ap (λ p. Ok (record { memory = holding t (locals_in new.locals.items) m; place = p })) (sym at)
    ∙ ap (λ b. lane_left b list t new m) (sym indeed)

stands_at : (list : List CodeStmt) (old new : Standing) (goes : Bool) (e : Enclosed) → led_to (way_from 0 old) list ≡ Some e
    → IsSettled Waits list old new goes → (goes ≡ true) × (place_of list new ≡ Some (paused old.at e))
stands_at list old new goes e led s =
    let indeed : goes ≡ true = s.ends ∙ ap (λ r. not (is_none r)) led in (
      indeed,
      waits_there list new (s.waits indeed)
          ∙ ap (λ w. place_in w new.at list) (same_way 0 old new s.hops s.depth)
          ∙ ap (λ n. place_in (way_from 0 old) n list) s.at
          ∙ ap (option_map (paused old.at)) led,
    )

pub settled : (outcome : Outcome) (list : List CodeStmt) (old new : Standing) (goes : Bool) → IsSettled outcome list old new goes
    → (t : ℕ) (m : Memory) → lane_at (told list IsOver outcome 0 old t m) ≡ lane_left goes list t new m
settled Waits list old new goes s t m = by (led_to (way_from 0 old) list) refl where
  by : (r : Option Enclosed) → led_to (way_from 0 old) list ≡ r → lane_at (told list IsOver Waits 0 old t m) ≡ lane_left goes list t new m
  by (Some e) led =
      let (indeed, at) = stands_at list old new goes e led s in
      ap (λ r. lane_at (at_place (option_map (paused old.at) r) (holding t (locals_in old.locals.items) m))) led
      ∙ lane_same list t m old new (Some (paused old.at e)) goes indeed s.locals at
  by None led =
      ap (λ r. lane_at (at_place (option_map (paused old.at) r) (holding t (locals_in old.locals.items) m))) led
      ∙ ap (λ b. lane_left b list t new m) (sym (s.ends ∙ ap (λ r. not (is_none r)) led))
settled End list old new goes s t m = lane_same list t m old new None goes s.ends s.locals (rests_nowhere list new (s.waits s.ends))
settled Over list old new goes s t m = lane_same list t m old new None goes s.ends s.locals (rests_nowhere list new (s.waits s.ends))
settled Next list old new goes s t m = ap (λ b. lane_left b list t new m) (sym s.ends)
settled Break list old new goes s t m = ap (λ b. lane_left b list t new m) (sym s.ends)
settled Stuck list old new goes s t m = ap (λ b. lane_left b list t new m) (sym s.ends)

-- who is said to wait then does
pub settled_there : (outcome : Outcome) (list : List CodeStmt) (old new : Standing) (goes : Bool) → IsSettled outcome list old new goes
    → goes ≡ true → IsThere list new
settled_there Waits list old new goes s indeed waits = by (led_to (way_from 0 old) list) refl where
  by : (r : Option Enclosed) → led_to (way_from 0 old) list ≡ r → (w : Paused code_language) × (place_of list new ≡ Some w)
  by (Some e) led = (paused old.at e, (stands_at list old new goes e led s).1)
  by None led = absurd (let no : false ≡ true = sym (s.ends ∙ ap (λ r. not (is_none r)) led) ∙ indeed in cc)
settled_there End list old new goes s indeed waits = absurd (let no : false ≡ true = sym (s.waits indeed) ∙ waits in cc)
settled_there Over list old new goes s indeed waits = absurd (let no : false ≡ true = sym (s.waits indeed) ∙ waits in cc)
settled_there Next list old new goes s indeed waits = absurd (let no : false ≡ true = sym s.ends ∙ indeed in cc)
settled_there Break list old new goes s indeed waits = absurd (let no : false ≡ true = sym s.ends ∙ indeed in cc)
settled_there Stuck list old new goes s indeed waits = absurd (let no : false ≡ true = sym s.ends ∙ indeed in cc)

pub begun : (list : List CodeStmt) (outcome : Outcome) (old middle new : Standing) (goes : Bool) → IsRun list 0 0 old middle outcome
    → IsSettled outcome list middle new goes → IsBegun goes list old new
begun list outcome old middle new goes ran s ds t m within = ap lane_at (ran ds t m within) ∙ settled outcome list middle new goes s t m

-- ---- what is asked for

rolled : (s : CodeStmt) (x : CodeStmt-F CodeStmt) → out-CodeStmt s ≡ x → s ≡ roll-CodeStmt x
rolled s x is = sym (roll-out-CodeStmt s) ∙ ap roll-CodeStmt is

-- the list that begins with a statement begins with its step
pub begins_with : (s : CodeStmt) (rest : CodeList) (a : CodeShared) → shared_of (out-CodeStmt s) ≡ Some a → code_stmt_tree s rest ≡ On a 0 rest
begins_with s rest a same = by (out-CodeStmt s) refl where
  on : (b : CodeShared) → ◌≡◌ {A = Option CodeShared} (Some b) (Some a) → On b 0 rest ≡ On a 0 rest
  on b e = ap (λ o. On (elim o [ Some c ↦ c | None ↦ b ]) 0 rest) e

  by : (x : CodeStmt-F CodeStmt) → out-CodeStmt s ≡ x → code_stmt_tree s rest ≡ On a 0 rest
  by (CodeStmt-F.Read x c i) e =
      ap (λ z. code_stmt_tree z rest) (rolled s (CodeStmt-F.Read x c i) e ∙ rolls-Read x c i) ∙ read_tree x c i rest
      ∙ on (code.Read x c i) (sym (ap shared_of e) ∙ same)
  by (CodeStmt-F.Write c i o) e =
      ap (λ z. code_stmt_tree z rest) (rolled s (CodeStmt-F.Write c i o) e ∙ rolls-Write c i o) ∙ write_tree c i o rest
      ∙ on (code.Write c i o) (sym (ap shared_of e) ∙ same)
  by (CodeStmt-F.Peek x c i) e =
      ap (λ z. code_stmt_tree z rest) (rolled s (CodeStmt-F.Peek x c i) e ∙ rolls-Peek x c i) ∙ peek_tree x c i rest
      ∙ on (code.Peek x c i) (sym (ap shared_of e) ∙ same)
  by (CodeStmt-F.Word x o w i) e =
      ap (λ z. code_stmt_tree z rest) (rolled s (CodeStmt-F.Word x o w i) e ∙ rolls-Word x o w i) ∙ word_tree x o w i rest
      ∙ on (code.Operate x o w i) (sym (ap shared_of e) ∙ same)
  by (CodeStmt-F.Print l o) e =
      ap (λ z. code_stmt_tree z rest) (rolled s (CodeStmt-F.Print l o) e ∙ rolls-Print l o) ∙ print_tree l o rest
      ∙ on (code.Print l o) (sym (ap shared_of e) ∙ same)
  by (CodeStmt-F.Set x c) e = absurd (let no : None ≡ Some a = sym (ap shared_of e) ∙ same in cc)
  by (CodeStmt-F.If c p q) e = absurd (let no : None ≡ Some a = sym (ap shared_of e) ∙ same in cc)
  by (CodeStmt-F.Loop body) e = absurd (let no : None ≡ Some a = sym (ap shared_of e) ∙ same in cc)
  by CodeStmt-F.Next e = absurd (let no : None ≡ Some a = sym (ap shared_of e) ∙ same in cc)
  by CodeStmt-F.Break e = absurd (let no : None ≡ Some a = sym (ap shared_of e) ∙ same in cc)
  by CodeStmt-F.End e = absurd (let no : None ≡ Some a = sym (ap shared_of e) ∙ same in cc)

-- and else with none
pub begins_with_none : (spans : Spans) (f : ℕ → ℕ) (s : CodeStmt) (rest : CodeList) → shared_of (out-CodeStmt s) ≡ None
    → asked_from spans f (code_stmt_tree s rest) ≡ Err Broken
begins_with_none spans f s rest none = by (out-CodeStmt s) refl where
  by : (x : CodeStmt-F CodeStmt) → out-CodeStmt s ≡ x → asked_from spans f (code_stmt_tree s rest) ≡ Err Broken
  by (CodeStmt-F.Set x c) e =
      ap (λ z. asked_from spans f (code_stmt_tree z rest)) (rolled s (CodeStmt-F.Set x c) e ∙ rolls-Set x c) ∙ ap (asked_from spans f) (set_tree x c rest)
  by (CodeStmt-F.If c p q) e =
      ap (λ z. asked_from spans f (code_stmt_tree z rest)) (rolled s (CodeStmt-F.If c p q) e ∙ rolls-If c p q) ∙ ap (asked_from spans f) (if_tree c p q rest)
  by (CodeStmt-F.Loop body) e =
      ap (λ z. asked_from spans f (code_stmt_tree z rest)) (rolled s (CodeStmt-F.Loop body) e ∙ rolls-Loop body) ∙ ap (asked_from spans f) (loop_tree body rest)
  by CodeStmt-F.Next e =
      ap (λ z. asked_from spans f (code_stmt_tree z rest)) (rolled s CodeStmt-F.Next e ∙ rolls-Next) ∙ ap (asked_from spans f) (next_tree rest)
  by CodeStmt-F.Break e =
      ap (λ z. asked_from spans f (code_stmt_tree z rest)) (rolled s CodeStmt-F.Break e ∙ rolls-Break) ∙ ap (asked_from spans f) (break_tree rest)
  by CodeStmt-F.End e =
      ap (λ z. asked_from spans f (code_stmt_tree z rest)) (rolled s CodeStmt-F.End e ∙ rolls-End) ∙ ap (asked_from spans f) (end_tree rest)
  by (CodeStmt-F.Read x c i) e = absurd (let no : Some (code.Read x c i) ≡ None = sym (ap shared_of e) ∙ none in cc)
  by (CodeStmt-F.Write c i o) e = absurd (let no : Some (code.Write c i o) ≡ None = sym (ap shared_of e) ∙ none in cc)
  by (CodeStmt-F.Peek x c i) e = absurd (let no : Some (code.Peek x c i) ≡ None = sym (ap shared_of e) ∙ none in cc)
  by (CodeStmt-F.Word x o w i) e = absurd (let no : Some (code.Operate x o w i) ≡ None = sym (ap shared_of e) ∙ none in cc)
  by (CodeStmt-F.Print l o) e = absurd (let no : Some (code.Print l o) ≡ None = sym (ap shared_of e) ∙ none in cc)

-- a statement asks for what its list does
pub asks_same : (spans : Spans) (f : ℕ → ℕ) (s : CodeStmt) (rest : CodeList) → asked_from spans f (code_stmt_tree s rest) ≡ asked_by spans f s
asks_same spans f s rest = by (shared_of (out-CodeStmt s)) refl where
  asked_of : Option CodeShared → Result SharedStep Halt
  asked_of o = asked_if (λ x. spanned (span_in spans.words.items x)) (λ x. spanned (span_in spans.cells.items x)) f o

  by : (r : Option CodeShared) → shared_of (out-CodeStmt s) ≡ r → asked_from spans f (code_stmt_tree s rest) ≡ asked_by spans f s
  by (Some a) e = ap (asked_from spans f) (begins_with s rest a e) ∙ sym (ap asked_of e)
  by None e = begins_with_none spans f s rest e ∙ sym (ap asked_of e)

-- whoever asks for a step has one
asks_one : (spans : Spans) (f : ℕ → ℕ) (s : CodeStmt) (rest : CodeList) (step : SharedStep) → asked_by spans f s ≡ Ok step
    → (a : CodeShared) × (shared_of (out-CodeStmt s) ≡ Some a) × (asked_from spans f (On a 0 rest) ≡ Ok step)
asks_one spans f s rest step asks = by (shared_of (out-CodeStmt s)) refl where
  asked_of : Option CodeShared → Result SharedStep Halt
  asked_of o = asked_if (λ x. spanned (span_in spans.words.items x)) (λ x. spanned (span_in spans.cells.items x)) f o

  by : (r : Option CodeShared) → shared_of (out-CodeStmt s) ≡ r
      → (a : CodeShared) × (shared_of (out-CodeStmt s) ≡ Some a) × (asked_from spans f (On a 0 rest) ≡ Ok step)
  by (Some a) e = (a, e, sym (ap asked_of e) ∙ asks)
  by None e = absurd (let no : ◌≡◌ {A = Result SharedStep Halt} (Err Broken) (Ok step) = sym (ap asked_of e) ∙ asks in cc)

-- ---- who waits where

pub waits_in : (list inner : List CodeStmt) (fs : List (Frame code_language)) (s : Standing) → s.waits ≡ true
    → led_to (way_from 0 s) list ≡ Some (record { list = inner; frames = fs })
    → place_of list s ≡ Some (record { rest = code_list_tree (drop s.at inner); frames = fs })
waits_in list inner fs s waits led = waits_there list s waits ∙ ap (option_map (paused s.at)) led

some_rest : (a b : Paused code_language) → ◌≡◌ {A = Option (Paused code_language)} (Some a) (Some b) → a.rest ≡ b.rest
some_rest a b e = ap (λ (w : Paused code_language). w.rest) (some_same a b e)

pub waits_nowhere : (list : List CodeStmt) (spans : Spans) (s : Standing) → s.waits ≡ true → led_to (way_from 0 s) list ≡ None
    → AsksNothing list spans s
waits_nowhere list spans s waits led w at =
    absurd (let no : None ≡ Some w = sym (waits_there list s waits ∙ ap (option_map (paused s.at)) led) ∙ at in cc)

pub waits_idly : (list inner : List CodeStmt) (spans : Spans) (s : Standing) → s.waits ≡ true
    → LeadsTo (way_from 0 s) list inner → asked_from spans (locals_in s.locals.items) (code_list_tree (drop s.at inner)) ≡ Err Broken
    → AsksNothing list spans s
waits_idly list inner spans s waits (fs, led) asks w at =
    ap (asked_from spans (locals_in s.locals.items))
    (some_rest w (record { rest = code_list_tree (drop s.at inner); frames = fs }) (sym at ∙ waits_in list inner fs s waits led))
    ∙ asks

-- at the end of a list nothing is asked for
pub waits_behind : (list inner : List CodeStmt) (spans : Spans) (s : Standing) (at : ℕ) → at ≡ s.at → s.waits ≡ true
    → LeadsTo (way_from 0 s) list inner → length inner ≤ at → AsksNothing list spans s
waits_behind list inner spans s at is waits leads past =
    waits_idly list inner spans s waits leads
    (ap (λ l. asked_from spans (locals_in s.locals.items) (code_list_tree l))
    (ap (λ n. drop n inner) (sym is) ∙ drop_of_length-le inner past))

pub waits_at_other : (list inner : List CodeStmt) (spans : Spans) (s : Standing) (at : ℕ) (x : CodeStmt) → at ≡ s.at → s.waits ≡ true
    → LeadsTo (way_from 0 s) list inner → at < length inner → x ≡ get_or inner at x
    → asked_by spans (locals_in s.locals.items) x ≡ Err Broken → AsksNothing list spans s
waits_at_other list inner spans s at x is waits leads within found asks =
    waits_idly list inner spans s waits leads
    (ap (λ n. asked_from spans (locals_in s.locals.items) (code_list_tree (drop n inner))) (sym is)
    ∙ ap (asked_from spans (locals_in s.locals.items)) (here inner at x within found)
    ∙ asks_same spans (locals_in s.locals.items) x (code_list_tree (drop (suc at) inner)) ∙ asks)

-- ---- the step, and what follows

kept_local : (x : Option ℕ) (n : ℕ) (ns : List ℕ) → IfSome x (λ y. y < length ns)
    → ◌≡◌ {A = ℕ → ℕ} (locals_in (with_local x n ns)) (assigned_if x n (locals_in ns))
kept_local (Some y) n ns within = locals_set ns y n within
kept_local None n ns within = refl

pub moved : {S : Type 0} (does : SharedStep → S → ℕ → S → Type 0) (goes : Bool) (list inner : List CodeStmt) (spans : Spans)
    (old kept middle new : Standing) (before after : S) (at : ℕ) (s : CodeStmt) (step : SharedStep) (found : ℕ) (local : Option ℕ)
    (outcome : Outcome)
    → at ≡ old.at → old.waits ≡ true → LeadsTo (way_from 0 old) list inner → at < length inner → s ≡ get_or inner at s
    → asked_by spans (locals_in old.locals.items) s ≡ Ok step → does step before found after
    → local ≡ local_in (shared_of (out-CodeStmt s)) → IfSome local (λ x. x < length old.locals.items)
    → kept.locals.items ≡ with_local local found old.locals.items → kept.hops ≡ old.hops → kept.depth ≡ old.depth
    → IsResumed list 0 (at + 1) kept middle outcome → IsSettled outcome list middle new goes
    → IsMoved does goes list spans old before new after
moved does goes list inner spans old kept middle new before after at s step found local outcome is waits (fs, led) within stands
    asks done local_is room locals hops depth resumed settles = by (asks_one spans (locals_in old.locals.items) s rest step asks) where
      rest : CodeList
      rest = code_list_tree (drop (suc at) inner)

      by : (a : CodeShared) × (shared_of (out-CodeStmt s) ≡ Some a) × (asked_from spans (locals_in old.locals.items) (On a 0 rest) ≡ Ok step)
          → IsMoved does goes list spans old before new after
      by (a, shares, asked) = record {
        shared = a;
        rest = rest;
        frames = fs;
        waits = waits_in list inner fs old waits led
            ∙ ap (λ n. Some (record { rest = code_list_tree (drop n inner); frames = fs })) (sym is)
            ∙ ap (λ l. Some (record { rest = l; frames = fs })) (here inner at s within stands ∙ begins_with s rest a shares);
        step = step;
        asks = asked;
        found = found;
        made = done;
        leaves = λ ds t m inside.
            ap (λ f. lane_at (unwind (code_statements ds t) fs (run (code_statements ds t) rest (holding t f m))))
            (sym (ap locals_in locals ∙ kept_local local found old.locals.items room
            ∙ ap (λ x. assigned_if x found (locals_in old.locals.items)) (local_is ∙ ap local_in shares)))
            ∙ ap (λ n. lane_at (gone_on ds t n (holding t (locals_in kept.locals.items) m) (Some (record { list = inner; frames = fs })))) (sym (add-one at))
            ∙ ap (λ r. lane_at (gone_on ds t (at + 1) (holding t (locals_in kept.locals.items) m) r))
            (sym (ap (λ w. led_to w list) (same_way 0 old kept hops depth) ∙ led))
            ∙ ap lane_at (resumed ds t m inside) ∙ settled outcome list middle new goes settles t m;
      }

-- ---- as the calls give it

-- a list that begins, where whether it goes on is known
pub begun_so : (list : List CodeStmt) (outcome : Outcome) (old middle new : Standing) (goes so : Bool) → goes ≡ so
    → IsRun list 0 0 old middle outcome → IsSettled outcome list middle new goes → IsBegun so list old new
begun_so list outcome old middle new goes so is ran s ds t m within =
    begun list outcome old middle new goes ran s ds t m within ∙ ap (λ b. lane_left b list t new m) is

pub kept_room : (local : Option ℕ) (inner : List CodeStmt) (at : ℕ) (s : CodeStmt) (n : ℕ) → at < length inner → s ≡ get_or inner at s
    → most (map width inner) ≤ n → IfSome local (λ x. x < width s) → IfSome local (λ x. x < n)
kept_room (Some x) inner at s n within is room fits =
    let most_is : width s ≤ most (map width inner) = most_of width inner at s within is in omega (arith, most_is, room, fits)
kept_room None inner at s n within is room fits = tt

pub moved_so : {S : Type 0} (does : SharedStep → S → ℕ → S → Type 0) (goes so : Bool) (list inner : List CodeStmt) (spans : Spans)
    (old kept middle new : Standing) (before after : S) (s : CodeStmt) (step : SharedStep) (found : ℕ) (local : Option ℕ)
    (outcome : Outcome) (read : List ℕ)
    → goes ≡ so → read ≡ old.locals.items → old.waits ≡ true → LeadsTo (way_from 0 old) list inner → old.at < length inner
    → s ≡ get_or inner old.at s
    → asked_by spans (locals_in read) s ≡ Ok step → does step before found after
    → local ≡ local_in (shared_of (out-CodeStmt s)) → IfSome local (λ x. x < width s) → most (map width inner) ≤ length old.locals.items
    → kept.locals.items ≡ with_local local found old.locals.items → kept.hops ≡ old.hops → kept.depth ≡ old.depth
    → IsResumed list 0 (old.at + 1) kept middle outcome → IsSettled outcome list middle new goes
    → IsMoved does so list spans old before new after
moved_so does goes so list inner spans old kept middle new before after s step found local outcome read is reads waits leads within stands
    asks done local_is fits room locals hops depth resumed settles =
    subst (λ b. IsMoved does b list spans old before new after) is
    (moved does goes list inner spans old kept middle new before after old.at s step found local outcome refl waits leads within stands
    (ap (λ ns. asked_by spans (locals_in ns) s) (sym reads) ∙ asks) done local_is
    (kept_room local inner old.at s (length old.locals.items) within stands room fits) locals hops depth resumed settles)
