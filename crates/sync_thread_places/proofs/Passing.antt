-- A statement between steps is passed as the meaning says.
use Rattle.std.proofs.Math.ListN.{drop_of_length-le}
use Rattle.std.proofs.Common.{add-one, ◌⊎◌, inl, inr, ◌≡◌, ℕ, zero, suc, ◌+◌, ◌<◌, ◌≤◌, Bool, true, false, not, if◌then◌else◌, List, [], ◌∷◌, ◌++◌, length, map, take, drop, set, get_or, slice_get, slice_set, Option, Some, None, option_map, Result, Ok, Err, refl, sym, ap, ◌∙◌, subst, arith}
use Rattle.sync_base.specs.Outcome.{◌>>=◌}
use Rattle.sync_thread.specs.declared.operands.CodeDecl.{CodeDecl}
use Rattle.sync_thread.specs.declared.operands.Calc.{Calc}
use Rattle.sync_thread.specs.declared.operands.Cond.{Cond}
use Rattle.sync_thread.specs.declared.operands.Opd.{Opd}
use Rattle.sync_thread.specs.declared.operands.WordOp.{WordOp}
use Rattle.sync_thread.specs.Code as code
use Rattle.sync_thread.specs.declared.program.CodeStmt.{CodeStmt}
use Rattle.sync_thread.specs.declared.program.CodeStmt.TheVariants as made
use Rattle.sync_thread.specs.Control as control
use Rattle.sync_thread.specs.Control.{Halt, Broken, Frame, InBranch, InLoop, Signal, Stms, run, unwind, after_branch, after_fresh_body, after_older_body, after_frame, from_state}
use Rattle.sync_thread.specs.Code.{CodeList, CodeShared, code_forms, code_language, code_statements, Memory, assigned, setting, calculated, satisfies}
use Rattle.sync_thread.specs.Views.{code_list_tree, code_stmt_tree}
use Rattle.sync_thread_places.specs.declared.standings.Hop.{Hop}
use Rattle.sync_thread_places.specs.declared.standings.Standing.{Standing}
use Rattle.sync_thread_places.specs.declared.standings.Outcome.{Outcome}
use Rattle.sync_thread_places.specs.declared.standings.Outcome.TheVariants.{Waits, Next, Break, End, Over, Stuck}
use Rattle.sync_thread_places.specs.Places.{Enclosed, led_to, inside, place_in, paused, way_from, locals_in}
use Rattle.sync_thread_places.specs.Values.{operand_in, is_met_in}
use Rattle.sync_thread_places.specs.Runs.{holding, at_place, signal_of, told, IsRun, IsPassed, IsSet, IsMarked, IsRunInside, HasRoom, KeepsRoom, after_body}
use Rattle.sync_thread_places.proofs.Tables.{got}
use Rattle.sync_thread_places.proofs.Trees.{round, here, set_tree, read_tree, write_tree, peek_tree, word_tree, print_tree, if_tree, loop_tree, next_tree, break_tree, end_tree, led_if, led_loop}
use Rattle.sync_thread_places.proofs.Held.{operands_held, sets, locals_set, met}

-- ---- calculations

set_runs : (ds : List CodeDecl) (t x : ℕ) (c : Calc) (rest : CodeList) (old new : List ℕ) (m : Memory) (outcome : Outcome)
    (list : List CodeStmt) (hops : List Hop) (at : ℕ) (r : Result ℕ Halt)
    → t < length m.locals → x < length old → calculated (operand_in (locals_in old)) c ≡ r → IsSet r x old new outcome
    → run (code_statements ds t) (control.Do (record { local = x; calc = c }) 0 rest) (holding t (locals_in old) m)
    ≡ signal_of list (run (code_statements ds t) rest) outcome hops at (holding t (locals_in new) m)
unfolding run
set_runs ds t x c rest old new m outcome list hops at (Ok n) within fits is (news, over) =
    let w = code_statements ds t in
    ap (λ (g : Opd → ℕ). from_state (calculated g c >>= (λ n. Ok (setting t x n (holding t (locals_in old) m)))) (run w rest))
    (operands_held t (locals_in old) m within)
    ∙ ap (λ (q : Result ℕ Halt). from_state (q >>= (λ n. Ok (setting t x n (holding t (locals_in old) m)))) (run w rest)) is
    ∙ ap (run w rest) (sets t x n (locals_in old) m within
    ∙ ap (λ (f : ℕ → ℕ). holding t f m) (sym (locals_set old x n fits) ∙ ap locals_in (sym news)))
    ∙ ap (λ o. signal_of list (run w rest) o hops at (holding t (locals_in new) m)) (sym over)
set_runs ds t x c rest old new m outcome list hops at (Err h) within fits is (same, stuck, broken) =
    let w = code_statements ds t in
    ap (λ (g : Opd → ℕ). from_state (calculated g c >>= (λ n. Ok (setting t x n (holding t (locals_in old) m)))) (run w rest))
    (operands_held t (locals_in old) m within)
    ∙ ap (λ (q : Result ℕ Halt). from_state (q >>= (λ n. Ok (setting t x n (holding t (locals_in old) m)))) (run w rest)) is
    ∙ ap control.Fails broken
    ∙ ap (λ o. signal_of list (run w rest) o hops at (holding t (locals_in new) m)) (sym stuck)

pub set_passed : (list : List CodeStmt) (at depth x : ℕ) (c : Calc) (s : CodeStmt) (old new : Standing) (outcome : Outcome)
    → at < length list → s ≡ get_or list at s → s ≡ made.Set x c → x < length old.locals.items
    → IsSet (calculated (operand_in (locals_in old.locals.items)) c) x old.locals.items new.locals.items outcome
    → IsPassed list at depth old new outcome
set_passed list at depth x c s old new outcome within is same fits did ds t m inside =
    let rest = code_list_tree (drop (suc at) list) in
    ap (λ l. run (code_statements ds t) l (holding t (locals_in old.locals.items) m))
    (here list at s within is ∙ ap (λ y. code_stmt_tree y rest) same ∙ set_tree x c rest)
    ∙ set_runs ds t x c rest old.locals.items new.locals.items m outcome list (way_from depth new) new.at
    (calculated (operand_in (locals_in old.locals.items)) c) inside fits refl did

-- ---- steps

take_drop : {A : Type 0} (xs : List A) (d : ℕ) → drop d (take d xs) ≡ []
take_drop [] zero = refl
take_drop [] (suc d) = refl
take_drop (x ∷ xs) zero = refl
take_drop (x ∷ xs) (suc d) = take_drop xs d

-- before a step a list waits
pub wait_passed : (list : List CodeStmt) (at depth : ℕ) (s : CodeStmt) (a : CodeShared) (old new : Standing) (outcome : Outcome)
    → at < length list → s ≡ get_or list at s
    → ((rest : CodeList) → code_stmt_tree s rest ≡ control.On a 0 rest)
    → outcome ≡ Waits → new ≡ record old { depth = depth; at = at }
    → IsPassed list at depth old new outcome
unfolding run
wait_passed list at depth s a old new outcome within is tree waits are ds t m inside =
    let w = code_statements ds t in let rest = code_list_tree (drop (suc at) list) in
    let mm = holding t (locals_in old.locals.items) m in
    let e = here list at s within is ∙ tree rest in
    let waiting : CodeList → Signal code_language = λ l. control.At l [] mm in
    ap (λ l. run w l mm) e
    ∙ ap waiting (sym e)
    ∙ ap (λ hs. at_place (place_in hs at list) mm) (sym (take_drop old.hops.items depth))
    ∙ ap (λ (z : Standing). told list (run w rest) Waits depth z t m) (sym are)
    ∙ ap (λ o. told list (run w rest) o depth new t m) (sym waits)

-- ---- jumps

pub next_passed : (list : List CodeStmt) (at depth : ℕ) (s : CodeStmt) (z : Standing)
    → at < length list → s ≡ get_or list at s → s ≡ made.Next → IsPassed list at depth z z Next
unfolding run
next_passed list at depth s z within is same ds t m inside = let rest = code_list_tree (drop (suc at) list) in
    ap (λ l. run (code_statements ds t) l (holding t (locals_in z.locals.items) m))
    (here list at s within is ∙ ap (λ y. code_stmt_tree y rest) same ∙ next_tree rest)

pub break_passed : (list : List CodeStmt) (at depth : ℕ) (s : CodeStmt) (z : Standing)
    → at < length list → s ≡ get_or list at s → s ≡ made.Break → IsPassed list at depth z z Break
unfolding run
break_passed list at depth s z within is same ds t m inside = let rest = code_list_tree (drop (suc at) list) in
    ap (λ l. run (code_statements ds t) l (holding t (locals_in z.locals.items) m))
    (here list at s within is ∙ ap (λ y. code_stmt_tree y rest) same ∙ break_tree rest)

pub end_passed : (list : List CodeStmt) (at depth : ℕ) (s : CodeStmt) (z : Standing)
    → at < length list → s ≡ get_or list at s → s ≡ made.End → IsPassed list at depth z z End
unfolding run
end_passed list at depth s z within is same ds t m inside = let rest = code_list_tree (drop (suc at) list) in
    ap (λ l. run (code_statements ds t) l (holding t (locals_in z.locals.items) m))
    (here list at s within is ∙ ap (λ y. code_stmt_tree y rest) same ∙ end_tree rest)

-- ---- branches and bodies

branch_left_at : (ds : List CodeDecl) (t : ℕ) (rest : CodeList) (x : Option Enclosed) (at : ℕ) (mm : Memory)
    → after_branch (code_statements ds t) None rest tt (run (code_statements ds t) rest) (at_place (option_map (paused at) x) mm)
    ≡ at_place (option_map (paused at) (round (InBranch None rest tt) x)) mm
branch_left_at ds t rest None at mm = refl
branch_left_at ds t rest (Some e) at mm = refl

body_left_at : (ds : List CodeDecl) (t : ℕ) (body rest : CodeList) (x : Option Enclosed) (at : ℕ) (mm : Memory)
    → after_fresh_body (code_statements ds t) tt body (Some tt) rest tt (run (code_statements ds t) rest) (at_place (option_map (paused at) x) mm)
    ≡ at_place (option_map (paused at) (round (InLoop tt body (Some tt) rest tt) x)) mm
body_left_at ds t body rest None at mm = refl
body_left_at ds t body rest (Some e) at mm = refl

-- told of an outcome other than `Waits`, the way does not matter
pub branch_left : (ds : List CodeDecl) (t : ℕ) (m : Memory) (list inner : List CodeStmt) (hop : Hop) (depth : ℕ) (old new : Standing)
    (outcome : Outcome)
    → ((hs : List Hop) → led_to (hop ∷ hs) list ≡ round (InBranch None (code_list_tree (drop (suc hop.at) list)) tt) (led_to hs inner))
    → IsMarked hop depth outcome old new
    → after_branch (code_statements ds t) None (code_list_tree (drop (suc hop.at) list)) tt
    (run (code_statements ds t) (code_list_tree (drop (suc hop.at) list))) (told inner control.Over outcome (depth + 1) old t m)
    ≡ told list (run (code_statements ds t) (code_list_tree (drop (suc hop.at) list))) outcome depth new t m
branch_left ds t m list inner hop depth old new Waits led is =
    let rest = code_list_tree (drop (suc hop.at) list) in
    branch_left_at ds t rest (led_to (way_from (depth + 1) old) inner) old.at (holding t (locals_in old.locals.items) m)
    ∙ ap (λ x. at_place (option_map (paused old.at) x) (holding t (locals_in old.locals.items) m)) (sym (led (way_from (depth + 1) old)))
    ∙ ap (λ hs. at_place (place_in hs old.at list) (holding t (locals_in old.locals.items) m)) (sym (is.way refl))
    ∙ ap (λ n. at_place (place_in (way_from depth new) n list) (holding t (locals_in old.locals.items) m)) (sym is.at)
    ∙ ap (λ ns. at_place (place_in (way_from depth new) new.at list) (holding t (locals_in ns) m)) (sym is.locals)
branch_left ds t m list inner hop depth old new Next led is = ap (λ ns. control.Nexts tt (holding t (locals_in ns) m)) (sym is.locals)
branch_left ds t m list inner hop depth old new Break led is = ap (λ ns. control.Breaks tt (holding t (locals_in ns) m)) (sym is.locals)
branch_left ds t m list inner hop depth old new End led is = ap (λ ns. control.Ends tt (holding t (locals_in ns) m)) (sym is.locals)
branch_left ds t m list inner hop depth old new Over led is =
    ap (λ ns. run (code_statements ds t) (code_list_tree (drop (suc hop.at) list)) (holding t (locals_in ns) m)) (sym is.locals)
branch_left ds t m list inner hop depth old new Stuck led is = refl

pub body_left : (ds : List CodeDecl) (t : ℕ) (m : Memory) (list body : List CodeStmt) (hop : Hop) (depth : ℕ) (old new : Standing)
    (outcome : Outcome)
    → ((hs : List Hop) → led_to (hop ∷ hs) list
    ≡ round (InLoop tt (code_list_tree body) (Some tt) (code_list_tree (drop (suc hop.at) list)) tt) (led_to hs body))
    → IsMarked hop depth outcome old new
    → after_fresh_body (code_statements ds t) tt (code_list_tree body) (Some tt) (code_list_tree (drop (suc hop.at) list)) tt
    (run (code_statements ds t) (code_list_tree (drop (suc hop.at) list))) (told body control.Over outcome (depth + 1) old t m)
    ≡ told list (run (code_statements ds t) (code_list_tree (drop (suc hop.at) list))) (after_body outcome) depth new t m
body_left ds t m list body hop depth old new Waits led is =
    let rest = code_list_tree (drop (suc hop.at) list) in
    body_left_at ds t (code_list_tree body) rest (led_to (way_from (depth + 1) old) body) old.at (holding t (locals_in old.locals.items) m)
    ∙ ap (λ x. at_place (option_map (paused old.at) x) (holding t (locals_in old.locals.items) m)) (sym (led (way_from (depth + 1) old)))
    ∙ ap (λ hs. at_place (place_in hs old.at list) (holding t (locals_in old.locals.items) m)) (sym (is.way refl))
    ∙ ap (λ n. at_place (place_in (way_from depth new) n list) (holding t (locals_in old.locals.items) m)) (sym is.at)
    ∙ ap (λ ns. at_place (place_in (way_from depth new) new.at list) (holding t (locals_in ns) m)) (sym is.locals)
body_left ds t m list body hop depth old new Next led is = refl
body_left ds t m list body hop depth old new Break led is =
    ap (λ ns. run (code_statements ds t) (code_list_tree (drop (suc hop.at) list)) (holding t (locals_in ns) m)) (sym is.locals)
body_left ds t m list body hop depth old new End led is = ap (λ ns. control.Ends tt (holding t (locals_in ns) m)) (sym is.locals)
body_left ds t m list body hop depth old new Over led is = refl
body_left ds t m list body hop depth old new Stuck led is = refl

-- ---- a branch and a loop are passed

pub loop_passed : (list : List CodeStmt) (at depth : ℕ) (s : CodeStmt) (body : List CodeStmt) (hop : Hop) (old between new : Standing)
    (outcome : Outcome)
    → at < length list → s ≡ get_or list at s → s ≡ made.Loop body → hop.at ≡ at
    → IsRun body 0 (depth + 1) old between outcome → IsMarked hop depth outcome between new
    → IsPassed list at depth old new (after_body outcome)
unfolding run
loop_passed list at depth s body hop old between new outcome within is same at_is ran marked ds t m inside =
    let w = code_statements ds t in let rest = code_list_tree (drop (suc at) list) in
    ap (λ l. run w l (holding t (locals_in old.locals.items) m))
    (here list at s within is ∙ ap (λ y. code_stmt_tree y rest) same ∙ loop_tree body rest)
    ∙ ap (λ o. after_fresh_body w tt (code_list_tree body) (Some tt) rest tt (run w rest) o) (ran ds t m inside)
    ∙ subst (λ n. after_fresh_body w tt (code_list_tree body) (Some tt) (code_list_tree (drop (suc n) list)) tt (run w (code_list_tree (drop (suc n) list)))
    (told body control.Over outcome (depth + 1) between t m)
    ≡ told list (run w (code_list_tree (drop (suc n) list))) (after_body outcome) depth new t m) at_is
    (body_left ds t m list body hop depth between new outcome
    (λ hs. led_loop list hop hs s body (ap (slice_get list) at_is ∙ got list at s within is) same) marked)

pub if_passed : (list : List CodeStmt) (at depth : ℕ) (s : CodeStmt) (c : Cond) (p q : List CodeStmt) (hop : Hop) (old between new : Standing)
    (outcome : Outcome) (holds : Bool)
    → at < length list → s ≡ get_or list at s → s ≡ made.If c p q → hop.at ≡ at
    → is_met_in (locals_in old.locals.items) c ≡ holds → hop.second ≡ not holds
    → IsRun (if hop.second then q else p) 0 (depth + 1) old between outcome → IsMarked hop depth outcome between new
    → IsPassed list at depth old new outcome
unfolding run
if_passed list at depth s c p q hop old between new outcome holds within is same at_is met_is second ran marked ds t m inside =
    let w = code_statements ds t in let rest = code_list_tree (drop (suc at) list) in
    let mm = holding t (locals_in old.locals.items) m in
    ap (λ l. run w l mm)
    (here list at s within is ∙ ap (λ y. code_stmt_tree y rest) same ∙ if_tree c p q rest)
    ∙ ap (λ b. after_branch w None rest tt (run w rest) (if b then run w (code_list_tree p) mm else run w (code_list_tree q) mm))
    (met t (locals_in old.locals.items) m inside c ∙ met_is)
    ∙ ap (after_branch w None rest tt (run w rest)) (taken holds (λ l. run w (code_list_tree l) mm) p q
    ∙ ap (λ b. run w (code_list_tree (if b then q else p)) mm) (sym second) ∙ ran ds t m inside)
    ∙ subst (λ n. after_branch w None (code_list_tree (drop (suc n) list)) tt (run w (code_list_tree (drop (suc n) list)))
    (told (if hop.second then q else p) control.Over outcome (depth + 1) between t m)
    ≡ told list (run w (code_list_tree (drop (suc n) list))) outcome depth new t m) at_is
    (branch_left ds t m list (if hop.second then q else p) hop depth between new outcome
    (λ hs. led_if list hop hs s c p q (ap (slice_get list) at_is ∙ got list at s within is) same) marked) where
      taken : (b : Bool) (f : List CodeStmt → Signal code_language) (p q : List CodeStmt)
          → (if b then f p else f q) ≡ f (if not b then q else p)
      taken true f p q = refl
      taken false f p q = refl

-- ---- several statements

-- the list from one statement on is run up to another one
pub record IsRunTo (list : List CodeStmt) (from at : ℕ) (old new : Standing) : Type 0 where
  pub runs : (ds : List CodeDecl) (t : ℕ) (m : Memory) → t < length m.locals
      → run (code_statements ds t) (code_list_tree (drop from list)) (holding t (locals_in old.locals.items) m)
      ≡ run (code_statements ds t) (code_list_tree (drop at list)) (holding t (locals_in new.locals.items) m)
  pub hops : length new.hops.items ≡ length old.hops.items
  pub locals : length new.locals.items ≡ length old.locals.items

pub run_none : (list : List CodeStmt) (from : ℕ) (z : Standing) → IsRunTo list from from z z
run_none list from z = record { runs = λ ds t m inside. refl; hops = refl; locals = refl }

pub run_more : (list : List CodeStmt) (from at depth : ℕ) (old between new : Standing)
    → IsRunTo list from at old between → IsPassed list at depth between new Over → KeepsRoom depth between new Over
    → IsRunTo list from (at + 1) old new
run_more list from at depth old between new is passed keeps = record {
  runs = λ ds t m inside. is.runs ds t m inside ∙ passed ds t m inside
      ∙ ap (λ n. run (code_statements ds t) (code_list_tree (drop n list)) (holding t (locals_in new.locals.items) m)) (sym (add-one at));
  hops = keeps.hops ∙ is.hops;
  locals = keeps.locals ∙ is.locals;
}

pub run_room : (list : List CodeStmt) (from at depth : ℕ) (old new : Standing) → HasRoom list depth old → IsRunTo list from at old new
    → HasRoom list depth new
run_room list from at depth old new room is = (omega (arith, room.0, is.hops), omega (arith, room.1, is.locals))

-- all has been run
pub run_all : (list : List CodeStmt) (from at depth : ℕ) (old new : Standing) → length list ≤ at → IsRunTo list from at old new
    → IsRun list from depth old new Over
unfolding run
run_all list from at depth old new past is ds t m inside = is.runs ds t m inside
    ∙ ap (λ l. run (code_statements ds t) (code_list_tree l) (holding t (locals_in new.locals.items) m)) (drop_of_length-le list past)

pub told_ends : (list : List CodeStmt) (outcome : Outcome) (depth : ℕ) (z : Standing) (t : ℕ) (m : Memory)
    (on : Memory → Signal code_language) → (outcome ≡ Over → ⊥)
    → told list on outcome depth z t m ≡ told list control.Over outcome depth z t m
told_ends list Waits depth z t m on ends = refl
told_ends list Next depth z t m on ends = refl
told_ends list Break depth z t m on ends = refl
told_ends list End depth z t m on ends = refl
told_ends list Over depth z t m on ends = absurd (ends refl)
told_ends list Stuck depth z t m on ends = refl

-- it ends at a statement
pub run_ends : (list : List CodeStmt) (from at depth : ℕ) (old between new : Standing) (outcome : Outcome) → (outcome ≡ Over → ⊥)
    → IsRunTo list from at old between → IsPassed list at depth between new outcome
    → IsRun list from depth old new outcome
run_ends list from at depth old between new outcome ends is passed ds t m inside =
    is.runs ds t m inside ∙ passed ds t m inside ∙ told_ends list outcome depth new t m _ ends

pub keeps_along : (list : List CodeStmt) (from at depth : ℕ) (old between new : Standing) (outcome : Outcome)
    → IsRunTo list from at old between → KeepsRoom depth between new outcome → KeepsRoom depth old new outcome
keeps_along list from at depth old between new outcome is keeps =
    record { hops = keeps.hops ∙ is.hops; locals = keeps.locals ∙ is.locals; deep = keeps.deep }

-- ---- the statements of a list, one by one

pub met_so : (ns ms : List ℕ) (c : Cond) (b v : Bool) → ns ≡ ms → b ≡ is_met_in (locals_in ns) c → b ≡ v
    → is_met_in (locals_in ms) c ≡ v
met_so ns ms c b v same is so = ap (λ ks. is_met_in (locals_in ks) c) (sym same) ∙ sym is ∙ so

pub then_passed : (list : List CodeStmt) (at depth : ℕ) (s : CodeStmt) (c : Cond) (p q inner : List CodeStmt) (old new : Standing)
    (outcome : Outcome)
    → at < length list → s ≡ get_or list at s → s ≡ made.If c p q → is_met_in (locals_in old.locals.items) c ≡ true → inner ≡ p
    → IsRunInside inner (record { at = at; second = false }) depth old new outcome → IsPassed list at depth old new outcome
then_passed list at depth s c p q inner old new outcome within is same met chosen (between, ran, marked) =
    if_passed list at depth s c p q (record { at = at; second = false }) old between new outcome true within is same refl met refl
    (subst (λ l. IsRun l 0 (depth + 1) old between outcome) chosen ran) marked

pub else_passed : (list : List CodeStmt) (at depth : ℕ) (s : CodeStmt) (c : Cond) (p q inner : List CodeStmt) (old new : Standing)
    (outcome : Outcome)
    → at < length list → s ≡ get_or list at s → s ≡ made.If c p q → is_met_in (locals_in old.locals.items) c ≡ false → inner ≡ q
    → IsRunInside inner (record { at = at; second = true }) depth old new outcome → IsPassed list at depth old new outcome
else_passed list at depth s c p q inner old new outcome within is same met chosen (between, ran, marked) =
    if_passed list at depth s c p q (record { at = at; second = true }) old between new outcome false within is same refl met refl
    (subst (λ l. IsRun l 0 (depth + 1) old between outcome) chosen ran) marked

pub body_passed : (list : List CodeStmt) (at depth : ℕ) (s : CodeStmt) (body inner : List CodeStmt) (old new : Standing)
    (outcome result : Outcome)
    → at < length list → s ≡ get_or list at s → s ≡ made.Loop body → inner ≡ body → result ≡ after_body outcome
    → IsRunInside inner (record { at = at; second = false }) depth old new outcome → IsPassed list at depth old new result
body_passed list at depth s body inner old new outcome result within is same chosen ends (between, ran, marked) =
    subst (λ o. IsPassed list at depth old new o) (sym ends)
    (loop_passed list at depth s body (record { at = at; second = false }) old between new outcome within is same refl
    (subst (λ l. IsRun l 0 (depth + 1) old between outcome) chosen ran) marked)

-- before any of the shared steps
pub step_passed : (list : List CodeStmt) (at depth : ℕ) (s : CodeStmt) (old new : Standing) (outcome : Outcome)
    → at < length list → s ≡ get_or list at s
    → ((x : ℕ) × (c : ℕ) × (i : Opd) × (s ≡ made.Read x c i)) ⊎ (((c : ℕ) × (i : Opd) × (o : Opd) × (s ≡ made.Write c i o))
    ⊎ (((x : ℕ) × (c : ℕ) × (i : Opd) × (s ≡ made.Peek x c i))
    ⊎ (((x : Option ℕ) × (op : WordOp) × (w : ℕ) × (i : Opd) × (s ≡ made.Word x op w i))
    ⊎ ((l : ℕ) × (o : Opd) × (s ≡ made.Print l o)))))
    → outcome ≡ Waits → new ≡ record old { depth = depth; at = at } → IsPassed list at depth old new outcome
step_passed list at depth s old new outcome within is (inl (x, c, i, e)) =
    wait_passed list at depth s (code.Read x c i) old new outcome within is (λ rest. ap (λ y. code_stmt_tree y rest) e ∙ read_tree x c i rest)
step_passed list at depth s old new outcome within is (inr (inl (c, i, o, e))) =
    wait_passed list at depth s (code.Write c i o) old new outcome within is (λ rest. ap (λ y. code_stmt_tree y rest) e ∙ write_tree c i o rest)
step_passed list at depth s old new outcome within is (inr (inr (inl (x, c, i, e)))) =
    wait_passed list at depth s (code.Peek x c i) old new outcome within is (λ rest. ap (λ y. code_stmt_tree y rest) e ∙ peek_tree x c i rest)
step_passed list at depth s old new outcome within is (inr (inr (inr (inl (x, op, w, i, e))))) =
    wait_passed list at depth s (code.Operate x op w i) old new outcome within is (λ rest. ap (λ y. code_stmt_tree y rest) e ∙ word_tree x op w i rest)
step_passed list at depth s old new outcome within is (inr (inr (inr (inr (l, o, e))))) =
    wait_passed list at depth s (code.Print l o) old new outcome within is (λ rest. ap (λ y. code_stmt_tree y rest) e ∙ print_tree l o rest)
