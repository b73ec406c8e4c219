-- Going on out of the forms round a step, as the meaning says.
use Rattle.std.proofs.lemmas.Option.{slice_get_past}
use Rattle.std.proofs.Common.{add-one, ◌⊎◌, inl, inr, ◌≡◌, ℕ, zero, suc, ◌+◌, ◌<◌, ◌≤◌, Bool, true, false, if◌then◌else◌, List, [], ◌∷◌, ◌++◌, length, map, take, drop, get_or, slice_get, Option, Some, None, option_map, refl, sym, ap, ◌∙◌, subst, arith}
use Rattle.std.proofs.Math.ListN.{drop_of_length-le}
use Rattle.sync_thread.specs.declared.operands.CodeDecl.{CodeDecl}
use Rattle.sync_thread.specs.declared.operands.Cond.{Cond}
use Rattle.sync_thread.specs.declared.operands.Calc.{Calc}
use Rattle.sync_thread.specs.declared.operands.Opd.{Opd}
use Rattle.sync_thread.specs.declared.operands.WordOp.{WordOp}
use Rattle.sync_thread.specs.declared.program.CodeStmt.{CodeStmt, out-CodeStmt, out-roll-CodeStmt}
use Rattle.sync_thread.specs.declared.program.CodeStmt.TheOpen.{CodeStmt-F}
use Rattle.sync_thread.specs.declared.program.CodeStmt.TheVariants as made
use Rattle.sync_thread.specs.declared.program.CodeStmt.TheVariants.{rolls-Set, rolls-Read, rolls-Write, rolls-Peek, rolls-Word, rolls-Print, rolls-Next, rolls-Break, rolls-End}
use Rattle.sync_thread.specs.Control as control
use Rattle.sync_thread.specs.Control.{Broken, Frame, InBranch, InLoop, Signal, run, unwind, after_branch, after_fresh_body, after_older_body, after_frame}
use Rattle.sync_thread.specs.Code.{CodeList, code_language, code_statements, Memory}
use Rattle.sync_thread.specs.Views.{code_list_tree}
use Rattle.sync_thread_places.specs.declared.standings.Hop.{Hop}
use Rattle.sync_thread_places.specs.declared.standings.Standing.{Standing}
use Rattle.sync_thread_places.specs.declared.standings.Outcome.{Outcome}
use Rattle.sync_thread_places.specs.declared.standings.Outcome.TheVariants.{Waits, Next, Break, End, Over, Stuck}
use Rattle.sync_thread_places.specs.Places.{Enclosed, form_of, led_to, inside, through, form_at, place_in, paused, way_from, locals_in}
use Rattle.sync_thread_places.specs.Runs.{holding, at_place, told, gone_on, IsRun, IsRunInside, IsMarked, IsResumed, IsResumedInside, IsReturned, KeepsRoom, after_body}
use Rattle.sync_thread_places.proofs.Tables.{got}
use Rattle.sync_thread_places.proofs.Trees.{round, led_if, led_loop}
use Rattle.sync_thread_places.proofs.Passing.{branch_left, body_left, told_ends}

-- the frames round a list are left one after another
unwind_more : (ds : List CodeDecl) (t : ℕ) (fs : List (Frame code_language)) (f : Frame code_language) (o : Signal code_language)
    → unwind (code_statements ds t) (fs ++ f ∷ []) o ≡ after_frame (code_statements ds t) f (unwind (code_statements ds t) fs o)
unfolding unwind
unwind_more ds t [] f o = refl
unwind_more ds t (g ∷ fs) f o = unwind_more ds t fs f (after_frame (code_statements ds t) g o)

-- the last frame is that of the form through which the way goes
pub gone_on_branch : (ds : List CodeDecl) (t from : ℕ) (m : Memory) (rest : CodeList) (x : Option Enclosed)
    → gone_on ds t from m (round (InBranch None rest tt) x)
    ≡ after_branch (code_statements ds t) None rest tt (run (code_statements ds t) rest) (gone_on ds t from m x)
gone_on_branch ds t from m rest (Some e) =
    unwind_more ds t e.frames (InBranch None rest tt) (run (code_statements ds t) (code_list_tree (drop from e.list)) m)
gone_on_branch ds t from m rest None = refl

pub gone_on_loop : (ds : List CodeDecl) (t from : ℕ) (m : Memory) (body rest : CodeList) (x : Option Enclosed)
    → gone_on ds t from m (round (InLoop tt body (Some tt) rest tt) x)
    ≡ after_older_body (code_statements ds t) tt body (Some tt) rest tt (gone_on ds t from m x)
gone_on_loop ds t from m body rest (Some e) =
    unwind_more ds t e.frames (InLoop tt body (Some tt) rest tt) (run (code_statements ds t) (code_list_tree (drop from e.list)) m)
gone_on_loop ds t from m body rest None = refl

-- but for a `next`, a body that was begun before the step ends as one that was begun since
older : (ds : List CodeDecl) (t : ℕ) (body : List CodeStmt) (tree rest : CodeList) (outcome : Outcome) (depth : ℕ) (z : Standing) (m : Memory)
    → (outcome ≡ Next → ⊥)
    → after_older_body (code_statements ds t) tt tree (Some tt) rest tt (told body control.Over outcome depth z t m)
    ≡ after_fresh_body (code_statements ds t) tt tree (Some tt) rest tt (run (code_statements ds t) rest) (told body control.Over outcome depth z t m)
older ds t body tree rest Waits depth z m ends = waiting (place_in (way_from depth z) z.at body) where
  waiting : (w : Option (control.Paused code_language))
      → after_older_body (code_statements ds t) tt tree (Some tt) rest tt (at_place w (holding t (locals_in z.locals.items) m))
      ≡ after_fresh_body (code_statements ds t) tt tree (Some tt) rest tt (run (code_statements ds t) rest) (at_place w (holding t (locals_in z.locals.items) m))
  waiting (Some w) = refl
  waiting None = refl
older ds t body tree rest Next depth z m ends = absurd (ends refl)
older ds t body tree rest Break depth z m ends = refl
older ds t body tree rest End depth z m ends = refl
older ds t body tree rest Over depth z m ends = refl
older ds t body tree rest Stuck depth z m ends = refl

-- ---- at the end of the way

pub at_end : (list : List CodeStmt) (depth from : ℕ) (old new : Standing) (outcome : Outcome) → way_from depth old ≡ []
    → IsRun list from depth old new outcome → IsResumed list depth from old new outcome
unfolding unwind
at_end list depth from old new outcome none ran ds t m inside =
    ap (λ hs. gone_on ds t from (holding t (locals_in old.locals.items) m) (led_to hs list)) none ∙ ran ds t m inside

-- the way leads to a form that is not there
pub no_form : (list : List CodeStmt) (depth from : ℕ) (hop : Hop) (z : Standing) → way_from depth z ≡ hop ∷ way_from (depth + 1) z
    → length list ≤ hop.at → IsResumed list depth from z z Stuck
no_form list depth from hop z way past ds t m inside =
    ap (λ hs. gone_on ds t from (holding t (locals_in z.locals.items) m) (led_to hs list)) way
    ∙ ap (λ o. gone_on ds t from (holding t (locals_in z.locals.items) m) (through (led_to (way_from (depth + 1) z)) (form_at list hop o)))
    (slice_get_past list hop.at past)

-- a statement that is no form
pub other_form : (list : List CodeStmt) (depth from : ℕ) (hop : Hop) (z : Standing) (s : CodeStmt) → way_from depth z ≡ hop ∷ way_from (depth + 1) z
    → hop.at < length list → s ≡ get_or list hop.at s → form_at list hop (Some s) ≡ None → IsReturned list hop.at depth from z z Stuck
other_form list depth from hop z s way within is none ds t m inside =
    ap (λ hs. gone_on ds t from (holding t (locals_in z.locals.items) m) (led_to hs list)) way
    ∙ ap (λ o. gone_on ds t from (holding t (locals_in z.locals.items) m) (through (led_to (way_from (depth + 1) z)) o))
    (ap (form_at list hop) (got list hop.at s within is) ∙ none)

-- ---- out of forms

pub if_returned : (list : List CodeStmt) (depth from : ℕ) (hop : Hop) (s : CodeStmt) (c : Cond) (p q inner : List CodeStmt) (old new : Standing)
    (outcome : Outcome)
    → way_from depth old ≡ hop ∷ way_from (depth + 1) old → hop.at < length list → s ≡ get_or list hop.at s → s ≡ made.If c p q
    → (if hop.second then q else p) ≡ inner
    → IsResumedInside inner hop depth from old new outcome
    → IsReturned list hop.at depth from old new outcome
if_returned list depth from hop s c p q inner old new outcome way within is same chosen (between, resumed, marked) ds t m inside =
    let mm = holding t (locals_in old.locals.items) m in
    let rest = code_list_tree (drop (suc hop.at) list) in
    let led : (hs : List Hop) → led_to (hop ∷ hs) list ≡ round (InBranch None rest tt) (led_to hs inner) =
    λ hs. led_if list hop hs s c p q (got list hop.at s within is) same ∙ ap (λ l. round (InBranch None rest tt) (led_to hs l)) chosen in
    ap (λ hs. gone_on ds t from mm (led_to hs list)) way
    ∙ ap (gone_on ds t from mm) (led (way_from (depth + 1) old))
    ∙ gone_on_branch ds t from mm rest (led_to (way_from (depth + 1) old) inner)
    ∙ ap (after_branch (code_statements ds t) None rest tt (run (code_statements ds t) rest)) (resumed ds t m inside)
    ∙ branch_left ds t m list inner hop depth between new outcome led marked

pub loop_returned : (list : List CodeStmt) (depth from : ℕ) (hop : Hop) (s : CodeStmt) (body : List CodeStmt) (old new : Standing)
    (outcome : Outcome)
    → way_from depth old ≡ hop ∷ way_from (depth + 1) old → hop.at < length list → s ≡ get_or list hop.at s → s ≡ made.Loop body
    → (outcome ≡ Next → ⊥)
    → IsResumedInside body hop depth from old new outcome
    → IsReturned list hop.at depth from old new (after_body outcome)
loop_returned list depth from hop s body old new outcome way within is same ends (between, resumed, marked) ds t m inside =
    let mm = holding t (locals_in old.locals.items) m in
    let rest = code_list_tree (drop (suc hop.at) list) in
    let tree = code_list_tree body in
    let led : (hs : List Hop) → led_to (hop ∷ hs) list ≡ round (InLoop tt tree (Some tt) rest tt) (led_to hs body) =
    λ hs. led_loop list hop hs s body (got list hop.at s within is) same in
    ap (λ hs. gone_on ds t from mm (led_to hs list)) way
    ∙ ap (gone_on ds t from mm) (led (way_from (depth + 1) old))
    ∙ gone_on_loop ds t from mm tree rest (led_to (way_from (depth + 1) old) body)
    ∙ ap (after_older_body (code_statements ds t) tt tree (Some tt) rest tt) (resumed ds t m inside)
    ∙ older ds t body tree rest outcome (depth + 1) between m ends
    ∙ body_left ds t m list body hop depth between new outcome led marked

-- a further turn
pub turn_returned : (list : List CodeStmt) (depth from : ℕ) (hop : Hop) (s : CodeStmt) (body : List CodeStmt) (old middle new : Standing)
    (outcome : Outcome)
    → way_from depth old ≡ hop ∷ way_from (depth + 1) old → hop.at < length list → s ≡ get_or list hop.at s → s ≡ made.Loop body
    → IsResumedInside body hop depth from old middle Next → IsRunInside body hop depth middle new outcome
    → IsReturned list hop.at depth from old new (after_body outcome)
turn_returned list depth from hop s body old middle new outcome way within is same (between, resumed, marked) (after, ran, remarked) ds t m inside =
    let mm = holding t (locals_in old.locals.items) m in
    let rest = code_list_tree (drop (suc hop.at) list) in
    let tree = code_list_tree body in
    let led : (hs : List Hop) → led_to (hop ∷ hs) list ≡ round (InLoop tt tree (Some tt) rest tt) (led_to hs body) =
    λ hs. led_loop list hop hs s body (got list hop.at s within is) same in
    ap (λ hs. gone_on ds t from mm (led_to hs list)) way
    ∙ ap (gone_on ds t from mm) (led (way_from (depth + 1) old))
    ∙ gone_on_loop ds t from mm tree rest (led_to (way_from (depth + 1) old) body)
    ∙ ap (after_older_body (code_statements ds t) tt tree (Some tt) rest tt) (resumed ds t m inside)
    ∙ ap (λ ns. after_fresh_body (code_statements ds t) tt tree (Some tt) rest tt (run (code_statements ds t) rest)
    (run (code_statements ds t) tree (holding t (locals_in ns) m))) (sym marked.locals)
    ∙ ap (after_fresh_body (code_statements ds t) tt tree (Some tt) rest tt (run (code_statements ds t) rest)) (ran ds t m inside)
    ∙ body_left ds t m list body hop depth after new outcome led remarked

-- behind the form
pub on_behind : (list : List CodeStmt) (at depth from : ℕ) (old between new : Standing) (outcome : Outcome)
    → IsReturned list at depth from old between Over → IsRun list (at + 1) depth between new outcome
    → IsResumed list depth from old new outcome
on_behind list at depth from old between new outcome returned ran ds t m inside =
    returned ds t m inside
    ∙ ap (λ n. run (code_statements ds t) (code_list_tree (drop n list)) (holding t (locals_in between.locals.items) m)) (sym (add-one at))
    ∙ ran ds t m inside

pub ends_inside : (list : List CodeStmt) (at depth from : ℕ) (old new : Standing) (outcome : Outcome) → (outcome ≡ Over → ⊥)
    → IsReturned list at depth from old new outcome → IsResumed list depth from old new outcome
ends_inside list at depth from old new outcome ends returned ds t m inside =
    returned ds t m inside ∙ told_ends list outcome depth new t m _ ends

-- a statement that is no form has no list inside
pub no_list : (s : CodeStmt) (rest : List CodeStmt) (second : Bool)
    → ((x : ℕ) × (c : Calc) × (s ≡ made.Set x c))
    ⊎ (((x : ℕ) × (c : ℕ) × (i : Opd) × (s ≡ made.Read x c i))
    ⊎ (((c : ℕ) × (i : Opd) × (o : Opd) × (s ≡ made.Write c i o))
    ⊎ (((x : ℕ) × (c : ℕ) × (i : Opd) × (s ≡ made.Peek x c i))
    ⊎ (((x : Option ℕ) × (op : WordOp) × (w : ℕ) × (i : Opd) × (s ≡ made.Word x op w i))
    ⊎ (((l : ℕ) × (o : Opd) × (s ≡ made.Print l o))
    ⊎ ((s ≡ made.Next) ⊎ ((s ≡ made.Break) ⊎ (s ≡ made.End))))))))
    → form_of rest second (out-CodeStmt s) ≡ None
no_list s rest second (inl (x, c, e)) = ap (form_of rest second) (ap out-CodeStmt (e ∙ sym (rolls-Set x c)) ∙ out-roll-CodeStmt (CodeStmt-F.Set x c))
no_list s rest second (inr (inl (x, c, i, e))) = ap (form_of rest second) (ap out-CodeStmt (e ∙ sym (rolls-Read x c i)) ∙ out-roll-CodeStmt (CodeStmt-F.Read x c i))
no_list s rest second (inr (inr (inl (c, i, o, e)))) = ap (form_of rest second) (ap out-CodeStmt (e ∙ sym (rolls-Write c i o)) ∙ out-roll-CodeStmt (CodeStmt-F.Write c i o))
no_list s rest second (inr (inr (inr (inl (x, c, i, e))))) = ap (form_of rest second) (ap out-CodeStmt (e ∙ sym (rolls-Peek x c i)) ∙ out-roll-CodeStmt (CodeStmt-F.Peek x c i))
no_list s rest second (inr (inr (inr (inr (inl (x, op, w, i, e)))))) = ap (form_of rest second) (ap out-CodeStmt (e ∙ sym (rolls-Word x op w i)) ∙ out-roll-CodeStmt (CodeStmt-F.Word x op w i))
no_list s rest second (inr (inr (inr (inr (inr (inl (l, o, e))))))) = ap (form_of rest second) (ap out-CodeStmt (e ∙ sym (rolls-Print l o)) ∙ out-roll-CodeStmt (CodeStmt-F.Print l o))
no_list s rest second (inr (inr (inr (inr (inr (inr (inl e))))))) = ap (form_of rest second) (ap out-CodeStmt (e ∙ sym rolls-Next) ∙ out-roll-CodeStmt CodeStmt-F.Next)
no_list s rest second (inr (inr (inr (inr (inr (inr (inr (inl e)))))))) = ap (form_of rest second) (ap out-CodeStmt (e ∙ sym rolls-Break) ∙ out-roll-CodeStmt CodeStmt-F.Break)
no_list s rest second (inr (inr (inr (inr (inr (inr (inr (inr e)))))))) = ap (form_of rest second) (ap out-CodeStmt (e ∙ sym rolls-End) ∙ out-roll-CodeStmt CodeStmt-F.End)

-- ---- forms of a list, one by one

pub loop_left : (list : List CodeStmt) (depth from : ℕ) (hop : Hop) (s : CodeStmt) (body inner : List CodeStmt) (old new : Standing)
    (outcome result : Outcome)
    → way_from depth old ≡ hop ∷ way_from (depth + 1) old → hop.at < length list → s ≡ get_or list hop.at s → s ≡ made.Loop body
    → inner ≡ body → (outcome ≡ Next → ⊥) → result ≡ after_body outcome
    → IsResumedInside inner hop depth from old new outcome
    → IsReturned list hop.at depth from old new result
loop_left list depth from hop s body inner old new outcome result way within is same chosen ends so resumed =
    subst (λ o. IsReturned list hop.at depth from old new o) (sym so)
    (loop_returned list depth from hop s body old new outcome way within is same ends
    (subst (λ l. IsResumedInside l hop depth from old new outcome) chosen resumed))

pub turn_left : (list : List CodeStmt) (depth from : ℕ) (hop : Hop) (s : CodeStmt) (body inner further : List CodeStmt) (old middle new : Standing)
    (outcome result : Outcome)
    → way_from depth old ≡ hop ∷ way_from (depth + 1) old → hop.at < length list → s ≡ get_or list hop.at s → s ≡ made.Loop body
    → inner ≡ body → further ≡ body → result ≡ after_body outcome
    → IsResumedInside inner hop depth from old middle Next → IsRunInside further hop depth middle new outcome
    → IsReturned list hop.at depth from old new result
turn_left list depth from hop s body inner further old middle new outcome result way within is same chosen again so resumed ran =
    subst (λ o. IsReturned list hop.at depth from old new o) (sym so)
    (turn_returned list depth from hop s body old middle new outcome way within is same
    (subst (λ l. IsResumedInside l hop depth from old middle Next) chosen resumed)
    (subst (λ l. IsRunInside l hop depth middle new outcome) again ran))

waits_inside : (o : Outcome) → after_body o ≡ Waits → o ≡ Waits
waits_inside Waits e = refl
waits_inside Next e = absurd cc
waits_inside Break e = absurd cc
waits_inside End e = absurd cc
waits_inside Over e = absurd cc
waits_inside Stuck e = absurd cc

pub body_keeps : (depth : ℕ) (old new : Standing) (outcome result : Outcome) → result ≡ after_body outcome → KeepsRoom depth old new outcome
    → KeepsRoom depth old new result
body_keeps depth old new outcome result so keeps =
    record { hops = keeps.hops; locals = keeps.locals; deep = λ w. keeps.deep (waits_inside outcome (sym so ∙ w)) }
