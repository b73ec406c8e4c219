-- How lists begin, one after another, and the final block after them.
use Rattle.std.proofs.Common.{◌≡◌, ℕ, zero, suc, ◌+◌, ◌<◌, ◌≤◌, true, false, if◌then◌else◌, List, [], ◌∷◌, length, map, drop, get_or, slice_get, slice_set, Some, None, option_map, Result, Ok, Err, MatchResult, OnOk, refl, sym, ap, ◌∙◌, subst, arith}
use Rattle.std.proofs.Math.ListN.{drop_of_length-le}
use Rattle.sync_base.specs.Outcome.{◌>>=◌}
use Rattle.sync_thread.specs.declared.program.Code.{Code}
use Rattle.sync_thread.specs.declared.program.CodeStmt.{CodeStmt}
use Rattle.sync_thread.specs.declared.program.CodeThread.{CodeThread}
use Rattle.sync_thread.specs.Control.{Halt, Broken, final_begins, hand_over, have_ended, lead, paused_at, run}
use Rattle.sync_thread.specs.Code.{CodeList, CodeTree, code_language, code_meaning, code_statements, ErasedConfig}
use Rattle.sync_thread.specs.Code as code
use Rattle.sync_thread.specs.Views.{code_tree, code_list_tree, code_thread_tree}
use Rattle.sync_thread_places.specs.declared.standings.Standing.{Standing}
use Rattle.sync_thread_places.specs.Runs.{HasRoom}
use Rattle.sync_thread_events.specs.declared.endings.Halted.{Halted}
use Rattle.sync_thread_events.specs.declared.endings.Halted.TheVariants.{Stuck, Memory}
use Rattle.sync_thread_events.specs.declared.moments.Moment.{Moment}
use Rattle.sync_thread_events.specs.declared.stores.Store.{Store}
use Rattle.sync_thread_events.specs.declared.steps.Spans.{Spans}
use Rattle.sync_thread_events.specs.Steps.{AreNarrow}
use Rattle.sync_thread_events.specs.Moves.{AreSpansOf, Halts, IsBegun, IsThere, KeepsTables}
use Rattle.sync_thread_events.specs.Moments.{begun_at, begun_in, config_in, IsMomentOf, IsReady, last_list, lists_of, Pairwise}
use Rattle.sync_thread_events.proofs.Tables.{some_same, got_within, pair_got, pair_long, pair_set}
use Rattle.sync_thread_places.proofs.Tables.{got}
use Rattle.sync_thread_events.proofs.Configs.{begins_on, begins_off, bodies_long, list_of_last, list_of_thread}

-- ---- answers

-- an answer of something that is the same
pub goes_along : {A : Type 0} (r : Result A Halted) (a b : Result ErasedConfig Halt) (d : ErasedConfig) → a ≡ b
    → MatchResult r (λ _. b ≡ Ok d) (Halts (b ≡ Err Broken)) → MatchResult r (λ _. a ≡ Ok d) (Halts (a ≡ Err Broken))
goes_along (Ok u) a b d same goes = same ∙ goes
goes_along (Err Stuck) a b d same goes = same ∙ goes
goes_along (Err Memory) a b d same goes = tt

pub halts_along : (P Q : Type 0) (h : Halted) → (P → Q) → Halts P h → Halts Q h
halts_along P Q Stuck on is = on is
halts_along P Q Memory on is = tt

-- ---- one list begins

pub same_room : (list : List CodeStmt) (old new : Standing) → KeepsTables old new → HasRoom list 0 old → HasRoom list 0 new
same_room list old new keeps (hops, locals) = (omega (arith, keeps.hops, hops), omega (arith, keeps.locals, locals))

pub stays_so : (x : Code) (m n : Moment) (t : ℕ) (list : List CodeStmt) (s new : Standing) → IsMomentOf x m → n.spans ≡ m.spans
    → n.standings.items ≡ slice_set m.standings.items t new → slice_get (lists_of x) t ≡ Some list → slice_get m.standings.items t ≡ Some s
    → KeepsTables s new → IsThere list new → IsMomentOf x n
stays_so x m n t list s new is spans standings at stands keeps there =
    let ready : IsReady list s = pair_got IsReady (lists_of x) m.standings.items t list s is.ready at stands in
    let now : IsReady list new = record { room = same_room list s new keeps ready.room; there = there } in
    record {
      spans = subst (λ p. AreSpansOf p x.decls) (sym spans) is.spans;
      narrow_words = subst (λ (p : Spans). AreNarrow p.words.items) (sym spans) is.narrow_words;
      narrow_cells = subst (λ (p : Spans). AreNarrow p.cells.items) (sym spans) is.narrow_cells;
      ready = subst (Pairwise IsReady (lists_of x)) (sym standings)
          (pair_set IsReady (lists_of x) m.standings.items t list new is.ready at now);
    }

pub stays_if : {A : Type 0} (r : Result A Halted) (x : Code) (m n : Moment) (t : ℕ) (list : List CodeStmt) (s new : Standing) → IsMomentOf x m
    → n.spans ≡ m.spans → n.standings.items ≡ slice_set m.standings.items t new → slice_get (lists_of x) t ≡ Some list
    → slice_get m.standings.items t ≡ Some s → KeepsTables s new → OnOk r (IsThere list new) → OnOk r (IsMomentOf x n)
stays_if (Ok u) x m n t list s new is spans standings at stands keeps there = stays_so x m n t list s new is spans standings at stands keeps there
stays_if (Err h) x m n t list s new is spans standings at stands keeps there = tt

pub begins_either : {A : Type 0} (r : Result A Halted) (x : Code) (t : ℕ) (ss : List Standing) (list : List CodeStmt) (s new : Standing) (store : Store)
    → slice_get (lists_of x) t ≡ Some list → slice_get ss t ≡ Some s
    → MatchResult r (λ _. IsBegun true list s new) (Halts (IsBegun false list s new))
    → MatchResult r (λ _. begun_at x t (config_in (lists_of x) store ss) ≡ Ok (config_in (lists_of x) store (slice_set ss t new)))
    (Halts (begun_at x t (config_in (lists_of x) store ss) ≡ Err Broken))
begins_either (Ok u) x t ss list s new store at stands begun = begins_on x t ss list s new store at stands begun
begins_either (Err Stuck) x t ss list s new store at stands begun = begins_off x t ss list s new store at stands begun
begins_either (Err Memory) x t ss list s new store at stands begun = tt

-- ---- all lists begin

thread_there : (ts : List CodeThread) (t : ℕ) → t < length ts → (thread : CodeThread) × (slice_get ts t ≡ Some thread)
thread_there [] t within = absurd (omega arith)
thread_there (s ∷ ts) zero within = (s, refl)
thread_there (s ∷ ts) (suc t) within = thread_there ts t (omega (arith, within))

drop_body : (ts : List CodeThread) (t : ℕ) (thread : CodeThread) → slice_get ts t ≡ Some thread
    → drop t (map (λ (s : code.CodeThread). s.body) (map code_thread_tree ts))
    ≡ code_list_tree thread.body ∷ drop (suc t) (map (λ (s : code.CodeThread). s.body) (map code_thread_tree ts))
drop_body [] t thread e = absurd cc
drop_body (s ∷ ts) zero thread e =
    ap (λ (z : CodeThread). code_list_tree z.body ∷ map (λ (s : code.CodeThread). s.body) (map code_thread_tree ts)) (some_same s thread e)
drop_body (s ∷ ts) (suc t) thread e = drop_body ts t thread e

pub lead_more : (x : Code) (t : ℕ) (c : ErasedConfig) → t < length x.threads
    → lead (code_meaning (code_tree x)) t (drop t (code_meaning (code_tree x)).bodies) c
    ≡ (begun_at x t c >>= lead (code_meaning (code_tree x)) (t + 1) (drop (t + 1) (code_meaning (code_tree x)).bodies))
lead_more x t c within =
    let (thread, at) = thread_there x.threads t within in
    let p = code_meaning (code_tree x) in
    ap (λ bs. lead p t bs c) (drop_body x.threads t thread at)
    ∙ ap (λ o. begun_in (code_tree x) t c o >>= lead p (suc t) (drop (suc t) p.bodies)) (sym (list_of_thread x t thread at))
    ∙ ap (λ n. begun_at x t c >>= lead p n (drop n p.bodies)) (let e : suc t ≡ t + 1 = omega arith in e)

pub lead_done : (x : Code) (t : ℕ) (c : ErasedConfig) → length x.threads ≤ t
    → lead (code_meaning (code_tree x)) t (drop t (code_meaning (code_tree x)).bodies) c ≡ Ok c
lead_done x t c past =
    let past_bodies : length (code_meaning (code_tree x)).bodies ≤ t = omega (arith, bodies_long x, past) in
    ap (λ bs. lead (code_meaning (code_tree x)) t bs c) (drop_of_length-le (code_meaning (code_tree x)).bodies past_bodies)

-- one more has begun
pub lead_on : (x : Code) (t : ℕ) (a c d : ErasedConfig) → t < length x.threads
    → lead (code_meaning (code_tree x)) 0 (code_meaning (code_tree x)).bodies a ≡ lead (code_meaning (code_tree x)) t (drop t (code_meaning (code_tree x)).bodies) c
    → begun_at x t c ≡ Ok d
    → lead (code_meaning (code_tree x)) 0 (code_meaning (code_tree x)).bodies a
    ≡ lead (code_meaning (code_tree x)) (t + 1) (drop (t + 1) (code_meaning (code_tree x)).bodies) d
lead_on x t a c d within so_far begun =
    so_far ∙ lead_more x t c within
    ∙ ap (λ r. r >>= lead (code_meaning (code_tree x)) (t + 1) (drop (t + 1) (code_meaning (code_tree x)).bodies)) begun

pub lead_stuck : (x : Code) (t : ℕ) (a c : ErasedConfig) (h : Halted) → t < length x.threads
    → lead (code_meaning (code_tree x)) 0 (code_meaning (code_tree x)).bodies a ≡ lead (code_meaning (code_tree x)) t (drop t (code_meaning (code_tree x)).bodies) c
    → Halts (begun_at x t c ≡ Err Broken) h
    → Halts (lead (code_meaning (code_tree x)) 0 (code_meaning (code_tree x)).bodies a ≡ Err Broken) h
lead_stuck x t a c h within so_far stops =
    halts_along (begun_at x t c ≡ Err Broken) (lead (code_meaning (code_tree x)) 0 (code_meaning (code_tree x)).bodies a ≡ Err Broken) h
    (λ e. so_far ∙ lead_more x t c within
    ∙ ap (λ r. r >>= lead (code_meaning (code_tree x)) (t + 1) (drop (t + 1) (code_meaning (code_tree x)).bodies)) e) stops

-- ---- the final block

pub over_not : (x : Code) (c : ErasedConfig) → have_ended c.places ≡ false → hand_over (code_meaning (code_tree x)) c ≡ Ok c
over_not x c still =
    ap (λ b. if b then final_begins (code_meaning (code_tree x)) c.places c.state (code_meaning (code_tree x)).last else Ok c) still

pub over_none : (x : Code) (c : ErasedConfig) → have_ended c.places ≡ true → x.last ≡ None → hand_over (code_meaning (code_tree x)) c ≡ Ok c
over_none x c all none =
    ap (λ b. if b then final_begins (code_meaning (code_tree x)) c.places c.state (code_meaning (code_tree x)).last else Ok c) all
    ∙ ap (λ o. final_begins (code_meaning (code_tree x)) c.places c.state (option_map code_list_tree o)) none

pub over_some : (x : Code) (c : ErasedConfig) (list : List CodeStmt) → have_ended c.places ≡ true → x.last ≡ Some list
    → hand_over (code_meaning (code_tree x)) c ≡ begun_at x (length x.threads) c
over_some x c list all some =
    ap (λ b. if b then final_begins (code_meaning (code_tree x)) c.places c.state (code_meaning (code_tree x)).last else Ok c) all
    ∙ ap (λ o. final_begins (code_meaning (code_tree x)) c.places c.state (option_map code_list_tree o)) some
    ∙ ap (λ n. paused_at (code_meaning (code_tree x)) n c.places (run (code_statements x.decls n) (code_list_tree list) c.state)) (bodies_long x)
    ∙ ap (begun_in (code_tree x) (length x.threads) c) (sym (list_of_last x ∙ ap (λ o. Some (last_list o)) some))

-- ---- what stands at a number

pub within_standings : (x : Code) (m : Moment) (t : ℕ) (list : List CodeStmt) → IsMomentOf x m → slice_get (lists_of x) t ≡ Some list
    → t < length m.standings.items
within_standings x m t list is at =
    omega (arith, pair_long IsReady (lists_of x) m.standings.items is.ready, got_within (lists_of x) t list at)

pub stands_as : (x : Code) (m : Moment) (t : ℕ) (list : List CodeStmt) (s : Standing) → IsMomentOf x m → slice_get (lists_of x) t ≡ Some list
    → s ≡ get_or m.standings.items t s → slice_get m.standings.items t ≡ Some s
stands_as x m t list s is at value = got m.standings.items t s (within_standings x m t list is at) value

pub ready_as : (x : Code) (m : Moment) (t : ℕ) (list : List CodeStmt) (s : Standing) → IsMomentOf x m → slice_get (lists_of x) t ≡ Some list
    → s ≡ get_or m.standings.items t s → IsReady list s
ready_as x m t list s is at value =
    pair_got IsReady (lists_of x) m.standings.items t list s is.ready at (stands_as x m t list s is at value)
