-- Before anybody has begun.
use Rattle.std.proofs.Common.{◌≡◌, ℕ, suc, ◌+◌, ◌≤◌, true, false, if◌then◌else◌, List, [], ◌∷◌, ◌++◌, length, map, take, replicate, slice_get, Option, Some, None, Result, Ok, Err, refl, sym, ap, ◌∙◌, subst, arith}
use Rattle.std.proofs.lemmas.List.{take_all, take_more}
use Rattle.std.proofs.lemmas.Option.{get_or_from_slice_get}
use Rattle.sync_base.specs.Outcome.{◌>>=◌}
use Rattle.sync_thread.specs.declared.operands.Line.{Line}
use Rattle.sync_thread.specs.declared.program.Code.{Code}
use Rattle.sync_thread.specs.declared.program.CodeStmt.{CodeStmt}
use Rattle.sync_thread.specs.declared.program.CodeThread.{CodeThread}
use Rattle.sync_thread.specs.Control.{Halt, Broken, Paused, hand_over, lead, nowhere, running}
use Rattle.sync_thread.specs.Code.{CodeTree, code_language, code_meaning, erased_start, ErasedConfig, first_memory, Memory}
use Rattle.sync_thread.specs.Code as code
use Rattle.sync_thread.specs.Arrays.{first_words, first_cells}
use Rattle.sync_thread.specs.Views.{code_tree, code_thread_tree}
use Rattle.sync_thread_places.specs.declared.standings.Standing.{Standing}
use Rattle.sync_thread_places.specs.Places.{place_of, place_in, locals_in, way_from}
use Rattle.sync_thread_events.specs.declared.endings.Halted.{Halted}
use Rattle.sync_thread_events.specs.declared.layout.Laid.{Laid}
use Rattle.sync_thread_events.specs.declared.moments.Moment.{Moment}
use Rattle.sync_thread_events.specs.declared.stores.Store.{Store}
use Rattle.sync_thread_events.specs.Layout.{IsLaid}
use Rattle.sync_thread_events.specs.declared.steps.Spans.{Spans}
use Rattle.sync_thread_events.specs.Steps.{AreNarrow}
use Rattle.sync_thread_events.specs.Moves.{AreSpansOf, Halts}
use Rattle.sync_thread_events.specs.Moments.{config_in, config_of, IsFresh, IsMomentOf, IsReady, last_list, lists_of, Pairwise, places_of}
use Rattle.sync_thread_events.proofs.Tables.{got_within, pair_weaker}
use Rattle.sync_thread_events.proofs.Configs.{lists_long}
use Rattle.sync_thread_events.proofs.Leading.{halts_along}

-- ---- standings that have not begun

fresh_ready : (list : List CodeStmt) (s : Standing) → IsFresh list s → IsReady list s
fresh_ready list s fresh = record {
  room = fresh.room;
  there = λ waits. absurd (let no : false ≡ true = sym fresh.rests ∙ waits in cc);
}

pair_push : (P : List CodeStmt → Standing → Type 0) (lists : List (List CodeStmt)) (ss : List Standing) (l : List CodeStmt) (s : Standing)
    → Pairwise P lists ss → P l s → Pairwise P (lists ++ l ∷ []) (ss ++ s ∷ [])
pair_push P [] [] l s all more = (more, tt)
pair_push P [] (z ∷ zs) l s all more = absurd all
pair_push P (k ∷ ks) [] l s all more = absurd all
pair_push P (k ∷ ks) (z ∷ zs) l s (first, all) more = (first, pair_push P ks zs l s all more)

pub fresh_more : (lists : List (List CodeStmt)) (ss new : List Standing) (n : ℕ) (list : List CodeStmt) (s : Standing)
    → Pairwise IsFresh (take n lists) ss → slice_get lists n ≡ Some list → IsFresh list s → new ≡ ss ++ s ∷ []
    → Pairwise IsFresh (take (n + 1) lists) new
fresh_more lists ss new n list s all there fresh is =
    subst (Pairwise IsFresh (take (n + 1) lists)) (sym is)
    (subst (λ ls. Pairwise IsFresh ls (ss ++ s ∷ []))
    (sym (take_more lists n list (got_within lists n list there)
    ∙ ap (λ l. take n lists ++ l ∷ []) (get_or_from_slice_get lists n list list there)))
    (pair_push IsFresh (take n lists) ss list s all fresh))

pub all_taken : (x : Code) (ss : List Standing) (n : ℕ) → length x.threads + 1 ≤ n → Pairwise IsFresh (take n (lists_of x)) ss
    → Pairwise IsFresh (lists_of x) ss
all_taken x ss n past all =
    let past_lists : length (lists_of x) ≤ n = omega (arith, lists_long x, past) in
    subst (λ ls. Pairwise IsFresh ls ss) (take_all n (lists_of x) past_lists) all

-- ---- the first place

abbrev zeros : ℕ → List (ℕ → ℕ)
zeros n = replicate n (λ x. 0)

zero_locals : (lists : List (List CodeStmt)) (ss : List Standing) → Pairwise IsFresh lists ss
    → map (λ (s : Standing). locals_in s.locals.items) ss ≡ zeros (length lists)
zero_locals [] [] all = refl
zero_locals [] (z ∷ zs) all = absurd all
zero_locals (l ∷ ls) [] all = absurd all
zero_locals (l ∷ ls) (z ∷ zs) (first, all) =
    let none : ℕ → ℕ = λ x. 0 in
    let same : ◌≡◌ {A = ℕ → ℕ} (locals_in z.locals.items) none = λ i x. first.zero x i in
    ap (λ (f : ℕ → ℕ). f ∷ map (λ (s : Standing). locals_in s.locals.items) zs) same
    ∙ ap (λ (fs : List (ℕ → ℕ)). none ∷ fs) (zero_locals ls zs all)

waits_not : (list : List CodeStmt) (s : Standing) → IsFresh list s → place_of list s ≡ None
waits_not list s fresh = ap (λ b. if b then place_in (way_from 0 s) s.at list else None) fresh.rests

all_nowhere : (ts : List CodeThread) (last : List CodeStmt) (ss : List Standing)
    → Pairwise IsFresh (map (λ (t : CodeThread). t.body) ts ++ last ∷ []) ss
    → places_of (map (λ (t : CodeThread). t.body) ts ++ last ∷ []) ss ≡ nowhere (map (λ (t : code.CodeThread). t.body) (map code_thread_tree ts))
all_nowhere [] last [] all = absurd all
all_nowhere [] last (z ∷ []) (first, all) = ap (λ p. p ∷ []) (waits_not last z first)
all_nowhere [] last (z ∷ y ∷ ys) (first, all) = absurd all
all_nowhere (t ∷ ts) last [] all = absurd all
all_nowhere (t ∷ ts) last (z ∷ zs) (first, all) =
    ap (λ p. p ∷ places_of (map (λ (s : CodeThread). s.body) ts ++ last ∷ []) zs) (waits_not t.body z first)
    ∙ ap (λ ps. None ∷ ps) (all_nowhere ts last zs all)

tree_long : (x : Code) → length (lists_of x) ≡ suc (length (code_tree x).threads)
tree_long x = lists_long x ∙ ap suc (by x.threads) where
  by : (ts : List CodeThread) → length ts ≡ length (map code_thread_tree ts)
  by [] = refl
  by (t ∷ ts) = ap suc (by ts)

abbrev memory : List ℕ → List ℕ → List Line → List (ℕ → ℕ) → Memory
memory ws cs ls fs = record { words = ws; cells = cs; lines = ls; locals = fs }

abbrev at : Memory → List (Option (Paused code_language)) → ErasedConfig
at m ps = record { state = m; places = ps }

pub first_config : (x : Code) (store : Store) (ss : List Standing) → Pairwise IsFresh (lists_of x) ss
    → store.words.items ≡ first_words x.decls → store.cells.items ≡ first_cells x.decls → store.lines.items ≡ []
    → config_in (lists_of x) store ss
    ≡ running {g = code_language} (first_memory x.decls (length (code_tree x).threads)) (nowhere (code_meaning (code_tree x)).bodies)
first_config x store ss all words cells lines =
    let locals : List (ℕ → ℕ) = map (λ (s : Standing). locals_in s.locals.items) ss in
    let places : List (Option (Paused code_language)) = places_of (lists_of x) ss in
    ap (λ ws. at (memory ws store.cells.items store.lines.items locals) places) words
    ∙ ap (λ cs. at (memory (first_words x.decls) cs store.lines.items locals) places) cells
    ∙ ap (λ ls. at (memory (first_words x.decls) (first_cells x.decls) ls locals) places) lines
    ∙ ap (λ fs. at (memory (first_words x.decls) (first_cells x.decls) [] fs) places)
    (zero_locals (lists_of x) ss all ∙ ap zeros (tree_long x))
    ∙ ap (at (first_memory x.decls (length (code_tree x).threads))) (all_nowhere x.threads (last_list x.last) ss all)

pub first_moment : (x : Code) (laid : Laid) (m : Moment) → IsLaid x.decls laid → m.spans ≡ laid.spans
    → Pairwise IsFresh (lists_of x) m.standings.items → IsMomentOf x m
first_moment x laid m is spans all = record {
  spans = subst (λ p. AreSpansOf p x.decls) (sym spans) is.spans;
  narrow_words = subst (λ (p : Spans). AreNarrow p.words.items) (sym spans) is.narrow_words;
  narrow_cells = subst (λ (p : Spans). AreNarrow p.cells.items) (sym spans) is.narrow_cells;
  ready = pair_weaker IsFresh IsReady fresh_ready (lists_of x) m.standings.items all;
}

pub first_as : (x : Code) (laid : Laid) (m : Moment) → IsLaid x.decls laid → m.store.words.items ≡ laid.words.items
    → m.store.cells.items ≡ laid.cells.items → m.store.lines.items ≡ [] → Pairwise IsFresh (lists_of x) m.standings.items
    → config_of x m ≡ running {g = code_language} (first_memory x.decls (length (code_tree x).threads)) (nowhere (code_meaning (code_tree x)).bodies)
first_as x laid m is words cells lines all =
    first_config x m.store m.standings.items all (words ∙ is.words) (cells ∙ is.cells) lines

-- ---- from there on

pub started : (x : Code) (a c : ErasedConfig) (r : Result ErasedConfig Halt)
    → a ≡ running {g = code_language} (first_memory x.decls (length (code_tree x).threads)) (nowhere (code_meaning (code_tree x)).bodies)
    → lead (code_meaning (code_tree x)) 0 (code_meaning (code_tree x)).bodies a ≡ Ok c
    → hand_over (code_meaning (code_tree x)) c ≡ r → erased_start (code_tree x) ≡ r
started x a c r is led over =
    let p = code_meaning (code_tree x) in
    ap (λ b. lead p 0 p.bodies b >>= hand_over p) (sym is) ∙ ap (λ q. q >>= hand_over p) led ∙ over

pub not_led : (x : Code) (a : ErasedConfig) (h : Halted)
    → a ≡ running {g = code_language} (first_memory x.decls (length (code_tree x).threads)) (nowhere (code_meaning (code_tree x)).bodies)
    → Halts (lead (code_meaning (code_tree x)) 0 (code_meaning (code_tree x)).bodies a ≡ Err Broken) h
    → Halts (erased_start (code_tree x) ≡ Err Broken) h
not_led x a h is =
    let p = code_meaning (code_tree x) in
    halts_along (lead p 0 p.bodies a ≡ Err Broken) (erased_start (code_tree x) ≡ Err Broken) h
    (λ stops. ap (λ b. lead p 0 p.bodies b >>= hand_over p) (sym is) ∙ ap (λ q. q >>= hand_over p) stops)

pub not_handed : (x : Code) (a c : ErasedConfig) (h : Halted)
    → a ≡ running {g = code_language} (first_memory x.decls (length (code_tree x).threads)) (nowhere (code_meaning (code_tree x)).bodies)
    → lead (code_meaning (code_tree x)) 0 (code_meaning (code_tree x)).bodies a ≡ Ok c
    → Halts (hand_over (code_meaning (code_tree x)) c ≡ Err Broken) h → Halts (erased_start (code_tree x) ≡ Err Broken) h
not_handed x a c h is led =
    halts_along (hand_over (code_meaning (code_tree x)) c ≡ Err Broken) (erased_start (code_tree x) ≡ Err Broken) h
    (started x a c (Err Broken) is led)
