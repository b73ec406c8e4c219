-- A schedule with one event more; and when the final block waits.
use Rattle.std.proofs.Common.{◌≡◌, ◌≢◌, ◌⊎◌, inl, inr, ℕ, zero, suc, ◌+◌, ◌<◌, ◌≤◌, Bool, true, false, if◌then◌else◌, nat_eq, nat_lt, List, [], ◌∷◌, ◌++◌, length, map, slice_get, Option, Some, None, Result, Ok, Err, refl, sym, ap, ◌∙◌, subst, arith}
use Rattle.std.proofs.lemmas.Bool.{lt-ltb, le-ltb}
use Rattle.std.proofs.lemmas.Bool.Decides.{eqb_tells}
use Rattle.sync_base.specs.Outcome.{◌>>=◌}
use Rattle.sync_thread.specs.Control.{Halt, Language, Stms, Paused, ProgramMeaning, Running, running, paused_at, have_ended, hand_over, final_begins, event_at, event, events, is_waiting, lead, nowhere, run, start_from, step, unwind, waits_at}
use Rattle.sync_thread.specs.Code.{CodeThread, CodeTree, code_meaning, ErasedConfig, erased_after, erased_start, first_memory}
use Rattle.sync_thread_events.specs.Calls.{FinalBlockWaitsLast}
use Rattle.sync_thread_events.proofs.Tables.{ok_same}
use Rattle.sync_thread_events.proofs.Others.{over_stays, paused_stays, Stays}

-- ---- answers

IsOk : {A : Type 0} → Result A Halt → Type 0
IsOk (Ok a) = Unit {0}
IsOk (Err h) = ⊥

pub bound : {A B : Type 0} (r : Result A Halt) (f : A → Result B Halt) (d : B) → r >>= f ≡ Ok d
    → (b : A) × (r ≡ Ok b) × (f b ≡ Ok d)
unfolding IsOk
bound (Ok b) f d is = (b, refl, is)
bound (Err h) f d is = absurd (subst IsOk (sym is) tt)

pub events_more : {g : Language} (p : ProgramMeaning g) (sigma : List ℕ) (t : ℕ) (c d : Running g)
    (r : Result (Running g) Halt) → events p sigma c ≡ Ok d → event p t d ≡ r → events p (sigma ++ t ∷ []) c ≡ r
events_more {g = g} p [] t c d r is goes =
    subst (λ (b : Running g). event p t b >>= events p [] ≡ r) (sym (ok_same c d is)) (by (event p t d) ∙ goes) where
      by : (q : Result (Running g) Halt) → q >>= events p [] ≡ q
      by (Ok b) = refl
      by (Err h) = refl
events_more p (s ∷ ss) t c d r is goes =
    let (b, first, rest) = bound (event p s c) (events p ss) d is in
    ap (λ q. q >>= events p (ss ++ t ∷ [])) first ∙ events_more p ss t b d r rest goes

-- what a schedule leaves, with one event more
pub after_more : (x : CodeTree) (sigma : List ℕ) (t : ℕ) (c : ErasedConfig) (r : Result ErasedConfig Halt)
    → erased_after x sigma ≡ Ok c → event (code_meaning x) t c ≡ r → erased_after x (sigma ++ t ∷ []) ≡ r
after_more x sigma t c r is goes =
    let (start, starts, led) = bound (erased_start x) (events (code_meaning x) sigma) c is in
    ap (λ q. q >>= events (code_meaning x) (sigma ++ t ∷ [])) starts
    ∙ events_more (code_meaning x) sigma t start c r led goes

-- ---- the final block waits last

-- number n waits only where nobody before it does
abbrev WaitsLast : {g : Language} → ℕ → List (Option (Paused g)) → Type 0
WaitsLast n ps = waits_at n ps ≡ true → (u : ℕ) → u < n → waits_at u ps ≡ false

waits_both : (b : Bool) → b ≡ true → b ≡ false → ⊥
waits_both b waits rests = let both : true ≡ false = sym waits ∙ rests in absurd cc

none_waits : {g : Language} (ps : List (Option (Paused g))) (u : ℕ) → have_ended ps ≡ true → waits_at u ps ≡ false
none_waits [] u all = refl
none_waits (None ∷ ps) zero all = refl
none_waits (None ∷ ps) (suc u) all = none_waits ps u all
none_waits (Some w ∷ ps) u all = absurd cc

-- the final block takes over
over_last : {g : Language} (p : ProgramMeaning g) (c d : Running g) → hand_over p c ≡ Ok d
    → WaitsLast (length p.bodies) c.places → WaitsLast (length p.bodies) d.places
over_last {g = g} p c d is last = by (have_ended c.places) refl where
  by : (b : Bool) → have_ended c.places ≡ b → WaitsLast (length p.bodies) d.places
  by true all = λ waits u before.
      let stays : slice_get d.places u ≡ slice_get c.places u =
      subst (Stays u c.places) is (over_stays p u c (λ same. omega (arith, same, before))) in
      ap is_waiting stays ∙ none_waits c.places u all
  by false still =
      let same : ◌≡◌ {A = Result (Running g) Halt} (Ok c) (Ok d) =
      sym (ap (λ b. if b then final_begins p c.places (p.gathers c.state) p.last else Ok c) still) ∙ is in
      subst (λ (e : Running g). WaitsLast (length p.bodies) e.places) (ok_same c d same) last

-- after the step of t, and before the final block may take over
then_last : {g : Language} (p : ProgramMeaning g) (t : ℕ) (c e d : Running g) → waits_at t c.places ≡ true
    → ((u : ℕ) → u ≢ t → waits_at u e.places ≡ waits_at u c.places)
    → (if nat_lt t (length p.bodies) then hand_over p e else Ok e) ≡ Ok d
    → WaitsLast (length p.bodies) c.places → WaitsLast (length p.bodies) d.places
then_last {g = g} p t c e d waits others is last = by (order t (length p.bodies)) where
  order : (a b : ℕ) → (a < b) ⊎ (b ≤ a)
  order a zero = inr (omega arith)
  order zero (suc b) = inl (omega arith)
  order (suc a) (suc b) = more (order a b) where
    more : (a < b) ⊎ (b ≤ a) → (suc a < suc b) ⊎ (suc b ≤ suc a)
    more (inl h) = inl (omega (arith, h))
    more (inr h) = inr (omega (arith, h))

  by : (t < length p.bodies) ⊎ (length p.bodies ≤ t) → WaitsLast (length p.bodies) d.places
  by (inl thread) =
      let over : hand_over p e ≡ Ok d =
      sym (ap (λ b. if b then hand_over p e else Ok e) (lt-ltb t (length p.bodies) thread)) ∙ is in
      over_last p e d over (λ final. absurd (waits_both (waits_at t c.places) waits
      (last (sym (others (length p.bodies) (λ same. omega (arith, same, thread))) ∙ final) t thread)))
  by (inr past) =
      let same : ◌≡◌ {A = Result (Running g) Halt} (Ok e) (Ok d) =
      sym (ap (λ b. if b then hand_over p e else Ok e) (le-ltb t (length p.bodies) past)) ∙ is in
      subst (λ (f : Running g). WaitsLast (length p.bodies) f.places) (ok_same e d same)
      (λ final u before. others u (λ one. omega (arith, one, before, past)) ∙ last (was (eqb_tells (length p.bodies) t) final) u before) where
        was : ((nat_eq (length p.bodies) t ≡ true) × (length p.bodies ≡ t)) ⊎ ((nat_eq (length p.bodies) t ≡ false) × (length p.bodies ≢ t))
            → waits_at (length p.bodies) e.places ≡ true → waits_at (length p.bodies) c.places ≡ true
        was (inl (is, one)) final = subst (λ n. waits_at n c.places ≡ true) (sym one) waits
        was (inr (isnt, other)) final = sym (others (length p.bodies) other) ∙ final

at_last : {g : Language} (p : ProgramMeaning g) (t : ℕ) (c d : Running g) (o : Option (Option (Paused g)))
    → slice_get c.places t ≡ o → event_at p t c o ≡ Ok d
    → WaitsLast (length p.bodies) c.places → WaitsLast (length p.bodies) d.places
at_last {g = g} p t c d (Some (Some w)) at is last =
    let signal = unwind (p.statements t) w.frames (step (p.statements t) w.rest c.state) in
    let (e, first, later) = bound (paused_at p t c.places signal)
    (λ (f : Running g). if nat_lt t (length p.bodies) then hand_over p f else Ok f) d is in
    then_last p t c e d (ap is_waiting at)
    (λ u other. ap is_waiting (subst (Stays u c.places) first (paused_stays p t u c.places signal other))) later last
at_last {g = g} p t c d (Some None) at is last =
    subst (λ (e : Running g). WaitsLast (length p.bodies) e.places) (ok_same c d is) last
at_last {g = g} p t c d None at is last =
    subst (λ (e : Running g). WaitsLast (length p.bodies) e.places) (ok_same c d is) last

events_last : {g : Language} (p : ProgramMeaning g) (sigma : List ℕ) (c d : Running g) → events p sigma c ≡ Ok d
    → WaitsLast (length p.bodies) c.places → WaitsLast (length p.bodies) d.places
events_last {g = g} p [] c d is last =
    subst (λ (e : Running g). WaitsLast (length p.bodies) e.places) (ok_same c d is) last
events_last p (t ∷ ts) c d is last =
    let (e, first, later) = bound (event p t c) (events p ts) d is in
    events_last p ts e d later (at_last p t c e (slice_get c.places t) refl first last)

-- the threads' leading statements leave everybody after them where he is
lead_stays : {g : Language} (p : ProgramMeaning g) (t n : ℕ) (bs : List (Stms g.forms)) (c d : Running g)
    → t + length bs ≤ n → lead p t bs c ≡ Ok d → slice_get d.places n ≡ slice_get c.places n
lead_stays {g = g} p t n [] c d within is = sym (ap (λ (e : Running g). slice_get e.places n) (ok_same c d is))
lead_stays p t n (b ∷ bs) c d within is =
    let signal = run (p.statements t) b c.state in
    let (e, first, later) = bound (paused_at p t c.places signal) (lead p (suc t) bs) d is in
    let other : n ≢ t = λ same. omega (arith, same, within) in
    lead_stays p (suc t) n bs e d (omega (arith, within)) later
    ∙ subst (Stays n c.places) first (paused_stays p t n c.places signal other)

nobody_yet : (g : Language) (bs : List (Stms g.forms)) (u : ℕ) → waits_at {g = g} u (nowhere bs) ≡ false
nobody_yet g [] zero = refl
nobody_yet g [] (suc u) = refl
nobody_yet g (b ∷ bs) zero = refl
nobody_yet g (b ∷ bs) (suc u) = nobody_yet g bs u

start_last : {g : Language} (p : ProgramMeaning g) (s : g.State) (d : Running g) → start_from p s ≡ Ok d
    → WaitsLast (length p.bodies) d.places
start_last {g = g} p s d is =
    let (c, led, over) = bound (lead p 0 p.bodies (running s (nowhere p.bodies))) (hand_over p) d is in
    over_last p c d over (λ final. absurd (waits_both (waits_at (length p.bodies) c.places) final
    (ap is_waiting (lead_stays p 0 (length p.bodies) p.bodies (running s (nowhere p.bodies)) c (omega arith) led)
    ∙ nobody_yet g p.bodies (length p.bodies))))

threads_long : (x : CodeTree) → length (code_meaning x).bodies ≡ length x.threads
threads_long x = by x.threads where
  by : (ts : List CodeThread) → length (map (λ (s : CodeThread). s.body) ts) ≡ length ts
  by [] = refl
  by (t ∷ ts) = ap suc (by ts)

pub final_block_waits_last : FinalBlockWaitsLast
final_block_waits_last x sigma c is waits t still =
    let (start, starts, led) = bound (erased_start x) (events (code_meaning x) sigma) c is in
    let last : WaitsLast (length (code_meaning x).bodies) c.places =
    events_last (code_meaning x) sigma start c led
    (start_last (code_meaning x) (first_memory x.decls (length x.threads)) start starts) in
    waits_both (waits_at t c.places) still.waits
    (last (subst (λ n. waits_at n c.places ≡ true) (sym (threads_long x)) waits) t (omega (arith, threads_long x, still.thread)))
