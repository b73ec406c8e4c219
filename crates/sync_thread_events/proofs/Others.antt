-- An event leaves everybody else where he waits, but for the final block, which may begin.
use Rattle.std.proofs.Common.{◌≡◌, ◌≢◌, ℕ, zero, suc, Bool, true, false, if◌then◌else◌, nat_lt, List, [], ◌∷◌, length, slice_get, slice_set, Option, Some, None, Result, Ok, Err, refl, ap, ◌∙◌, subst}
use Rattle.sync_base.specs.Outcome.{◌>>=◌}
use Rattle.sync_thread.specs.Control.{Halt, Language, Stms, Signal, At, Nexts, Breaks, Meets, Ends, Over, Fails, Paused, ProgramMeaning, Running, ended, paused_at, have_ended, final_begins, hand_over, event_at, event, run, unwind, step}

get_other : {A : Type 0} (xs : List A) (i j : ℕ) (y : A) → j ≢ i → slice_get (slice_set xs i y) j ≡ slice_get xs j
get_other [] i j y apart = refl
get_other (x ∷ xs) zero zero y apart = absurd (apart refl)
get_other (x ∷ xs) zero (suc j) y apart = refl
get_other (x ∷ xs) (suc i) zero y apart = refl
get_other (x ∷ xs) (suc i) (suc j) y apart = get_other xs i j y (λ same. apart (ap suc same))

-- wherever an answer leads, u waits as in ps
abbrev pub Stays : {g : Language} → ℕ → List (Option (Paused g)) → Result (Running g) Halt → Type 0
Stays u ps (Ok d) = slice_get d.places u ≡ slice_get ps u
Stays u ps (Err h) = Unit {0}

ended_stays : {g : Language} (t u : ℕ) (ps : List (Option (Paused g))) (r : Result g.State Halt) → u ≢ t
    → Stays u ps (ended t ps r)
ended_stays t u ps (Ok s) other = get_other ps t u None other
ended_stays t u ps (Err h) other = tt

pub paused_stays : {g : Language} (p : ProgramMeaning g) (t u : ℕ) (ps : List (Option (Paused g))) (o : Signal g) → u ≢ t
    → Stays u ps (paused_at p t ps o)
paused_stays p t u ps (At rest frames s) other = get_other ps t u (Some (record { rest = rest; frames = frames })) other
paused_stays p t u ps (Ends j s) other = ended_stays t u ps (p.ends t j s) other
paused_stays p t u ps (Over s) other = ended_stays t u ps (p.finishes t s) other
paused_stays p t u ps (Nexts j s) other = tt
paused_stays p t u ps (Breaks j s) other = tt
paused_stays p t u ps (Meets j s) other = tt
paused_stays p t u ps (Fails h) other = tt

begins_stays : {g : Language} (p : ProgramMeaning g) (u : ℕ) (ps : List (Option (Paused g))) (s : g.State)
    (o : Option (Stms g.forms)) → u ≢ length p.bodies → Stays u ps (final_begins p ps s o)
begins_stays p u ps s (Some ss) other =
    paused_stays p (length p.bodies) u ps (run (p.statements (length p.bodies)) ss s) other
begins_stays p u ps s None other = refl

pub over_stays : {g : Language} (p : ProgramMeaning g) (u : ℕ) (c : Running g) → u ≢ length p.bodies
    → Stays u c.places (hand_over p c)
over_stays p u c other = by (have_ended c.places) where
  by : (b : Bool) → Stays u c.places (if b then final_begins p c.places (p.gathers c.state) p.last else Ok c)
  by true = begins_stays p u c.places (p.gathers c.state) p.last other
  by false = refl

on_stays : {g : Language} (u : ℕ) (ps : List (Option (Paused g))) (r : Result (Running g) Halt)
    (f : Running g → Result (Running g) Halt) → Stays u ps r → ((d : Running g) → Stays u d.places (f d))
    → Stays u ps (r >>= f)
on_stays {g = g} u ps (Ok d) f first later = by (f d) (later d) where
  by : (r : Result (Running g) Halt) → Stays u d.places r → Stays u ps r
  by (Ok e) next = next ∙ first
  by (Err h) next = tt
on_stays u ps (Err h) f first later = tt

at_stays : {g : Language} (p : ProgramMeaning g) (t u : ℕ) (c : Running g) (w : Option (Option (Paused g))) → u ≢ t
    → u ≢ length p.bodies → Stays u c.places (event_at p t c w)
at_stays {g = g} p t u c (Some (Some w)) other here =
    on_stays u c.places
    (paused_at p t c.places (unwind (p.statements t) w.frames (step (p.statements t) w.rest c.state)))
    (λ (d : Running g). if nat_lt t (length p.bodies) then hand_over p d else Ok d)
    (paused_stays p t u c.places (unwind (p.statements t) w.frames (step (p.statements t) w.rest c.state)) other)
    (λ d. by d (nat_lt t (length p.bodies))) where
      by : (d : Running g) (b : Bool) → Stays u d.places (if b then hand_over p d else Ok d)
      by d true = over_stays p u d here
      by d false = refl
at_stays p t u c (Some None) other here = refl
at_stays p t u c None other here = refl

pub others_stay : {g : Language} (p : ProgramMeaning g) (t u : ℕ) (c d : Running g) → event p t c ≡ Ok d → u ≢ t
    → u ≢ length p.bodies → slice_get d.places u ≡ slice_get c.places u
others_stay p t u c d is other here = subst (Stays u c.places) is (at_stays p t u c (slice_get c.places t) other here)
