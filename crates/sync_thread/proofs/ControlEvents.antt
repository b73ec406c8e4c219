-- A program at rest rests again after each event, and so at each moment of each schedule.
use Rattle.std.specs.Prelude.{ℕ, zero, suc, ◌+◌, ◌<◌, ◌≤◌, Bool, true, false, if◌then◌else◌, nat_lt, nat_eq, List, []}
use Rattle.std.specs.Prelude.{◌∷◌, length, slice_get, slice_set, Option, Some, None, Result, Ok, Err, ◌≡◌, ◌⊎◌}
use Rattle.std.proofs.Common.{inl, inr, arith}
use Rattle.std.proofs.lemmas.List.{length-set}
use Rattle.std.proofs.lemmas.Option.{slice_get_within, same_Some}
use Rattle.std.proofs.lemmas.Bool.{eqb-true, eqb-false, ltb-true, ltb-false}
use mathlib.Core.Path.{refl, sym, ap, subst, ◌∙◌}
use Rattle.sync_base.specs.Outcome.{◌>>=◌}
use Rattle.sync_thread.specs.Control.{Halt, Language, Stms, Signal, At, Nexts, Breaks, Meets, Ends, Over, Fails, Paused}
use Rattle.sync_thread.specs.Control.{ProgramMeaning, Running, running, ended, paused_at, have_ended, final_begins}
use Rattle.sync_thread.specs.Control.{hand_over, event_at, event, lead, nowhere, start_from, events, run, unwind, step}
use Rattle.sync_thread.specs.Resting.{silent, Rules, PassesUnless, MayBegin, Leaves, Premises, Rested, PlaceRests}
use Rattle.sync_thread.specs.Resting.{ThreadsRun, LastRests, FinalRuns, AtRest, Ready, EventsRest, SchedulesRest}
use Rattle.sync_thread.specs.Resting.{SchedulesGoOn}
use Rattle.sync_thread.proofs.Control.{free, Arrives, passes_on, open_all, run_arrives, unwind_arrives, step_arrives}

-- ---- places in a list

get_same : {A : Type 0} (xs : List A) (i : ℕ) (y : A) → i < length xs → slice_get (slice_set xs i y) i ≡ Some y
get_same [] i y within = let no : ⊥ = omega (arith) in absurd no
get_same (x ∷ xs) zero y within = refl
get_same (x ∷ xs) (suc i) y within = get_same xs i y (omega (arith))

get_other : {A : Type 0} (xs : List A) (i j : ℕ) (y : A) → (j ≡ i → ⊥)
    → slice_get (slice_set xs i y) j ≡ slice_get xs j
get_other [] i j y apart = refl
get_other (x ∷ xs) zero zero y apart = absurd (apart refl)
get_other (x ∷ xs) zero (suc j) y apart = refl
get_other (x ∷ xs) (suc i) zero y apart = refl
get_other (x ∷ xs) (suc i) (suc j) y apart = get_other xs i j y (λ same. apart (ap suc same))

get_ended : {g : Language} (ps : List (Option (Paused g))) → have_ended ps ≡ true → (t : ℕ) (o : Option (Paused g))
    → slice_get ps t ≡ Some o → o ≡ None
get_ended [] all t o is = let no : None ≡ Some o = is in cc
get_ended (Some w ∷ ps) all t o is = let no : false ≡ true = all in cc
get_ended (None ∷ ps) all zero o is = sym (same_Some None o is)
get_ended (None ∷ ps) all (suc t) o is = get_ended ps all t o is

there_is : {A : Type 0} (xs : List A) (i : ℕ) → i < length xs → (x : A) × (slice_get xs i ≡ Some x)
there_is [] i within = let no : ⊥ = omega (arith) in absurd no
there_is (x ∷ xs) zero within = (x, refl)
there_is (x ∷ xs) (suc i) within = there_is xs i (omega (arith))

-- ---- a thread comes to its place

-- Thread t went from s on, and waits or has ended; the others are where they were.
record PausedAt {g : Language} (r : Rules g) (t : ℕ) (s : g.State) (ps : List (Option (Paused g)))
    (c : Running g) : Type 0 where
  place : Option (Paused g)
  places : c.places ≡ slice_set ps t place
  whole : r.Overall c.state
  stays : r.Stays t s c.state
  rests : PlaceRests r t c.state place

ended_rests : {g : Language} (r : Rules g) (t : ℕ) (start s : g.State) (rows : (s z y : g.State) → r.Stays t s z
    → r.Stays t z y → r.Stays t s y) (ps : List (Option (Paused g)))
    → r.Stays t start s
    → (x : Result g.State Halt) → PassesUnless r.Spares x (λ z. Leaves r t s z)
    → PassesUnless r.Spares (ended t ps x) (PausedAt r t start ps)
ended_rests r t start s along ps stays (Ok z) (whole, on, left) =
    record { place = None; places = refl; whole = whole; stays = along start s z stays on; rests = left }
ended_rests r t start s along ps stays (Err h) is = is

paused_rests : {g : Language} (r : Rules g) (p : ProgramMeaning g) → Premises r p → (t : ℕ) → t ≤ length p.bodies
    → (start : g.State) (ps : List (Option (Paused g))) (o : Signal g)
    → Arrives r t start [] free o → PassesUnless r.Spares (paused_at p t ps o) (PausedAt r t start ps)
paused_rests r p premises t within start ps (At rest frames s) is = record {
  place = Some (record { rest = rest; frames = frames });
  places = refl;
  whole = is.moves.0;
  stays = is.moves.1;
  rests = record {
    env = is.env;
    round = is.inner;
    waits = is.waits;
    goes = is.goes;
    stands = is.moves.2;
    framed = is.framed;
  };
}
paused_rests r p premises t within start ps (Ends j s) (e, may, moves) =
    ended_rests r t start s (premises.rows t within).along ps moves.1 (p.ends t j s)
    (premises.ends t within j e may s moves.0 moves.2)
paused_rests r p premises t within start ps (Over s) (e, may, moves) =
    ended_rests r t start s (premises.rows t within).along ps moves.1 (p.finishes t s)
    (premises.finishes t within e may s moves.0 moves.2)
paused_rests r p premises t within start ps (Nexts j s) (way, e, comes, moves) = absurd comes
paused_rests r p premises t within start ps (Breaks j s) (way, e, comes, moves) = absurd comes
paused_rests r p premises t within start ps (Meets j s) (way, e, comes, moves) = absurd comes
paused_rests r p premises t within start ps (Fails h) is = is

pub then_passes : {A B : Type 0} (spares : Halt → Type 0) (x : Result A Halt) (f : A → Result B Halt) (one : A
    → Type 0) (two : B → Type 0)
    → PassesUnless spares x one → ((y : A) → one y → PassesUnless spares (f y) two)
    → PassesUnless spares (x >>= f) two
then_passes spares (Ok y) f one two is then_so = then_so y is
then_passes spares (Err h) f one two is then_so = is

-- a list begins outside of all forms, and runs up to its first shared step
begun_rests : {g : Language} (r : Rules g) (p : ProgramMeaning g) → Premises r p → (t : ℕ) → t ≤ length p.bodies
    → (ps : List (Option (Paused g))) (list : Stms g.forms) (s : g.State) → r.Overall s → MayBegin r t list s
    → PassesUnless r.Spares (paused_at p t ps (run (p.statements t) list s)) (PausedAt r t s ps)
begun_rests r p premises t within ps list s whole (e, stands, goes) =
    paused_rests r p premises t within s ps (run (p.statements t) list s)
    (open_all r t s [] (silent list) (run (p.statements t) list s)
    (run_arrives r t (p.statements t) (premises.rows t within) s list [] s e goes
    (whole, (premises.rows t within).self s, stands)))

-- one that waits goes on up to its next shared step
waiting_rests : {g : Language} (r : Rules g) (p : ProgramMeaning g) → Premises r p → (t : ℕ) → t ≤ length p.bodies
    → (ps : List (Option (Paused g))) (w : Paused g) (s : g.State) → r.Overall s → Rested r t s w
    → PassesUnless r.Spares (paused_at p t ps (unwind (p.statements t) w.frames (step (p.statements t) w.rest s)))
    (PausedAt r t s ps)
waiting_rests r p premises t within ps w s whole rested =
    paused_rests r p premises t within s ps (unwind (p.statements t) w.frames (step (p.statements t) w.rest s))
    (unwind_arrives r t (p.statements t) (premises.rows t within) s w.frames rested.round [] rested.framed
    (step (p.statements t) w.rest s)
    (step_arrives r t (p.statements t)
    (premises.rows t within) s w.rest rested.round s rested.env rested.waits rested.goes
    (whole, (premises.rows t within).self s, rested.stands)))

-- what another has stays at rest
other_rests : {g : Language} (r : Rules g) (p : ProgramMeaning g) → Premises r p → (t u : ℕ) → (u ≡ t → ⊥)
    → (s z : g.State) → r.Stays t s z → (o : Option (Paused g)) → PlaceRests r u s o → PlaceRests r u z o
other_rests r p premises t u apart s z stays (Some w) is = record {
  env =
      is.env;
  round = is.round;
  waits = is.waits;
  goes = is.goes;
  stands = premises.stands t u apart s z stays is.env is.round is.stands;
  framed = is.framed;
}
other_rests r p premises t u apart s z stays None is = premises.left t u apart s z stays is

-- ---- the final block takes over

-- The threads below n are at their places, and the final block has not begun.
record Threads {g : Language} (r : Rules g) (p : ProgramMeaning g) (n : ℕ) (c : Running g) : Type 0 where
  whole : r.Overall c.state
  places : length c.places ≡ suc (length p.bodies)
  threads : (t : ℕ) → t < n → (o : Option (Paused g)) → slice_get c.places t ≡ Some o → PlaceRests r t c.state o
  last : slice_get c.places (length p.bodies) ≡ Some None
  nothing : r.HasNothing c.state

final_rests : {g : Language} (r : Rules g) (p : ProgramMeaning g) (s : g.State) (o : Option (Paused g))
    → PlaceRests r (length p.bodies) s o → LastRests r p s (Some o)
final_rests r p s (Some w) is = is
final_rests r p s None is = inr is

closes : {g : Language} (r : Rules g) (p : ProgramMeaning g) → Premises r p
    → (s : g.State) (ps : List (Option (Paused g))) → length ps ≡ suc (length p.bodies)
    → ((t : ℕ) → t < length p.bodies → slice_get ps t ≡ Some None) → r.HasTaken s
    → (c : Running g) → PausedAt r (length p.bodies) s ps c → AtRest r p c
closes r p premises s ps long all taken c paused_at = record {
  whole = paused_at.whole;
  places = ap length paused_at.places ∙ length-set ps (length p.bodies) paused_at.place ∙ long;
  stage = inr (record {
    ended =
        λ t within. (ap (λ qs. slice_get qs t) paused_at.places
        ∙ get_other ps (length p.bodies) t paused_at.place (λ same. (let no : ⊥ = omega (arith) in no))
        ∙ all t within);
    taken = premises.taken s c.state paused_at.stays taken;
    last =
        subst (LastRests r p c.state) (sym (ap (λ qs. slice_get qs (length p.bodies)) paused_at.places
        ∙ get_same ps (length p.bodies) paused_at.place (omega (arith))))
        (final_rests r p c.state paused_at.place paused_at.rests);
  });
}

final_begins_rests : {g : Language} (r : Rules g) (p : ProgramMeaning g) → Premises r p
    → (s : g.State) (ps : List (Option (Paused g))) → length ps ≡ suc (length p.bodies)
    → ((t : ℕ) → t < length p.bodies → slice_get ps t ≡ Some None)
    → slice_get ps (length p.bodies) ≡ Some None → r.Overall s → r.HasTaken s → (last : Option (Stms g.forms))
    → p.last ≡ last → ((list : Stms g.forms) → p.last ≡ Some list → MayBegin r (length p.bodies) list s)
    → PassesUnless r.Spares (final_begins p ps s last) (AtRest r p)
final_begins_rests r p premises s ps long all none whole taken None is begins = record {
  whole =
      whole;
  places = long;
  stage = inr (record { ended = all; taken = taken; last = subst (LastRests r p s) (sym none) (inl is) });
}
final_begins_rests r p premises s ps long all none whole taken (Some list) is begins =
    passes_on r.Spares (paused_at p (length p.bodies) ps (run (p.statements (length p.bodies)) list s))
    (PausedAt r (length p.bodies) s ps) (AtRest r p)
    (begun_rests r p premises (length p.bodies) (omega (arith)) ps list s whole (begins list is))
    (λ c paused_at. closes r p premises s ps long all taken c paused_at)

hand_over_rests : {g : Language} (r : Rules g) (p : ProgramMeaning g) → Premises r p → (c : Running g)
    → Threads r p (length p.bodies) c → PassesUnless r.Spares (hand_over p c) (AtRest r p)
hand_over_rests r p premises c threads = tested (have_ended c.places) refl where
  -- all have ended
  none : have_ended c.places ≡ true → (t : ℕ) → t < length p.bodies → slice_get c.places t ≡ Some None
  none all t within =
      let (o, is) = there_is c.places t (let long : length c.places ≡ suc (length p.bodies) = threads.places in
      omega (arith)) in is ∙ ap Some (get_ended c.places all t o is)

  tested : (b : Bool) → have_ended c.places ≡ b
      → PassesUnless r.Spares (if b then final_begins p c.places (p.gathers c.state) p.last else Ok c) (AtRest r p)
  tested false is = record {
    whole = threads.whole;
    places = threads.places;
    stage = inl (record { threads = threads.threads; last = threads.last; nothing = threads.nothing; waits = is });
  }
  tested true all =
      let (whole, taken, begins) =
      premises.gathers c.state threads.whole threads.nothing
      (λ t within. threads.threads t within None (none all t within)) in
      final_begins_rests r p premises (p.gathers c.state) c.places threads.places
      (none all) threads.last whole taken p.last refl begins

-- ---- events

-- what is at a place after an event of thread t
place_after : {g : Language} (r : Rules g) (p : ProgramMeaning g) → Premises r p
    → (t u : ℕ) (s : g.State) (ps : List (Option (Paused g))) (c : Running g) → t < length ps → PausedAt r t s ps c
    → ((u ≡ t → ⊥) → (o : Option (Paused g)) → slice_get ps u ≡ Some o → PlaceRests r u s o) → (o : Option (Paused g))
    → slice_get c.places u ≡ Some o → PlaceRests r u c.state o
place_after r p premises t u s ps c within paused_at others o is = tested (nat_eq u t) refl where
  tested : (b : Bool) → nat_eq u t ≡ b → PlaceRests r u c.state o
  tested true same = let here : u ≡ t = eqb-true u t same in
      subst (λ k. PlaceRests r k c.state o) (sym here) (subst (PlaceRests r t c.state)
      (same_Some paused_at.place o (sym (get_same ps t paused_at.place within)
      ∙ ap (λ qs. slice_get qs t) (sym paused_at.places) ∙ ap (slice_get c.places) (sym here) ∙ is))
      paused_at.rests)
  tested false other = let apart : (u ≡ t → ⊥) = eqb-false u t other in
      other_rests r p premises t u apart s c.state paused_at.stays o
      (others apart o (sym (get_other ps t u paused_at.place apart)
      ∙ ap (λ qs. slice_get qs u) (sym paused_at.places) ∙ is))

-- the threads after an event of thread t
threads_after : {g : Language} (r : Rules g) (p : ProgramMeaning g) → Premises r p → (t n : ℕ) → t < length p.bodies
    → (c d : Running g) → r.Overall c.state → length c.places ≡ suc (length p.bodies)
    → ((u : ℕ) → u < n → (u ≡ t → ⊥) → (o : Option (Paused g)) → slice_get c.places u ≡ Some o
    → PlaceRests r u c.state o)
    → slice_get c.places (length p.bodies) ≡ Some None → r.HasNothing c.state → PausedAt r t c.state c.places d
    → Threads r p n d
threads_after r p premises t n within c d whole long others none nothing paused_at = record {
  whole = paused_at.whole;
  places = ap length paused_at.places ∙ length-set c.places t paused_at.place ∙ long;
  threads =
      λ u below o is. place_after r p premises t u c.state c.places d (omega (arith)) paused_at (others u below) o is;
  last =
      ap (λ qs. slice_get qs (length p.bodies)) paused_at.places
      ∙ get_other c.places t (length p.bodies) paused_at.place (λ same. (let no : ⊥ = omega (arith) in no)) ∙ none;
  nothing = premises.nothing t within c.state d.state paused_at.stays nothing;
}

-- an event of thread t, or of the final block
going_rests : {g : Language} (r : Rules g) (p : ProgramMeaning g) → Premises r p → (t : ℕ) (c : Running g)
    → AtRest r p c → (w : Paused g) → slice_get c.places t ≡ Some (Some w)
    → PassesUnless r.Spares (event_at p t c (Some (Some w))) (AtRest r p)
going_rests r p premises t c rest w is = by_stage (nat_lt t (length p.bodies)) refl rest.stage where
  here : t < suc (length p.bodies)
  here =
      let within : t < length c.places = slice_get_within c.places t (Some w) is in
      let long : length c.places ≡ suc (length p.bodies) = rest.places in omega (arith)

  by_stage : (b : Bool) → nat_lt t (length p.bodies) ≡ b → ThreadsRun r p c ⊎ FinalRuns r p c
      → PassesUnless r.Spares (paused_at p t c.places
      (unwind (p.statements t) w.frames (step (p.statements t) w.rest c.state))
      >>= (λ (d : Running _). if b then hand_over p d else Ok d)) (AtRest r p)
  by_stage true below (inl running) = let within : t < length p.bodies = ltb-true t (length p.bodies) below in
      then_passes r.Spares (paused_at p t c.places
      (unwind (p.statements t) w.frames (step (p.statements t) w.rest c.state))) (hand_over p)
      (PausedAt r t c.state c.places) (AtRest r p)
      (waiting_rests r p premises t (omega (arith)) c.places w c.state rest.whole
      (running.threads t within (Some w) is))
      (λ d paused_at. hand_over_rests r p premises d
      (threads_after r p premises t (length p.bodies) within c d rest.whole rest.places
      (λ u below apart o there. running.threads u below o there) running.last running.nothing paused_at))
  by_stage true below (inr closing) =
      let no : Some None ≡ Some (Some w) = sym (closing.ended t (ltb-true t (length p.bodies) below)) ∙ is in cc
  by_stage false above (inl running) =
      let same : t ≡ length p.bodies =
      (let over : length p.bodies ≤ t = ltb-false t (length p.bodies) above in
      let within : t < suc (length p.bodies) = here in omega (arith)) in
      let no : Some None ≡ Some (Some w) = sym running.last ∙ ap (slice_get c.places) (sym same) ∙ is in cc
  by_stage false above (inr closing) =
      let same : t ≡ length p.bodies =
      (let over : length p.bodies ≤ t = ltb-false t (length p.bodies) above in
      let within : t < suc (length p.bodies) = here in omega (arith)) in
      subst (λ k. PassesUnless r.Spares
      (paused_at p k c.places (unwind (p.statements k) w.frames (step (p.statements k) w.rest c.state))
      >>= (λ (d : Running _). Ok d)) (AtRest r p)) (sym same)
      (then_passes r.Spares (paused_at p (length p.bodies) c.places
      (unwind (p.statements (length p.bodies)) w.frames (step (p.statements (length p.bodies)) w.rest c.state)))
      (λ (d : Running _). Ok d)
      (PausedAt r (length p.bodies) c.state c.places) (AtRest r p)
      (waiting_rests r p premises (length p.bodies) (omega (arith)) c.places w c.state rest.whole
      (subst (LastRests r p c.state) (ap (slice_get c.places) (sym same) ∙ is) closing.last))
      (λ d paused_at. closes r p premises c.state c.places rest.places closing.ended closing.taken d paused_at))

event_at_rests : {g : Language} (r : Rules g) (p : ProgramMeaning g) → Premises r p → (t : ℕ) (c : Running g)
    → AtRest r p c → (o : Option (Option (Paused g))) → slice_get c.places t ≡ o
    → PassesUnless r.Spares (event_at p t c o) (AtRest r p)
event_at_rests r p premises t c rest (Some (Some w)) is = going_rests r p premises t c rest w is
event_at_rests r p premises t c rest (Some None) is = rest
event_at_rests r p premises t c rest None is = rest

pub event_rests : (g : Language) (r : Rules g) (p : ProgramMeaning g) → EventsRest g r p
event_rests g r p premises t c rest = event_at_rests r p premises t c rest (slice_get c.places t) refl

pub events_rest : {g : Language} (r : Rules g) (p : ProgramMeaning g) → Premises r p → (ts : List ℕ) (c : Running g)
    → AtRest r p c → PassesUnless r.Spares (events p ts c) (AtRest r p)
events_rest r p premises [] c rest = rest
events_rest {g = g} r p premises (t ∷ ts) c rest =
    then_passes r.Spares (event p t c) (events p ts) (AtRest r p) (AtRest r p) (event_rests g r p premises t c rest)
    (events_rest r p premises ts)

-- ---- the start

-- threads from t on begin
abbrev Beginning : {g : Language} (r : Rules g) → ℕ → List (Stms g.forms) → g.State → Type 0
Beginning r t [] s = Unit {0}
Beginning r t (list ∷ lists) s = MayBegin r t list s × Beginning r (suc t) lists s

beginning_stays : {g : Language} (r : Rules g) (p : ProgramMeaning g) → Premises r p → (t u : ℕ) → t < u
    → (s z : g.State) → r.Stays t s z → (lists : List (Stms g.forms)) → Beginning r u lists s → Beginning r u lists z
beginning_stays r p premises t u above s z stays [] is = tt
beginning_stays r p premises t u above s z stays (list ∷ lists) ((e, stands, goes), more) = (
  (e, premises.stands t u (λ same. (let no : ⊥ = omega (arith) in no)) s z stays e [] stands, goes),
  beginning_stays r p premises t (suc u) (omega (arith)) s z stays lists more,
)

each_begins : {g : Language} (r : Rules g) (t : ℕ) (s : g.State) (lists : List (Stms g.forms))
    → ((u : ℕ) (list : Stms g.forms) → slice_get lists u ≡ Some list → MayBegin r (t + u) list s)
    → Beginning r t lists s
each_begins r t s [] begin = tt
each_begins r t s (list ∷ lists) begin = (
  subst (λ k. MayBegin r k list s) (omega (arith)) (begin 0 list refl),
  each_begins r (suc t) s lists (λ u other is. subst (λ k. MayBegin r k other s) (omega (arith))
      (begin (suc u) other is)),
)

lead_rests : {g : Language} (r : Rules g) (p : ProgramMeaning g) → Premises r p
    → (lists : List (Stms g.forms)) (t : ℕ) → t + length lists ≡ length p.bodies → (c : Running g) → Threads r p t c
    → Beginning r t lists c.state
    → PassesUnless r.Spares (lead p t lists c) (Threads r p (length p.bodies))
lead_rests r p premises [] t count c threads begin = subst (λ n. Threads r p n c) (omega (arith)) threads
lead_rests r p premises (list ∷ lists) t count c threads begin = let within : t < length p.bodies = omega (arith) in
    then_passes r.Spares (paused_at p t c.places (run (p.statements t) list c.state)) (lead p (suc t) lists)
    (PausedAt r t c.state c.places) (Threads r p (length p.bodies))
    (begun_rests r p premises t (omega (arith)) c.places list c.state threads.whole begin.0)
    (λ d paused_at. lead_rests r p premises lists (suc t) (omega (arith)) d
    (threads_after r p premises t (suc t) within c d threads.whole threads.places
    (λ u below apart o is. threads.threads u (let off : (u ≡ t → ⊥) = apart in omega (arith)) o is) threads.last
    threads.nothing paused_at)
    (beginning_stays r p premises t (suc t) (omega (arith)) c.state d.state paused_at.stays lists begin.1))

nowhere_length : (g : Language) (lists : List (Stms g.forms)) → length (nowhere {g = g} lists) ≡ suc (length lists)
nowhere_length g [] = refl
nowhere_length g (list ∷ lists) = ap suc (nowhere_length g lists)

nowhere_last : {g : Language} (lists : List (Stms g.forms))
    → slice_get (nowhere {g = g} lists) (length lists) ≡ Some None
nowhere_last [] = refl
nowhere_last (list ∷ lists) = nowhere_last lists

pub start_rests : (g : Language) (r : Rules g) (p : ProgramMeaning g) → Premises r p → (s : g.State) → Ready r p s
    → PassesUnless r.Spares (start_from p s) (AtRest r p)
start_rests g r p premises s ready =
    then_passes r.Spares (lead p 0 p.bodies (running s (nowhere p.bodies))) (hand_over p)
    (Threads r p (length p.bodies)) (AtRest r p)
    (lead_rests r p premises p.bodies 0 (omega (arith)) (running s (nowhere p.bodies))
    (record {
      whole = ready.whole;
      places = nowhere_length g p.bodies;
      threads = λ t below o is. (let no : ⊥ = omega (arith) in absurd no);
      last = nowhere_last p.bodies;
      nothing =
          ready.nothing;
    })
    (each_begins r 0 s p.bodies (λ u list is. subst (λ k. MayBegin r k list s) (omega (arith))
    (ready.begin u list is))))
    (λ c threads. hand_over_rests r p premises c threads)

-- ---- schedules

pub schedule_rests : (g : Language) (r : Rules g) (p : ProgramMeaning g) → SchedulesRest g r p
schedule_rests g r p premises s ready ts =
    then_passes r.Spares (start_from p s) (events p ts) (AtRest r p) (AtRest r p) (start_rests g r p premises s ready)
    (λ c rest. events_rest r p premises ts c rest)

-- an answer for which no failure is spared is there
sure : {A : Type 0} (spares : Halt → Type 0) (x : Result A Halt) (good : A → Type 0) → ((h : Halt) → spares h → ⊥)
    → PassesUnless spares x good → (y : A) × (x ≡ Ok y) × good y
sure spares (Ok y) good never is = (y, refl, is)
sure spares (Err h) good never is = absurd (never h is)

pub schedule_goes_on : (g : Language) (r : Rules g) (p : ProgramMeaning g) → SchedulesGoOn g r p
schedule_goes_on g r p premises never s ready ts =
    sure r.Spares (start_from p s >>= events p ts) (AtRest r p) never (schedule_rests g r p premises s ready ts)
