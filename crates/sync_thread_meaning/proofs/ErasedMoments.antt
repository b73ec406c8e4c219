-- The erased program is at the moment that the annotated one is at, wherever that has not failed.
use Rattle.std.specs.Prelude.{◌≡◌, ℕ, suc, ℤ, pos, Bool, true, false, if◌then◌else◌, nat_lt, nat_eq, List, [], ◌∷◌, map}
use Rattle.std.specs.Prelude.{length, option_map, slice_get, slice_set, Option, Some, None, Result, Ok, Err}
use Rattle.std.proofs.lemmas.List.{map-set, length-map}
use Rattle.std.proofs.lemmas.Option.{slice_get-map}
use mathlib.Core.Path.{refl, sym, ap, subst}
use Rattle.sync_base.specs.Outcome.{◌>>=◌}
use Rattle.sync_thread.specs.Control.{Halt, Broken, Signal, At, Nexts, Breaks, Meets, Ends, Over, Fails, Paused}
use Rattle.sync_thread.specs.Control.{Running, running, ended, paused_at, have_ended, final_begins, hand_over, event_at}
use Rattle.sync_thread.specs.Control.{event, lead, nowhere, start_from, events, run, unwind, step}
use Rattle.sync_thread.specs.Programs.{ListTree, JumpTree, ThreadTree, StartTree}
use Rattle.sync_thread.specs.Code.{Memory, CodeThread, code_language, code_list, code_of, code_thread, code_statements}
use Rattle.sync_thread.specs.Code.{code_meaning, first_memory, erased_after}
use Rattle.sync_thread_meaning.specs.Shares.{Shares, found}
use Rattle.sync_thread_meaning.specs.MachineWithProgram.{MachineWithProgram, decls_of}
use Rattle.sync_thread_meaning.specs.Erased.{erased_frame, erased_paused, erased_places, erased_config}
use Rattle.sync_thread_meaning.specs.Meaning.{World, Arrival, annotated_language, annotated_statements}
use Rattle.sync_thread_meaning.specs.Meaning.{annotated_meaning, end_step, finish_step, arrived, keeping, gather}
use Rattle.sync_thread_meaning.specs.Laws.{ErasedGoesAlong}
use Rattle.sync_thread_meaning.specs.Moments.{start_of, start_shares, memory_of, first_shares, after_in}
use Rattle.sync_thread_meaning.proofs.ErasedLists.{Same, SameState, made_same, run_same, unwind_same, step_same}

abbrev SameRunning : Result (Running annotated_language) Halt → Result (Running code_language) Halt → Type 0
SameRunning (Ok c) r = r ≡ Ok (erased_config c)
SameRunning (Err h) r = Unit {0}

then_same : (r : Result (Running annotated_language) Halt) (q : Result (Running code_language) Halt)
    (f : Running annotated_language → Result (Running annotated_language) Halt) (g : Running code_language
    → Result (Running code_language) Halt)
    → SameRunning r q → ((c : Running annotated_language) → SameRunning (f c) (g (erased_config c)))
    → SameRunning (r >>= f) (q >>= g)
then_same (Ok c) q f g is same = subst (λ p. SameRunning (f c) (p >>= g)) (sym is) (same c)
then_same (Err h) q f g is same = tt

ended_same : (t : ℕ) (ps : List (Option (Paused annotated_language))) (r : Result World Halt) (q : Result Memory Halt)
    → SameState r q → SameRunning (ended t ps r) (ended t (erased_places ps) q)
ended_same t ps (Ok s) q is =
    subst (λ p. ended t (erased_places ps) p ≡ Ok (erased_config (running s (slice_set ps t None)))) (sym is)
    (ap (λ qs. Ok (running s.memory qs)) (sym (map-set (option_map erased_paused) ps t None)))
ended_same t ps (Err h) q is = tt

end_same : (fits : ℤ → Bool) (x : MachineWithProgram) (t : ℕ) (j : JumpTree) (s : World) (thread : Option ThreadTree)
    → SameState (end_step fits x t j s) (Ok s.memory)
end_same fits x t j s thread = by_thread (slice_get x.program.threads t) where
  by_thread : (o : Option ThreadTree) → SameState (found o >>= (λ (thread : ThreadTree).
      arrived fits x s t thread.ends j.args (pos 0) >>= (λ (a : Arrival).
      Ok (record s { shares = keeping t a.kept a.left a.own s.shares })))) (Ok s.memory)
  by_thread (Some thread) =
      made_same (arrived fits x s t thread.ends j.args (pos 0))
      (λ (a : Arrival). keeping t a.kept a.left a.own s.shares) s.memory
  by_thread None = tt

finish_same : (x : MachineWithProgram) (t : ℕ) (s : World) → SameState (finish_step x t s) (Ok s.memory)
finish_same x t s = tested (nat_eq t (length x.program.threads)) where
  tested : (b : Bool) → SameState (if b then Ok s else Err Broken) (Ok s.memory)
  tested true = refl
  tested false = tt

paused_same : (fits : ℤ → Bool) (x : MachineWithProgram) (t : ℕ) (ps : List (Option (Paused annotated_language)))
    (o : Signal annotated_language) (q : Signal code_language)
    → Same o q
    → SameRunning (paused_at (annotated_meaning fits x) t ps o)
    (paused_at (code_meaning (code_of x.program)) t (erased_places ps) q)
paused_same fits x t ps (At ss fs s) q is =
    subst (λ p. paused_at (code_meaning (code_of x.program)) t (erased_places ps) p ≡ Ok
    (erased_config (running s (slice_set ps t (Some (record { rest = ss; frames = fs })))))) (sym is)
    (ap (λ qs. Ok (running s.memory qs))
    (sym (map-set (option_map erased_paused) ps t (Some (record { rest = ss; frames = fs })))))
paused_same fits x t ps (Ends j s) q is =
    subst (λ p. SameRunning (ended t ps (end_step fits x t j s))
    (paused_at (code_meaning (code_of x.program)) t (erased_places ps) p)) (sym is)
    (ended_same t ps (end_step fits x t j s) (Ok s.memory) (end_same fits x t j s None))
paused_same fits x t ps (Over s) q is =
    subst (λ p. SameRunning (ended t ps (finish_step x t s))
    (paused_at (code_meaning (code_of x.program)) t (erased_places ps) p)) (sym is)
    (ended_same t ps (finish_step x t s) (Ok s.memory) (finish_same x t s))
paused_same fits x t ps (Nexts j s) q is = tt
paused_same fits x t ps (Breaks j s) q is = tt
paused_same fits x t ps (Meets j s) q is = tt
paused_same fits x t ps (Fails h) q is = tt

all_same : (ps : List (Option (Paused annotated_language))) → have_ended (erased_places ps) ≡ have_ended ps
all_same [] = refl
all_same (Some w ∷ ps) = refl
all_same (None ∷ ps) = all_same ps

bodies_same : (ts : List ThreadTree)
    → length (map (λ (t : CodeThread). t.body) (map code_thread ts)) ≡ length (map (λ (t : ThreadTree). t.body) ts)
bodies_same [] = refl
bodies_same (t ∷ ts) = ap suc (bodies_same ts)

final_same : (fits : ℤ → Bool) (x : MachineWithProgram) (ps : List (Option (Paused annotated_language))) (s : World)
    (o : Option ListTree)
    → SameRunning (final_begins (annotated_meaning fits x) ps s o)
    (final_begins (code_meaning (code_of x.program)) (erased_places ps) s.memory (option_map code_list o))
final_same fits x ps s None = refl
final_same fits x ps s (Some ss) = let n : ℕ = length (map (λ (t : ThreadTree). t.body) x.program.threads) in
    subst (λ k. SameRunning (paused_at (annotated_meaning fits x) n ps (run (annotated_statements fits x n) ss s))
    (paused_at (code_meaning (code_of x.program)) k (erased_places ps)
    (run (code_statements (decls_of x) k) (code_list ss) s.memory)))
    (sym (bodies_same x.program.threads))
    (paused_same fits x n ps (run (annotated_statements fits x n) ss s)
    (run (code_statements (decls_of x) n) (code_list ss) s.memory) (run_same fits x n ss s))

hand_same : (fits : ℤ → Bool) (x : MachineWithProgram) (c : Running annotated_language)
    → SameRunning (hand_over (annotated_meaning fits x) c)
    (hand_over (code_meaning (code_of x.program)) (erased_config c))
hand_same fits x c =
    subst (λ b. SameRunning (hand_over (annotated_meaning fits x) c)
    (if b then final_begins (code_meaning (code_of x.program)) (erased_places c.places) c.state.memory
    (option_map code_list x.program.last) else Ok (erased_config c))) (sym (all_same c.places))
    (tested (have_ended c.places)) where
      tested : (b : Bool)
          → SameRunning (if b then final_begins (annotated_meaning fits x) c.places
          (gather x c.state) x.program.last else Ok c)
          (if b then final_begins (code_meaning (code_of x.program)) (erased_places c.places) c.state.memory
          (option_map code_list x.program.last) else Ok (erased_config c))
      tested true = final_same fits x c.places (gather x c.state) x.program.last
      tested false = refl

event_at_same : (fits : ℤ → Bool) (x : MachineWithProgram) (t : ℕ) (c : Running annotated_language)
    (o : Option (Option (Paused annotated_language)))
    → SameRunning (event_at (annotated_meaning fits x) t c o)
    (event_at (code_meaning (code_of x.program)) t (erased_config c) (option_map (option_map erased_paused) o))
event_at_same fits x t c None = refl
event_at_same fits x t c (Some None) = refl
event_at_same fits x t c (Some (Some w)) =
    then_same (paused_at (annotated_meaning fits x) t c.places
    (unwind (annotated_statements fits x t) w.frames (step (annotated_statements fits x t) w.rest c.state)))
    (paused_at (code_meaning (code_of x.program)) t (erased_places c.places)
    (unwind (code_statements (decls_of x) t) (map erased_frame w.frames)
    (step (code_statements (decls_of x) t) (code_list w.rest) c.state.memory)))
    (λ (d : Running annotated_language). if nat_lt t
    (length (map (λ (t : ThreadTree). t.body) x.program.threads)) then hand_over
    (annotated_meaning fits x) d else Ok d)
    (λ (d : Running code_language). if nat_lt t
    (length (map (λ (t : CodeThread). t.body) (map code_thread x.program.threads))) then hand_over
    (code_meaning (code_of x.program)) d else Ok d)
    (paused_same fits x t c.places (unwind (annotated_statements fits x t) w.frames
    (step (annotated_statements fits x t) w.rest c.state))
    (unwind (code_statements (decls_of x) t) (map erased_frame w.frames)
    (step (code_statements (decls_of x) t) (code_list w.rest) c.state.memory))
    (unwind_same fits x t w.frames (step (annotated_statements fits x t) w.rest c.state)
    (step (code_statements (decls_of x) t) (code_list w.rest) c.state.memory) (step_same fits x t w.rest c.state)))
    (λ d. subst (λ k. SameRunning (if nat_lt t
    (length (map (λ (t : ThreadTree). t.body) x.program.threads)) then hand_over
    (annotated_meaning fits x) d else Ok d)
    (if nat_lt t k then hand_over (code_meaning (code_of x.program)) (erased_config d) else Ok (erased_config d)))
    (sym (bodies_same x.program.threads))
    (tested d (nat_lt t (length (map (λ (t : ThreadTree). t.body) x.program.threads))))) where
      tested : (d : Running annotated_language) (b : Bool)
          → SameRunning (if b then hand_over (annotated_meaning fits x) d else Ok d)
          (if b then hand_over (code_meaning (code_of x.program)) (erased_config d) else Ok (erased_config d))
      tested d true = hand_same fits x d
      tested d false = refl

event_same : (fits : ℤ → Bool) (x : MachineWithProgram) (t : ℕ) (c : Running annotated_language)
    → SameRunning (event (annotated_meaning fits x) t c) (event (code_meaning (code_of x.program)) t (erased_config c))
event_same fits x t c =
    subst (λ o. SameRunning (event (annotated_meaning fits x) t c)
    (event_at (code_meaning (code_of x.program)) t (erased_config c) o))
    (sym (slice_get-map (option_map erased_paused) c.places t))
    (event_at_same fits x t c (slice_get c.places t))

events_same : (fits : ℤ → Bool) (x : MachineWithProgram) (ts : List ℕ) (c : Running annotated_language)
    → SameRunning (events (annotated_meaning fits x) ts c)
    (events (code_meaning (code_of x.program)) ts (erased_config c))
events_same fits x [] c = refl
events_same fits x (t ∷ ts) c =
    then_same (event (annotated_meaning fits x) t c) (event (code_meaning (code_of x.program)) t (erased_config c))
    (events (annotated_meaning fits x) ts) (events (code_meaning (code_of x.program)) ts)
    (event_same fits x t c) (events_same fits x ts)

lead_same : (fits : ℤ → Bool) (x : MachineWithProgram) (t : ℕ) (bs : List ThreadTree) (c : Running annotated_language)
    → SameRunning (lead (annotated_meaning fits x) t (map (λ (t : ThreadTree). t.body) bs) c)
    (lead (code_meaning (code_of x.program)) t (map (λ (t : CodeThread). t.body) (map code_thread bs))
    (erased_config c))
lead_same fits x t [] c = refl
lead_same fits x t (b ∷ bs) c =
    then_same (paused_at (annotated_meaning fits x) t c.places (run (annotated_statements fits x t) b.body c.state))
    (paused_at (code_meaning (code_of x.program)) t (erased_places c.places)
    (run (code_statements (decls_of x) t) (code_list b.body) c.state.memory))
    (lead (annotated_meaning fits x) (suc t) (map (λ (t : ThreadTree). t.body) bs))
    (lead (code_meaning (code_of x.program)) (suc t) (map (λ (t : CodeThread). t.body) (map code_thread bs)))
    (paused_same fits x t c.places (run (annotated_statements fits x t) b.body c.state)
    (run (code_statements (decls_of x) t) (code_list b.body) c.state.memory) (run_same fits x t b.body c.state))
    (lead_same fits x (suc t) bs)

nowhere_same : (ts : List ThreadTree)
    → nowhere {g = code_language} (map (λ (t : CodeThread). t.body) (map code_thread ts)) ≡ erased_places
    (nowhere {g = annotated_language} (map (λ (t : ThreadTree). t.body) ts))
nowhere_same [] = refl
nowhere_same (t ∷ ts) = ap (λ ps. None ∷ ps) (nowhere_same ts)

begin_same : (fits : ℤ → Bool) (x : MachineWithProgram) (s : World)
    → SameRunning (start_from (annotated_meaning fits x) s) (start_from (code_meaning (code_of x.program)) s.memory)
begin_same fits x s =
    subst (λ ps. SameRunning (start_from (annotated_meaning fits x) s)
    (lead (code_meaning (code_of x.program)) 0
    (map (λ (t : CodeThread). t.body) (map code_thread x.program.threads)) (running s.memory ps)
    >>= hand_over (code_meaning (code_of x.program))))
    (sym (nowhere_same x.program.threads))
    (then_same (lead (annotated_meaning fits x) 0 (map (λ (t : ThreadTree). t.body) x.program.threads)
    (running s (nowhere (map (λ (t : ThreadTree). t.body) x.program.threads))))
    (lead (code_meaning (code_of x.program)) 0 (map (λ (t : CodeThread). t.body) (map code_thread x.program.threads))
    (running s.memory (erased_places (nowhere (map (λ (t : ThreadTree). t.body) x.program.threads)))))
    (hand_over (annotated_meaning fits x)) (hand_over (code_meaning (code_of x.program)))
    (lead_same fits x 0 x.program.threads (running s (nowhere (map (λ (t : ThreadTree). t.body) x.program.threads))))
    (hand_same fits x))

count_same : (x : MachineWithProgram) → length (map code_thread x.program.threads) ≡ length x.program.threads
count_same x = length-map x.program.threads code_thread

pub after_same : (fits : ℤ → Bool) (x : MachineWithProgram) (sigma : List ℕ)
    → SameRunning (after_in fits x sigma) (erased_after (code_of x.program) sigma)
after_same fits x sigma = from x.program.start where
  shared : (r : Result Shares Halt)
      → SameRunning (r >>= (λ (g : Shares). start_from (annotated_meaning fits x)
      (record { memory = memory_of x; shares = g }))) (start_from (code_meaning (code_of x.program)) (memory_of x))
  shared (Ok g) = begin_same fits x (record { memory = memory_of x; shares = g })
  shared (Err h) = tt

  started : (o : Option StartTree)
      → SameRunning (start_of fits x o) (start_from (code_meaning (code_of x.program)) (memory_of x))
  started (Some s) = shared (start_shares fits x s (memory_of x) (first_shares x (memory_of x)))
  started None = tt

  from : (o : Option StartTree)
      → SameRunning (start_of fits x o >>= events (annotated_meaning fits x) sigma)
      (erased_after (code_of x.program) sigma)
  from o =
      subst (λ n. SameRunning (start_of fits x o >>= events (annotated_meaning fits x) sigma)
      (start_from (code_meaning (code_of x.program)) (first_memory (decls_of x) n)
      >>= events (code_meaning (code_of x.program)) sigma))
      (sym (count_same x)) (then_same (start_of fits x o)
      (start_from (code_meaning (code_of x.program)) (memory_of x)) (events (annotated_meaning fits x) sigma)
      (events (code_meaning (code_of x.program)) sigma)
      (started o) (events_same fits x sigma))

pub erased_goes_along : ErasedGoesAlong
erased_goes_along fits x sigma c is =
    subst (λ r. SameRunning r (erased_after (code_of x.program) sigma)) is (after_same fits x sigma)
