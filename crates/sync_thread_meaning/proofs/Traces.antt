-- What a schedule leaves is at the moment after its events, with one answer for each of them.
use Rattle.std.specs.Prelude.{◌≡◌, ℕ, suc, Bool, false, if◌then◌else◌, List, [], ◌∷◌, length, map, Option, Some, None}
use Rattle.std.specs.Prelude.{Result, Ok, Err}
use mathlib.Core.Path.{refl, sym, ap, subst, ◌∙◌}
use Rattle.sync_base.specs.Outcome.{◌>>=◌}
use Rattle.sync_machine.specs.States.{State}
use Rattle.sync_join.specs.Join.{join_of}
use Rattle.sync_thread.specs.declared.operands.Moved.{Moved}
use Rattle.sync_thread.specs.declared.operands.Moved.TheVariants.{Nothing}
use Rattle.sync_thread.specs.Control.{Halt, Broken, Language, ProgramMeaning, Running, event, events}
use Rattle.sync_thread.specs.Programs.{is_empty}
use Rattle.sync_thread_meaning.specs.MachineWithProgram.{MachineWithProgram, fields_of}
use Rattle.sync_thread_meaning.specs.Shares.{no_bound, found}
use Rattle.sync_thread_meaning.specs.Meaning.{annotated_meaning}
use Rattle.sync_thread_meaning.specs.Laws.{IsTraceAt, TracesAreOfMoments}
use Rattle.sync_thread_meaning.specs.Moments.{Configuration, start_of, bag_in, if_it_goes_on, moves_of, TraceTree}
use Rattle.sync_thread_meaning.specs.Moments.{trace_from}

abbrev pub IsOk : {A : Type 0} → Result A Halt → Type 0
IsOk (Ok a) = Unit {0}
IsOk (Err h) = ⊥

abbrev ok_or : {A : Type 0} → A → Result A Halt → A
ok_or d (Ok a) = a
ok_or d (Err h) = d

abbrev pub IsLeft : {A : Type 0} → Result A Halt → A → Type 0
IsLeft r a = r ≡ Ok a

ok_same : {A : Type 0} (a b : A) → IsLeft (Ok a) b → a ≡ b
ok_same a b same = ap (ok_or a) same

no_err : {A : Type 0} (h : Halt) (a : A) → IsLeft (Err h) a → ⊥
no_err h a same = subst IsOk (sym same) tt

-- one answer for each event, where all go on
pub moves_length : {g : Language} (p : ProgramMeaning g) (sigma : List ℕ) (c : Running g) → IsOk (events p sigma c)
    → length (moves_of p sigma c) ≡ length sigma
moves_length p [] c goes = refl
moves_length {g = g} p (t ∷ ts) c goes = ap suc (rest (event p t c) (λ d. moves_length p ts d) goes) where
  rest : (r : Result (Running g) Halt)
      → ((d : Running g) → IsOk (events p ts d) → length (moves_of p ts d) ≡ length ts) → IsOk (r >>= events p ts)
      → length (if_it_goes_on r (moves_of p ts)) ≡ length ts
  rest (Ok d) later goes = later d goes
  rest (Err h) later goes = absurd goes

-- what is told of a configuration
abbrev told : List Moved → Configuration → State → TraceTree
told ms d s = record { moved = ms; lines = d.state.memory.lines; words = d.state.memory.words; state = s }

abbrev from_state : List Moved → Configuration → Option State → Result TraceTree Halt
from_state ms d o = found o >>= (λ (s : State). Ok (told ms d s))

from_join : (x : MachineWithProgram) (ms : List Moved) (d : Configuration) (r : TraceTree) (o : Option State)
    → join_of (fields_of x) (bag_in d) d.state.shares.kept ≡ o → from_state ms d o ≡ Ok r → IsTraceAt x r d
    × (r.moved ≡ ms)
from_join x ms d r (Some s) is same =
    subst (λ (q : TraceTree). IsTraceAt x q d × (q.moved ≡ ms)) (ok_same (told ms d s) r same)
    (record { lines = refl; words = refl; joined = is }, refl)
from_join x ms d r None is same = absurd (no_err Broken r same)

from_events : (x : MachineWithProgram) (ms : List Moved) (r : TraceTree) (q : Result Configuration Halt)
    → (q >>= (λ (d : Configuration). from_state ms d (join_of (fields_of x) (bag_in d) d.state.shares.kept))) ≡ Ok r
    → (here : Configuration) × (q ≡ Ok here) × IsTraceAt x r here × (r.moved ≡ ms)
from_events x ms r (Ok d) same = let (trace, moved) =
    from_join x ms d r (join_of (fields_of x) (bag_in d) d.state.shares.kept) refl same in
    (d, refl, trace, moved)
from_events x ms r (Err h) same = absurd (no_err h r same)

from_start : (x : MachineWithProgram) (sigma : List ℕ) (r : TraceTree) (q : Result Configuration Halt)
    → (q >>= trace_from x sigma) ≡ Ok r
    → (here : Configuration) × ((q >>= events (annotated_meaning no_bound x) sigma) ≡ Ok here) × IsTraceAt x r here
    × (length r.moved ≡ length sigma)
from_start x sigma r (Ok c) same =
    let (here, is, trace, moved) = from_events x (moves_of (annotated_meaning no_bound x) sigma c) r
    (events (annotated_meaning no_bound x) sigma c) same in
    (here, is, trace, ap length moved ∙ moves_length (annotated_meaning no_bound x) sigma c (subst IsOk (sym is) tt))
from_start x sigma r (Err h) same = absurd (no_err h r same)

of_false : {A : Type 0} (b : Bool) (one two : A) → b ≡ false → (if b then one else two) ≡ two
of_false {A} b one two is = subst (λ c. (if c then one else two) ≡ two) (sym is) refl

pub traces_are_of_moments : TracesAreOfMoments
traces_are_of_moments x sigma r some same =
    let empty : Result TraceTree Halt =
    Ok (record { moved = map (λ (t : ℕ). Nothing) sigma; lines = []; words = []; state = [] }) in
    let tells : Result TraceTree Halt = start_of no_bound x x.program.start >>= trace_from x sigma in
    let (here, comes, trace, each) = from_start x sigma r (start_of no_bound x x.program.start)
    (subst (λ q. q ≡ Ok r) (of_false (is_empty x.program) empty tells some) same) in
    record { here = here; comes = comes; trace = trace; each = each }
