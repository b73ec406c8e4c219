-- The moments of a program: its start, what the events of a schedule leave, and where numbers grow too wide.
use Rattle.std.specs.Prelude.{◌≡◌, ℕ, suc, ℤ, pos, Bool, false, ◌⊎◌, if◌then◌else◌, List, [], ◌∷◌, ◌++◌, length, map}
use Rattle.std.specs.Prelude.{replicate, take, Option, Some, None, Result, Ok, Err}
use Rattle.sync_base.specs.Outcome.{◌>>=◌}
use Rattle.sync_terms.specs.Maps as maps
use Rattle.sync_machine.specs.declared.fields.Field.{Field}
use Rattle.sync_join.specs.declared.tokens.Token.{Token}
use Rattle.sync_exchange.specs.declared.hands.Held.{Held}
use Rattle.sync_thread.specs.declared.operands.Line.{Line}
use Rattle.sync_thread.specs.declared.operands.Moved.{Moved}
use Rattle.sync_thread.specs.declared.operands.Moved.TheVariants.{Stepped, Nothing}
use Rattle.sync_machine.specs.States.{Value, Number, Mapped, State, Sort, Numbers, Maps, sort_of}
use Rattle.sync_join.specs.Shards.{Kept}
use Rattle.sync_join.specs.Join.{join_of}
use Rattle.sync_entries.specs.Narrow.{is_narrow}
use Rattle.sync_exchange.specs.Exchange.{permission}
use Rattle.sync_thread.specs.Control.{Halt, Broken, Wide, Language, Paused, ProgramMeaning, Running, event, events}
use Rattle.sync_thread.specs.Control.{start_from, waits_at}
use Rattle.sync_thread.specs.Programs.{ClauseTree, StartTree, is_empty}
use Rattle.sync_thread.specs.Code.{Memory, first_memory}
use Rattle.sync_thread_meaning.specs.Shares.{Owned, Shares, hand_of, all_shards, nowhere_near, sight_of, WordAt}
use Rattle.sync_thread_meaning.specs.Shares.{array_words, found, no_bound}
use Rattle.sync_thread.specs.Arrays.{cell_token}
use Rattle.sync_thread_meaning.specs.MachineWithProgram.{MachineWithProgram, fields_of, decls_of}
use Rattle.sync_thread_meaning.specs.Meaning.{InStart, proof_steps, keeping, annotated_language, annotated_meaning}
use Rattle.sync_thread_meaning.specs.Exchanges.{state_fits, exchanged}

-- ---- the start

-- nothing is recorded yet
abbrev pub blank_value : Sort → Value
blank_value Numbers = Number (pos 0)
blank_value Maps = Mapped maps.nil

abbrev pub first_kept : List Field → Kept
first_kept fs = record { records = map (λ (f : Field). blank_value (sort_of f.strategy)) fs; stored = [] }

-- the permissions of the cells, from number n on
abbrev pub permissions_from : ℕ → List ℕ → List Held
permissions_from n [] = []
permissions_from n (v ∷ vs) =
    record { name = cell_token n; token = permission (pos n) (pos v) } ∷ permissions_from (suc n) vs

-- a word owns nothing yet
abbrev pub owns_nothing : WordAt → Owned
owns_nothing p =
    record { tokens = map (λ (c : ClauseTree). None) p.word.clauses; values = map (λ n. pos 0) p.word.names }

-- The permissions are in the hand of the final block, where the start's statements run.
abbrev pub first_shares : MachineWithProgram → Memory → Shares
first_shares x m = record {
  kept = first_kept (fields_of x);
  hands = replicate (length x.program.threads) [] ++ permissions_from 0 m.cells ∷ [];
  proofs = replicate (suc (length x.program.threads)) (λ n. None);
  wraps = replicate (suc (length x.program.threads)) (pos 0);
  owned = map owns_nothing (array_words x.program.decls);
  dust = [];
}

abbrev pub starter : MachineWithProgram → ℕ
starter x = length x.program.threads

abbrev pub memory_of : MachineWithProgram → Memory
memory_of x = first_memory (decls_of x) (length x.program.threads)

-- The exchange of an init, and the statements after it; what is left of the hand is dropped.
abbrev pub start_shares : (ℤ → Bool) → MachineWithProgram → StartTree → Memory → Shares → Result Shares Halt
start_shares fits x s m g =
    exchanged fits x (starter x) (sight_of (fields_of x) m g (starter x) nowhere_near) s.form [] g
    >>= (λ (h : Shares). proof_steps fits x (starter x) InStart m s.steps h)
    >>= (λ (h : Shares). Ok (keeping (starter x) [] (hand_of h (starter x)) (λ n. None) h))

-- The words, the cells, the lines printed so far and the locals; the tokens; and where each thread and the final block
-- pause.
abbrev pub Configuration : Type 0
Configuration = Running annotated_language

-- A program without a start has no configuration. Of texts that is the empty program alone.
abbrev pub start_of : (ℤ → Bool) → MachineWithProgram → Option StartTree → Result Configuration Halt
start_of fits x (Some s) = start_shares fits x s (memory_of x) (first_shares x (memory_of x))
    >>= (λ (g : Shares). start_from (annotated_meaning fits x) (record { memory = memory_of x; shares = g }))
start_of fits x None = Err Broken

-- ---- moments

abbrev pub after_in : (ℤ → Bool) → MachineWithProgram → List ℕ → Result Configuration Halt
after_in fits x sigma = start_of fits x x.program.start >>= events (annotated_meaning fits x) sigma

-- what the events of a list of numbers leave, with numbers without bound
abbrev pub after : MachineWithProgram → List ℕ → Result Configuration Halt
after = after_in no_bound

-- the shards, at a moment
abbrev pub bag_in : Configuration → List Token
bag_in c = all_shards c.state.shares

-- ---- what a schedule leaves

-- somebody's event is a step exactly where he waits: he has not ended, and as the final block all threads have
abbrev pub moved_at : {g : Language} → ℕ → List (Option (Paused g)) → Moved
moved_at t ps = if waits_at t ps then Stepped else Nothing

abbrev pub if_it_goes_on : {A B : Type 0} → Result A Halt → (A → List B) → List B
if_it_goes_on (Ok a) f = f a
if_it_goes_on (Err h) f = []

-- for each event of a list whether it is a step
abbrev pub moves_of : {g : Language} → ProgramMeaning g → List ℕ → Running g → List Moved
moves_of p [] c = []
moves_of p (t ∷ ts) c = moved_at t c.places ∷ if_it_goes_on (event p t c) (moves_of p ts)

pub record TraceTree : Type 0 where
  pub moved : List Moved
  pub lines : List Line
  pub words : List ℕ
  pub state : State

-- what the events of a list of numbers leave, from a configuration on; the fields' values are the join of all shards
abbrev pub trace_from : MachineWithProgram → List ℕ → Configuration → Result TraceTree Halt
trace_from x sigma c =
    events (annotated_meaning no_bound x) sigma c
    >>= (λ (d : Configuration). found (join_of (fields_of x) (bag_in d) d.state.shares.kept) >>= (λ (s : State).
    Ok (record {
      moved = moves_of (annotated_meaning no_bound x) sigma c;
      lines = d.state.memory.lines;
      words = d.state.memory.words;
      state = s;
    })))

-- For the empty program every event changes nothing, and there are no fields, lines or words.
abbrev pub trace_of : MachineWithProgram → List ℕ → Result TraceTree Halt
trace_of x sigma =
    if is_empty x.program then Ok (record {
      moved = map (λ (t : ℕ). Nothing) sigma;
      lines = [];
      words = [];
      state = [];
    })
    else start_of no_bound x x.program.start >>= trace_from x sigma

-- ---- numbers outside the bound

-- a joined field is outside signed 128 bits
pub record IsWideAt (x : MachineWithProgram) (sigma : List ℕ) : Type 0 where
  pub here : Configuration
  pub is : after_in is_narrow x sigma ≡ Ok here
  pub state : State
  pub joined : join_of (fields_of x) (bag_in here) here.state.shares.kept ≡ Some state
  pub wide : state_fits is_narrow state ≡ false

-- The first k events compute or leave a number outside signed 128 bits, or the fields are outside after the last one.
abbrev pub IsWide : MachineWithProgram → List ℕ → ℕ → Type 0
IsWide x sigma k = (after_in is_narrow x (take k sigma) ≡ Err Wide) ⊎ ((k ≡ length sigma) × IsWideAt x sigma)
