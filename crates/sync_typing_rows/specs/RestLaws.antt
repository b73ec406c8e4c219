-- A typed program rests at each moment, where its rows of exchanges and of words are sound and its start leaves what
-- the threads begin with.
use Rattle.std.specs.Prelude.{◌≡◌, ℕ, ℤ, ◌<◌, ◌≤◌, Bool, false, if◌then◌else◌, List, [], ◌∷◌, length, Option, Some, None, Ok, slice_get}
use Rattle.sync_terms.specs.Trees.{Tree, neg}
use Rattle.sync_exchange_values.specs.Fitting.{number_fits}
use Rattle.sync_terms.specs.Values.{Valuation}
use Rattle.sync_thread.specs.Control.{Halt, OnWhen, Wide}
use Rattle.sync_thread.specs.Programs.{AtomicTree, ChoiceTree, DoTree, Exchange, IndexTree, KeepTree, ListTree, Operate, Peek, Proof, ProofStepTree, StartTree, ThreadTree, WordTree}
use Rattle.sync_thread.specs.Resting.{Advances, AtRest, PassesUnless, Round, branch}
use Rattle.sync_thread_machine.specs.MachineWithProgram.{MachineWithProgram, fields_of}
use Rattle.sync_thread_meaning.specs.Meaning.{World, annotated_language, annotated_meaning, choice_step}
use Rattle.sync_thread_meaning.specs.Moments.{after_in, first_shares, memory_of, start_shares}
use Rattle.sync_thread_meaning.specs.Shares.{Shares, hand_of, wrap_of}
use Rattle.sync_typing.specs.Environments.{Env}
use Rattle.sync_typing.specs.Lists.{Spot, around_tree, branch_row, choice_row, word_of}
use Rattle.sync_typing.specs.Locals.{condition}
use Rattle.sync_typing.specs.Names.{AreNamed}
use Rattle.sync_typing.specs.Typing.{final_fault, threads_fault}
use Rattle.sync_typing_laws.specs.Rests.{IsPart, KnowsConstants}
use Rattle.sync_typing_laws.specs.RowLaws.{LocalGoesOn, SharedGoesOn}
use Rattle.sync_typing_laws.specs.Ruling.{Meanings, rules_of, scene_at, when_dues}
use Rattle.sync_typing_laws.specs.Standing.{IsWholeState, Standing, Stayed, standing_in, with_names}
use Rattle.sync_typing_rows.specs.BeginLaws.{HasBegun}
use Rattle.sync_typing_rows.specs.EndLaws.{HasEnded, IsThreadKeep}
use Rattle.sync_typing_rows.specs.GatherLaws.{HasNothingYet}

-- an ended thread has what its last keep says; of the final block nothing is asked
abbrev pub EndedBy : MachineWithProgram → ℕ → World → Option ThreadTree → Type 0
EndedBy x t s None = Unit {0}
EndedBy x t s (Some u) = HasEnded x t s u.ends

-- Environments stand for threads of a whole state, and lists are named; these failures are spared.
abbrev pub meanings_of : MachineWithProgram → Env → (Halt → Type 0) → Meanings
meanings_of x known spares = with_names x (record {
  Stands = Standing x known;
  Overall = IsWholeState x;
  Stays = Stayed x;
  HasLeft = λ t s. EndedBy x t s (slice_get x.program.threads t);
  HasNothing = HasNothingYet x known;
  HasTaken = λ s. (t : ℕ) → t < length x.program.threads → hand_of s.shares t ≡ [];
  Spares = spares;
  Part = λ t p list. IsPart x (scene_at x t).locals p list;
  Keeps = λ t k. Unit {0};
  Jumps = λ t k j. Unit {0};
})

-- a text whose names are kept and whose threads and final block break no rule, after a start that knows these constants
pub record IsTypedText (x : MachineWithProgram) (known : Env) : Type 0 where
  pub named : AreNamed x
  pub few : length (fields_of x) ≤ 32
  pub knows : KnowsConstants x known
  pub threads : threads_fault x known x.program.threads ≡ None
  pub last : final_fault x known x.program.last ≡ None

-- the row of `when`
abbrev pub ChoicesGoOn : Meanings → (ℤ → Bool) → MachineWithProgram → Env → ℕ → Type 0
ChoicesGoOn m fits x known t =
    (p : Spot) (a : ChoiceTree) (n : ℕ) (one two : ListTree) (joined : Option KeepTree) (rest : ListTree)
    → IsPart x (scene_at x t).locals p (OnWhen a n one two joined rest)
    → (w : WordTree) → word_of (scene_at x t) a.atomic.word ≡ Some w → (e before first second : Env)
    → choice_row n w a (when_dues w a one two joined) joined e ≡ Ok before
    → branch_row (scene_at x t) n (around_tree w e a.atomic) a.test.label
    (condition before a.test.cond) a.first before ≡ Ok first
    → branch_row (scene_at x t) n (around_tree w e a.atomic) a.test.label
    (neg (condition before a.test.cond)) a.second before ≡ Ok second
    → (round : List (Round annotated_language Env)) (s : World) → IsWholeState x s → Standing x known t e round s
    → PassesUnless m.Spares (choice_step fits x t a s) (λ (y : Bool × World).
    Advances (rules_of x (standing_in x known m.Spares m)) t s (if y.0 then first else second)
    (branch joined (wrap_of y.1.shares t) before ∷ round) y.1)

-- the rows of exchanges and of operations on words
pub record ExchangesGoOn (m : Meanings) (fits : ℤ → Bool) (x : MachineWithProgram) (known : Env) (t : ℕ) : Type 0 where
  pub exchanges : (d : DoTree) → LocalGoesOn m fits x known t (Proof (Exchange d))
  pub peeks : (y c : ℕ) (i : IndexTree) (d : DoTree) → SharedGoesOn m fits x known t (Peek y c i d)
  pub operates : (a : AtomicTree) (block : List ProofStepTree) → SharedGoesOn m fits x known t (Operate a block)
  pub choices : ChoicesGoOn m fits x known t

-- what the start leaves: a whole state, in which each thread has what its first keep says
pub record StartLeaves (x : MachineWithProgram) (known : Env) (s : World) : Type 0 where
  pub whole : IsWholeState x s
  pub nothing : HasNothingYet x known s
  pub takes : (t : ℕ) (u : ThreadTree) → slice_get x.program.threads t ≡ Some u → IsThreadKeep x known u.takes
  pub begun : (t : ℕ) (u : ThreadTree) → slice_get x.program.threads t ≡ Some u → HasBegun x t s (u.takes ∷ [])

-- The failures that are spared, that by width among them where numbers have a bound, are those of other meanings.
abbrev pub TypedTextsRest : Meanings → Type 0
TypedTextsRest m =
    (fits : ℤ → Bool) → ((v : Valuation) (u : Tree) → number_fits fits v u ≡ false → m.Spares Wide)
    → (x : MachineWithProgram) (known : Env) → IsTypedText x known
    → ((t : ℕ) → t ≤ length x.program.threads → ExchangesGoOn (meanings_of x known m.Spares) fits x known t)
    → (start : StartTree) → x.program.start ≡ Some start
    → PassesUnless m.Spares (start_shares fits x start (memory_of x) (first_shares x (memory_of x)))
    (λ (h : Shares). StartLeaves x known (record { memory = memory_of x; shares = h }))
    → (sigma : List ℕ) → PassesUnless m.Spares (after_in fits x sigma)
    (AtRest (rules_of x (meanings_of x known m.Spares)) (annotated_meaning fits x))
