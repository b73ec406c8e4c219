-- That what the typing rules accept is sound, and the steps of the way there.
use Rattle.std.specs.Prelude.{◌≡◌, ℕ, ◌≤◌, pos, Bool, true, false, List, [], length, Option, Some, None, Ok}
use Rattle.sync_terms.specs.Values.{Valuation}
use Rattle.sync_machine.specs.Machines.{MachineTree}
use Rattle.sync_machine.specs.Naming.{is_in}
use Rattle.sync_exchange.specs.Projection.{IsProved}
use Rattle.sync_thread.specs.Control.{event}
use Rattle.sync_thread.specs.Programs.{ProgramTree, StartTree, ClosingTree, CaseTree, Open, Case, Close}
use Rattle.sync_thread_machine.specs.MachineWithProgram.{MachineWithProgram, fields_of, decls_of}
use Rattle.sync_thread_meaning.specs.Meaning.{World, InBlock, proof_step, annotated_meaning}
use Rattle.sync_thread_meaning.specs.Moments.{Configuration, start_of}
use Rattle.sync_thread_meaning.specs.Shares.{Shares, no_bound}
use Rattle.sync_thread_meaning.specs.Sound.{IsSound}
use Rattle.sync_thread_meaning.specs.Words.{OpenBlock}
use Rattle.sync_typing.specs.Blocks.{Inside, is_guarded, open_row, case_row, close_row, AroundTree}
use Rattle.sync_typing.specs.Environments.{Env}
use Rattle.sync_typing.specs.Names.{AreNamed, KeepsNames, decls_are_named, AtWord, proof_is_named}
use Rattle.sync_typing.specs.Typing.{type_fault, program_fault}
use Rattle.sync_typing_laws.specs.Rests.{IsTidy, StandsAt, StandsAround, StandsOpen, IsKeptAt, AgreeBelow, Rests}

-- A proved machine with a program that keeps the names and breaks no typing rule is a sound text.
abbrev pub TypedIsSound : Type 0
TypedIsSound =
    (m : MachineTree) → IsProved m → (p : ProgramTree) → KeepsNames m p → type_fault m p ≡ None
    → IsSound (record { machine = m; program = p })

-- ---- the way there: a start that rests, and events that keep it so, with numbers without bound

pub record IsAccepted (x : MachineWithProgram) : Type 0 where
  pub proved : IsProved x.machine
  pub named : AreNamed x
  pub typed : program_fault x ≡ None

abbrev pub StartRests : Type 0
StartRests =
    (x : MachineWithProgram) → IsAccepted x → (s : StartTree) → x.program.start ≡ Some s
    → (known : Env) × (c : Configuration) × (start_of no_bound x (Some s) ≡ Ok c) × Rests x known c

abbrev pub EventRests : Type 0
EventRests =
    (x : MachineWithProgram) → IsAccepted x → (known : Env) (c : Configuration) → Rests x known c → (t : ℕ)
    → (d : Configuration) × (event (annotated_meaning no_bound x) t c ≡ Ok d) × Rests x known d

-- ---- the statements that open and close a word

-- Of the text they take its words' names and the number of its fields for granted: the text need not be accepted.
pub record HasNamedWords (x : MachineWithProgram) : Type 0 where
  pub named : decls_are_named x ≡ true
  pub few_fields : length (fields_of x) ≤ 32

abbrev pub world_with : World → Shares → World
world_with s g = record s { shares = g }

-- A word that is kept at its old value opens; what is then known is so, and what was known stays.
abbrev pub OpenStands : Type 0
OpenStands =
    (x : MachineWithProgram) → HasNamedWords x
    → (is_assigned : ℕ → Bool) (v : Valuation) (e : Env) (a : AroundTree) (t : ℕ) (s : World) (b : OpenBlock)
    → t ≤ length x.program.threads → IsTidy x s → StandsAt x is_assigned v e t s → StandsAround x v e a b → (old : ℕ)
    → b.around.old ≡ pos old → IsKeptAt x b.number old s → b.decided ≡ []
    → (line : ℕ) (names tokens : List ℕ) (label : Option ℕ)
    → proof_is_named x (AtWord a.word) (Open names tokens label) ≡ true
    → ((y : ℕ) → is_assigned y ≡ true → is_in y names ≡ false)
    → (c : Inside) → open_row line a names tokens label e ≡ Ok c
    → (g : Shares) × (proof_step no_bound x t (InBlock b) s.memory (Open names tokens label) s.shares ≡ Ok g)
    × IsTidy x (world_with s g) × (w : Valuation) × AgreeBelow e.fresh v w × StandsOpen x is_assigned w c a t
    (world_with s g) b

-- A guarded clause that was not decided is decided as the row says.
abbrev pub CaseStands : Type 0
CaseStands =
    (x : MachineWithProgram) → HasNamedWords x
    → (is_assigned : ℕ → Bool) (v : Valuation) (c : Inside) (a : AroundTree) (t : ℕ) (s : World) (b : OpenBlock)
    → t ≤ length x.program.threads → IsTidy x s → StandsOpen x is_assigned v c a t s b → (line : ℕ) (form : CaseTree)
    → proof_is_named x (AtWord a.word) (Case form) ≡ true → is_guarded a.word form.clause ≡ true
    → is_in form.clause c.decided ≡ false
    → (d : Inside) → case_row line a form c ≡ Ok d
    → (g : Shares) × (proof_step no_bound x t (InBlock b) s.memory (Case form) s.shares ≡ Ok g) × IsTidy x
    (world_with s g) × StandsOpen x is_assigned v d a t (world_with s g) (record b { decided = d.decided })

-- The word closes and is kept at its new value.
abbrev pub CloseStands : Type 0
CloseStands =
    (x : MachineWithProgram) → HasNamedWords x
    → (is_assigned : ℕ → Bool) (v : Valuation) (c : Inside) (a : AroundTree) (t : ℕ) (s : World) (b : OpenBlock)
    → t ≤ length x.program.threads → IsTidy x s → StandsOpen x is_assigned v c a t s b → (new : ℕ)
    → b.around.new ≡ pos new → (line : ℕ) (form : ClosingTree)
    → proof_is_named x (AtWord a.word) (Close form) ≡ true
    → (d : Inside) → close_row line (decls_of x) a form c ≡ Ok d
    → (g : Shares) × (proof_step no_bound x t (InBlock b) s.memory (Close form) s.shares ≡ Ok g) × IsTidy x
    (world_with s g) × StandsAt x is_assigned v d.env t (world_with s g) × IsKeptAt x b.number new (world_with s g)
