-- The law of ends: a thread that may come to its `end` ends, and has what its last keep says.
use Rattle.std.specs.Prelude.{◌≡◌, ℕ, ℤ, Bool, true, false, [], Some, None, Ok, slice_get}
use Rattle.sync_machine.specs.Naming.{is_in}
use Rattle.sync_exchange.specs.Exchange.{held_as}
use Rattle.sync_thread.specs.Programs.{JumpTree, KeepTree, ThreadTree}
use Rattle.sync_thread.specs.Resting.{PassesUnless}
use Rattle.sync_thread_machine.specs.MachineWithProgram.{MachineWithProgram}
use Rattle.sync_thread_meaning.specs.Meaning.{World, end_step}
use Rattle.sync_thread_meaning.specs.Shares.{hand_of, proofs_of}
use Rattle.sync_typing.specs.Environments.{Env}
use Rattle.sync_typing.specs.Keeps.{is_at_hand_in, keep_names_only, own_tokens}
use Rattle.sync_typing.specs.Lists.{jump_row}
use Rattle.sync_typing.specs.Names.{jump_is_named, keep_is_named, known_here, known_with}
use Rattle.sync_typing.specs.Typing.{constants, no_wrap}
use Rattle.sync_typing_laws.specs.Rests.{KnowsConstants}
use Rattle.sync_typing_laws.specs.RowLaws.{IsThreadOf, SparesWidth}
use Rattle.sync_typing_laws.specs.Ruling.{Meanings}
use Rattle.sync_typing_laws.specs.Standing.{IsWholeState, Standing, Stayed}
use Rattle.sync_typing_rows.specs.BeginLaws.{HasKept}

-- A keep of a text that names its own names and tokens and constants alone; `wrap` names nothing in it.
pub record IsThreadKeep (x : MachineWithProgram) (known : Env) (k : KeepTree) : Type 0 where
  pub named : keep_is_named x (known_with x []) k ≡ true
  pub at_hand : keep_names_only (is_at_hand_in (constants known) k) k ≡ true

-- thread t has what the keep says, a value for each of the keep's names, and nothing else
pub record HasEnded (x : MachineWithProgram) (t : ℕ) (s : World) (k : KeepTree) : Type 0 where
  pub kept : HasKept x t s k
  pub hand : (n : ℕ) → is_in n (own_tokens k) ≡ false → held_as n (hand_of s.shares t) ≡ None
  pub proofs : (y : ℕ) → is_in y k.names ≡ false → proofs_of s.shares t y ≡ None
  pub given : (y : ℕ) → is_in y k.names ≡ true → (n : ℤ) × (proofs_of s.shares t y ≡ Some n)

abbrev pub EndsGoOn : Meanings → Type 0
EndsGoOn m =
    (fits : ℤ → Bool) (x : MachineWithProgram) (known : Env) (t : ℕ) → IsThreadOf x t → KnowsConstants x known
    → SparesWidth m fits x t → (thread : ThreadTree) → slice_get x.program.threads t ≡ Some thread
    → IsThreadKeep x known thread.ends
    → (j : JumpTree) → jump_is_named (known_here x) j (Some thread.ends) ≡ true → (line : ℕ) (e same : Env)
    → jump_row line j (Some (record { keep = thread.ends; wrap = no_wrap })) e ≡ Ok same
    → (s : World) → IsWholeState x s → Standing x known t e [] s
    → PassesUnless m.Spares (end_step fits x t j s)
    (λ z. IsWholeState x z × Stayed x t s z × HasEnded x t z thread.ends)
