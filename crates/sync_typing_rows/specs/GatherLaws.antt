-- The law of the final block's taking over: it has what the last keeps of all threads say.
use Rattle.std.specs.Prelude.{◌≡◌, ℕ, ◌<◌, true, [], Some, None, length, slice_get}
use Rattle.sync_terms.specs.Values.{Valuation}
use Rattle.sync_thread.specs.Code.{locals_of}
use Rattle.sync_thread.specs.Programs.{ThreadTree}
use Rattle.sync_thread_machine.specs.MachineWithProgram.{MachineWithProgram}
use Rattle.sync_thread_meaning.specs.Meaning.{World, gather}
use Rattle.sync_thread_meaning.specs.Shares.{hand_of, proofs_of}
use Rattle.sync_typing.specs.Environments.{Env}
use Rattle.sync_typing.specs.Names.{ends_are_apart}
use Rattle.sync_typing.specs.Typing.{all_ends}
use Rattle.sync_typing_laws.specs.Rests.{HasConstants, KnowsConstants}
use Rattle.sync_typing_laws.specs.RowLaws.{IsThreadOf}
use Rattle.sync_typing_laws.specs.Standing.{IsWholeState}
use Rattle.sync_typing_rows.specs.BeginLaws.{HasBegun}
use Rattle.sync_typing_rows.specs.EndLaws.{HasEnded, IsThreadKeep}

-- the final block has nothing yet, and constants have the values that are known
pub record HasNothingYet (x : MachineWithProgram) (known : Env) (s : World) : Type 0 where
  pub hand : hand_of s.shares (length x.program.threads) ≡ []
  pub proofs : (y : ℕ) → proofs_of s.shares (length x.program.threads) y ≡ None
  pub locals : (y : ℕ) → locals_of s.memory (length x.program.threads) y ≡ 0
  pub constants : (v : Valuation) → HasConstants x v known s

-- all threads have ended
abbrev pub AllHaveEnded : MachineWithProgram → World → Type 0
AllHaveEnded x s = (t : ℕ) (u : ThreadTree) → slice_get x.program.threads t ≡ Some u → HasEnded x t s u.ends

-- the final block has taken over, and the state is as whole as before
pub record HasTakenAll (x : MachineWithProgram) (known : Env) (s : World) : Type 0 where
  pub whole : IsWholeState x s
  pub left : (t : ℕ) → t < length x.program.threads → hand_of s.shares t ≡ []
  pub begun : HasBegun x (length x.program.threads) s (all_ends x.program)
  pub constants : (v : Valuation) → HasConstants x v known s

abbrev pub GathersGoOn : Type 0
GathersGoOn =
    (x : MachineWithProgram) (known : Env) → IsThreadOf x (length x.program.threads) → KnowsConstants x known
    → ((t : ℕ) (u : ThreadTree) → slice_get x.program.threads t ≡ Some u → IsThreadKeep x known u.ends)
    → ends_are_apart x.program ≡ true
    → (s : World) → IsWholeState x s → HasNothingYet x known s → AllHaveEnded x s → HasTakenAll x known (gather x s)
