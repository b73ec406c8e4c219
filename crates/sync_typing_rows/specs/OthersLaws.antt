-- What one thread does leaves to the others what they have.
use Rattle.std.specs.Prelude.{◌≡◌, ℕ, ◌≤◌, List, length}
use Rattle.sync_thread.specs.Programs.{KeepTree}
use Rattle.sync_thread.specs.Resting.{Round}
use Rattle.sync_thread_machine.specs.MachineWithProgram.{MachineWithProgram, fields_of}
use Rattle.sync_thread_meaning.specs.Meaning.{World, annotated_language}
use Rattle.sync_typing.specs.Environments.{Env}
use Rattle.sync_typing_laws.specs.Rests.{KnowsConstants}
use Rattle.sync_typing_laws.specs.Standing.{Standing, Stayed}
use Rattle.sync_typing_rows.specs.EndLaws.{HasEnded, IsThreadKeep}

-- where thread t went on alone
pub record OthersStay (x : MachineWithProgram) (known : Env) (t : ℕ) (s z : World) : Type 0 where
  pub stands : (u : ℕ) → (u ≡ t → ⊥) → (e : Env) (round : List (Round annotated_language Env))
      → Standing x known u e round s → Standing x known u e round z
  pub ended : (u : ℕ) → (u ≡ t → ⊥) → (k : KeepTree) → IsThreadKeep x known k → HasEnded x u s k → HasEnded x u z k

abbrev pub OthersAreLeft : Type 0
OthersAreLeft =
    (x : MachineWithProgram) (known : Env) → length (fields_of x) ≤ 32 → KnowsConstants x known
    → (t : ℕ) (s z : World) → Stayed x t s z → OthersStay x known t s z
