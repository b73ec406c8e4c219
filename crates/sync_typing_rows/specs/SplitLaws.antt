-- The laws of the rows of `split` and `merge`.
use Rattle.std.specs.Prelude.{ℕ, ℤ, Bool, List}
use Rattle.sync_terms.specs.Trees.{Tree}
use Rattle.sync_thread.specs.Programs.{Merge, Proof, ScriptTree, Split}
use Rattle.sync_thread_machine.specs.MachineWithProgram.{MachineWithProgram}
use Rattle.sync_typing.specs.Environments.{Env}
use Rattle.sync_typing_laws.specs.RowLaws.{IsThreadOf, LocalGoesOn, SparesWidth}
use Rattle.sync_typing_laws.specs.Ruling.{Meanings}

pub record SplitsGoOn (m : Meanings) (fits : ℤ → Bool) (x : MachineWithProgram) (known : Env) (t : ℕ) : Type 0 where
  pub splits : (n one two : ℕ) (amount : Tree) (ss : List ScriptTree)
      → LocalGoesOn m fits x known t (Proof (Split n one two amount ss))
  pub merges : (a b into : ℕ) → LocalGoesOn m fits x known t (Proof (Merge a b into))

abbrev pub SplitRowsGoOn : Meanings → Type 0
SplitRowsGoOn m =
    (fits : ℤ → Bool) (x : MachineWithProgram) (known : Env) (t : ℕ) → IsThreadOf x t → SparesWidth m fits x t
    → SplitsGoOn m fits x known t
