-- The laws of single rows: where a row gives an environment its statement does not fail, and the environment stands.
use Rattle.std.specs.Prelude.{◌≡◌, ℕ, ℤ, ◌≤◌, Bool, true, false, if◌then◌else◌, List, [], ◌∷◌, length, Option, Ok}
use Rattle.sync_terms.specs.Trees.{Tree, Formula, neg}
use Rattle.sync_exchange_values.specs.Fitting.{number_fits}
use Rattle.sync_thread.specs.declared.operands.Calc.{Calc}
use Rattle.sync_thread.specs.declared.operands.Opd.{Opd}
use Rattle.sync_thread.specs.declared.operands.Tok.{Tok}
use Rattle.sync_thread.specs.Code.{satisfies}
use Rattle.sync_thread.specs.Control.{Wide, Do, On, If}
use Rattle.sync_thread.specs.Programs.{IndexTree, KeepTree, ListTree, LocalTree, ScriptTree, SharedTree, TestTree, Set, Proof, Let, Assert, Move, Copy, Print, Read, Write}
use Rattle.sync_thread.specs.Resting.{Advances, PassesUnless, Round, branch}
use Rattle.sync_thread_machine.specs.MachineWithProgram.{MachineWithProgram, fields_of}
use Rattle.sync_thread_meaning.specs.Meaning.{World, annotated_language, local_step, shared_step}
use Rattle.sync_thread_meaning.specs.Shares.{nowhere_near, sight_of, wrap_of}
use Rattle.sync_typing.specs.Environments.{Env, tell}
use Rattle.sync_typing.specs.Lists.{Spot, assigned_locals, local_row, shared_row}
use Rattle.sync_typing.specs.Locals.{condition}
use Rattle.sync_typing.specs.Names.{are_names}
use Rattle.sync_typing_laws.specs.Rests.{IsPart}
use Rattle.sync_typing_laws.specs.Ruling.{Meanings, body_at, rules_of, scene_at}
use Rattle.sync_typing_laws.specs.Standing.{IsWholeState, Standing, standing_in}

-- a thread or the final block of a text with so few fields, whose locals are names
pub record IsThreadOf (x : MachineWithProgram) (t : ℕ) : Type 0 where
  pub few : length (fields_of x) ≤ 32
  pub there : t ≤ length x.program.threads
  pub names : are_names (assigned_locals (body_at x t) []) ≡ true

-- where a value is not within the bound the failure is spared
abbrev pub SparesWidth : Meanings → (ℤ → Bool) → MachineWithProgram → ℕ → Type 0
SparesWidth m fits x t = (s : World) (u : Tree)
    → number_fits fits (sight_of (fields_of x) s.memory s.shares t nowhere_near).valuation u ≡ false → m.Spares Wide

abbrev pub LocalGoesOn : Meanings → (ℤ → Bool) → MachineWithProgram → Env → ℕ → LocalTree → Type 0
LocalGoesOn m fits x known t l = (p : Spot) (n : ℕ) (rest : ListTree) → IsPart x (scene_at x t).locals p (Do l n rest)
    → (e now : Env) → local_row (scene_at x t) n l e ≡ Ok now → (round : List (Round annotated_language Env)) (s : World)
    → IsWholeState x s → Standing x known t e round s
    → PassesUnless m.Spares (local_step fits x t l s) (λ z. Advances (rules_of x (standing_in x known m.Spares m)) t s now round z)

abbrev pub SharedGoesOn : Meanings → (ℤ → Bool) → MachineWithProgram → Env → ℕ → SharedTree → Type 0
SharedGoesOn m fits x known t a = (p : Spot) (n : ℕ) (rest : ListTree) → IsPart x (scene_at x t).locals p (On a n rest)
    → (e now : Env) → shared_row (scene_at x t) n a e ≡ Ok now → (round : List (Round annotated_language Env)) (s : World)
    → IsWholeState x s → Standing x known t e round s
    → PassesUnless m.Spares (shared_step fits x t a s) (λ z. Advances (rules_of x (standing_in x known m.Spares m)) t s now round z)

-- after the test of an `if` the branch's environment stands
abbrev pub TestStands : MachineWithProgram → Env → ℕ → Type 0
TestStands x known t = (p : Spot) (c : TestTree) (n : ℕ) (one two : ListTree) (joined : Option KeepTree) (rest : ListTree)
    → IsPart x (scene_at x t).locals p (If c n one two joined rest)
    → (e first second : Env) → tell n c.label (condition e c.cond) e ≡ Ok first
    → tell n c.label (neg (condition e c.cond)) e ≡ Ok second
    → (round : List (Round annotated_language Env)) (s : World) → IsWholeState x s → Standing x known t e round s
    → Standing x known t (if satisfies s.memory t c.cond then first else second) (branch joined (wrap_of s.shares t) e ∷ round) s

-- of `x = ..`, `let`, `assert`, `move`, `copy`, `print`, `read`, `write` and the test of an `if`
pub record RowsGoOn (m : Meanings) (fits : ℤ → Bool) (x : MachineWithProgram) (known : Env) (t : ℕ) : Type 0 where
  pub sets : (y : ℕ) (c : Calc) (label : Option ℕ) → LocalGoesOn m fits x known t (Set y c label)
  pub lets : SparesWidth m fits x t → (y : ℕ) (u : Tree) → LocalGoesOn m fits x known t (Proof (Let y u))
  pub asserts : (f : Formula) (label : Option ℕ) (ss : List ScriptTree) → LocalGoesOn m fits x known t (Proof (Assert f label ss))
  pub moves : (tok : Tok) (into : ℕ) → LocalGoesOn m fits x known t (Proof (Move tok into))
  pub copies : (n into : ℕ) → LocalGoesOn m fits x known t (Proof (Copy n into))
  pub prints : (label : ℕ) (o : Opd) → SharedGoesOn m fits x known t (Print label o)
  pub reads : (y c : ℕ) (i : IndexTree) (k : ℕ) (ss : List ScriptTree) → SharedGoesOn m fits x known t (Read y c i k ss)
  pub writes : (c : ℕ) (i : IndexTree) (a : Opd) (k : ℕ) (ss : List ScriptTree) → SharedGoesOn m fits x known t (Write c i a k ss)
  pub tests : TestStands x known t

abbrev pub SingleRowsGoOn : Meanings → Type 0
SingleRowsGoOn m = (fits : ℤ → Bool) (x : MachineWithProgram) (known : Env) (t : ℕ) → IsThreadOf x t → RowsGoOn m fits x known t
