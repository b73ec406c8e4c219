-- The laws of the rules on programs.
use Rattle.std.specs.Prelude.{◌≡◌, ℕ, List, [], ◌∷◌, ◌++◌, Some, None, ◌↔◌, Ok}
use Rattle.std.specs.List.{AllByRecursion}
use Rattle.sync_base.specs.Outcome.{◌>>=◌}
use Rattle.sync_base.specs.declared.stops.Rule.{Rule}
use Rattle.sync_base.specs.declared.stops.Rule.TheVariants.{I2, K4, T1, T2, T3, T4, T5, T6, T7, T8, T9, T10, A1, A2, A3, A4, A5, A6}
use Rattle.sync_machine.specs.Machines.{MachineTree}
use Rattle.sync_thread.specs.Programs.{ScriptTree, ThreadTree, StartTree, ProgramTree}
use Rattle.sync_thread_machine.specs.MachineWithProgram.{MachineWithProgram}
use Rattle.sync_typing.specs.Environments.{Env}
use Rattle.sync_typing.specs.Dues.{Due, pay}
use Rattle.sync_typing.specs.Typing.{start_row, thread_fault, final_fault, type_fault}

-- The start breaks no rule, and with what is known behind it neither does any thread nor the final block.
pub record EachPartIsTyped (x : MachineWithProgram) (s : StartTree) : Type 0 where
  pub known : Env
  pub begins : start_row x s ≡ Ok known
  pub threads : AllByRecursion (λ (t : ThreadTree). thread_fault x known t ≡ None) x.program.threads
  pub last : final_fault x known x.program.last ≡ None

-- A program with a start breaks no rule exactly where none of its parts does.
abbrev pub TypedByParts : Type 0
TypedByParts = (m : MachineTree) (p : ProgramTree) (s : StartTree) → p.start ≡ Some s
    → (type_fault m p ≡ None) ↔ EachPartIsTyped (record { machine = m; program = p }) s

-- Dues are met one after another: what is left of the scripts goes to the later ones.
abbrev pub DuesGoOn : Type 0
DuesGoOn = (e : Env) (line : ℕ) (first later : List Due) (ss : List ScriptTree)
    → pay e line (first ++ later) ss ≡ (pay e line first ss >>= pay e line later)

-- ---- no rule is idle

-- a program that breaks this rule first
pub record IsBroken (rule : Rule) : Type 0 where
  pub machine : MachineTree
  pub program : ProgramTree
  pub line : ℕ
  pub breaks : type_fault machine program ≡ Some (record { line = line; rule = rule })

-- a program that breaks none
pub record IsTyped : Type 0 where
  pub machine : MachineTree
  pub program : ProgramTree
  pub breaks : type_fault machine program ≡ None

abbrev pub word_rules : List Rule
word_rules = A1 ∷ A2 ∷ A3 ∷ A4 ∷ A5 ∷ A6 ∷ []

abbrev pub token_rules : List Rule
token_rules = T1 ∷ T2 ∷ T3 ∷ T4 ∷ T5 ∷ T6 ∷ T7 ∷ T8 ∷ T9 ∷ T10 ∷ []

-- a script too many, and one that proves nothing
abbrev pub program_script_rules : List Rule
program_script_rules = I2 ∷ K4 ∷ []

-- Each rule on words, tokens and lists is the first that some program breaks, and so are these two on scripts; and some
-- program breaks none.
pub record EachRuleIsBroken : Type 0 where
  pub of_words : AllByRecursion IsBroken word_rules
  pub of_tokens : AllByRecursion IsBroken token_rules
  pub of_scripts : AllByRecursion IsBroken program_script_rules
  pub of_none : IsTyped
