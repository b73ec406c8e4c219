-- What a thread or the final block has where it begins from keeps, and that its environment stands for it then.
use Rattle.std.specs.Prelude.{◌≡◌, ℕ, true, false, List, [], Some, None, Ok, flat_map}
use Rattle.std.specs.List.{AllByRecursion}
use Rattle.sync_terms.specs.Values.{Valuation}
use Rattle.sync_machine.specs.Naming.{is_in}
use Rattle.sync_join.specs.declared.tokens.Token.{Token}
use Rattle.sync_exchange.specs.Exchange.{held_as}
use Rattle.sync_thread.specs.Code.{locals_of}
use Rattle.sync_thread.specs.Programs.{KeepLineTree, KeepTree}
use Rattle.sync_thread_machine.specs.MachineWithProgram.{MachineWithProgram, fields_of}
use Rattle.sync_thread_machine.specs.ProgramSymbols.{first_fresh}
use Rattle.sync_thread_meaning.specs.Meaning.{World}
use Rattle.sync_thread_meaning.specs.Shares.{Sight, hand_of, is_of_form, keep_facts_hold, nowhere_near, proofs_of, sight_of}
use Rattle.sync_typing.specs.Environments.{Env}
use Rattle.sync_typing.specs.Keeps.{at_beginning, is_at_hand_in, keep_names_only, own_tokens}
use Rattle.sync_typing.specs.Names.{keep_is_named, known_here, none_in}
use Rattle.sync_typing.specs.Typing.{constants}
use Rattle.sync_typing_laws.specs.Rests.{HasConstants, IsTidy, KnowsConstants}
use Rattle.sync_typing_laws.specs.RowLaws.{IsThreadOf}
use Rattle.sync_typing_laws.specs.Ruling.{scene_at}
use Rattle.sync_typing_laws.specs.Standing.{Standing}

-- what names stand for at a place of thread t, outside of blocks
abbrev pub sight_at : MachineWithProgram → ℕ → World → Sight
sight_at x t s = sight_of (fields_of x) s.memory s.shares t nowhere_near

-- the token of a line is held, and is of the line's form
abbrev pub IsLineHeld : Sight → KeepLineTree → Type 0
IsLineHeld w l = (a : Token) × (held_as l.name w.hand ≡ Some a) × (is_of_form w l.shape a ≡ true)

-- what the keep says is so there
pub record KeptAt (w : Sight) (k : KeepTree) : Type 0 where
  pub lines : AllByRecursion (IsLineHeld w) k.lines
  pub facts : keep_facts_hold w k.facts ≡ true

-- thread t has what the keep says
abbrev pub HasKept : MachineWithProgram → ℕ → World → KeepTree → Type 0
HasKept x t s k = KeptAt (sight_at x t s) k

abbrev pub names_of : List KeepTree → List ℕ
names_of ks = flat_map (λ (k : KeepTree). k.names) ks

abbrev pub tokens_of : List KeepTree → List ℕ
tokens_of ks = flat_map own_tokens ks

-- it has what these keeps say, and nothing else; and its locals are 0
pub record HasBegun (x : MachineWithProgram) (t : ℕ) (s : World) (ks : List KeepTree) : Type 0 where
  pub kept : AllByRecursion (HasKept x t s) ks
  pub hand : (n : ℕ) → is_in n (tokens_of ks) ≡ false → held_as n (hand_of s.shares t) ≡ None
  pub proofs : (y : ℕ) → is_in y (names_of ks) ≡ false → proofs_of s.shares t y ≡ None
  pub locals : (y : ℕ) → locals_of s.memory t y ≡ 0

-- a keep of a text that names its own names and tokens and constants alone, and no local of thread t
pub record IsFirstKeep (x : MachineWithProgram) (known : Env) (t : ℕ) (k : KeepTree) : Type 0 where
  pub named : keep_is_named x (known_here x) k ≡ true
  pub at_hand : keep_names_only (is_at_hand_in (constants known) k) k ≡ true
  pub binds : none_in k.names (scene_at x t).locals ≡ true

-- A list begins where its thread has what its keeps say.
abbrev pub BeginningsStand : Type 0
BeginningsStand =
    (x : MachineWithProgram) (known : Env) (t : ℕ) → IsThreadOf x t → KnowsConstants x known
    → (s : World) → IsTidy x s → ((v : Valuation) → HasConstants x v known s)
    → (ks : List KeepTree) → AllByRecursion (IsFirstKeep x known t) ks → HasBegun x t s ks
    → (line : ℕ) (e : Env) → at_beginning line (constants known) (scene_at x t).locals ks first_fresh ≡ Ok e
    → Standing x known t e [] s
