-- What environments mean while lists run, as the rules on lists ask for it: a choice of `Meanings`.
use Rattle.std.specs.Prelude.{◌≡◌, ℕ, pos, ◌<◌, true, List, [], ◌∷◌, length, None, Some}
use Rattle.sync_base.specs.declared.strategies.Strategy.TheVariants.{Constant}
use Rattle.sync_terms.specs.Symbols.{name_symbol}
use Rattle.sync_terms.specs.Trees.{Name}
use Rattle.sync_terms.specs.Values.{Valuation, num}
use Rattle.sync_machine.specs.Naming.{is_in}
use Rattle.sync_machine.specs.States.{State, IsReached, MeetsInvariants, strategy_at}
use Rattle.sync_rules.specs.Locality.{names_only}
use Rattle.sync_join.specs.Join.{join_of, record_at, number_of}
use Rattle.sync_thread.specs.Arrays.{name_limit}
use Rattle.sync_thread.specs.Code.{cell_at, locals_of}
use Rattle.sync_thread.specs.Control.{Halt}
use Rattle.sync_thread.specs.Resting.{Round}
use Rattle.sync_thread_machine.specs.MachineWithProgram.{MachineWithProgram, fields_of}
use Rattle.sync_thread_machine.specs.ProgramSymbols.{wrap_symbol}
use Rattle.sync_thread_meaning.specs.Meaning.{World, annotated_language}
use Rattle.sync_thread_meaning.specs.Shares.{all_shards, array_words, hand_of, named_value, proofs_of, wrap_of}
use Rattle.sync_thread_meaning.specs.Sound.{contents_of, words_are_kept}
use Rattle.sync_typing.specs.Environments.{Env, stands as term_of}
use Rattle.sync_typing.specs.Lists.{assigned_locals}
use Rattle.sync_typing.specs.Names.{jump_is_named, keep_is_named, known_here, none_in}
use Rattle.sync_typing_laws.specs.Rests.{HasConstantsOf, IsPart, IsTidy, Lasts, StandsAt, is_lasting}
use Rattle.sync_typing_laws.specs.Ruling.{Meanings, body_at, scene_at}

-- the forms round a list, innermost first, each with an environment that lasts
abbrev pub Chain : MachineWithProgram → Env → Valuation → ℕ → World → List (Round annotated_language Env) → Type 0
Chain x known v next s [] = Unit {0}
Chain x known v next s (form ∷ round) =
    Lasts x known v form.saved form.env next s × Chain x known v form.env.fresh s round

-- Under some valuation the environment speaks of what thread t has, and so do those of the forms round.
pub record Standing (x : MachineWithProgram) (known : Env) (t : ℕ) (e : Env) (round : List (Round annotated_language Env)) (s : World) : Type 0 where
  pub values : Valuation
  pub stands : StandsAt x (λ y. is_in y (assigned_locals (body_at x t) [])) values e t s
  pub same : HasConstantsOf known e
  pub unsaid : (y : ℕ) → y < name_limit → e.terms (name_symbol y) ≡ None
      → num values (Name (name_symbol y)) ≡ named_value (proofs_of s.shares t) (locals_of s.memory t) y
  pub lasting : names_only (is_lasting e.fresh) (term_of e wrap_symbol) ≡ true
  pub chain : Chain x known values e.fresh s round

-- ---- the state as a whole, and what others have

-- good, but that nothing is said of races
pub record IsGoodState (x : MachineWithProgram) (s : World) : Type 0 where
  pub state : State
  pub joined : join_of (fields_of x) (all_shards s.shares) s.shares.kept ≡ Some state
  pub reached : IsReached x.machine state
  pub meets : MeetsInvariants x.machine state
  pub words : words_are_kept (fields_of x) s.shares.kept (array_words x.program.decls) s.memory.words s.shares.owned
      ≡ true
  pub cells : (k : ℕ) → k < length s.memory.cells
      → contents_of k (all_shards s.shares) s.shares.kept ≡ pos (cell_at s.memory k) ∷ []

pub record IsWholeState (x : MachineWithProgram) (s : World) : Type 0 where
  pub tidy : IsTidy x s
  pub good : IsGoodState x s

-- the records of constants stay
abbrev pub SameConstants : MachineWithProgram → World → World → Type 0
SameConstants x s z = (f : ℕ) → f < length (fields_of x) → strategy_at (fields_of x) f ≡ Constant
    → number_of (record_at z.shares.kept f) ≡ number_of (record_at s.shares.kept f)

-- thread t alone went from s to z
pub record Stayed (x : MachineWithProgram) (t : ℕ) (s z : World) : Type 0 where
  pub hands : (u : ℕ) → (u ≡ t → ⊥) → hand_of z.shares u ≡ hand_of s.shares u
  pub proofs : (u : ℕ) → (u ≡ t → ⊥) → proofs_of z.shares u ≡ proofs_of s.shares u
  pub wraps : (u : ℕ) → (u ≡ t → ⊥) → wrap_of z.shares u ≡ wrap_of s.shares u
  pub locals : (u : ℕ) → (u ≡ t → ⊥) → locals_of z.memory u ≡ locals_of s.memory u
  pub kept : SameConstants x s z

-- ---- meanings

-- lists are parts of a text as the rules on names leave it, and so are keeps and jumps
abbrev pub with_names : MachineWithProgram → Meanings → Meanings
with_names x m = record m {
  Part = λ t p list. IsPart x (scene_at x t).locals p list;
  Keeps = λ t k. (keep_is_named x (known_here x) k ≡ true) × (none_in k.names (scene_at x t).locals ≡ true);
  Jumps = λ t k j. jump_is_named (known_here x) j (Some k) ≡ true;
}

-- environments stand for threads of a whole state; the rest is any
abbrev pub standing_in : MachineWithProgram → Env → (Halt → Type 0) → Meanings → Meanings
standing_in x known spares m = record m {
  Stands = Standing x known;
  Overall = IsWholeState x;
  Stays = Stayed x;
  Spares = spares;
  Part = λ t p list. IsPart x (scene_at x t).locals p list;
}
