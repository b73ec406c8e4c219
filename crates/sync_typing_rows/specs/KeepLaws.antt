-- The laws of rows on keeps: a jump that may come to a keep comes there, and what the keep says stands then.
use Rattle.std.specs.Prelude.{◌≡◌, ℕ, ℤ, Bool, true, List, ◌∷◌, Option, Some, Ok}
use Rattle.sync_thread.specs.Control.{Loop}
use Rattle.sync_thread.specs.Programs.{JumpTree, KeepTree, ListTree}
use Rattle.sync_thread.specs.Resting.{Advances, PassesUnless, Round, turn}
use Rattle.sync_thread_machine.specs.MachineWithProgram.{MachineWithProgram}
use Rattle.sync_thread_meaning.specs.Meaning.{World, annotated_language, keep_step}
use Rattle.sync_thread_meaning.specs.Shares.{wrap_of}
use Rattle.sync_typing.specs.Environments.{Env}
use Rattle.sync_typing.specs.Keeps.{after_keep, is_at_hand_in, keep_names_only}
use Rattle.sync_typing.specs.Lists.{Spot, jump_row, loop_row}
use Rattle.sync_typing.specs.Names.{jump_is_named, keep_is_named, known_here, none_in}
use Rattle.sync_typing_laws.specs.Rests.{IsPart, KnowsConstants}
use Rattle.sync_typing_laws.specs.RowLaws.{IsThreadOf, SparesWidth}
use Rattle.sync_typing_laws.specs.Ruling.{Meanings, aim, loop_dues, rules_of, scene_at}
use Rattle.sync_typing_laws.specs.Standing.{IsWholeState, Standing, standing_in}

-- the keep of a form that stands round the jump, with what was known before the form
abbrev pub JumpsGoOn : Meanings → (ℤ → Bool) → MachineWithProgram → Env → ℕ → Type 0
JumpsGoOn m fits x known t = (k : KeepTree) (j : JumpTree) → keep_is_named x (known_here x) k ≡ true
    → none_in k.names (scene_at x t).locals ≡ true → jump_is_named (known_here x) j (Some k) ≡ true
    → (form : Round annotated_language Env) (e same now : Env) (line at : ℕ)
    → jump_row line j (Some (aim form.env k)) e ≡ Ok same
    → keep_names_only (is_at_hand_in form.env.terms k) k ≡ true
    → after_keep at (scene_at x t).locals k form.env ≡ Ok now
    → (round : List (Round annotated_language Env)) (s : World)
    → IsWholeState x s → Standing x known t e (form ∷ round) s
    → PassesUnless m.Spares (keep_step fits x t k j form.saved s)
    (λ z. Advances (rules_of x (standing_in x known m.Spares m)) t s now (form ∷ round) z)

-- the keep of a loop, from before it
abbrev pub LoopsGoOn : Meanings → (ℤ → Bool) → MachineWithProgram → Env → ℕ → Type 0
LoopsGoOn m fits x known t =
    (p : Spot) (k : KeepTree) (j : JumpTree) (n : ℕ) (body : ListTree) (left : Option KeepTree) (rest : ListTree)
    → IsPart x (scene_at x t).locals p (Loop k j n body left rest)
    → (e inside : Env) → loop_row n (scene_at x t).locals (loop_dues body left) k j left e ≡ Ok inside
    → (round : List (Round annotated_language Env)) (s : World) → IsWholeState x s → Standing x known t e round s
    → PassesUnless m.Spares (keep_step fits x t k j (wrap_of s.shares t) s) (λ z.
    Advances (rules_of x (standing_in x known m.Spares m)) t s inside (turn k left (wrap_of s.shares t) e ∷ round) z)

pub record KeepsGoOn (m : Meanings) (fits : ℤ → Bool) (x : MachineWithProgram) (known : Env) (t : ℕ) : Type 0 where
  pub jumps : JumpsGoOn m fits x known t
  pub loops : LoopsGoOn m fits x known t

abbrev pub KeepRowsGoOn : Meanings → Type 0
KeepRowsGoOn m =
    (fits : ℤ → Bool) (x : MachineWithProgram) (known : Env) (t : ℕ) → IsThreadOf x t → KnowsConstants x known
    → SparesWidth m fits x t → KeepsGoOn m fits x known t
