-- Where declared arrays are laid.
use Rattle.std.specs.Prelude.{◌≡◌, ℕ, if◌then◌else◌, nat_eq, List, Option, Some, None}
use Rattle.sync_thread.specs.declared.operands.CodeDecl.{CodeDecl}
use Rattle.sync_thread.specs.Arrays.{first_words, first_cells}
use Rattle.sync_thread_events.specs.declared.steps.Span.{Span}
use Rattle.sync_thread_events.specs.declared.layout.Laid.{Laid}
use Rattle.sync_thread_events.specs.Steps.{AreNarrow}
use Rattle.sync_thread_events.specs.Moves.{AreSpansOf}

-- where arrays are, once there is one more under this name; of two of one name the first counts
abbrev pub noted : ℕ → Span → ℕ → Option Span → Option Span
noted y s x (Some there) = Some there
noted y s x None = if nat_eq x y then Some s else None

-- The words and cells of these declarations, before anything is done.
pub record IsLaid (ds : List CodeDecl) (laid : Laid) : Type 0 where
  pub words : laid.words.items ≡ first_words ds
  pub cells : laid.cells.items ≡ first_cells ds
  pub spans : AreSpansOf laid.spans ds
  pub narrow_words : AreNarrow laid.spans.words.items
  pub narrow_cells : AreNarrow laid.spans.cells.items
