-- The line of a term that is within 128 bits.
use Rattle.std.specs.Prelude.{Option, Some, None}
use Rattle.sync_linear.specs.Forms.{Narrow}
use Rattle.sync_linear.specs.Lines.{Line}
use Rattle.sync_linear.specs.Stores.{IsLineOf}
use Rattle.sync_terms.specs.Stored.{Stored}
use Rattle.sync_terms.specs.Trees.{Tree}

-- the term's line, or none where the term is not within 128 bits
abbrev pub IsLineIfNarrow : Stored → Tree → Option Line → Type 0
IsLineIfNarrow s t None = Narrow t → ⊥
IsLineIfNarrow s t (Some l) = IsLineOf s t l × Narrow t
