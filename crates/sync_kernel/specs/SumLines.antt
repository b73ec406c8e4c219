-- The lines that sums have computed.
use Rattle.std.specs.Prelude.{◌≡◌, Option, Some, None}
use Rattle.std.specs.HashMap.{get}
use Rattle.sync_terms.specs.Stored.{Stored, Extends}
use Rattle.sync_linear.specs.Lines.{Line}
use Rattle.sync_linear.specs.Forms.{Narrow}
use Rattle.sync_linear.specs.Stores.{IsLineOf}
use Rattle.sync_kernel_facts.specs.declared.literals.Literal.{Literal}
use Rattle.sync_kernel.specs.declared.lines.Lines.{Lines}
use Rattle.sync_kernel_facts.specs.Literals.{literal_form, IsLiteral, same_literal}
use Rattle.sync_kernel.specs.Rows.{Row, row_of}

-- this is the line of the row, within 128 bits
abbrev pub IsRowLine : Stored → Option Row → Line → Type 0
IsRowLine s None x = ⊥
IsRowLine s (Some r) x = IsLineOf s r.line x × Narrow r.line

-- it was the line of the literal in a store that has only grown since
pub record WasLine (s : Stored) (l : Literal) (x : Line) : Type 0 where
  pub first : Stored
  pub grew : Extends first s
  pub stored : IsLiteral first l
  pub line : IsRowLine first (row_of (literal_form first l)) x

-- the line that is kept for a literal
abbrev pub line_in : Lines → Literal → Option Line
line_in lines l = get same_literal lines.kept l

-- each of the lines was that of its literal
abbrev pub WereLines : Stored → Lines → Type 0
WereLines s lines = (l : Literal) (x : Line) → line_in lines l ≡ Some x → WasLine s l x
