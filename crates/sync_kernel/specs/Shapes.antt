-- Lines of a store before they are computed.
use Rattle.std.specs.Prelude.{Bool, true, false}
use Rattle.sync_terms.specs.Trees.{Tree, Sub}
use Rattle.sync_terms.specs.Stored.{Stored, tree, IsTerm}
use Rattle.sync_kernel.specs.declared.rows.Shape.{Shape}
use Rattle.sync_kernel.specs.Rows.{Row, one_more}

abbrev pub line_shaped : Bool → Tree → Tree
line_shaped true t = one_more t
line_shaped false t = t

-- the line of a shape
abbrev pub row_shaped : Stored → Shape → Row
row_shaped s h = record { kind = h.kind; line = line_shaped h.strict (Sub (tree s h.left) (tree s h.right)) }

-- its terms are stored
abbrev pub shaped : Stored → Shape → Type 0
shaped s h = IsTerm s h.left × IsTerm s h.right
