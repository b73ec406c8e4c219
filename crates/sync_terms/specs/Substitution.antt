-- The substitution that a list of pairs says.
use Rattle.std.specs.Prelude.{ℕ, nat_eq, List, [], ◌∷◌, Option, Some, None, if◌then◌else◌}
use Rattle.std.specs.Option.{option_map_or}
use Rattle.sync_terms.specs.declared.nodes.Sym.{Sym}
use Rattle.sync_terms.specs.declared.nodes.TermId.{TermId}
use Rattle.sync_terms.specs.Stored.{Stored, tree}
use Rattle.sync_terms.specs.Trees.{Tree, Name}

-- the term of the first pair with this symbol
abbrev pub term_of : List (Sym × TermId) → ℕ → Option TermId
term_of [] x = None
term_of (p ∷ ps) x = if nat_eq p.0.0 x then Some p.1 else term_of ps x

-- each symbol of the list becomes the tree of its term, and each other stays
abbrev pub substitution : Stored → List (Sym × TermId) → ℕ → Tree
substitution s ps x = option_map_or (tree s) (term_of ps x) (Name x)
