-- The numbers of words, cells and tokens.
--
-- Words and cells are numbered from 0 in the order of their declarations, each kind for itself. A token is the number
-- of its name; the first permission of cell k, which the start alone may name, is `cell_token k`.
use Rattle.std.specs.Prelude.{ℕ, ◌+◌, nat_eq, nat_lt, if◌then◌else◌, List, [], ◌∷◌, ◌++◌, length, map, replicate}
use Rattle.std.specs.Prelude.{Option, Some, None}
use Rattle.sync_thread.specs.declared.operands.CodeDecl.{CodeDecl}
use Rattle.sync_thread.specs.declared.operands.CodeDecl.TheVariants as code
use Rattle.sync_thread.specs.declared.operands.Tok.{Tok}
use Rattle.sync_thread.specs.Programs.{DeclTree, WordTree}
use Rattle.sync_thread.specs.Programs as tree

-- ---- declarations

abbrev pub code_decl : DeclTree → CodeDecl
code_decl (tree.Word w) = code.Word w.name w.len w.init
code_decl (tree.Cell c) = code.Cell c.name c.len c.init

abbrev pub words_in : List DeclTree → List WordTree
words_in [] = []
words_in (tree.Word w ∷ ds) = w ∷ words_in ds
words_in (tree.Cell c ∷ ds) = words_in ds

-- the first values of all words, and the first contents of all cells
abbrev pub first_words : List CodeDecl → List ℕ
first_words [] = []
first_words (code.Word x n v ∷ ds) = replicate n v ++ first_words ds
first_words (code.Cell x n v ∷ ds) = first_words ds

abbrev pub first_cells : List CodeDecl → List ℕ
first_cells [] = []
first_cells (code.Word x n v ∷ ds) = first_cells ds
first_cells (code.Cell x n v ∷ ds) = replicate n v ++ first_cells ds

-- the numbers of an array: the first one, and how many there are
pub record Span : Type 0 where
  pub base : ℕ
  pub len : ℕ

abbrev pub shifted : ℕ → Option Span → Option Span
shifted n (Some s) = Some (record { base = n + s.base; len = s.len })
shifted n None = None

abbrev pub words_named : ℕ → List CodeDecl → Option Span
words_named x [] = None
words_named x (code.Word y n v ∷ ds) =
    if nat_eq x y then Some (record { base = 0; len = n }) else shifted n (words_named x ds)
words_named x (code.Cell y n v ∷ ds) = words_named x ds

abbrev pub cells_named : ℕ → List CodeDecl → Option Span
cells_named x [] = None
cells_named x (code.Word y n v ∷ ds) = cells_named x ds
cells_named x (code.Cell y n v ∷ ds) =
    if nat_eq x y then Some (record { base = 0; len = n }) else shifted n (cells_named x ds)

-- ---- tokens

-- A text has fewer names than this: it is as many bytes as a text may have.
abbrev pub name_limit : ℕ
name_limit = 1048576

abbrev pub cell_token : ℕ → ℕ
cell_token k = name_limit + k

-- the number of an element of a cell; after all cells where there is no such element
abbrev pub cell_element : List CodeDecl → Option Span → ℕ → ℕ
cell_element ds (Some s) i = if nat_lt i s.len then s.base + i else length (first_cells ds)
cell_element ds None i = length (first_cells ds)

-- A permission of an element that is not there has a number under which no token is held.
abbrev pub token_number : List CodeDecl → Tok → ℕ
token_number ds t = at t.at where
  at : Option ℕ → ℕ
  at None = t.name
  at (Some i) = cell_token (cell_element ds (cells_named t.name ds) i)

abbrev pub token_numbers : List CodeDecl → List Tok → List ℕ
token_numbers ds ts = map (token_number ds) ts
