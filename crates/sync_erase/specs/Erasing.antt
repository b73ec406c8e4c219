-- The code of a list, a statement at a time.
use Rattle.std.specs.Prelude.{◌≡◌, ℕ, List, map}
use Rattle.sync_terms.specs.Stored.{Stored}
use Rattle.sync_thread.specs.declared.program.Atomic.{Atomic, fold-Atomic}
use Rattle.sync_thread.specs.declared.program.CodeStmt.{CodeStmt}
use Rattle.sync_thread.specs.Programs.{ListTree}
use Rattle.sync_thread.specs.Code.{code_list}
use Rattle.sync_thread.specs.Views.{Then, TailThen, kind_then, tail_then, atomic_then, list_then, stmt_then, when_then}
use Rattle.sync_thread.specs.Views.{code_before, code_stmt_tree}

-- an operation on a word, as what it puts before the rest of its list
abbrev pub atomic_tree : Stored → Atomic → ℕ → Then
atomic_tree s a =
    fold-Atomic (ℕ → Then) TailThen (ℕ → Then) ListTree Then TailThen
    (kind_then s) (tail_then s) (atomic_then s) list_then stmt_then (when_then s) a

-- The code gains what is left of a statement: before the code of any rest it is the code of the statement before that rest.
abbrev pub Appends : List CodeStmt → List CodeStmt → (Stored → Then) → Type 0
Appends old new stmt = (s : Stored) (rest : ListTree)
    → code_before (map code_stmt_tree new) (code_list rest) ≡ code_before (map code_stmt_tree old) (code_list (stmt s rest))
