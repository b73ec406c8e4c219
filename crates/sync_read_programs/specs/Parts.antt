-- The parts of statements: raw ones as what they mean, and made ones as what they put before the rest of a list.
use Rattle.std.specs.Prelude.{ℕ}
use Rattle.sync_terms.specs.Stored.{Stored}
use Rattle.sync_parse_programs.specs.declared.statements.RawWhen.{RawWhen, fold-RawWhen}
use Rattle.sync_parse_programs.specs.declared.statements.RawTail.{RawTail, fold-RawTail}
use Rattle.sync_parse_programs.specs.declared.statements.RawIf.{RawIf, fold-RawIf}
use Rattle.sync_parse_programs.specs.declared.statements.RawLoop.{RawLoop, fold-RawLoop}
use Rattle.sync_parse_programs.specs.declared.statements.RawRightSide.{RawRightSide, fold-RawRightSide}
use Rattle.sync_parse_programs.specs.declared.statements.RawStatementKind.{RawStatementKind, fold-RawStatementKind}
use Rattle.sync_thread.specs.declared.program.StmtKind.{StmtKind, fold-StmtKind}
use Rattle.sync_thread.specs.declared.program.Tail.{Tail as TailNode, fold-Tail}
use Rattle.sync_thread.specs.declared.program.When.{When, fold-When}
use Rattle.sync_thread.specs.Programs.{ListTree}
use Rattle.sync_thread.specs.Views.{Then, TailThen, index_tree, kind_then, tail_then, atomic_then, list_then, stmt_then, when_then}
use Rattle.sync_thread.specs.declared.operands.Opd.{Opd}
use Rattle.sync_thread.specs.declared.operands.WordOp.{WordOp}
use Rattle.sync_thread.specs.declared.operands.WordOp.TheVariants as op
use Rattle.sync_read_programs.specs.declared.statements.Change.{Change}
use Rattle.sync_read_programs.specs.declared.statements.Change.TheVariants as change
use Rattle.sync_read_programs.specs.declared.statements.Operation.{Operation as WordOperation}
use Rattle.sync_read_programs.specs.Statements.{Operation, Kind, Statement, RightSide, Tail, Body, right_in, kind_in, tail_in, if_in, body_of, loop_in, statement_of, when_in}

abbrev pub kind_of : RawStatementKind → Kind
kind_of = fold-RawStatementKind RightSide Kind Tail Kind Body Kind Statement Tail right_in kind_in tail_in if_in body_of loop_in statement_of when_in

abbrev pub right_of : RawRightSide → RightSide
right_of = fold-RawRightSide RightSide Kind Tail Kind Body Kind Statement Tail right_in kind_in tail_in if_in body_of loop_in statement_of when_in

abbrev pub tail_of : RawTail → Tail
tail_of = fold-RawTail RightSide Kind Tail Kind Body Kind Statement Tail right_in kind_in tail_in if_in body_of loop_in statement_of when_in

abbrev pub if_of : RawIf → Kind
if_of = fold-RawIf RightSide Kind Tail Kind Body Kind Statement Tail right_in kind_in tail_in if_in body_of loop_in statement_of when_in

abbrev pub loop_of : RawLoop → Kind
loop_of = fold-RawLoop RightSide Kind Tail Kind Body Kind Statement Tail right_in kind_in tail_in if_in body_of loop_in statement_of when_in

abbrev pub when_of : RawWhen → Tail
when_of = fold-RawWhen RightSide Kind Tail Kind Body Kind Statement Tail right_in kind_in tail_in if_in body_of loop_in statement_of when_in

-- ---- what is made

abbrev pub kind_tree : Stored → StmtKind → ℕ → Then
kind_tree s k = fold-StmtKind (ℕ → Then) TailThen (ℕ → Then) ListTree Then TailThen (kind_then s) (tail_then s) (atomic_then s) list_then stmt_then (when_then s) k

abbrev pub tail_tree : Stored → TailNode → TailThen
tail_tree s x = fold-Tail (ℕ → Then) TailThen (ℕ → Then) ListTree Then TailThen (kind_then s) (tail_then s) (atomic_then s) list_then stmt_then (when_then s) x

abbrev pub when_tree : Stored → When → TailThen
when_tree s x = fold-When (ℕ → Then) TailThen (ℕ → Then) ListTree Then TailThen (kind_then s) (tail_then s) (atomic_then s) list_then stmt_then (when_then s) x

abbrev pub word_operation_tree : Stored → WordOperation → Operation
word_operation_tree s x = record { op = x.op; word = x.word; index = index_tree s x.index; counts = x.counts }

abbrev pub change_op : Change → Opd → WordOp
change_op change.Store o = op.Store o
change_op change.Swap o = op.Swap o
change_op change.Add o = op.Add o
change_op change.Sub o = op.Sub o
