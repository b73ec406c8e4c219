-- How many statements a statement has in its braces, to any depth, and itself.
use Rattle.std.specs.Prelude.{ℕ, suc, ◌+◌, List, [], ◌∷◌}
use Rattle.sync_parse_programs.specs.declared.statements.RawStatement.{RawStatement, fold-RawStatement}
use Rattle.sync_parse_programs.specs.declared.statements.RawRightSide.TheOpen.{RawList-F, RawIf-F, RawLoop-F, RawStatement-F, RawWhen-F, RawTail-F, RawRightSide-F, RawStatementKind-F}

abbrev pub all_sizes : List ℕ → ℕ
all_sizes [] = 0
all_sizes (n ∷ ns) = n + all_sizes ns

abbrev pub right_size : RawRightSide-F ℕ ℕ ℕ ℕ ℕ ℕ ℕ ℕ → ℕ
right_size (RawRightSide-F.Atomic a t) = t
right_size (RawRightSide-F.Read x) = 0
right_size (RawRightSide-F.Peek x) = 0
right_size (RawRightSide-F.Calculated x l) = 0

abbrev pub kind_size : RawStatementKind-F ℕ ℕ ℕ ℕ ℕ ℕ ℕ ℕ → ℕ
kind_size (RawStatementKind-F.Store s t) = t
kind_size (RawStatementKind-F.Write x) = 0
kind_size (RawStatementKind-F.Print l o) = 0
kind_size (RawStatementKind-F.If x) = x
kind_size (RawStatementKind-F.Loop x) = x
kind_size (RawStatementKind-F.Next x) = 0
kind_size (RawStatementKind-F.Break x) = 0
kind_size (RawStatementKind-F.Meet x) = 0
kind_size (RawStatementKind-F.End x) = 0
kind_size (RawStatementKind-F.Proof x) = 0
kind_size (RawStatementKind-F.Assign n r) = r

abbrev pub tail_size : RawTail-F ℕ ℕ ℕ ℕ ℕ ℕ ℕ ℕ → ℕ
tail_size RawTail-F.Plain = 0
tail_size (RawTail-F.Block x) = 0
tail_size (RawTail-F.When x) = x

abbrev pub if_size : RawIf-F ℕ ℕ ℕ ℕ ℕ ℕ ℕ ℕ → ℕ
if_size x = x.yes + x.no

abbrev pub list_size : RawList-F ℕ ℕ ℕ ℕ ℕ ℕ ℕ ℕ → ℕ
list_size x = all_sizes x.statements

abbrev pub loop_size : RawLoop-F ℕ ℕ ℕ ℕ ℕ ℕ ℕ ℕ → ℕ
loop_size x = x.body

abbrev pub one_size : RawStatement-F ℕ ℕ ℕ ℕ ℕ ℕ ℕ ℕ → ℕ
one_size x = suc x.what

abbrev pub when_size : RawWhen-F ℕ ℕ ℕ ℕ ℕ ℕ ℕ ℕ → ℕ
when_size x = x.yes + x.no

abbrev pub statement_size : RawStatement → ℕ
statement_size = fold-RawStatement ℕ ℕ ℕ ℕ ℕ ℕ ℕ ℕ right_size kind_size tail_size if_size list_size loop_size one_size when_size
