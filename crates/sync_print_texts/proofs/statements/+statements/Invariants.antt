use Rattle.std.proofs.Common.{◌≡◌, ◌++◌, drop}
use Rattle.sync_print_programs.specs.Written.{all_written, written_statement}
use Rattle.sync_print_texts.proofs.statements.+statements.Given as goal

abbrev pub invariant-statement_row-loop-one : goal.invariant-statement_row-loop-one
invariant-statement_row-loop-one l =
    l.out.items ++ all_written (written_statement l.names) (drop l.one-index l.x)
    ≡ l.initial.out.items ++ all_written (written_statement l.names) l.x
