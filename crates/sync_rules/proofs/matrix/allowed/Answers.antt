use Rattle.std.proofs.Common.{[], nat_eq, slice_index, slice_index_or, ap, ◌∙◌}
use Rattle.sync_rules.specs.declared.matrix.TheConstants.{MATRIX}
use Rattle.sync_rules.specs.Matrix.{row_of}
use Rattle.sync_rules.specs.Strategies.{has_statement}
use Rattle.sync_rules.proofs.Entries.{is_one, entry}
use Rattle.sync_rules.proofs.matrix.allowed.Goals as goal

pub returns : goal.returns
returns c =
    ap (λ n. nat_eq n 1)
    (c.at.ensures
    ∙ ap (λ r. slice_index (slice_index_or MATRIX.rows r []) c.column.result) c.row.ensures.row
    ∙ ap (λ k. slice_index (slice_index_or MATRIX.rows (row_of c.args.o) []) k) c.column.ensures.column
    ∙ entry c.args.o c.args.s)
    ∙ is_one (has_statement c.args.s c.args.o)
