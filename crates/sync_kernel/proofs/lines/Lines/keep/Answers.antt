use Rattle.sync_kernel_facts.specs.Literals.{literal_form}
use Rattle.sync_kernel.specs.Rows.{row_of}
use Rattle.sync_kernel.specs.Shapes.{row_shaped}
use Rattle.sync_kernel.proofs.Keeping.{lines_more, is_line, is_row_line}
use Rattle.sync_kernel.proofs.lines.Lines.keep.Goals as goal

pub returns-in-Ok-insert-clause-lines : goal.returns-in-Ok-insert-clause-lines
returns-in-Ok-insert-clause-lines c =
    let s = c.args.terms.now in
    let row = is_row_line s (row_of (literal_form s c.args.says)) (row_shaped s c.args.shape) c.in-Ok.line c.requires.row c.in-Ok.ensures.line c.in-Ok.ensures.narrow in
    lines_more s c.args.self.now (record { kept = c.insert.new.self; nodes = c.saturating_add-self.result }) c.args.says c.in-Ok.line c.requires.lines c.in-Ok-insert.ensures.updates.0 (is_line s c.args.says c.in-Ok.line c.requires.stored row)
