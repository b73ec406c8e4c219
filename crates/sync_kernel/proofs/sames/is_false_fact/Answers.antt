use Rattle.sync_kernel_facts.specs.Literals.{literal_form}
use Rattle.sync_kernel.specs.Rows.{row_of}
use Rattle.sync_kernel.specs.Shapes.{row_shaped}
use Rattle.sync_kernel.proofs.SameSteps.{false_known, wide_known}
use Rattle.sync_kernel.proofs.sames.is_false_fact.Goals as goal

pub returns-in-Ok : goal.returns-in-Ok
returns-in-Ok c =
    false_known c.args.terms.now (row_of (literal_form c.args.terms.now c.args.says)) c.shape_of.result c.in-Some.shape c.is_false_line.result c.shape_of.ensures.row c.in-Some.is c.in-Ok.ensures.narrow
    (c.is_false_line.ensures c.args.terms.now (row_shaped c.args.terms.now c.in-Some.shape).line c.in-Ok.ensures.line)

pub returns-in-Err-Width : goal.returns-in-Err-Width
returns-in-Err-Width c =
    wide_known c.args.terms.now (row_of (literal_form c.args.terms.now c.args.says)) c.shape_of.result c.in-Some.shape c.shape_of.ensures.row c.in-Some.is (c.line.ensures.width (cc))
