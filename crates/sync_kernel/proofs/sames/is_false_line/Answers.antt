use Rattle.sync_kernel.proofs.SameSteps.{line_shows, line_zero, line_not_zero, line_not_number}
use Rattle.sync_kernel.proofs.sames.is_false_line.Goals as goal

pub returns-in-AtMostZero : goal.returns-in-AtMostZero
returns-in-AtMostZero c = λ s t i. line_shows s t c.args.line.now c.shows.ensures.line i c.args.kind c.shows.result c.shows.ensures.exact.0 c.shows.ensures.exact.1 c.in-AtMostZero.is

pub returns-then-is_number : goal.returns-then-is_number
returns-then-is_number c = λ s t i. line_zero s t c.args.line.now c.is_zero.ensures.line i c.args.kind c.is_zero.result (c.is_number.ensures.exact.0 c.if-is_number.true) c.is_zero.ensures.exact.0 c.is_zero.ensures.exact.1 c.in-Zero.is

pub returns-else-is_number : goal.returns-else-is_number
returns-else-is_number c = λ s t i. line_not_number s t c.args.line.now c.is_number.ensures.line i c.args.kind c.is_number.result c.if-is_number.false c.is_number.ensures.exact.1

pub returns-in-NotZero : goal.returns-in-NotZero
returns-in-NotZero c = λ s t i. line_not_zero s t c.args.line.now c.is_zero-in-NotZero.ensures.line i c.args.kind c.is_zero-in-NotZero.result c.is_zero-in-NotZero.ensures.exact.0 c.is_zero-in-NotZero.ensures.exact.1 c.in-NotZero.is
