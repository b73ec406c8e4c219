use Rattle.std.proofs.lemmas.Bool.{both_ways}
use Rattle.sync_kernel.proofs.Closing.{closes_shown, closes_zero, closes_not}
use Rattle.sync_kernel.proofs.sums.closes.Goals as goal

pub returns-then-shows : goal.returns-then-shows
returns-then-shows c = λ s sum i. closes_shown s sum c.args.used.now c.args.total.now c.all_bound.result i (c.shows.ensures.exact.0 c.if-shows.true) c.all_bound.ensures

pub returns-then-is_zero : goal.returns-then-is_zero
returns-then-is_zero c = λ s sum i. closes_zero s sum c.args.used.now c.args.total.now c.one_apart.result i (c.is_zero.ensures.exact.0 c.if-is_zero.true) c.one_apart.ensures

pub returns-else-is_zero : goal.returns-else-is_zero
returns-else-is_zero c = λ s sum i. closes_not s sum c.args.used.now c.args.total.now c.shows.ensures.line i
    (λ h. both_ways c.shows.result c.if-shows.false (c.shows.ensures.exact.1 h)) (λ h. both_ways c.is_zero.result c.if-is_zero.false (c.is_zero.ensures.exact.1 h))
