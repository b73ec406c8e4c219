use Rattle.std.proofs.Common.{◌∙◌, refl}
use Rattle.sync_exchange.proofs.Laying.{nothing-over, laid-last-old, length-last}
use Rattle.sync_exchange.proofs.changes.unchanged.Goals as goal

pub loop-init : goal.loop-init
loop-init c = rw c.new-news.ensures (nothing-over, refl)

pub loop-preserved : goal.loop-preserved
loop-preserved c = rw c.in_ok-push.ensures.ok (
  λ vs. laid-last-old c.loop.news vs ∙ c.loop.invariant.0 vs,
  length-last c.loop.news _ c.loop.counter c.loop.invariant.1,
)
