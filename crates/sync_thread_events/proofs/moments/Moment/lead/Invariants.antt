use Rattle.std.proofs.Common.{◌≡◌, drop}
use Rattle.sync_thread.specs.Code.{code_meaning}
use Rattle.sync_thread.specs.Control.{lead}
use Rattle.sync_thread.specs.Views.{code_tree}
use Rattle.sync_thread_events.specs.Moments.{config_of, IsMomentOf}
use Rattle.sync_thread_events.proofs.moments.Moment.lead.Given as goal

abbrev pub invariant-loop-at : goal.invariant-loop-at
invariant-loop-at l = IsMomentOf l.code l.self
    × (lead (code_meaning (code_tree l.code)) 0 (code_meaning (code_tree l.code)).bodies (config_of l.code l.initial.self)
    ≡ lead (code_meaning (code_tree l.code)) l.at (drop l.at (code_meaning (code_tree l.code)).bodies) (config_of l.code l.self))
