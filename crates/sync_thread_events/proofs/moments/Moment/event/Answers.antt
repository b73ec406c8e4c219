use Rattle.std.proofs.Common.{ap, sym, ◌∙◌}
use Rattle.sync_thread_events.specs.Moments.{config_of, moved_if}
use Rattle.sync_thread_events.proofs.Stepping.{nothing_done}
use Rattle.sync_thread_events.proofs.moments.Moment.event.Goals as goal

pub returns-then-not-waits-clause-moved : goal.returns-then-not-waits-clause-moved
returns-then-not-waits-clause-moved c = ap moved_if (sym c.if-not-waits.true ∙ c.waits.ensures)

pub returns-then-not-waits-clause-goes : goal.returns-then-not-waits-clause-goes
returns-then-not-waits-clause-goes c =
    nothing_done c.args.code.now c.args.number (config_of c.args.code.now c.args.self.now) (sym c.waits.ensures ∙ c.if-not-waits.true)

pub returns-clause-moved : goal.returns-clause-moved
returns-clause-moved c = ap moved_if (sym c.if-not-waits.false ∙ c.waits.ensures)
