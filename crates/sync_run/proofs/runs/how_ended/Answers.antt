use Rattle.std.proofs.Common.{◌<◌, ◌≤◌, ◌+◌, length, sym, ◌∙◌, rules}
use Rattle.sync_thread_events.specs.Moments.{config_of}
use Rattle.sync_run.proofs.Told.{all_over, budget_used}
use Rattle.sync_run.proofs.runs.how_ended.Goals as goal

pub returns-then-waits : goal.returns-then-waits
returns-then-waits c =
    let within : c.loop-number.number < length c.args.code.now.threads + 1 = search rules in
    budget_used c.args.code.now (config_of c.args.code.now c.args.moment.now) c.loop-number.number within
    (sym c.waits.ensures ∙ c.if-waits.true) c.loop-number.invariant

pub returns : goal.returns
returns c =
    let past : length c.args.code.now.threads + 1 ≤ c.loop-number.number = search rules in
    all_over c.args.code.now (config_of c.args.code.now c.args.moment.now) c.loop-number.number past c.loop-number.invariant
