use Rattle.std.proofs.Common.{◌<◌, ◌≤◌, length, ◌∙◌, arith}
use Rattle.std.proofs.lemmas.Result.{err_from_is_err_and}
use Rattle.sync_thread_events.specs.Moments.{config_of}
use Rattle.sync_thread_events.proofs.Leading.{lead_done, lead_on, lead_stuck}
use Rattle.sync_thread_events.proofs.moments.Moment.lead.Goals as goal

pub returns-in_err-begin_at-clause-goes : goal.returns-in_err-begin_at-clause-goes
returns-in_err-begin_at-clause-goes c =
    let p = err_from_is_err_and c.from_residual.result c.from_residual.ensures.1 in
    let within : c.loop-at.at < length c.args.code.now.threads = omega (arith, c.loop-at-test.true, c.len-at-end.ensures) in
    rw (p.1, p.2) (lead_stuck c.args.code.now c.loop-at.at (config_of c.args.code.now c.args.self.now)
    (config_of c.args.code.now c.loop-at.self) _ within c.loop-at.invariant.1 c.in_err-begin_at.ensures.goes)

pub loop-at-preserved : goal.loop-at-preserved
loop-at-preserved c =
    let within : c.loop-at.at < length c.args.code.now.threads = omega (arith, c.loop-at-test.true, c.len-at-end.ensures) in (
      c.in_ok-begin_at.ensures.stays,
      lead_on c.args.code.now c.loop-at.at (config_of c.args.code.now c.args.self.now) (config_of c.args.code.now c.loop-at.self)
          (config_of c.args.code.now c.begin_at.new.self) within c.loop-at.invariant.1 c.in_ok-begin_at.ensures.goes,
    )

pub returns-clause-goes : goal.returns-clause-goes
returns-clause-goes c =
    let past : length c.args.code.now.threads ≤ c.loop-at.at = omega (arith, c.loop-at-test.false, c.len-at-end.ensures) in
    c.loop-at.invariant.1 ∙ lead_done c.args.code.now c.loop-at.at (config_of c.args.code.now c.loop-at.self) past
