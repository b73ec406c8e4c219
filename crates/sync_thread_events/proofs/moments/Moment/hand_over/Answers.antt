use Rattle.std.proofs.Common.{ap, sym, ◌∙◌}
use Rattle.sync_thread_events.specs.Moments.{begun_at, config_of}
use Rattle.sync_thread.specs.Control.{hand_over}
use Rattle.sync_thread.specs.Code.{code_meaning}
use Rattle.sync_thread.specs.Views.{code_tree}
use Rattle.sync_thread_events.proofs.Leading.{goes_along, over_none, over_not, over_some}
use Rattle.sync_thread_events.proofs.moments.Moment.hand_over.Goals as goal

pub returns-then-not-have_ended-clause-goes : goal.returns-then-not-have_ended-clause-goes
returns-then-not-have_ended-clause-goes c =
    over_not c.args.code.now (config_of c.args.code.now c.args.self.now) (sym c.have_ended.ensures ∙ c.if-not-have_ended.true)

pub returns-in-Some-clause-goes : goal.returns-in-Some-clause-goes
returns-in-Some-clause-goes c =
    let here = config_of c.args.code.now c.args.self.now in
    goes_along c.begin_at.result (hand_over (code_meaning (code_tree c.args.code.now)) here) (begun_at c.args.code.now c.len.result here)
    (config_of c.args.code.now c.begin_at.new.self)
    (over_some c.args.code.now here c.in-Some.field-0 (sym c.have_ended.ensures ∙ c.if-not-have_ended.false) c.in-Some.is
    ∙ ap (λ n. begun_at c.args.code.now n here) (sym c.len.ensures)) c.begin_at.ensures.goes

pub returns-in-None-clause-goes : goal.returns-in-None-clause-goes
returns-in-None-clause-goes c =
    over_none c.args.code.now (config_of c.args.code.now c.args.self.now) (sym c.have_ended.ensures ∙ c.if-not-have_ended.false) c.in-None.is
