use Rattle.std.proofs.Common.{refl, rules}
use Rattle.sync_machine.specs.declared.machine.Step.{Step}
use Rattle.sync_machine.specs.Views.{HasActIds}
use Rattle.sync_read_names.proofs.Kept.{along}
use Rattle.sync_read.proofs.Steps.{steps_stay}
use Rattle.sync_read.proofs.Going.{steps_go, one_more}
use Rattle.sync_read.proofs.acts.steps.Goals as goal

pub loop-a-preserved : goal.loop-a-preserved
loop-a-preserved c =
    let l = c.loop-a in
    let x : Step = record { act = c.in_ok-act.act; line = c.a-item.result.line } in
    let grows = c.act.ensures.keeps in (
      steps_go l.terms c.act.new.terms l.scope c.act.new.scope c.args.raw.now l.a-index c.a-item.result l.held c.push.new.self x c.in_ok-few_before.field-0 _
          c.loop-a-test.true c.a-item.is grows l.invariant.1 (search rules) c.in_ok-act.ensures.exact refl c.in_ok-push.ensures.ok l.invariant.0,
      one_more (λ (y : Step). HasActIds c.act.new.terms y.act) l.held c.push.new.self x c.in_ok-push.ensures.ok (steps_stay _ _ l.held grows l.invariant.1) c.in_ok-act.ensures.ids,
      along _ _ _ l.invariant.2 grows,
    )
