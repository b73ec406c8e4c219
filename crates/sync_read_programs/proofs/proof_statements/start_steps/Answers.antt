use Rattle.sync_thread.specs.Views.{proof_step_tree}
use Rattle.sync_read_names.proofs.Kept.{along}
use Rattle.sync_read_programs.specs.ProofStatements.{start_steps_from, start_step}
use Rattle.sync_read_programs.proofs.Going.{go_on}
use Rattle.sync_read_programs.proofs.Opening.{start_steps_open}
use Rattle.sync_read_programs.proofs.proof_statements.start_steps.Goals as goal

pub loop-x-preserved : goal.loop-x-preserved
loop-x-preserved c =
    let l = c.loop-x in
    let grows = c.start_step.ensures.keeps in (
      λ t more. go_on (start_steps_from) (start_step) (start_steps_open) (proof_step_tree t) l.scope c.start_step.new.scope c.args.raw.now l.x-index c.x-item.result l.held c.push.new.self c.in_ok-made.made _
          c.loop-x-test.true c.x-item.is (c.in_ok-made.ensures.exact t more) c.in_ok-push.ensures.ok (l.invariant.0 t (along _ _ t grows more)),
      along _ _ _ l.invariant.1 grows,
    )
