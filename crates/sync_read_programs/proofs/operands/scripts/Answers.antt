use Rattle.sync_thread.specs.Views.{script_tree}
use Rattle.sync_read_names.proofs.Kept.{along}
use Rattle.sync_read_programs.specs.Operands.{scripts_from, one_script}
use Rattle.sync_read_programs.proofs.Going.{go_on}
use Rattle.sync_read_programs.proofs.Opening.{scripts_open}
use Rattle.sync_read_programs.proofs.operands.scripts.Goals as goal

pub loop-x-preserved : goal.loop-x-preserved
loop-x-preserved c =
    let l = c.loop-x in
    let grows = c.one_script.ensures.keeps in (
      λ t more. go_on (scripts_from) (one_script) (scripts_open) (script_tree t) l.scope c.one_script.new.scope c.args.raw.now l.x-index c.x-item.result l.held c.push.new.self c.in_ok-made.made _
          c.loop-x-test.true c.x-item.is (c.in_ok-made.ensures.exact t more) c.in_ok-push.ensures.ok (l.invariant.0 t (along _ _ t grows more)),
      along _ _ _ l.invariant.1 grows,
    )
