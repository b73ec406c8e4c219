use Rattle.sync_thread.specs.Views.{keep_line_tree}
use Rattle.sync_read_names.proofs.Kept.{along}
use Rattle.sync_read_programs.specs.Keeps.{keep_lines_from, keep_line}
use Rattle.sync_read_programs.proofs.Going.{go_on}
use Rattle.sync_read_programs.proofs.Opening.{keep_lines_open}
use Rattle.sync_read_programs.proofs.keeps.keep_lines.Goals as goal

pub loop-x-preserved : goal.loop-x-preserved
loop-x-preserved c =
    let l = c.loop-x in
    let grows = c.keep_line.ensures.keeps in (
      λ t more. go_on (keep_lines_from c.args.ends) (keep_line c.args.ends) (keep_lines_open c.args.ends) (keep_line_tree t) l.scope c.keep_line.new.scope c.args.raw.now l.x-index c.x-item.result l.held c.push.new.self c.in_ok-made.made _
          c.loop-x-test.true c.x-item.is (c.in_ok-made.ensures.exact t more) c.in_ok-push.ensures.ok (l.invariant.0 t (along _ _ t grows more)),
      along _ _ _ l.invariant.1 grows,
    )
