use Rattle.std.proofs.Common.{sym, ap, ◌∙◌}
use Rattle.sync_read_names.proofs.Kept.{along}
use Rattle.sync_read_programs.specs.Programs.{thread_in}
use Rattle.sync_read_programs.proofs.Threaded.{threads_go}
use Rattle.sync_read_programs.proofs.programs.threads.Goals as goal

pub loop-x-preserved : goal.loop-x-preserved
loop-x-preserved c =
    let l = c.loop-x in
    let grows = c.thread.ensures.keeps in (
      λ t more. threads_go t l.scope c.thread.new.scope c.args.raw.now l.x-index c.x-item.result l.held c.push.new.self c.in_ok-made.made _
          c.loop-x-test.true c.x-item.is (ap (λ n. thread_in n l.scope c.x-item.result) (sym c.len.ensures) ∙ c.in_ok-made.ensures.exact t more) c.in_ok-push.ensures.ok
          (l.invariant.0 t (along _ _ t grows more)),
      along _ _ _ l.invariant.1 grows,
    )
