use Rattle.sync_thread.specs.Views.{keep_fact_tree}
use Rattle.sync_read_names.proofs.Kept.{along}
use Rattle.sync_read_programs.specs.Keeps.{keep_facts_from, keep_fact}
use Rattle.sync_read_programs.proofs.Going.{go}
use Rattle.sync_read_programs.proofs.Opening.{keep_facts_open}
use Rattle.sync_read_programs.proofs.keeps.keep_facts.Goals as goal

pub loop-x-preserved : goal.loop-x-preserved
loop-x-preserved c =
    let l = c.loop-x in
    let s = c.args.scope.now in
    let grows = c.keep_fact.ensures.keeps in (
      λ t more. go (λ held raw. keep_facts_from held s raw) (keep_fact s) (keep_facts_open s) (keep_fact_tree t) c.args.raw.now l.x-index c.x-item.result l.held c.push.new.self c.in_ok-made.made _
          c.loop-x-test.true c.x-item.is (c.in_ok-made.ensures.exact t more) c.in_ok-push.ensures.ok (l.invariant.0 t (along _ _ t grows more)),
      along _ _ _ l.invariant.1 grows,
    )
