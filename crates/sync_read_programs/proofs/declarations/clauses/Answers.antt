use Rattle.sync_thread.specs.Views.{clause_tree}
use Rattle.sync_read_names.proofs.Kept.{along}
use Rattle.sync_read_programs.specs.Keeps.{clauses_from, clause_in}
use Rattle.sync_read_programs.proofs.Going.{go}
use Rattle.sync_read_programs.proofs.Opening.{clauses_open}
use Rattle.sync_read_programs.proofs.declarations.clauses.Goals as goal

pub loop-x-preserved : goal.loop-x-preserved
loop-x-preserved c =
    let l = c.loop-x in
    let s = c.args.scope.now in
    let grows = c.clause.ensures.keeps in (
      λ t more. go (λ held raw. clauses_from held s raw) (clause_in s) (clauses_open s) (clause_tree t) c.args.raw.now l.x-index c.x-item.result l.held c.push.new.self c.in_ok-made.made _
          c.loop-x-test.true c.x-item.is (c.in_ok-made.ensures.exact t more) c.in_ok-push.ensures.ok (l.invariant.0 t (along _ _ t grows more)),
      along _ _ _ l.invariant.1 grows,
    )
