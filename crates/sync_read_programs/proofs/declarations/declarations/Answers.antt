use Rattle.sync_read_names.proofs.Kept.{along}
use Rattle.sync_read_programs.proofs.Declaring.{declarations_go}
use Rattle.sync_read_programs.proofs.declarations.declarations.Goals as goal

pub loop-x-preserved : goal.loop-x-preserved
loop-x-preserved c =
    let l = c.loop-x in
    let grows = c.declaration.ensures.keeps in (
      λ t more. declarations_go t l.room c.in_ok-made.more l.scope c.declaration.new.scope c.args.raw.now l.x-index c.x-item.result l.held c.push.new.self c.in_ok-made.made _
          c.loop-x-test.true c.x-item.is (c.in_ok-made.ensures.exact t more) c.in_ok-push.ensures.ok (l.invariant.0 t (along _ _ t grows more)),
      along _ _ _ l.invariant.1 grows,
    )
