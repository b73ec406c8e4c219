use Rattle.std.proofs.Common.{ap, sym, ◌∙◌}
use Rattle.sync_read.specs.Resolving.{operation_in}
use Rattle.sync_read.specs.Owned.{HasOperationIds}
use Rattle.sync_read_names.proofs.Kept.{along}
use Rattle.sync_read.proofs.Growing.{operations_stay}
use Rattle.sync_read.proofs.Going.{operations_go, one_more}
use Rattle.sync_read.proofs.machines.operations.Goals as goal

pub loop-o-preserved : goal.loop-o-preserved
loop-o-preserved c =
    let l = c.loop-o in
    let x = c.in_ok-made.made in
    let after = c.operation.new.terms in
    let grows = c.operation.ensures.keeps in (
      operations_go l.terms after c.args.fields.now l.scope c.operation.new.scope c.args.raw.now l.o-index c.o-item.result l.held c.push.new.self x _
          c.loop-o-test.true c.o-item.is grows l.invariant.1 (ap (λ n. operation_in n c.args.fields.now l.scope c.o-item.result) (sym c.len.ensures) ∙ c.in_ok-made.ensures.exact) c.in_ok-push.ensures.ok l.invariant.0,
      one_more (HasOperationIds after) l.held c.push.new.self x c.in_ok-push.ensures.ok (operations_stay _ _ l.held grows l.invariant.1) c.in_ok-made.ensures.ids,
      along _ _ _ l.invariant.2 grows,
    )
