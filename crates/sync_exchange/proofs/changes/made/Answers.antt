use Rattle.std.proofs.Common.{◌≡◌, List, Option, Some, slice_index_or, length, map, ap, ◌∙◌}
use Rattle.std.proofs.lemmas.List.{length-set}
use Rattle.sync_join.specs.declared.values.Value.{Value}
use Rattle.sync_join.specs.Views.{value_tree}
use Rattle.sync_exchange.specs.Works.{laid_over}
use Rattle.sync_exchange.proofs.Laying.{made-far, made-near}
use Rattle.sync_exchange.proofs.changes.made.Goals as goal

pub loop-r-preserved-then-at-records : goal.loop-r-preserved-then-at-records
loop-r-preserved-then-at-records c = (
  made-far c.args.changes.now c.loop-r.r-index c.r-item.result c.r-item.is c.loop-r.news c.args.records.now c.loop-r-test.true c.loop-r.invariant.0 c.if-at-records.true,
  c.loop-r.invariant.1,
)

pub loop-r-preserved : goal.loop-r-preserved
loop-r-preserved c =
    let ns = c.loop-r.news in
    let rs = c.args.records.now in
    let r = c.r-item.result in
    let v = c.in_ok-value.value in
    let is : c.latest.result.now ≡ slice_index_or (laid_over ns rs) r.field v = c.latest.ensures v ∙ ap (λ (ms : List (Option Value)). slice_index_or (laid_over ms rs) r.field v) c.as_slice.ensures in (
      ap (λ (ms : List (Option Value)). map value_tree (laid_over ms rs)) c.set.ensures
          ∙ made-near c.args.changes.now c.loop-r.r-index r c.r-item.is ns rs c.loop-r-test.true c.loop-r.invariant.0 v c.latest.result.now c.loop-r.invariant.1 c.if-at-records.false is c.in_ok-value.ensures,
      ap length c.set.ensures ∙ length-set ns r.field (Some v) ∙ c.loop-r.invariant.1,
    )
