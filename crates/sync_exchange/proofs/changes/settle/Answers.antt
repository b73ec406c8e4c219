use Rattle.std.proofs.Common.{◌≡◌, ◌++◌, [], ◌∷◌, length, Some, None, List, Option, slice_set, sym, ap, ◌∙◌}
use Rattle.sync_join.specs.declared.values.Value.{Value}
use Rattle.sync_exchange.specs.Works.{laid_over}
use Rattle.sync_exchange.proofs.Laying.{nothing-over, laid-last-old, laid-last-new, shorter, shorter-set}
use Rattle.sync_exchange.proofs.changes.settle.Goals as goal

pub loop-new-preserved-in-Some-new : goal.loop-new-preserved-in-Some-new
loop-new-preserved-in-Some-new c =
    let ns = c.pop.new.self in
    let vs = c.loop-new.records in
    let v = c.in-Some-new.value in
    let left : c.loop-new.left ≡ ns ++ Some v ∷ [] = c.in-Some.ensures ∙ ap (λ (o : Option Value). ns ++ o ∷ []) c.in-Some-new.is in
    let set : c.set.new.self ≡ slice_set vs (length ns) v = c.set.ensures ∙ ap (λ n. slice_set vs n v) c.len.ensures in (
      ap (laid_over ns) set ∙ sym (ap (λ (ms : List (Option Value)). laid_over ms vs) left ∙ laid-last-new ns vs v) ∙ c.loop-new.invariant.0,
      shorter-set ns vs c.set.new.self (Some v) (length ns) v c.loop-new.left left set c.loop-new.invariant.1,
    )

pub loop-new-preserved : goal.loop-new-preserved
loop-new-preserved c =
    let ns = c.pop.new.self in
    let vs = c.loop-new.records in
    let left : c.loop-new.left ≡ ns ++ None ∷ [] = c.in-Some.ensures ∙ ap (λ (o : Option Value). ns ++ o ∷ []) c.in_default-new.is in (
      sym (ap (λ (ms : List (Option Value)). laid_over ms vs) left ∙ laid-last-old ns vs) ∙ c.loop-new.invariant.0,
      shorter ns vs None c.loop-new.left left c.loop-new.invariant.1,
    )

pub returns : goal.returns
returns c = sym (ap (λ (ms : List (Option Value)). laid_over ms c.loop-new.records) c.in_default.ensures.0 ∙ nothing-over c.loop-new.records) ∙ c.loop-new.invariant.0
