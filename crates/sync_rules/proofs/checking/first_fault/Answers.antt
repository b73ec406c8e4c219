use Rattle.std.proofs.Common.{◌≡◌, ◌<◌, ◌≤◌, length, get_or, Some, None, sym, ap, subst, ◌∙◌}
use Rattle.sync_machine.specs.Views.{operation_tree}
use Rattle.sync_rules.specs.Faults.{operation_fault}
use Rattle.sync_rules.proofs.Walks.{operations-more, operations-found, operations-all}
use Rattle.sync_rules.proofs.checking.first_fault.Goals as goal

pub returns-in-Some : goal.returns-in-Some
returns-in-Some c =
    let m = c.args.m.now in
    let i = c.loop-op.op-index in
    let op = c.op-item.result in
    let p = c.as_slice-op-items.ensures in
    let fault : Some c.in-Some.refusal ≡ operation_fault m.fields (operation_tree m.terms op) = sym c.in-Some.is ∙ c.operation_fault.ensures in
    operations-found m.fields m.terms i m.ops op _ c.in-Some.refusal (subst (λ ys. i < length ys) p c.loop-op-test.true) (c.op-item.is ∙ ap (λ ys. get_or ys i op) p) fault c.loop-op.invariant

pub loop-op-preserved : goal.loop-op-preserved
loop-op-preserved c =
    let m = c.args.m.now in
    let i = c.loop-op.op-index in
    let op = c.op-item.result in
    let p = c.as_slice-op-items.ensures in
    let fault : None ≡ operation_fault m.fields (operation_tree m.terms op) = sym c.in_default.is ∙ c.operation_fault.ensures in
    operations-more m.fields m.terms i m.ops op _ (subst (λ ys. i < length ys) p c.loop-op-test.true) (c.op-item.is ∙ ap (λ ys. get_or ys i op) p) fault c.loop-op.invariant

pub returns : goal.returns
returns c =
    let m = c.args.m.now in
    let i = c.loop-op.op-index in
    operations-all m.fields m.terms i m.ops _ (subst (λ ys. length ys ≤ i) c.as_slice-op-items.ensures c.loop-op-test.false) c.loop-op.invariant
