use Rattle.std.proofs.Common.{refl, sym, ap, ◌∙◌, true, false}
use Rattle.sync_machine.specs.Views.{operation_tree}
use Rattle.sync_rules.proofs.Lists.{append-nothing}
use Rattle.sync_rules.proofs.Growth.{marked-more, marked-all}
use Rattle.sync_rules.proofs.listing.add_keeps.Goals.{then-has_to_keep+in_ok-place_number+in_ok-push, else-has_to_keep}
use Rattle.sync_rules.proofs.listing.add_keeps.Goals as goal

pub loop-j-preserved : goal.loop-j-preserved
loop-j-preserved c =
    let s = c.args.m.now.terms in
    let o = operation_tree s c.args.operation.now in
    let test = sym (c.has_to_keep.ensures s) in
    elim c.if-has_to_keep.branch [
      | then-has_to_keep+in_ok-place_number+in_ok-push w ↦
          marked-more o c.args.op c.loop-j.j c.args.named.now _ c.loop-j.list.items _ _ true w.in_ok-place_number.field-0 c.loop-j-test.true c.loop-j.invariant (test ∙ w.if-has_to_keep.true) w.in_ok-place_number.ensures (ap (λ v. v.items) w.list-is ∙ w.in_ok-push.ensures.items)
      | else-has_to_keep w ↦
          marked-more o c.args.op c.loop-j.j c.args.named.now _ c.loop-j.list.items _ _ false _ c.loop-j-test.true c.loop-j.invariant (test ∙ w.if-has_to_keep.false) refl (ap (λ v. v.items) w.list-is ∙ sym (append-nothing _))
    ]

pub returns : goal.returns
returns c = marked-all (operation_tree c.args.m.now.terms c.args.operation.now) c.args.op c.loop-j.j c.args.named.now _ _ c.loop-j-test.false c.loop-j.invariant
