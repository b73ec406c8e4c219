use Rattle.std.proofs.Common.{refl, sym, ap, ◌∙◌, true, false, ◌≡◌, get_or, is_some}
use Rattle.sync_terms.specs.Trees.{Nil}
use Rattle.sync_machine.specs.declared.machine.Step.{Step}
use Rattle.sync_machine.specs.declared.machine.Act.TheVariants as stored
use Rattle.sync_machine.specs.Statements.{safety}
use Rattle.sync_machine.specs.States.{strategy_of}
use Rattle.sync_machine.specs.Views.{act_tree, step_tree}
use Rattle.sync_rules.specs.Obligations.{has_safety}
use Rattle.sync_rules.proofs.Lists.{append-nothing}
use Rattle.sync_rules.proofs.Growth.{safety-more, safety-all}
use Rattle.sync_rules.proofs.listing.add_safety.Goals.{then-has_safety+in_ok-place_number+in_ok-push, else-has_safety}
use Rattle.sync_rules.proofs.listing.add_safety.Goals as goal

pub loop-i-preserved : goal.loop-i-preserved
loop-i-preserved c =
    let s = c.args.m.now.terms in
    let items = c.as_slice-step-items.result.now in
    let steps = c.args.operation.now.steps in
    let d : Step = record { act = stored.Init 0 (record { 0 = 0 }); line = 0 } in
    let act = act_tree s (get_or items c.loop-i.i d).act in
    let strategy : strategy_of c.args.m.now.fields act ≡ c.strategy_of.result =
    sym (c.strategy_of.ensures s ∙ ap (λ fs. strategy_of fs act) c.as_slice.ensures) in
    let test : has_safety c.args.m.now.fields (step_tree s (get_or items c.loop-i.i d)) ≡ c.has_safety.result =
    ap (λ t. is_some (safety t Nil act)) strategy ∙ sym (c.has_safety.ensures s Nil) in
    elim c.if-has_safety.branch [
      | then-has_safety+in_ok-place_number+in_ok-push w ↦
          safety-more _ s c.args.op c.loop-i.i steps items d c.loop-i.list.items _ _ true w.in_ok-place_number.field-0 c.loop-i-test.true c.as_slice-step-items.ensures c.loop-i.invariant (test ∙ w.if-has_safety.true) w.in_ok-place_number.ensures (ap (λ v. v.items) w.list-is ∙ w.in_ok-push.ensures.items)
      | else-has_safety w ↦
          safety-more _ s c.args.op c.loop-i.i steps items d c.loop-i.list.items _ _ false _ c.loop-i-test.true c.as_slice-step-items.ensures c.loop-i.invariant (test ∙ w.if-has_safety.false) refl (ap (λ v. v.items) w.list-is ∙ sym (append-nothing _))
    ]

pub returns : goal.returns
returns c = safety-all _ c.args.m.now.terms c.args.op c.loop-i.i _ _ _ _ c.loop-i-test.false c.as_slice-step-items.ensures c.loop-i.invariant
