use Rattle.std.proofs.Common.{◌≡◌, ◌+◌, ◌++◌, [], ◌∷◌, get_or, take, Some, None, option_map, filter_map, subst, sym, ap, ◌∙◌}
use Rattle.std.proofs.lemmas.List.{take_more, map_push}
use Rattle.sync_machine.specs.declared.machine.Step.{Step}
use Rattle.sync_machine.specs.declared.machine.Act.TheVariants as stored
use Rattle.sync_machine.specs.Views.{step_tree, steps_tree}
use Rattle.sync_rules.specs.Slots.{statement_slot}
use Rattle.sync_rules.specs.Views.{slot_tree, slots_tree, HasSlotIds, HaveSlotIds}
use Rattle.sync_rules.proofs.Growing.{grown, kept, all-push}
use Rattle.sync_rules.proofs.signing.add_statements.Goals as goal
use Rattle.sync_rules.proofs.signing.add_statements.Goals.{in-Some+in_ok-push, in_default}

pub loop-step-preserved : goal.loop-step-preserved
loop-step-preserved c =
    let s = c.args.m.now.terms in
    let fs = c.args.m.now.fields in
    let steps = c.args.steps.now in
    let i = c.loop-step.step-index in
    let d : Step = record { act = stored.Init 0 (record { 0 = 0 }); line = 0 } in
    let x = step_tree s (get_or steps i d) in
    let start = slots_tree s c.args.list.now.items in
    let before = steps_tree s (take i steps) in
    let more : steps_tree s (take (i + 1) steps) ≡ before ++ x ∷ [] = ap (steps_tree s) (take_more steps i d c.loop-step-test.true) ∙ map_push (step_tree s) (take i steps) (get_or steps i d) in
    let on = λ (e : slots_tree s c.match-statement_slot.list.items ≡ start ++ filter_map (statement_slot fs) (before ++ x ∷ [])). e ∙ ap (λ ys. start ++ filter_map (statement_slot fs) ys) (sym more) in
    elim c.match-statement_slot.branch [
      | in-Some+in_ok-push w ↦
          (let pushed : c.match-statement_slot.list.items ≡ c.loop-step.list.items ++ w.in-Some.slot ∷ [] = ap (λ v. v.items) w.list-is ∙ w.in_ok-push.ensures.items in
          let is : statement_slot fs x ≡ Some (slot_tree s w.in-Some.slot) = sym c.statement_slot.ensures.exact ∙ ap (option_map (slot_tree s)) w.in-Some.is in (
            on (ap (slots_tree s) pushed ∙ map_push (slot_tree s) c.loop-step.list.items w.in-Some.slot ∙ grown (statement_slot fs) (slots_tree s c.loop-step.list.items) start before x (slot_tree s w.in-Some.slot) c.loop-step.invariant.0 is),
            λ h. subst (HaveSlotIds s) (sym pushed) (all-push (HasSlotIds s) c.loop-step.list.items w.in-Some.slot (c.loop-step.invariant.1 h) w.in-Some.ensures.ids),
          ))
      | in_default w ↦
          (let same : c.match-statement_slot.list.items ≡ c.loop-step.list.items = ap (λ v. v.items) w.list-is in
          let is : statement_slot fs x ≡ None = sym c.statement_slot.ensures.exact ∙ ap (option_map (slot_tree s)) w.in_default.is in (
            on (ap (slots_tree s) same ∙ kept (statement_slot fs) (slots_tree s c.loop-step.list.items) start before x c.loop-step.invariant.0 is),
            λ h. subst (HaveSlotIds s) (sym same) (c.loop-step.invariant.1 h),
          ))
    ]
