use Rattle.std.proofs.Common.{◌≡◌, ◌++◌, [], ◌∷◌, Some, None, option_map, filter_map, subst, sym, ap, ◌∙◌}
use Rattle.std.specs.List.{range_with_len}
use Rattle.std.proofs.lemmas.List.{map_push}
use Rattle.sync_machine.specs.Views.{steps_tree}
use Rattle.sync_rules.specs.Slots.{field_slot}
use Rattle.sync_rules.specs.Views.{slot_tree, slots_tree, HasSlotIds, HaveSlotIds}
use Rattle.sync_rules.proofs.Growing.{grown, kept, all-push, range_more}
use Rattle.sync_rules.proofs.signing.add_variables.Goals as goal
use Rattle.sync_rules.proofs.signing.add_variables.Goals.{in-Some+in_ok-push, in_default}

pub loop-f-preserved : goal.loop-f-preserved
loop-f-preserved c =
    let s = c.args.m.now.terms in
    let g = field_slot c.args.m.now.fields (steps_tree s c.args.steps.now) in
    let f = c.loop-f.f in
    let start = slots_tree s c.args.list.now.items in
    let before = range_with_len 0 f in
    let on = λ (e : slots_tree s c.match-field_slot.list.items ≡ start ++ filter_map g (before ++ f ∷ [])). e ∙ ap (λ ys. start ++ filter_map g ys) (sym (range_more f)) in
    let number : g f ≡ option_map (slot_tree s) c.field_slot.result = ap g (sym c.in_ok-field.ensures) ∙ sym c.field_slot.ensures.exact in
    elim c.match-field_slot.branch [
      | in-Some+in_ok-push w ↦
          (let pushed : c.match-field_slot.list.items ≡ c.loop-f.list.items ++ w.in-Some.slot ∷ [] = ap (λ v. v.items) w.list-is ∙ w.in_ok-push.ensures.items in
          let is : g f ≡ Some (slot_tree s w.in-Some.slot) = number ∙ ap (option_map (slot_tree s)) w.in-Some.is in (
            on (ap (slots_tree s) pushed ∙ map_push (slot_tree s) c.loop-f.list.items w.in-Some.slot ∙ grown g (slots_tree s c.loop-f.list.items) start before f (slot_tree s w.in-Some.slot) c.loop-f.invariant.0 is),
            λ h. subst (HaveSlotIds s) (sym pushed) (all-push (HasSlotIds s) c.loop-f.list.items w.in-Some.slot (c.loop-f.invariant.1 h) w.in-Some.ensures.ids),
          ))
      | in_default w ↦
          (let same : c.match-field_slot.list.items ≡ c.loop-f.list.items = ap (λ v. v.items) w.list-is in
          let is : g f ≡ None = number ∙ ap (option_map (slot_tree s)) w.in_default.is in (
            on (ap (slots_tree s) same ∙ kept g (slots_tree s c.loop-f.list.items) start before f c.loop-f.invariant.0 is),
            λ h. subst (HaveSlotIds s) (sym same) (c.loop-f.invariant.1 h),
          ))
    ]
