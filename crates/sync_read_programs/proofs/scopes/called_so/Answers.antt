use Rattle.std.proofs.Common.{ap, ◌∙◌, count_by}
use Rattle.sync_rules.specs.declared.slots.Slot.{Slot}
use Rattle.sync_machine.specs.declared.machine.Step.{Step}
use Rattle.sync_machine.specs.Views.{act_tree}
use Rattle.sync_read_programs.specs.Scopes.{names_token, gives_token, is_guard}
use Rattle.sync_read_programs.proofs.Counting.{call_is}
use Rattle.sync_read_programs.proofs.scopes.called_so.Goals as goal

pub returns : goal.returns
returns c =
    let m = c.args.machine.now in
    let o = c.args.operation.now in
    call_is m c.args.number o c.in_ok-slots.slots.items c.len.result c.named_slots.result c.given_slots.result c.guards.result
    c.requires.low c.requires.there c.in_ok-slots.ensures.exact
    c.len.ensures
    (c.named_slots.ensures ∙ ap (count_by (λ (x : Slot). names_token x.role)) c.as_slice.ensures.value)
    (c.given_slots.ensures ∙ ap (count_by (λ (x : Slot). gives_token x.role)) c.as_slice-2.ensures.value)
    (c.guards.ensures m.terms ∙ ap (count_by (λ (x : Step). is_guard (act_tree m.terms x.act))) c.as_slice-3.ensures)
