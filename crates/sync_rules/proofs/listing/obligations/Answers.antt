use Rattle.std.proofs.Common.{ap, ◌∙◌, map}
use Rattle.sync_machine.specs.Views.{operation_tree, machine_tree}
use Rattle.sync_rules.specs.FieldSets.{all_claims}
use Rattle.sync_rules.proofs.Marked.{all_claims-obligations}
use Rattle.sync_rules.proofs.Growth.{marks_in, claims-more, claims-all}
use Rattle.sync_rules.proofs.listing.obligations.Goals as goal

pub loop-i-preserved : goal.loop-i-preserved
loop-i-preserved c =
    let m = c.args.m.now in
    claims-more m.fields (marks_in c.in_ok-named.named.items) m.terms c.loop-i.i c.in_ok-number.number m.ops c.as_slice-op-items.result.now c.op-item.result c.loop-i.list.items c.add_safety.new.list.items _ _ c.loop-i-test.true c.as_slice-op-items.ensures c.op-item.is c.loop-i.invariant c.in_ok-number.ensures c.in_ok-add_safety.ensures (c.in_ok-add_keeps.ensures ∙ cc (c.as_slice.ensures.value))

pub returns : goal.returns
returns c =
    let m = c.args.m.now in
    claims-all m.fields (marks_in c.in_ok-named.named.items) m.terms c.loop-i.i m.ops c.as_slice-op-items.result.now c.loop-i.list.items _ c.loop-i-test.false c.as_slice-op-items.ensures c.loop-i.invariant
    ∙ ap (λ marks. all_claims m.fields marks 0 (map (operation_tree m.terms) m.ops)) c.in_ok-named.ensures
    ∙ all_claims-obligations (machine_tree m) c.requires.fields
