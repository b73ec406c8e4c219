use Rattle.std.proofs.Common.{◌≤◌, List, length, ap, subst, ◌∙◌, map}
use Rattle.std.proofs.lemmas.List.{take_all}
use Rattle.sync_machine.specs.declared.machine.Operation.{Operation}
use Rattle.sync_machine.specs.Views.{operation_tree}
use Rattle.sync_read_programs.specs.Scopes.{call_of}
use Rattle.sync_read_programs.proofs.Counting.{calls_are}
use Rattle.sync_read_programs.proofs.scopes.calls.Goals as goal

pub returns : goal.returns
returns c =
    let m = c.args.machine.now in
    let past : length m.ops ≤ c.loop-number.number = subst (λ (os : List Operation). length os ≤ c.loop-number.number) c.as_slice-operation-items.ensures c.loop-number-test.false in
    c.loop-number.invariant
    ∙ ap (map (λ (o : Operation). call_of m.fields (operation_tree m.terms o))) (take_all c.loop-number.number m.ops past)
    ∙ calls_are m.fields m.terms m.ops
