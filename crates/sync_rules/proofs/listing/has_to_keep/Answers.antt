use Rattle.std.proofs.Common.{rules, sym, ◌∙◌}
use Rattle.std.proofs.lemmas.Iterator.{YieldsList-from_slice}
use Rattle.std.proofs.lemmas.Iterator.Search.{any_from_yields_List}
use Rattle.sync_machine.specs.declared.machine.Step.{Step}
use Rattle.sync_machine.specs.Machines.{StepTree}
use Rattle.sync_machine.specs.Statements.{changed_by}
use Rattle.sync_machine.specs.Views.{act_tree, step_tree}
use Rattle.sync_rules.specs.FieldSets.{is_marked}
use Rattle.sync_rules.proofs.Lists.{any-map}
use Rattle.sync_rules.proofs.listing.has_to_keep.Goals as goal

pub returns-in-Transition : goal.returns-in-Transition
returns-in-Transition c s =
    let marks = c.args.named.now.marks in
    let steps = c.args.operation.now.steps in
    rw c.in-Transition.is
    (any_from_yields_List (λ (x : Step). is_marked marks (changed_by (act_tree s x.act))) _ _ _ c.any.ensures.ran (YieldsList-from_slice steps cc) (λ x b q k. search rules)
    ∙ sym (any-map (λ (x : StepTree). is_marked marks (changed_by x.act)) (step_tree s) steps))
