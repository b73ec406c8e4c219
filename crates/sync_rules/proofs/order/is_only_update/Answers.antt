use Rattle.std.proofs.Common.{rules, sym, ◌∙◌}
use Rattle.std.proofs.lemmas.Iterator.{YieldsList-from_slice}
use Rattle.std.proofs.lemmas.Iterator.Search.{all_from_yields_List}
use Rattle.std.proofs.lemmas.List.Folds.{list_all-map}
use Rattle.sync_machine.specs.declared.machine.Step.{Step}
use Rattle.sync_machine.specs.Machines.{StepTree}
use Rattle.sync_machine.specs.Views.{act_tree, step_tree}
use Rattle.sync_rules.specs.Order.{is_no_second_update}
use Rattle.sync_rules.proofs.order.is_only_update.Goals as goal

pub returns : goal.returns
returns c s =
    let steps = c.args.earlier.now in
    let act = act_tree s c.args.act.now in
    all_from_yields_List (λ (x : Step). is_no_second_update act (act_tree s x.act)) _ _ _ c.all.ensures.ran (YieldsList-from_slice steps cc) (λ x b q k. search rules)
    ∙ sym (list_all-map (λ (x : StepTree). is_no_second_update act x.act) (step_tree s) steps)
