use Rattle.std.proofs.Common.{◌≡◌, get_or, None, option_map, sym, ap, ◌∙◌}
use Rattle.sync_terms.specs.Stored.{tree}
use Rattle.sync_machine.specs.declared.machine.Step.{Step}
use Rattle.sync_machine.specs.declared.machine.Act.TheVariants as stored
use Rattle.sync_machine.specs.Views.{step_tree}
use Rattle.sync_rules.specs.declared.slots.Role.TheVariants.{Change}
use Rattle.sync_rules.specs.Slots.{changed_by, valued}
use Rattle.sync_rules.proofs.Earliest.{earliest-more}
use Rattle.sync_rules.proofs.variables.first_changed.Goals as goal

pub returns-in-Some-clause-ids : goal.returns-in-Some-clause-ids
returns-in-Some-clause-ids c = c.of_value.ensures.ids c.args.m.now.terms c.in-Some.ensures.ids

pub loop-step-preserved : goal.loop-step-preserved
loop-step-preserved c =
    let s = c.args.m.now.terms in
    let x = c.args.variable in
    let d : Step = record { act = stored.Init 0 (record { 0 = 0 }); line = 0 } in
    let step = get_or c.args.steps.now c.loop-step.step-index d in
    let none : changed_by x (step_tree s step) ≡ None = ap (valued Change x step.line) (sym c.updated_to.ensures.exact ∙ ap (option_map (tree s)) c.in_default.is) in
    earliest-more (changed_by x) (step_tree s) c.args.steps.now c.loop-step.step-index d _ c.loop-step-test.true none c.loop-step.invariant
