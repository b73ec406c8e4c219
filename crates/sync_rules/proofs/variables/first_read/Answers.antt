use Rattle.std.proofs.Common.{◌≡◌, get_or, None, sym, ap, ◌∙◌}
use Rattle.sync_machine.specs.declared.machine.Step.{Step}
use Rattle.sync_machine.specs.declared.machine.Act.TheVariants as stored
use Rattle.sync_machine.specs.Views.{step_tree}
use Rattle.sync_rules.specs.Slots.{read_by, read_slot, only_if}
use Rattle.sync_rules.proofs.Earliest.{earliest-more}
use Rattle.sync_rules.proofs.variables.first_read.Goals as goal

pub loop-step-preserved : goal.loop-step-preserved
loop-step-preserved c =
    let s = c.args.m.now.terms in
    let x = c.args.variable in
    let d : Step = record { act = stored.Init 0 (record { 0 = 0 }); line = 0 } in
    let step = get_or c.args.steps.now c.loop-step.step-index d in
    let none : read_by c.args.m.now.fields x (step_tree s step) ≡ None = ap (λ b. only_if b (read_slot x step.line)) (sym c.needs.ensures ∙ c.if-needs.false) in
    earliest-more (read_by c.args.m.now.fields x) (step_tree s) c.args.steps.now c.loop-step.step-index d _ c.loop-step-test.true none c.loop-step.invariant

pub returns-then-needs-clause-ids : goal.returns-then-needs-clause-ids
returns-then-needs-clause-ids c = c.of_read.ensures.ids c.args.m.now.terms
