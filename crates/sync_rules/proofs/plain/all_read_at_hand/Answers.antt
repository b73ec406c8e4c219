use Rattle.std.proofs.Common.{◌≡◌, get_or, true, false, sym, ap, ◌∙◌}
use Rattle.sync_machine.specs.declared.machine.Step.{Step}
use Rattle.sync_machine.specs.declared.machine.Act.TheVariants as stored
use Rattle.sync_machine.specs.Views.{step_tree, steps_tree}
use Rattle.sync_rules.specs.Plain.{reads_at_hand}
use Rattle.sync_rules.proofs.Throughout.{all-more, all-not, all-end}
use Rattle.sync_rules.proofs.plain.all_read_at_hand.Goals as goal

pub loop-step-preserved : goal.loop-step-preserved
loop-step-preserved c =
    let m = c.args.m.now in
    let ss = c.args.steps.now in
    let d : Step = record { act = stored.Init 0 (record { 0 = 0 }); line = 0 } in
    all-more (reads_at_hand m.fields (steps_tree m.terms ss)) (step_tree m.terms) ss c.loop-step.step-index _ c.loop-step.invariant d c.loop-step-test.true (sym c.reads_at_hand.ensures ∙ c.if-reads_at_hand.true)

pub returns : goal.returns
returns c = all-end _ _ _ _ _ c.loop-step.invariant c.loop-step-test.false
