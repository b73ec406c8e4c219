use Rattle.std.proofs.Common.{◌≡◌, ◌-◌, ◌<◌, ◌≤◌, List, length, take, get_or, Option, Some, None, ap, subst, ◌∙◌, arith}
use Rattle.sync_base.specs.declared.stops.Refusal.{Refusal}
use Rattle.sync_machine.specs.declared.machine.Step.{Step}
use Rattle.sync_machine.specs.declared.machine.Act.TheVariants as stored
use Rattle.sync_machine.specs.Views.{act_tree, steps_tree}
use Rattle.sync_rules.specs.Faults.{broken_rule}
use Rattle.sync_rules.proofs.Walks.{steps-more, steps-found, steps-all}
use Rattle.sync_rules.proofs.checking.operation_fault.Goals as goal

abbrev nothing : Step
nothing = record { act = stored.Init 0 (record { 0 = 0 }); line = 0 }

pub returns-in-Some : goal.returns-in-Some
returns-in-Some c =
    let m = c.args.m.now in
    let op = c.args.op.now in
    let i = c.loop-i.i in
    let items = c.as_slice-steps.result.now in
    let p = c.as_slice-steps.ensures in
    let k : i - 0 ≡ i = omega arith in
    let e : take (i - 0) items ≡ take i op.steps = ap (λ n. take n items) k ∙ ap (λ ys. take i ys) p in
    let rule : Some c.in-Some.rule ≡ broken_rule m.fields op.mode (steps_tree m.terms (take i op.steps)) (act_tree m.terms (get_or op.steps i nothing).act) = cc (c.broken_rule.ensures, c.in-Some.is) in
    let inside : i < length op.steps = subst (λ ys. i < length ys) p c.loop-i-test.true in
    let refused : List Step → Option Refusal = λ ys. Some (record { line = (get_or ys i nothing).line; rule = c.in-Some.rule }) in
    ap refused p ∙ steps-found m.fields op.mode m.terms i op.steps nothing _ c.in-Some.rule inside rule c.loop-i.invariant

pub loop-i-preserved : goal.loop-i-preserved
loop-i-preserved c =
    let m = c.args.m.now in
    let op = c.args.op.now in
    let i = c.loop-i.i in
    let items = c.as_slice-steps.result.now in
    let p = c.as_slice-steps.ensures in
    let k : i - 0 ≡ i = omega arith in
    let e : take (i - 0) items ≡ take i op.steps = ap (λ n. take n items) k ∙ ap (λ ys. take i ys) p in
    let rule : None ≡ broken_rule m.fields op.mode (steps_tree m.terms (take i op.steps)) (act_tree m.terms (get_or op.steps i nothing).act) = cc (c.broken_rule.ensures, c.in_default.is) in
    let inside : i < length op.steps = subst (λ ys. i < length ys) p c.loop-i-test.true in
    steps-more m.fields op.mode m.terms i op.steps nothing _ inside rule c.loop-i.invariant

pub returns : goal.returns
returns c =
    let m = c.args.m.now in
    let op = c.args.op.now in
    let i = c.loop-i.i in
    steps-all m.fields op.mode m.terms i op.steps _ (subst (λ ys. length ys ≤ i) c.as_slice-steps.ensures c.loop-i-test.false) c.loop-i.invariant
