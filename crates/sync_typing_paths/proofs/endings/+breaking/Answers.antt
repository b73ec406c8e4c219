use Rattle.std.proofs.Common.{◌||◌, Bool, refl, sym, ap, ◌∙◌}
use Rattle.sync_thread.specs.declared.program.Stmt.{out-Stmt}
use Rattle.sync_typing.specs.Lists.{has_break}
use Rattle.sync_typing_paths.proofs.Trees.{word_tree}
use Rattle.sync_typing_paths.proofs.Walks.{passed, found, none_left, if_breaks, when_breaks}
use Rattle.sync_typing_paths.proofs.endings.+breaking.Goals as goal

pub has_break-returns-then-breaks : goal.has_break-returns-then-breaks
has_break-returns-then-breaks t c = found has_break c.loop-stmt.stmt-index c.as_slice-stmt-items.result.now c.stmt-item.result c.breaks.result c.args.list.now
    c.loop-stmt-test.true c.stmt-item.is c.if-breaks.true c.as_slice-stmt-items.ensures c.breaks.ensures c.loop-stmt.invariant

pub has_break-loop-stmt-preserved : goal.has_break-loop-stmt-preserved
has_break-loop-stmt-preserved t c = passed has_break c.loop-stmt.stmt-index c.as_slice-stmt-items.result.now c.stmt-item.result c.breaks.result
    c.loop-stmt-test.true c.stmt-item.is c.if-breaks.false c.breaks.ensures c.loop-stmt.invariant

pub has_break-returns : goal.has_break-returns
has_break-returns t c = none_left has_break c.loop-stmt.stmt-index c.as_slice-stmt-items.result.now c.args.list.now c.loop-stmt-test.false
    c.as_slice-stmt-items.ensures (λ k. refl) c.loop-stmt.invariant

pub breaks-returns-in-Word : goal.breaks-returns-in-Word
breaks-returns-in-Word t c = λ s rest. ap has_break (word_tree s c.args.stmt.now c.in-Word.step c.in-Word.is rest)
    ∙ c.step_breaks.ensures s (out-Stmt c.args.stmt.now).line rest

pub breaks-returns-then-one : goal.breaks-returns-then-one
breaks-returns-then-one t c = λ s rest. if_breaks c.args.stmt.now c.in-If.field-0 c.in-If.field-1 c.in-If.yes c.in-If.no c.in-If.field-4 c.has_break-one.result c.has_break-two.result
    c.in-If.is c.has_break-one.ensures c.has_break-two.ensures s rest
    ∙ ap (λ (b : Bool). (b || c.has_break-two.result) || has_break rest) c.if-one.true
    ∙ sym (ap (λ (b : Bool). b || has_break rest) c.if-one.true)

pub breaks-returns-else-one : goal.breaks-returns-else-one
breaks-returns-else-one t c = λ s rest. if_breaks c.args.stmt.now c.in-If.field-0 c.in-If.field-1 c.in-If.yes c.in-If.no c.in-If.field-4 c.has_break-one.result c.has_break-two.result
    c.in-If.is c.has_break-one.ensures c.has_break-two.ensures s rest
    ∙ ap (λ (b : Bool). (b || c.has_break-two.result) || has_break rest) c.if-one.false

pub step_breaks-returns-then-one : goal.step_breaks-returns-then-one
step_breaks-returns-then-one t c = λ s line rest. when_breaks c.args.step.now c.in-When.when c.has_break-one.result c.has_break-two.result
    c.in-When.is c.has_break-one.ensures c.has_break-two.ensures s line rest
    ∙ ap (λ (b : Bool). (b || c.has_break-two.result) || has_break rest) c.if-one.true
    ∙ sym (ap (λ (b : Bool). b || has_break rest) c.if-one.true)

pub step_breaks-returns-else-one : goal.step_breaks-returns-else-one
step_breaks-returns-else-one t c = λ s line rest. when_breaks c.args.step.now c.in-When.when c.has_break-one.result c.has_break-two.result
    c.in-When.is c.has_break-one.ensures c.has_break-two.ensures s line rest
    ∙ ap (λ (b : Bool). (b || c.has_break-two.result) || has_break rest) c.if-one.false
