use Rattle.std.proofs.Common.{Some, sym, ap, subst, ◌∙◌}
use Rattle.std.proofs.lemmas.Result.{err_from_is_err_and}
use Rattle.sync_base.specs.Outcome.{Stops}
use Rattle.sync_thread.specs.Control.{Next, Break, Meet, End}
use Rattle.sync_thread.specs.Views.{stmt_tree}
use Rattle.sync_read_names.proofs.Kept.{along}
use Rattle.sync_read_programs.specs.Scopes.{assign_name}
use Rattle.sync_read_programs.specs.ProofStatements.{proof_block}
use Rattle.sync_read_programs.specs.Statements.{statement_in, jump_in, wrap_if}
use Rattle.sync_read_programs.specs.Parts.{kind_tree}
use Rattle.sync_read_programs.proofs.Listed.{statements_go, list_made, list_stops}
use Rattle.sync_read_programs.proofs.Branching.{brought, if_made, loop_made, when_made}
use Rattle.sync_read_programs.proofs.Stopping.{if_stops_first, if_stops_yes, if_stops_no, if_stops_joined, loop_stops_keep, loop_stops_from, loop_stops_body, loop_stops_left, when_stops_first, when_stops_yes_proof, when_stops_yes, when_stops_no_proof, when_stops_no, when_stops_joined, block_stops, jump_stops}
use Rattle.sync_read_programs.proofs.Arms.{gives_as, store_is, write_is, print_is, branch_is, turn_is, next_is, break_is, meet_is, end_is, proof_is, assign_is, atomic_is, read_is, peek_is, set_is, plain_made, block_made, choice_is, choice_made, assigned_made, stored_made, next_made, break_made, meet_made, end_made, statement_is, statement_made}
use Rattle.sync_read_programs.proofs.statements.+statements.Goals as goal

-- ---- lists

pub list-loop-x-preserved : goal.list-loop-x-preserved
list-loop-x-preserved t c =
    let l = c.loop-x in
    let grows = c.statement.ensures.keeps in (
      λ s more. statements_go c.args.aims statement_in (stmt_tree s) l.scope c.statement.new.scope c.as_slice-x-items.result.now l.x-index c.x-item.result l.held c.push.new.self c.in_ok-made.made _
          c.loop-x-test.true c.x-item.is (c.in_ok-made.ensures.exact s more) c.in_ok-push.ensures.ok (l.invariant.0 s (along _ _ s grows more)),
      along _ _ _ l.invariant.1 grows,
    )

pub list-returns-in_err-made-clause-exact : goal.list-returns-in_err-made-clause-exact
list-returns-in_err-made-clause-exact t c s more =
    let p = err_from_is_err_and c.from_residual.result c.from_residual.ensures.1 in
    rw (p.1, p.2) (list_stops c.in_err-made.field-0.0 c.args.aims c.args.scope.now c.loop-x.scope c.args.raw.now c.as_slice-x-items.result.now c.loop-x.x-index c.x-item.result _
    c.loop-x-test.true c.x-item.is c.as_slice-x-items.ensures (c.loop-x.invariant.0 s (along _ _ s c.statement.ensures.keeps more)) (c.in_err-made.ensures.exact s more))

pub list-returns-clause-exact : goal.list-returns-clause-exact
list-returns-clause-exact t c s more =
    list_made c.args.aims c.args.scope.now c.loop-x.scope c.set_wrap.new.self c.knows_wrap-wrap.result s c.args.raw.now c.as_slice-x-items.result.now c.loop-x.x-index c.loop-x.held
    c.loop-x-test.false c.as_slice-x-items.ensures c.knows_wrap-wrap.ensures c.set_wrap.ensures (c.loop-x.invariant.0 s more)

-- ---- statements

pub statement-returns-in_err-what-clause-exact : goal.statement-returns-in_err-what-clause-exact
statement-returns-in_err-what-clause-exact t c s more =
    let p = err_from_is_err_and c.from_residual.result c.from_residual.ensures.1 in
    rw (p.1, p.2) (subst (Stops c.in_err-what.field-0.0) (sym (statement_is c.args.raw.now c.args.aims c.args.scope.now)) (c.in_err-what.ensures.exact s more))

pub statement-returns-clause-exact : goal.statement-returns-clause-exact
statement-returns-clause-exact t c s more =
    statement_made s c.args.raw.now c.args.aims c.args.scope.now c.kind.new.scope c.in_ok-what.what (c.in_ok-what.ensures.exact s more)

-- ---- kinds

pub kind-returns-in-Store-clause-exact : goal.kind-returns-in-Store-clause-exact
kind-returns-in-Store-clause-exact t c s more =
    gives_as (λ x. (kind_tree s x c.args.line, c.stored.new.scope)) c.stored.result _ _ (store_is c.args.raw.now c.in-Store.x c.in-Store.ending c.args.line c.args.aims c.args.scope.now c.in-Store.is) (c.stored.ensures.exact s c.args.line more)

pub kind-returns-in-Write-clause-exact : goal.kind-returns-in-Write-clause-exact
kind-returns-in-Write-clause-exact t c s more =
    gives_as (λ x. (kind_tree s x c.args.line, c.write.new.scope)) c.write.result _ _ (write_is c.args.raw.now c.in-Write.x c.args.line c.args.aims c.args.scope.now c.in-Write.is) (c.write.ensures.exact s c.args.line more)

pub kind-returns-in-Print-clause-exact : goal.kind-returns-in-Print-clause-exact
kind-returns-in-Print-clause-exact t c s more =
    gives_as (λ x. (kind_tree s x c.args.line, c.args.scope.now)) c.print.result _ _ (print_is c.args.raw.now c.in-Print.label c.in-Print.x c.args.line c.args.aims c.args.scope.now c.in-Print.is) (c.print.ensures s c.args.line)

pub kind-returns-in-If-clause-exact : goal.kind-returns-in-If-clause-exact
kind-returns-in-If-clause-exact t c s more =
    gives_as (λ x. (kind_tree s x c.args.line, c.if_kind.new.scope)) c.if_kind.result _ _ (branch_is c.args.raw.now c.in-If.x c.args.line c.args.aims c.args.scope.now c.in-If.is) (c.if_kind.ensures.exact s c.args.line more)

pub kind-returns-in-Loop-clause-exact : goal.kind-returns-in-Loop-clause-exact
kind-returns-in-Loop-clause-exact t c s more =
    gives_as (λ x. (kind_tree s x c.args.line, c.loop_kind.new.scope)) c.loop_kind.result _ _ (turn_is c.args.raw.now c.in-Loop.x c.args.line c.args.aims c.args.scope.now c.in-Loop.is) (c.loop_kind.ensures.exact s c.args.line more)

pub kind-returns-in-Proof-clause-exact : goal.kind-returns-in-Proof-clause-exact
kind-returns-in-Proof-clause-exact t c s more =
    gives_as (λ x. (kind_tree s x c.args.line, c.proof_statement.new.scope)) c.proof_statement.result _ _ (proof_is c.args.raw.now c.in-Proof.x c.args.line c.args.aims c.args.scope.now c.in-Proof.is) (c.proof_statement.ensures.exact s c.args.line more)

pub kind-returns-in-Assign-clause-exact : goal.kind-returns-in-Assign-clause-exact
kind-returns-in-Assign-clause-exact t c s more =
    gives_as (λ x. (kind_tree s x c.args.line, c.right_side.new.scope)) c.right_side.result _ _ (assign_is c.args.raw.now c.in-Assign.local c.in-Assign.x c.args.line c.args.aims c.args.scope.now c.in-Assign.is) (c.right_side.ensures.exact s c.args.line more)

pub kind-returns-in_ok-args-in-Next-clause-exact : goal.kind-returns-in_ok-args-in-Next-clause-exact
kind-returns-in_ok-args-in-Next-clause-exact t c s more =
    next_made s c.args.raw.now c.in-Next.x c.args.line c.args.aims c.args.scope.now c.jump_of.new.scope c.in_ok-args-in-Next.args c.in_ok-args-in-Next.scripts c.in-Next.is (c.in_ok-args-in-Next.ensures.exact s more)

pub kind-returns-in_err-args-in-Next-clause-exact : goal.kind-returns-in_err-args-in-Next-clause-exact
kind-returns-in_err-args-in-Next-clause-exact t c s more =
    let p = err_from_is_err_and c.from_residual.result c.from_residual.ensures.1 in
    rw (p.1, p.2) (subst (Stops c.in_err-args-in-Next.field-0.0) (sym (next_is c.args.raw.now c.in-Next.x c.args.line c.args.aims c.args.scope.now c.in-Next.is))
    (jump_stops c.in_err-args-in-Next.field-0.0 Next c.args.aims.next c.args.line c.args.scope.now c.in-Next.x (c.in_err-args-in-Next.ensures.exact s more)))

pub kind-returns-in_ok-args-in-Break-clause-exact : goal.kind-returns-in_ok-args-in-Break-clause-exact
kind-returns-in_ok-args-in-Break-clause-exact t c s more =
    break_made s c.args.raw.now c.in-Break.x c.args.line c.args.aims c.args.scope.now c.jump_of-in-Break.new.scope c.in_ok-args-in-Break.args c.in_ok-args-in-Break.scripts c.in-Break.is (c.in_ok-args-in-Break.ensures.exact s more)

pub kind-returns-in_err-args-in-Break-clause-exact : goal.kind-returns-in_err-args-in-Break-clause-exact
kind-returns-in_err-args-in-Break-clause-exact t c s more =
    let p = err_from_is_err_and c.from_residual-in_err-args-in-Break.result c.from_residual-in_err-args-in-Break.ensures.1 in
    rw (p.1, p.2) (subst (Stops c.in_err-args-in-Break.field-0.0) (sym (break_is c.args.raw.now c.in-Break.x c.args.line c.args.aims c.args.scope.now c.in-Break.is))
    (jump_stops c.in_err-args-in-Break.field-0.0 Break c.args.aims.breaks c.args.line c.args.scope.now c.in-Break.x (c.in_err-args-in-Break.ensures.exact s more)))

pub kind-returns-in_ok-args-in-Meet-clause-exact : goal.kind-returns-in_ok-args-in-Meet-clause-exact
kind-returns-in_ok-args-in-Meet-clause-exact t c s more =
    meet_made s c.args.raw.now c.in-Meet.x c.args.line c.args.aims c.args.scope.now c.jump_of-in-Meet.new.scope c.in_ok-args-in-Meet.args c.in_ok-args-in-Meet.scripts c.in-Meet.is (c.in_ok-args-in-Meet.ensures.exact s more)

pub kind-returns-in_err-args-in-Meet-clause-exact : goal.kind-returns-in_err-args-in-Meet-clause-exact
kind-returns-in_err-args-in-Meet-clause-exact t c s more =
    let p = err_from_is_err_and c.from_residual-in_err-args-in-Meet.result c.from_residual-in_err-args-in-Meet.ensures.1 in
    rw (p.1, p.2) (subst (Stops c.in_err-args-in-Meet.field-0.0) (sym (meet_is c.args.raw.now c.in-Meet.x c.args.line c.args.aims c.args.scope.now c.in-Meet.is))
    (jump_stops c.in_err-args-in-Meet.field-0.0 Meet c.args.aims.meet c.args.line c.args.scope.now c.in-Meet.x (c.in_err-args-in-Meet.ensures.exact s more)))

pub kind-returns-in_ok-args-in-End-clause-exact : goal.kind-returns-in_ok-args-in-End-clause-exact
kind-returns-in_ok-args-in-End-clause-exact t c s more =
    end_made s c.args.raw.now c.in-End.x c.args.line c.args.aims c.args.scope.now c.jump_of-in-End.new.scope c.in_ok-args-in-End.args c.in_ok-args-in-End.scripts c.in-End.is (c.in_ok-args-in-End.ensures.exact s more)

pub kind-returns-in_err-args-in-End-clause-exact : goal.kind-returns-in_err-args-in-End-clause-exact
kind-returns-in_err-args-in-End-clause-exact t c s more =
    let p = err_from_is_err_and c.from_residual-in_err-args-in-End.result c.from_residual-in_err-args-in-End.ensures.1 in
    rw (p.1, p.2) (subst (Stops c.in_err-args-in-End.field-0.0) (sym (end_is c.args.raw.now c.in-End.x c.args.line c.args.aims c.args.scope.now c.in-End.is))
    (jump_stops c.in_err-args-in-End.field-0.0 End c.args.aims.end c.args.line c.args.scope.now c.in-End.x (c.in_err-args-in-End.ensures.exact s more)))

-- ---- right sides

pub right_side-returns-in-Atomic-clause-exact : goal.right_side-returns-in-Atomic-clause-exact
right_side-returns-in-Atomic-clause-exact t c s line more =
    gives_as (λ x. (kind_tree s x line, c.assigned.new.scope)) c.assigned.result _ _ (atomic_is c.args.raw.now c.in-Atomic.operation c.in-Atomic.ending c.args.local line c.args.aims c.args.scope.now c.in-Atomic.is) (c.assigned.ensures.exact s line more)

pub right_side-returns-in-Read-clause-exact : goal.right_side-returns-in-Read-clause-exact
right_side-returns-in-Read-clause-exact t c s line more =
    gives_as (λ x. (kind_tree s x line, c.read.new.scope)) c.read.result _ _ (read_is c.args.raw.now c.in-Read.x c.args.local line c.args.aims c.args.scope.now c.in-Read.is) (c.read.ensures.exact s line more)

pub right_side-returns-in-Peek-clause-exact : goal.right_side-returns-in-Peek-clause-exact
right_side-returns-in-Peek-clause-exact t c s line more =
    gives_as (λ x. (kind_tree s x line, c.peek.new.scope)) c.peek.result _ _ (peek_is c.args.raw.now c.in-Peek.x c.args.local line c.args.aims c.args.scope.now c.in-Peek.is) (c.peek.ensures.exact s line more)

pub right_side-returns-in-Calculated-clause-exact : goal.right_side-returns-in-Calculated-clause-exact
right_side-returns-in-Calculated-clause-exact t c s line more =
    gives_as (λ x. (kind_tree s x line, c.set.new.scope)) c.set.result _ _ (set_is c.args.raw.now c.in-Calculated.x c.in-Calculated.label c.args.local line c.args.aims c.args.scope.now c.in-Calculated.is) (c.set.ensures s line)

-- ---- tails

pub tail-returns-in-Plain-clause-exact : goal.tail-returns-in-Plain-clause-exact
tail-returns-in-Plain-clause-exact t c s more = plain_made s c.args.raw.now c.args.counts c.args.aims c.args.scope.now c.in-Plain.is

pub tail-returns-in_ok-made-in-Block-clause-exact : goal.tail-returns-in_ok-made-in-Block-clause-exact
tail-returns-in_ok-made-in-Block-clause-exact t c s more =
    block_made s c.args.raw.now c.in-Block.block c.in_ok-made-in-Block.made c.args.counts c.args.aims c.args.scope.now c.proof_block.new.scope c.in-Block.is
    (ap (proof_block c.args.counts c.args.scope.now) (sym c.as_slice.ensures) ∙ c.in_ok-made-in-Block.ensures.exact s more)

pub tail-returns-in_err-made-in-Block-clause-exact : goal.tail-returns-in_err-made-in-Block-clause-exact
tail-returns-in_err-made-in-Block-clause-exact t c s more =
    let p = err_from_is_err_and c.from_residual.result c.from_residual.ensures.1 in
    rw (p.1, p.2) (block_stops c.in_err-made-in-Block.field-0.0 c.args.raw.now c.in-Block.block c.args.counts c.args.aims c.args.scope.now c.in-Block.is
    (subst (λ xs. Stops c.in_err-made-in-Block.field-0.0 (proof_block c.args.counts c.args.scope.now xs)) c.as_slice.ensures (c.in_err-made-in-Block.ensures.exact s more)))

pub tail-returns-in_ok-made-in-When-clause-exact : goal.tail-returns-in_ok-made-in-When-clause-exact
tail-returns-in_ok-made-in-When-clause-exact t c s more =
    choice_made s c.args.raw.now c.in-When.x c.in_ok-made-in-When.made c.args.counts c.args.aims c.args.scope.now c.when.new.scope c.in-When.is (c.in_ok-made-in-When.ensures.exact s more)

pub tail-returns-in_err-made-in-When-clause-exact : goal.tail-returns-in_err-made-in-When-clause-exact
tail-returns-in_err-made-in-When-clause-exact t c s more =
    let p = err_from_is_err_and c.from_residual-in_err-made-in-When.result c.from_residual-in_err-made-in-When.ensures.1 in
    rw (p.1, p.2) (subst (Stops c.in_err-made-in-When.field-0.0) (sym (choice_is c.args.raw.now c.in-When.x c.args.counts c.args.aims c.args.scope.now c.in-When.is)) (c.in_err-made-in-When.ensures.exact s more))

-- ---- operations on words

pub assigned-returns-clause-exact : goal.assigned-returns-clause-exact
assigned-returns-clause-exact t c s line more =
    assigned_made s c.args.local c.args.raw.now c.args.ending.now line c.args.aims c.args.scope.now c.word_operation.new.scope c.assign_name.new.self c.tail.new.scope c.in_ok-name.name c.in_ok-operation.operation c.label_of.result c.in_ok-tail.tail
    c.in_ok-name.ensures (c.in_ok-operation.ensures.exact s (along _ _ s c.tail.ensures.keeps more))
    (ap (λ z. assign_name z c.args.local) (sym (c.wrap_if.ensures ∙ ap (λ b. wrap_if b c.word_operation.new.scope) c.wraps.ensures)) ∙ c.in_ok-assign_name.ensures)
    (c.in_ok-tail.ensures.exact s more) c.label_of.ensures

pub stored-returns-clause-exact : goal.stored-returns-clause-exact
stored-returns-clause-exact t c s line more =
    stored_made s c.args.raw.now c.args.ending.now line c.args.aims c.args.scope.now c.changing.new.scope c.tail.new.scope c.in_ok-operation.operation c.label_of.result c.in_ok-tail.tail
    (c.in_ok-operation.ensures.exact s (along _ _ s c.tail.ensures.keeps more)) (c.in_ok-tail.ensures.exact s more) c.label_of.ensures

-- ---- a condition with two lists

pub if_kind-returns-in_err-cond-clause-exact : goal.if_kind-returns-in_err-cond-clause-exact
if_kind-returns-in_err-cond-clause-exact t c s line more =
    let p = err_from_is_err_and c.from_residual.result c.from_residual.ensures.1 in
    rw (p.1, p.2) (if_stops_first c.in_err-cond.field-0.0 c.args.raw.now line c.args.aims c.args.scope.now c.in_err-cond.ensures)

pub if_kind-returns-in_err-yes-clause-exact : goal.if_kind-returns-in_err-yes-clause-exact
if_kind-returns-in_err-yes-clause-exact t c s line more =
    let p = err_from_is_err_and c.from_residual-in_err-yes.result c.from_residual-in_err-yes.ensures.1 in
    rw (p.1, p.2) (if_stops_yes c.in_err-yes.field-0.0 c.args.raw.now line c.args.aims c.in_branch-aims.result c.args.scope.now c.in_ok-cond.cond c.in_branch-aims.ensures c.in_ok-cond.ensures (c.in_err-yes.ensures.exact s more))

pub if_kind-returns-in_err-no-clause-exact : goal.if_kind-returns-in_err-no-clause-exact
if_kind-returns-in_err-no-clause-exact t c s line more =
    let p = err_from_is_err_and c.from_residual-in_err-no.result c.from_residual-in_err-no.ensures.1 in
    rw (p.1, p.2) (if_stops_no c.in_err-no.field-0.0 c.args.raw.now line c.args.aims c.in_branch-aims.result c.args.scope.now c.list.new.scope c.in_ok-cond.cond _ c.in_branch-aims.ensures c.in_ok-cond.ensures (c.in_ok-yes.ensures.exact s (along _ _ s c.list-2.ensures.keeps more)) (c.in_err-no.ensures.exact s more))

pub if_kind-returns-in_err-joined-clause-exact : goal.if_kind-returns-in_err-joined-clause-exact
if_kind-returns-in_err-joined-clause-exact t c s line more =
    let p = err_from_is_err_and c.from_residual-in_err-joined.result c.from_residual-in_err-joined.ensures.1 in
    rw (p.1, p.2) (if_stops_joined c.in_err-joined.field-0.0 c.args.raw.now line c.args.aims c.in_branch-aims.result c.args.scope.now c.list.new.scope c.list-2.new.scope c.in_ok-cond.cond _ _ c.in_branch-aims.ensures c.in_ok-cond.ensures (c.in_ok-yes.ensures.exact s (along _ _ s c.list-2.ensures.keeps (along _ _ s c.keep_if.ensures.keeps more))) (c.in_ok-no.ensures.exact s (along _ _ s c.keep_if.ensures.keeps more)) (c.in_err-joined.ensures.exact s more))

pub if_kind-returns-clause-exact : goal.if_kind-returns-clause-exact
if_kind-returns-clause-exact t c s line more =
    if_made c.args.raw.now line c.args.aims c.in_branch-aims.result c.args.scope.now c.list.new.scope c.list-2.new.scope c.keep_if.new.scope s c.in_ok-cond.cond c.label_of.result c.in_ok-yes.yes c.in_ok-no.no c.in_ok-joined.joined c.in_branch-aims.ensures c.label_of.ensures
    c.in_ok-cond.ensures (c.in_ok-yes.ensures.exact s (along _ _ s c.list-2.ensures.keeps (along _ _ s c.keep_if.ensures.keeps more))) (c.in_ok-no.ensures.exact s (along _ _ s c.keep_if.ensures.keeps more)) (c.in_ok-joined.ensures.exact s more)

-- ---- outcomes of an operation on a word

pub when-returns-in_err-cond-clause-exact : goal.when-returns-in_err-cond-clause-exact
when-returns-in_err-cond-clause-exact t c s more =
    let p = err_from_is_err_and c.from_residual.result c.from_residual.ensures.1 in
    rw (p.1, p.2) (when_stops_first c.in_err-cond.field-0.0 c.args.raw.now c.args.counts c.args.aims c.args.scope.now c.in_err-cond.ensures)

pub when-returns-in_err-yes_proof-clause-exact : goal.when-returns-in_err-yes_proof-clause-exact
when-returns-in_err-yes_proof-clause-exact t c s more =
    let p = err_from_is_err_and c.from_residual-in_err-yes_proof.result c.from_residual-in_err-yes_proof.ensures.1 in
    rw (p.1, p.2) (when_stops_yes_proof c.in_err-yes_proof.field-0.0 c.args.raw.now c.args.counts c.args.aims c.args.scope.now c.in_ok-cond.cond c.in_ok-cond.ensures (subst (λ xs. Stops c.in_err-yes_proof.field-0.0 (proof_block c.args.counts c.args.scope.now xs)) c.as_slice.ensures (c.in_err-yes_proof.ensures.exact s more)))

pub when-returns-in_err-yes-clause-exact : goal.when-returns-in_err-yes-clause-exact
when-returns-in_err-yes-clause-exact t c s more =
    let p = err_from_is_err_and c.from_residual-in_err-yes.result c.from_residual-in_err-yes.ensures.1 in
    rw (p.1, p.2) (when_stops_yes c.in_err-yes.field-0.0 c.args.raw.now c.args.counts c.args.aims c.in_branch-aims.result c.args.scope.now c.proof_block.new.scope c.in_ok-cond.cond _ c.in_branch-aims.ensures c.in_ok-cond.ensures (ap (proof_block c.args.counts c.args.scope.now) (sym c.as_slice.ensures) ∙ (c.in_ok-yes_proof.ensures.exact s (along _ _ s c.list.ensures.keeps more))) (c.in_err-yes.ensures.exact s more))

pub when-returns-in_err-no_proof-clause-exact : goal.when-returns-in_err-no_proof-clause-exact
when-returns-in_err-no_proof-clause-exact t c s more =
    let p = err_from_is_err_and c.from_residual-in_err-no_proof.result c.from_residual-in_err-no_proof.ensures.1 in
    rw (p.1, p.2) (when_stops_no_proof c.in_err-no_proof.field-0.0 c.args.raw.now c.args.counts c.args.aims c.in_branch-aims.result c.args.scope.now c.proof_block.new.scope c.list.new.scope c.in_ok-cond.cond _ _ c.in_branch-aims.ensures c.in_ok-cond.ensures (ap (proof_block c.args.counts c.args.scope.now) (sym c.as_slice.ensures) ∙ (c.in_ok-yes_proof.ensures.exact s (along _ _ s c.list.ensures.keeps (along _ _ s c.proof_block-2.ensures.keeps more)))) (c.in_ok-yes.ensures.exact s (along _ _ s c.proof_block-2.ensures.keeps more)) (subst (λ xs. Stops c.in_err-no_proof.field-0.0 (proof_block c.args.counts c.list.new.scope xs)) c.as_slice-2.ensures (c.in_err-no_proof.ensures.exact s more)))

pub when-returns-in_err-no-clause-exact : goal.when-returns-in_err-no-clause-exact
when-returns-in_err-no-clause-exact t c s more =
    let p = err_from_is_err_and c.from_residual-in_err-no.result c.from_residual-in_err-no.ensures.1 in
    rw (p.1, p.2) (when_stops_no c.in_err-no.field-0.0 c.args.raw.now c.args.counts c.args.aims c.in_branch-aims.result c.args.scope.now c.proof_block.new.scope c.list.new.scope c.proof_block-2.new.scope c.in_ok-cond.cond _ _ _ c.in_branch-aims.ensures c.in_ok-cond.ensures (ap (proof_block c.args.counts c.args.scope.now) (sym c.as_slice.ensures) ∙ (c.in_ok-yes_proof.ensures.exact s (along _ _ s c.list.ensures.keeps (along _ _ s c.proof_block-2.ensures.keeps (along _ _ s c.list-2.ensures.keeps more))))) (c.in_ok-yes.ensures.exact s (along _ _ s c.proof_block-2.ensures.keeps (along _ _ s c.list-2.ensures.keeps more))) (ap (proof_block c.args.counts c.list.new.scope) (sym c.as_slice-2.ensures) ∙ (c.in_ok-no_proof.ensures.exact s (along _ _ s c.list-2.ensures.keeps more))) (c.in_err-no.ensures.exact s more))

pub when-returns-in_err-joined-clause-exact : goal.when-returns-in_err-joined-clause-exact
when-returns-in_err-joined-clause-exact t c s more =
    let p = err_from_is_err_and c.from_residual-in_err-joined.result c.from_residual-in_err-joined.ensures.1 in
    rw (p.1, p.2) (when_stops_joined c.in_err-joined.field-0.0 c.args.raw.now c.args.counts c.args.aims c.in_branch-aims.result c.args.scope.now c.proof_block.new.scope c.list.new.scope c.proof_block-2.new.scope c.list-2.new.scope c.in_ok-cond.cond _ _ _ _ c.in_branch-aims.ensures c.in_ok-cond.ensures (ap (proof_block c.args.counts c.args.scope.now) (sym c.as_slice.ensures) ∙ (c.in_ok-yes_proof.ensures.exact s (along _ _ s c.list.ensures.keeps (along _ _ s c.proof_block-2.ensures.keeps (along _ _ s c.list-2.ensures.keeps (along _ _ s c.keep_if.ensures.keeps more)))))) (c.in_ok-yes.ensures.exact s (along _ _ s c.proof_block-2.ensures.keeps (along _ _ s c.list-2.ensures.keeps (along _ _ s c.keep_if.ensures.keeps more)))) (ap (proof_block c.args.counts c.list.new.scope) (sym c.as_slice-2.ensures) ∙ (c.in_ok-no_proof.ensures.exact s (along _ _ s c.list-2.ensures.keeps (along _ _ s c.keep_if.ensures.keeps more)))) (c.in_ok-no.ensures.exact s (along _ _ s c.keep_if.ensures.keeps more)) (c.in_err-joined.ensures.exact s more))

pub when-returns-clause-exact : goal.when-returns-clause-exact
when-returns-clause-exact t c s more =
    when_made c.args.raw.now c.args.counts c.args.aims c.in_branch-aims.result c.args.scope.now c.proof_block.new.scope c.list.new.scope c.proof_block-2.new.scope c.list-2.new.scope c.keep_if.new.scope s c.in_ok-cond.cond c.label_of.result c.in_ok-yes_proof.yes_proof c.in_ok-no_proof.no_proof c.in_ok-yes.yes c.in_ok-no.no c.in_ok-joined.joined c.in_branch-aims.ensures c.label_of.ensures
    c.in_ok-cond.ensures (ap (proof_block c.args.counts c.args.scope.now) (sym c.as_slice.ensures) ∙ (c.in_ok-yes_proof.ensures.exact s (along _ _ s c.list.ensures.keeps (along _ _ s c.proof_block-2.ensures.keeps (along _ _ s c.list-2.ensures.keeps (along _ _ s c.keep_if.ensures.keeps more)))))) (c.in_ok-yes.ensures.exact s (along _ _ s c.proof_block-2.ensures.keeps (along _ _ s c.list-2.ensures.keeps (along _ _ s c.keep_if.ensures.keeps more)))) (ap (proof_block c.args.counts c.list.new.scope) (sym c.as_slice-2.ensures) ∙ (c.in_ok-no_proof.ensures.exact s (along _ _ s c.list-2.ensures.keeps (along _ _ s c.keep_if.ensures.keeps more)))) (c.in_ok-no.ensures.exact s (along _ _ s c.keep_if.ensures.keeps more)) (c.in_ok-joined.ensures.exact s more)

-- ---- loops

pub loop_kind-returns-in_err-keep-clause-exact : goal.loop_kind-returns-in_err-keep-clause-exact
loop_kind-returns-in_err-keep-clause-exact t c s line more =
    let p = err_from_is_err_and c.from_residual.result c.from_residual.ensures.1 in
    rw (p.1, p.2) (loop_stops_keep c.in_err-keep.field-0.0 c.args.raw.now line c.args.aims c.args.scope.now c.set_wrap.new.self c.set_wrap.ensures (c.in_err-keep.ensures.exact s more))

pub loop_kind-returns-in_err-args-clause-exact : goal.loop_kind-returns-in_err-args-clause-exact
loop_kind-returns-in_err-args-clause-exact t c s line more =
    let p = err_from_is_err_and c.from_residual-in_err-args.result c.from_residual-in_err-args.ensures.1 in
    rw (p.1, p.2) (loop_stops_from c.in_err-args.field-0.0 c.args.raw.now line c.args.aims c.args.scope.now c.set_wrap.new.self c.keep.new.scope c.set_wrap-2.new.self c.knows_wrap-wrap.result _ _ _ c.knows_wrap-wrap.ensures (ap Some c.len.ensures) (brought _ _ _ _ c.as_slice.ensures c.as_slice-2.ensures) c.set_wrap.ensures (c.in_ok-keep.ensures.exact s (along _ _ s c.jump.ensures.keeps more)) c.set_wrap-2.ensures (c.in_err-args.ensures.exact s more))

pub loop_kind-returns-in_err-body-clause-exact : goal.loop_kind-returns-in_err-body-clause-exact
loop_kind-returns-in_err-body-clause-exact t c s line more =
    let p = err_from_is_err_and c.from_residual-in_err-body.result c.from_residual-in_err-body.ensures.1 in
    rw (p.1, p.2) (loop_stops_body c.in_err-body.field-0.0 c.args.raw.now line c.args.aims c.in_loop-aims.result c.args.scope.now c.set_wrap.new.self c.keep.new.scope c.set_wrap-2.new.self c.jump.new.scope c.set_wrap-3.new.self c.knows_wrap-wrap.result _ _ _ c.knows_wrap-wrap.ensures c.in_loop-aims.ensures (ap Some c.len.ensures) c.set_wrap.ensures (c.in_ok-keep.ensures.exact s (along _ _ s c.jump.ensures.keeps (along _ _ s c.list.ensures.keeps more))) c.set_wrap-2.ensures (ap (jump_in _ _ c.set_wrap-2.new.self) (sym (brought _ _ _ _ c.as_slice.ensures c.as_slice-2.ensures)) ∙ (c.in_ok-args.ensures.exact s (along _ _ s c.list.ensures.keeps more))) c.set_wrap-3.ensures (c.in_err-body.ensures.exact s more))

pub loop_kind-returns-in_err-left-clause-exact : goal.loop_kind-returns-in_err-left-clause-exact
loop_kind-returns-in_err-left-clause-exact t c s line more =
    let p = err_from_is_err_and c.from_residual-in_err-left.result c.from_residual-in_err-left.ensures.1 in
    rw (p.1, p.2) (loop_stops_left c.in_err-left.field-0.0 c.args.raw.now line c.args.aims c.in_loop-aims.result c.args.scope.now c.set_wrap.new.self c.keep.new.scope c.set_wrap-2.new.self c.jump.new.scope c.set_wrap-3.new.self c.list.new.scope c.knows_wrap-wrap.result _ _ _ _ c.knows_wrap-wrap.ensures c.in_loop-aims.ensures (ap Some c.len.ensures) c.set_wrap.ensures (c.in_ok-keep.ensures.exact s (along _ _ s c.jump.ensures.keeps (along _ _ s c.list.ensures.keeps (along _ _ s c.keep_if.ensures.keeps more)))) c.set_wrap-2.ensures (ap (jump_in _ _ c.set_wrap-2.new.self) (sym (brought _ _ _ _ c.as_slice.ensures c.as_slice-2.ensures)) ∙ (c.in_ok-args.ensures.exact s (along _ _ s c.list.ensures.keeps (along _ _ s c.keep_if.ensures.keeps more)))) c.set_wrap-3.ensures (c.in_ok-body.ensures.exact s (along _ _ s c.keep_if.ensures.keeps more)) (c.in_err-left.ensures.exact s more))

pub loop_kind-returns-clause-exact : goal.loop_kind-returns-clause-exact
loop_kind-returns-clause-exact t c s line more =
    loop_made c.args.raw.now line c.args.aims c.in_loop-aims.result c.args.scope.now c.set_wrap.new.self c.keep.new.scope c.set_wrap-2.new.self c.jump.new.scope c.set_wrap-3.new.self c.list.new.scope c.keep_if.new.scope c.set_wrap-4.new.self c.knows_wrap-wrap.result _ s c.in_ok-keep.keep c.in_ok-args.args c.in_ok-args.scripts c.in_ok-body.body c.in_ok-left.left c.knows_wrap-wrap.ensures c.in_loop-aims.ensures (ap Some c.len.ensures)
    c.set_wrap.ensures (c.in_ok-keep.ensures.exact s (along _ _ s c.jump.ensures.keeps (along _ _ s c.list.ensures.keeps (along _ _ s c.keep_if.ensures.keeps more)))) c.set_wrap-2.ensures (ap (jump_in _ _ c.set_wrap-2.new.self) (sym (brought _ _ _ _ c.as_slice.ensures c.as_slice-2.ensures)) ∙ (c.in_ok-args.ensures.exact s (along _ _ s c.list.ensures.keeps (along _ _ s c.keep_if.ensures.keeps more)))) c.set_wrap-3.ensures (c.in_ok-body.ensures.exact s (along _ _ s c.keep_if.ensures.keeps more)) (c.in_ok-left.ensures.exact s more) c.set_wrap-4.ensures
