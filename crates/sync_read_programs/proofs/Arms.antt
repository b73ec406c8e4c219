-- What statements, right sides and tails of each kind compute to, raw and made.
use Rattle.std.proofs.Common.{◌≡◌, ℕ, List, [], ◌∷◌, Option, Some, None, Result, Ok, sym, ap, subst, ◌∙◌}
use Rattle.sync_base.specs.declared.stops.Stop.{Stop}
use Rattle.sync_base.specs.declared.stops.Refusal.{Refusal}
use Rattle.sync_base.specs.Outcome.{◌>>=◌, Gives}
use Rattle.sync_terms.specs.Stored.{Stored}
use Rattle.sync_parse_exprs.specs.declared.raw_names.RawName.{RawName}
use Rattle.sync_parse_programs.specs.declared.operands.RawOperand.{RawOperand}
use Rattle.sync_parse_programs.specs.declared.operands.RawCalculation.{RawCalculation}
use Rattle.sync_parse_programs.specs.declared.proof_statements.RawPlainProof.{RawPlainProof}
use Rattle.sync_parse_programs.specs.declared.proof_statements.RawProofStatement.{RawProofStatement}
use Rattle.sync_parse_programs.specs.declared.statements.RawAtomic.{RawAtomic}
use Rattle.sync_parse_programs.specs.declared.statements.RawStore.{RawStore}
use Rattle.sync_parse_programs.specs.declared.statements.RawRead.{RawRead}
use Rattle.sync_parse_programs.specs.declared.statements.RawPeek.{RawPeek}
use Rattle.sync_parse_programs.specs.declared.statements.RawWrite.{RawWrite}
use Rattle.sync_parse_programs.specs.declared.statements.RawJump.{RawJump}
use Rattle.sync_parse_programs.specs.declared.statements.RawIf.{RawIf}
use Rattle.sync_parse_programs.specs.declared.statements.RawLoop.{RawLoop}
use Rattle.sync_parse_programs.specs.declared.statements.RawWhen.{RawWhen}
use Rattle.sync_parse_programs.specs.declared.statements.RawTail.{RawTail, fold-roll-RawTail}
use Rattle.sync_parse_programs.specs.declared.statements.RawTail.TheVariants as tail
use Rattle.sync_parse_programs.specs.declared.statements.RawTail.TheVariants.{rolls-Plain, rolls-Block, rolls-When}
use Rattle.sync_parse_programs.specs.declared.statements.RawRightSide.{RawRightSide, fold-roll-RawRightSide}
use Rattle.sync_parse_programs.specs.declared.statements.RawRightSide.TheVariants as right
use Rattle.sync_parse_programs.specs.declared.statements.RawRightSide.TheVariants.{rolls-Atomic, rolls-Read, rolls-Peek, rolls-Calculated}
use Rattle.sync_parse_programs.specs.declared.statements.RawStatementKind.{RawStatementKind, fold-roll-RawStatementKind}
use Rattle.sync_parse_programs.specs.declared.statements.RawStatementKind.TheVariants as raw
use Rattle.sync_parse_programs.specs.declared.statements.RawStatementKind.TheVariants.{rolls-Store, rolls-Write, rolls-Print, rolls-If, rolls-Loop, rolls-Next, rolls-Break, rolls-Meet, rolls-End, rolls-Proof, rolls-Assign}
use Rattle.sync_parse_programs.specs.declared.statements.RawRightSide.TheOpen.{RawTail-F, RawRightSide-F, RawStatementKind-F}
use Rattle.sync_parse_programs.specs.declared.statements.RawStatement.{RawStatement, out-RawStatement, fold_out-RawStatement}
use Rattle.sync_terms.specs.declared.nodes.TermId.{TermId}
use Rattle.sync_terms.specs.declared.scripts.Script.{Script}
use Rattle.sync_thread.specs.declared.operands.WordOp.{WordOp}
use Rattle.sync_thread.specs.declared.program.Idx.{Idx}
use Rattle.sync_thread.specs.declared.program.ProofStmt.{ProofStmt}
use Rattle.sync_thread.specs.declared.program.Stmt.{roll-Stmt, fold-roll-Stmt}
use Rattle.sync_thread.specs.declared.program.StmtKind.{StmtKind, fold-roll-StmtKind}
use Rattle.sync_thread.specs.declared.program.StmtKind.TheOpen.{StmtKind-F, Tail-F}
use Rattle.sync_thread.specs.declared.program.StmtKind.TheVariants as made
use Rattle.sync_thread.specs.declared.program.StmtKind.TheVariants.{rolls-Word, rolls-Next as made-Next, rolls-Break as made-Break, rolls-Meet as made-Meet, rolls-End as made-End}
use Rattle.sync_thread.specs.declared.program.Atomic.{roll-Atomic, fold-roll-Atomic}
use Rattle.sync_thread.specs.declared.program.When.{When}
use Rattle.sync_thread.specs.declared.program.Tail.{Tail as TailNode, fold-roll-Tail}
use Rattle.sync_thread.specs.declared.program.Tail.TheVariants as ending
use Rattle.sync_thread.specs.declared.program.Tail.TheVariants.{rolls-Plain as made-Plain, rolls-Proof as made-Proof, rolls-When as made-When}
use Rattle.sync_thread.specs.Control.{On, Next, Break, Meet, End}
use Rattle.sync_thread.specs.Programs.{ListTree, JumpTree}
use Rattle.sync_thread.specs.Programs as tree
use Rattle.sync_thread.specs.Views.{Then, TailThen, index_tree, jump_tree, proof_steps_tree, stmt_tree, kind_then, tail_then, atomic_then, list_then, stmt_then, when_then}
use Rattle.sync_read_programs.specs.declared.scopes.WordCounts.{WordCounts}
use Rattle.sync_read_programs.specs.declared.scopes.Aims.{Aims}
use Rattle.sync_read_programs.specs.declared.scopes.ProgramScope.{ProgramScope}
use Rattle.sync_read_programs.specs.declared.statements.Operation.{Operation as WordOperation}
use Rattle.sync_read_programs.specs.Scopes.{may_assign, assign_name}
use Rattle.sync_read_programs.specs.Operands.{label_of}
use Rattle.sync_read_programs.specs.ProofStatements.{proof_block}
use Rattle.sync_thread.specs.declared.operands.WordOp.TheVariants as op
use Rattle.sync_read_programs.specs.Statements.{Kind, Statement, RightSide, Tail, Body, right_in, kind_in, tail_in, if_in, body_of, loop_in, statement_of, when_in, set_in, read_in, peek_in, write_in, print_in, jump_in, jumped, proof_statement, change_in, word_operation_in, wraps, wrap_if, assigned_in, stored_in, statement_in}
use Rattle.sync_read_programs.specs.Parts.{kind_of, right_of, tail_of, if_of, loop_of, when_of, kind_tree, tail_tree, when_tree, word_operation_tree}

-- an answer as what is wanted, seen otherwise
pub gives_as : {A B : Type 0} (view : A → B) (r : Result A Stop) (v w : Result B Refusal) → v ≡ w → Gives view r w → Gives view r v
gives_as view r v w is h = subst (Gives view r) (sym is) h

-- ---- kinds of statements

pub store_is : (k : RawStatementKind) (x : RawStore) (y : RawTail) (line : ℕ) (a : Aims) (s : ProgramScope) → k ≡ raw.Store x y → kind_of k line a s ≡ stored_in x (tail_of y) line a s
store_is k x y line a s is =
    ap (λ k. kind_of k line a s) (is ∙ sym (rolls-Store x y))
    ∙ ap (λ (f : Kind). f line a s) (fold-roll-RawStatementKind RightSide Kind Tail Kind Body Kind Statement Tail right_in kind_in tail_in if_in body_of loop_in statement_of when_in (RawStatementKind-F.Store x y))

pub write_is : (k : RawStatementKind) (x : RawWrite) (line : ℕ) (a : Aims) (s : ProgramScope) → k ≡ raw.Write x → kind_of k line a s ≡ write_in x line s
write_is k x line a s is =
    ap (λ k. kind_of k line a s) (is ∙ sym (rolls-Write x))
    ∙ ap (λ (f : Kind). f line a s) (fold-roll-RawStatementKind RightSide Kind Tail Kind Body Kind Statement Tail right_in kind_in tail_in if_in body_of loop_in statement_of when_in (RawStatementKind-F.Write x))

pub print_is : (k : RawStatementKind) (label : RawName) (o : RawOperand) (line : ℕ) (a : Aims) (s : ProgramScope) → k ≡ raw.Print label o → kind_of k line a s ≡ print_in label o line s
print_is k label o line a s is =
    ap (λ k. kind_of k line a s) (is ∙ sym (rolls-Print label o))
    ∙ ap (λ (f : Kind). f line a s) (fold-roll-RawStatementKind RightSide Kind Tail Kind Body Kind Statement Tail right_in kind_in tail_in if_in body_of loop_in statement_of when_in (RawStatementKind-F.Print label o))

pub branch_is : (k : RawStatementKind) (x : RawIf) (line : ℕ) (a : Aims) (s : ProgramScope) → k ≡ raw.If x → kind_of k line a s ≡ if_of x line a s
branch_is k x line a s is =
    ap (λ k. kind_of k line a s) (is ∙ sym (rolls-If x))
    ∙ ap (λ (f : Kind). f line a s) (fold-roll-RawStatementKind RightSide Kind Tail Kind Body Kind Statement Tail right_in kind_in tail_in if_in body_of loop_in statement_of when_in (RawStatementKind-F.If x))

pub turn_is : (k : RawStatementKind) (x : RawLoop) (line : ℕ) (a : Aims) (s : ProgramScope) → k ≡ raw.Loop x → kind_of k line a s ≡ loop_of x line a s
turn_is k x line a s is =
    ap (λ k. kind_of k line a s) (is ∙ sym (rolls-Loop x))
    ∙ ap (λ (f : Kind). f line a s) (fold-roll-RawStatementKind RightSide Kind Tail Kind Body Kind Statement Tail right_in kind_in tail_in if_in body_of loop_in statement_of when_in (RawStatementKind-F.Loop x))

pub next_is : (k : RawStatementKind) (j : RawJump) (line : ℕ) (a : Aims) (s : ProgramScope) → k ≡ raw.Next j → kind_of k line a s ≡ jumped Next a.next line s j
next_is k j line a s is =
    ap (λ k. kind_of k line a s) (is ∙ sym (rolls-Next j))
    ∙ ap (λ (f : Kind). f line a s) (fold-roll-RawStatementKind RightSide Kind Tail Kind Body Kind Statement Tail right_in kind_in tail_in if_in body_of loop_in statement_of when_in (RawStatementKind-F.Next j))

pub break_is : (k : RawStatementKind) (j : RawJump) (line : ℕ) (a : Aims) (s : ProgramScope) → k ≡ raw.Break j → kind_of k line a s ≡ jumped Break a.breaks line s j
break_is k j line a s is =
    ap (λ k. kind_of k line a s) (is ∙ sym (rolls-Break j))
    ∙ ap (λ (f : Kind). f line a s) (fold-roll-RawStatementKind RightSide Kind Tail Kind Body Kind Statement Tail right_in kind_in tail_in if_in body_of loop_in statement_of when_in (RawStatementKind-F.Break j))

pub meet_is : (k : RawStatementKind) (j : RawJump) (line : ℕ) (a : Aims) (s : ProgramScope) → k ≡ raw.Meet j → kind_of k line a s ≡ jumped Meet a.meet line s j
meet_is k j line a s is =
    ap (λ k. kind_of k line a s) (is ∙ sym (rolls-Meet j))
    ∙ ap (λ (f : Kind). f line a s) (fold-roll-RawStatementKind RightSide Kind Tail Kind Body Kind Statement Tail right_in kind_in tail_in if_in body_of loop_in statement_of when_in (RawStatementKind-F.Meet j))

pub end_is : (k : RawStatementKind) (j : RawJump) (line : ℕ) (a : Aims) (s : ProgramScope) → k ≡ raw.End j → kind_of k line a s ≡ jumped End a.end line s j
end_is k j line a s is =
    ap (λ k. kind_of k line a s) (is ∙ sym (rolls-End j))
    ∙ ap (λ (f : Kind). f line a s) (fold-roll-RawStatementKind RightSide Kind Tail Kind Body Kind Statement Tail right_in kind_in tail_in if_in body_of loop_in statement_of when_in (RawStatementKind-F.End j))

pub proof_is : (k : RawStatementKind) (x : RawPlainProof) (line : ℕ) (a : Aims) (s : ProgramScope) → k ≡ raw.Proof x → kind_of k line a s ≡ proof_statement line s x
proof_is k x line a s is =
    ap (λ k. kind_of k line a s) (is ∙ sym (rolls-Proof x))
    ∙ ap (λ (f : Kind). f line a s) (fold-roll-RawStatementKind RightSide Kind Tail Kind Body Kind Statement Tail right_in kind_in tail_in if_in body_of loop_in statement_of when_in (RawStatementKind-F.Proof x))

pub assign_is : (k : RawStatementKind) (x : RawName) (r : RawRightSide) (line : ℕ) (a : Aims) (s : ProgramScope) → k ≡ raw.Assign x r → kind_of k line a s ≡ right_of r x line a s
assign_is k x r line a s is =
    ap (λ k. kind_of k line a s) (is ∙ sym (rolls-Assign x r))
    ∙ ap (λ (f : Kind). f line a s) (fold-roll-RawStatementKind RightSide Kind Tail Kind Body Kind Statement Tail right_in kind_in tail_in if_in body_of loop_in statement_of when_in (RawStatementKind-F.Assign x r))

-- ---- right sides

pub atomic_is : (r : RawRightSide) (o : RawAtomic) (y : RawTail) (x : RawName) (line : ℕ) (a : Aims) (s : ProgramScope) → r ≡ right.Atomic o y → right_of r x line a s ≡ assigned_in x o (tail_of y) line a s
atomic_is r o y x line a s is =
    ap (λ r. right_of r x line a s) (is ∙ sym (rolls-Atomic o y))
    ∙ ap (λ (f : RightSide). f x line a s) (fold-roll-RawRightSide RightSide Kind Tail Kind Body Kind Statement Tail right_in kind_in tail_in if_in body_of loop_in statement_of when_in (RawRightSide-F.Atomic o y))

pub read_is : (r : RawRightSide) (y : RawRead) (x : RawName) (line : ℕ) (a : Aims) (s : ProgramScope) → r ≡ right.Read y → right_of r x line a s ≡ read_in x y line s
read_is r y x line a s is =
    ap (λ r. right_of r x line a s) (is ∙ sym (rolls-Read y))
    ∙ ap (λ (f : RightSide). f x line a s) (fold-roll-RawRightSide RightSide Kind Tail Kind Body Kind Statement Tail right_in kind_in tail_in if_in body_of loop_in statement_of when_in (RawRightSide-F.Read y))

pub peek_is : (r : RawRightSide) (y : RawPeek) (x : RawName) (line : ℕ) (a : Aims) (s : ProgramScope) → r ≡ right.Peek y → right_of r x line a s ≡ peek_in x y line s
peek_is r y x line a s is =
    ap (λ r. right_of r x line a s) (is ∙ sym (rolls-Peek y))
    ∙ ap (λ (f : RightSide). f x line a s) (fold-roll-RawRightSide RightSide Kind Tail Kind Body Kind Statement Tail right_in kind_in tail_in if_in body_of loop_in statement_of when_in (RawRightSide-F.Peek y))

pub set_is : (r : RawRightSide) (c : RawCalculation) (label : Option RawName) (x : RawName) (line : ℕ) (a : Aims) (s : ProgramScope) → r ≡ right.Calculated c label → right_of r x line a s ≡ set_in x c label line s
set_is r c label x line a s is =
    ap (λ r. right_of r x line a s) (is ∙ sym (rolls-Calculated c label))
    ∙ ap (λ (f : RightSide). f x line a s) (fold-roll-RawRightSide RightSide Kind Tail Kind Body Kind Statement Tail right_in kind_in tail_in if_in body_of loop_in statement_of when_in (RawRightSide-F.Calculated c label))

-- ---- tails

plain_is : (y : RawTail) (w : WordCounts) (a : Aims) (s : ProgramScope) → y ≡ tail.Plain → tail_of y w a s ≡ Ok ((λ o line. On (tree.Operate o (record { what = tree.Still []; line = line } ∷ [])) line), s)
plain_is y w a s is =
    ap (λ y. tail_of y w a s) (is ∙ sym rolls-Plain)
    ∙ ap (λ (f : Tail). f w a s) (fold-roll-RawTail RightSide Kind Tail Kind Body Kind Statement Tail right_in kind_in tail_in if_in body_of loop_in statement_of when_in RawTail-F.Plain)

plain_tree : (t : Stored) → tail_tree t ending.Plain ≡ (λ o line. On (tree.Operate o (record { what = tree.Still []; line = line } ∷ [])) line)
plain_tree t =
    ap (tail_tree t) (sym made-Plain)
    ∙ fold-roll-Tail (ℕ → Then) TailThen (ℕ → Then) ListTree Then TailThen (kind_then t) (tail_then t) (atomic_then t) list_then stmt_then (when_then t) Tail-F.Plain

pub plain_made : (t : Stored) (y : RawTail) (w : WordCounts) (a : Aims) (s : ProgramScope) → y ≡ tail.Plain → tail_of y w a s ≡ Ok (tail_tree t ending.Plain, s)
plain_made t y w a s is = plain_is y w a s is ∙ ap (λ f. Ok (f, s)) (sym (plain_tree t))

pub block_is : (y : RawTail) (xs : List RawProofStatement) (w : WordCounts) (a : Aims) (s : ProgramScope) → y ≡ tail.Block xs → tail_of y w a s ≡ (proof_block w s xs >>= (λ ps. Ok ((λ o line. On (tree.Operate o ps.0) line), ps.1)))
block_is y xs w a s is =
    ap (λ y. tail_of y w a s) (is ∙ sym (rolls-Block xs))
    ∙ ap (λ (f : Tail). f w a s) (fold-roll-RawTail RightSide Kind Tail Kind Body Kind Statement Tail right_in kind_in tail_in if_in body_of loop_in statement_of when_in (RawTail-F.Block xs))

block_tree : (t : Stored) (ps : List ProofStmt) → tail_tree t (ending.Proof ps) ≡ (λ o line. On (tree.Operate o (proof_steps_tree t ps)) line)
block_tree t ps =
    ap (tail_tree t) (sym (made-Proof ps))
    ∙ fold-roll-Tail (ℕ → Then) TailThen (ℕ → Then) ListTree Then TailThen (kind_then t) (tail_then t) (atomic_then t) list_then stmt_then (when_then t) (Tail-F.Tail::Proof ps)

pub block_made : (t : Stored) (y : RawTail) (xs : List RawProofStatement) (ps : List ProofStmt) (w : WordCounts) (a : Aims) (s last : ProgramScope) → y ≡ tail.Block xs → proof_block w s xs ≡ Ok (proof_steps_tree t ps, last)
    → tail_of y w a s ≡ Ok (tail_tree t (ending.Proof ps), last)
block_made t y xs ps w a s last is done =
    block_is y xs w a s is
    ∙ ap (λ r. r >>= (λ ps. Ok ((λ o line. On (tree.Operate o ps.0) line), ps.1))) done
    ∙ ap (λ f. Ok (f, last)) (sym (block_tree t ps))

pub choice_is : (y : RawTail) (x : RawWhen) (w : WordCounts) (a : Aims) (s : ProgramScope) → y ≡ tail.When x → tail_of y w a s ≡ when_of x w a s
choice_is y x w a s is =
    ap (λ y. tail_of y w a s) (is ∙ sym (rolls-When x))
    ∙ ap (λ (f : Tail). f w a s) (fold-roll-RawTail RightSide Kind Tail Kind Body Kind Statement Tail right_in kind_in tail_in if_in body_of loop_in statement_of when_in (RawTail-F.When x))

choice_tree : (t : Stored) (x : When) → tail_tree t (ending.When x) ≡ when_tree t x
choice_tree t x =
    ap (tail_tree t) (sym (made-When x))
    ∙ fold-roll-Tail (ℕ → Then) TailThen (ℕ → Then) ListTree Then TailThen (kind_then t) (tail_then t) (atomic_then t) list_then stmt_then (when_then t) (Tail-F.When x)

pub choice_made : (t : Stored) (y : RawTail) (x : RawWhen) (made : When) (w : WordCounts) (a : Aims) (s last : ProgramScope) → y ≡ tail.When x → when_of x w a s ≡ Ok (when_tree t made, last)
    → tail_of y w a s ≡ Ok (tail_tree t (ending.When made), last)
choice_made t y x made w a s last is done = choice_is y x w a s is ∙ done ∙ ap (λ f. Ok (f, last)) (sym (choice_tree t made))

-- ---- operations on words

word_tree : (t : Stored) (o : WordOp) (local : Option ℕ) (word : ℕ) (i : Idx) (label : Option ℕ) (y : TailNode) (line : ℕ)
    → kind_tree t (made.Word (roll-Atomic (record { op = o; local = local; word = word; index = i; label = label; tail = y }))) line
    ≡ tail_tree t y (record { op = o; local = local; word = word; index = index_tree t i; label = label }) line
word_tree t o local word i label y line =
    let x = roll-Atomic (record { op = o; local = local; word = word; index = i; label = label; tail = y }) in
    ap (λ k. kind_tree t k line) (sym (rolls-Word x))
    ∙ ap (λ (f : ℕ → Then). f line) (fold-roll-StmtKind (ℕ → Then) TailThen (ℕ → Then) ListTree Then TailThen (kind_then t) (tail_then t) (atomic_then t) list_then stmt_then (when_then t) (StmtKind-F.Word x))
    ∙ ap (λ (f : ℕ → Then). f line) (fold-roll-Atomic (ℕ → Then) TailThen (ℕ → Then) ListTree Then TailThen (kind_then t) (tail_then t) (atomic_then t) list_then stmt_then (when_then t) (record { op = o; local = local; word = word; index = i; label = label; tail = y }))

pub assigned_made : (t : Stored) (x : RawName) (o : RawAtomic) (y : RawTail) (line : ℕ) (a : Aims) (s s1 s2 s3 : ProgramScope) (n : ℕ) (w : WordOperation) (label : Option ℕ) (end : TailNode)
    → may_assign s x ≡ Ok n → word_operation_in s o.operation ≡ Ok (word_operation_tree t w, s1) → assign_name (wrap_if (wraps o.operation) s1) x ≡ Ok s2
    → tail_of y w.counts a s2 ≡ Ok (tail_tree t end, s3) → label ≡ label_of o.label
    → assigned_in x o (tail_of y) line a s ≡ Ok (kind_tree t (made.Word (roll-Atomic (record { op = w.op; local = Some n; word = w.word; index = w.index; label = label; tail = end }))) line, s3)
assigned_made t x o y line a s s1 s2 s3 n w label end one two three four is =
    rw (one, two, three, four, ← is) (ap (λ f. Ok (f, s3)) (sym (word_tree t w.op (Some n) w.word w.index label end line)))

pub stored_made : (t : Stored) (x : RawStore) (y : RawTail) (line : ℕ) (a : Aims) (s s1 s2 : ProgramScope) (w : WordOperation) (label : Option ℕ) (end : TailNode)
    → change_in op.Store s x.change ≡ Ok (word_operation_tree t w, s1) → tail_of y w.counts a s1 ≡ Ok (tail_tree t end, s2) → label ≡ label_of x.label
    → stored_in x (tail_of y) line a s ≡ Ok (kind_tree t (made.Word (roll-Atomic (record { op = w.op; local = None; word = w.word; index = w.index; label = label; tail = end }))) line, s2)
stored_made t x y line a s s1 s2 w label end one two is =
    rw (one, two, ← is) (ap (λ f. Ok (f, s2)) (sym (word_tree t w.op None w.word w.index label end line)))

-- ---- jumps

next_tree : (t : Stored) (args : List TermId) (ss : List Script) (line : ℕ) → kind_tree t (made.Next args ss) line ≡ Next (jump_tree t args ss) line
next_tree t args ss line =
    ap (λ k. kind_tree t k line) (sym (made-Next args ss))
    ∙ ap (λ (f : ℕ → Then). f line) (fold-roll-StmtKind (ℕ → Then) TailThen (ℕ → Then) ListTree Then TailThen (kind_then t) (tail_then t) (atomic_then t) list_then stmt_then (when_then t) (StmtKind-F.Next args ss))

break_tree : (t : Stored) (args : List TermId) (ss : List Script) (line : ℕ) → kind_tree t (made.Break args ss) line ≡ Break (jump_tree t args ss) line
break_tree t args ss line =
    ap (λ k. kind_tree t k line) (sym (made-Break args ss))
    ∙ ap (λ (f : ℕ → Then). f line) (fold-roll-StmtKind (ℕ → Then) TailThen (ℕ → Then) ListTree Then TailThen (kind_then t) (tail_then t) (atomic_then t) list_then stmt_then (when_then t) (StmtKind-F.Break args ss))

meet_tree : (t : Stored) (args : List TermId) (ss : List Script) (line : ℕ) → kind_tree t (made.Meet args ss) line ≡ Meet (jump_tree t args ss) line
meet_tree t args ss line =
    ap (λ k. kind_tree t k line) (sym (made-Meet args ss))
    ∙ ap (λ (f : ℕ → Then). f line) (fold-roll-StmtKind (ℕ → Then) TailThen (ℕ → Then) ListTree Then TailThen (kind_then t) (tail_then t) (atomic_then t) list_then stmt_then (when_then t) (StmtKind-F.Meet args ss))

end_tree : (t : Stored) (args : List TermId) (ss : List Script) (line : ℕ) → kind_tree t (made.End args ss) line ≡ End (jump_tree t args ss) line
end_tree t args ss line =
    ap (λ k. kind_tree t k line) (sym (made-End args ss))
    ∙ ap (λ (f : ℕ → Then). f line) (fold-roll-StmtKind (ℕ → Then) TailThen (ℕ → Then) ListTree Then TailThen (kind_then t) (tail_then t) (atomic_then t) list_then stmt_then (when_then t) (StmtKind-F.End args ss))

jump_made : (make : JumpTree → ℕ → Then) (t : Stored) (wanted : Option ℕ) (line : ℕ) (s next : ProgramScope) (j : RawJump) (args : List TermId) (ss : List Script)
    → jump_in wanted line s j ≡ Ok (jump_tree t args ss, next) → jumped make wanted line s j ≡ Ok (make (jump_tree t args ss) line, next)
unfolding jumped
jump_made make t wanted line s next j args ss done = ap (λ r. r >>= (λ x. Ok (make x.0 line, x.1))) done

pub next_made : (t : Stored) (k : RawStatementKind) (j : RawJump) (line : ℕ) (a : Aims) (s next : ProgramScope) (args : List TermId) (ss : List Script) → k ≡ raw.Next j
    → jump_in a.next line s j ≡ Ok (jump_tree t args ss, next) → kind_of k line a s ≡ Ok (kind_tree t (made.Next args ss) line, next)
next_made t k j line a s next args ss is done =
    next_is k j line a s is ∙ jump_made Next t a.next line s next j args ss done ∙ ap (λ f. Ok (f, next)) (sym (next_tree t args ss line))

pub break_made : (t : Stored) (k : RawStatementKind) (j : RawJump) (line : ℕ) (a : Aims) (s next : ProgramScope) (args : List TermId) (ss : List Script) → k ≡ raw.Break j
    → jump_in a.breaks line s j ≡ Ok (jump_tree t args ss, next) → kind_of k line a s ≡ Ok (kind_tree t (made.Break args ss) line, next)
break_made t k j line a s next args ss is done =
    break_is k j line a s is ∙ jump_made Break t a.breaks line s next j args ss done ∙ ap (λ f. Ok (f, next)) (sym (break_tree t args ss line))

pub meet_made : (t : Stored) (k : RawStatementKind) (j : RawJump) (line : ℕ) (a : Aims) (s next : ProgramScope) (args : List TermId) (ss : List Script) → k ≡ raw.Meet j
    → jump_in a.meet line s j ≡ Ok (jump_tree t args ss, next) → kind_of k line a s ≡ Ok (kind_tree t (made.Meet args ss) line, next)
meet_made t k j line a s next args ss is done =
    meet_is k j line a s is ∙ jump_made Meet t a.meet line s next j args ss done ∙ ap (λ f. Ok (f, next)) (sym (meet_tree t args ss line))

pub end_made : (t : Stored) (k : RawStatementKind) (j : RawJump) (line : ℕ) (a : Aims) (s next : ProgramScope) (args : List TermId) (ss : List Script) → k ≡ raw.End j
    → jump_in a.end line s j ≡ Ok (jump_tree t args ss, next) → kind_of k line a s ≡ Ok (kind_tree t (made.End args ss) line, next)
end_made t k j line a s next args ss is done =
    end_is k j line a s is ∙ jump_made End t a.end line s next j args ss done ∙ ap (λ f. Ok (f, next)) (sym (end_tree t args ss line))

-- ---- statements

pub statement_is : (x : RawStatement) (a : Aims) (s : ProgramScope) → statement_in x a s ≡ kind_of (out-RawStatement x).what (out-RawStatement x).line a s
statement_is x a s = ap (λ (f : Statement). f a s) (fold_out-RawStatement RightSide Kind Tail Kind Body Kind Statement Tail right_in kind_in tail_in if_in body_of loop_in statement_of when_in x)

pub statement_made : (t : Stored) (x : RawStatement) (a : Aims) (s next : ProgramScope) (k : StmtKind)
    → kind_of (out-RawStatement x).what (out-RawStatement x).line a s ≡ Ok (kind_tree t k (out-RawStatement x).line, next)
    → statement_in x a s ≡ Ok (stmt_tree t (roll-Stmt (record { what = k; line = (out-RawStatement x).line })), next)
statement_made t x a s next k done =
    statement_is x a s ∙ done
    ∙ ap (λ f. Ok (f, next)) (sym (fold-roll-Stmt (ℕ → Then) TailThen (ℕ → Then) ListTree Then TailThen (kind_then t) (tail_then t) (atomic_then t) list_then stmt_then (when_then t) (record { what = k; line = (out-RawStatement x).line })))
