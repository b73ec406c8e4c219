-- What parts of statements with lists compute to, raw and made.
use Rattle.std.proofs.Common.{◌≡◌, ℕ, Bool, false, List, length, Option, Some, option_map, Result, Ok, sym, ap, ◌∙◌}
use Rattle.sync_base.specs.declared.stops.Refusal.{Refusal}
use Rattle.sync_base.specs.Outcome.{◌>>=◌}
use Rattle.sync_terms.specs.Stored.{Stored}
use Rattle.sync_terms.specs.declared.nodes.TermId.{TermId}
use Rattle.sync_terms.specs.declared.scripts.Script.{Script}
use Rattle.sync_parse_exprs.specs.declared.expressions.RawExpr.{RawExpr}
use Rattle.sync_parse.specs.declared.scripts.RawScript.{RawScript}
use Rattle.sync_parse_programs.specs.declared.statements.RawJump.{RawJump}
use Rattle.sync_parse_programs.specs.declared.statements.RawIf.{RawIf, out-RawIf, fold_out-RawIf}
use Rattle.sync_parse_programs.specs.declared.statements.RawLoop.{RawLoop, out-RawLoop, fold_out-RawLoop}
use Rattle.sync_parse_programs.specs.declared.statements.RawWhen.{RawWhen, out-RawWhen, fold_out-RawWhen}
use Rattle.sync_thread.specs.declared.operands.Cond.{Cond}
use Rattle.sync_thread.specs.declared.program.Keep.{Keep}
use Rattle.sync_thread.specs.declared.program.ProofStmt.{ProofStmt}
use Rattle.sync_thread.specs.declared.program.List.{List as ListNode}
use Rattle.sync_thread.specs.declared.program.When.{roll-When, fold-roll-When}
use Rattle.sync_thread.specs.declared.program.StmtKind.{fold-roll-StmtKind}
use Rattle.sync_thread.specs.declared.program.StmtKind.TheOpen.{StmtKind-F}
use Rattle.sync_thread.specs.declared.program.StmtKind.TheVariants as made
use Rattle.sync_thread.specs.declared.program.StmtKind.TheVariants.{rolls-If, rolls-Loop}
use Rattle.sync_thread.specs.Control.{If, Loop, OnWhen}
use Rattle.sync_thread.specs.Programs.{ListTree}
use Rattle.sync_thread.specs.Views.{Then, TailThen, keep_tree, jump_tree, proof_steps_tree, list_tree, kind_then, tail_then, atomic_then, list_then, stmt_then, when_then}
use Rattle.sync_read_programs.specs.declared.scopes.WordCounts.{WordCounts}
use Rattle.sync_read_programs.specs.declared.scopes.Aims.{Aims}
use Rattle.sync_read_programs.specs.declared.scopes.ProgramScope.{ProgramScope}
use Rattle.sync_read_programs.specs.Scopes.{with_wrap, knows_wrap}
use Rattle.sync_read_programs.specs.Operands.{label_of, condition_in}
use Rattle.sync_read_programs.specs.Keeps.{keep_in, keep_if}
use Rattle.sync_read_programs.specs.ProofStatements.{proof_block}
use Rattle.sync_read_programs.specs.Statements.{Kind, Statement, RightSide, Tail, Body, right_in, kind_in, tail_in, if_in, body_of, loop_in, statement_of, when_in, in_branch, in_loop, jump_in, list_in}
use Rattle.sync_read_programs.specs.Parts.{if_of, loop_of, when_of, kind_tree, when_tree}

-- ---- steps that may refuse

pub done_then : {A B : Type 0} (r : Result A Refusal) (k : A → Result B Refusal) (a : A) (want : Result B Refusal) → r ≡ Ok a → k a ≡ want → (r >>= k) ≡ want
done_then r k a want is rest = ap (λ x. x >>= k) is ∙ rest

-- ---- branches

pub if_is : (x : RawIf) (line : ℕ) (a : Aims) (s : ProgramScope) → if_of x line a s ≡ (condition_in s (out-RawIf x).condition
    >>= (λ c. list_in (out-RawIf x).yes (in_branch (out-RawIf x).joined a) s
    >>= (λ p. list_in (out-RawIf x).no (in_branch (out-RawIf x).joined a) p.1
    >>= (λ q. keep_if q.1 (out-RawIf x).joined
    >>= (λ k. Ok (If (record { cond = c; label = label_of (out-RawIf x).label }) line p.0 q.0 k.0, k.1))))))
if_is x line a s = ap (λ (f : Kind). f line a s) (fold_out-RawIf RightSide Kind Tail Kind Body Kind Statement Tail right_in kind_in tail_in if_in body_of loop_in statement_of when_in x)

if_tree : (t : Stored) (c : Cond) (label : Option ℕ) (p q : ListNode) (k : Option Keep) (line : ℕ) → kind_tree t (made.If c label p q k) line ≡ If (record { cond = c; label = label }) line (list_tree t p) (list_tree t q) (option_map (keep_tree t) k)
if_tree t c label p q k line =
    ap (λ y. kind_tree t y line) (sym (rolls-If c label p q k))
    ∙ ap (λ (f : ℕ → Then). f line) (fold-roll-StmtKind (ℕ → Then) TailThen (ℕ → Then) ListTree Then TailThen (kind_then t) (tail_then t) (atomic_then t) list_then stmt_then (when_then t) (StmtKind-F.If c label p q k))

pub if_made : (x : RawIf) (line : ℕ) (a b : Aims) (s s1 s2 s3 : ProgramScope) (t : Stored) (c : Cond) (label : Option ℕ) (p q : ListNode) (k : Option Keep)
    → b ≡ in_branch (out-RawIf x).joined a → label ≡ label_of (out-RawIf x).label
    → condition_in s (out-RawIf x).condition ≡ Ok c
    → list_in (out-RawIf x).yes b s ≡ Ok (list_tree t p, s1)
    → list_in (out-RawIf x).no b s1 ≡ Ok (list_tree t q, s2)
    → keep_if s2 (out-RawIf x).joined ≡ Ok (option_map (keep_tree t) k, s3)
    → if_of x line a s ≡ Ok (kind_tree t (made.If c label p q k) line, s3)
if_made x line a b s s1 s2 s3 t c label p q k aims named one two three four =
    if_is x line a s ∙ done_then _ _ _ _ one (done_then _ _ _ _ (ap (λ b. list_in (out-RawIf x).yes b s) (sym aims) ∙ two) (done_then _ _ _ _ (ap (λ b. list_in (out-RawIf x).no b s1) (sym aims) ∙ three) (done_then _ _ _ _ four
    (ap (λ n. Ok (If (record { cond = c; label = n }) line (list_tree t p) (list_tree t q) (option_map (keep_tree t) k), s3)) (sym named)
    ∙ ap (λ f. Ok (f, s3)) (sym (if_tree t c label p q k line))))))

pub loop_is : (x : RawLoop) (line : ℕ) (a : Aims) (s : ProgramScope) → loop_of x line a s ≡ (keep_in false (with_wrap false s) (out-RawLoop x).keep
    >>= (λ k. jump_in (Some (length (out-RawLoop x).keep.names)) (out-RawLoop x).from_line (with_wrap (knows_wrap s) k.1) (record { args = (out-RawLoop x).args; scripts = (out-RawLoop x).scripts })
    >>= (λ j. list_in (out-RawLoop x).body (in_loop (out-RawLoop x).keep (out-RawLoop x).after a) (with_wrap false j.1)
    >>= (λ b. keep_if b.1 (out-RawLoop x).after
    >>= (λ l. Ok (Loop k.0 j.0 line b.0 l.0, with_wrap (knows_wrap s) l.1))))))
loop_is x line a s = ap (λ (f : Kind). f line a s) (fold_out-RawLoop RightSide Kind Tail Kind Body Kind Statement Tail right_in kind_in tail_in if_in body_of loop_in statement_of when_in x)

loop_tree : (t : Stored) (k : Keep) (args : List TermId) (ss : List Script) (b : ListNode) (l : Option Keep) (line : ℕ) → kind_tree t (made.Loop k args ss b l) line ≡ Loop (keep_tree t k) (jump_tree t args ss) line (list_tree t b) (option_map (keep_tree t) l)
loop_tree t k args ss b l line =
    ap (λ y. kind_tree t y line) (sym (rolls-Loop k args ss b l))
    ∙ ap (λ (f : ℕ → Then). f line) (fold-roll-StmtKind (ℕ → Then) TailThen (ℕ → Then) ListTree Then TailThen (kind_then t) (tail_then t) (atomic_then t) list_then stmt_then (when_then t) (StmtKind-F.Loop k args ss b l))

pub loop_made : (x : RawLoop) (line : ℕ) (a b : Aims) (s s1 s2 s3 s4 s5 s6 s7 s8 : ProgramScope) (w : Bool) (n : Option ℕ) (t : Stored) (k : Keep) (args : List TermId) (ss : List Script) (p : ListNode) (l : Option Keep)
    → w ≡ knows_wrap s → b ≡ in_loop (out-RawLoop x).keep (out-RawLoop x).after a → n ≡ Some (length (out-RawLoop x).keep.names)
    → s1 ≡ with_wrap false s → keep_in false s1 (out-RawLoop x).keep ≡ Ok (keep_tree t k, s2)
    → s3 ≡ with_wrap w s2 → jump_in n (out-RawLoop x).from_line s3 (record { args = (out-RawLoop x).args; scripts = (out-RawLoop x).scripts }) ≡ Ok (jump_tree t args ss, s4)
    → s5 ≡ with_wrap false s4 → list_in (out-RawLoop x).body b s5 ≡ Ok (list_tree t p, s6)
    → keep_if s6 (out-RawLoop x).after ≡ Ok (option_map (keep_tree t) l, s7) → s8 ≡ with_wrap w s7
    → loop_of x line a s ≡ Ok (kind_tree t (made.Loop k args ss p l) line, s8)
loop_made x line a b s s1 s2 s3 s4 s5 s6 s7 s8 w n t k args ss p l known aims names no_wrap one wrap two none three four last =
    let jump : RawJump = record { args = (out-RawLoop x).args; scripts = (out-RawLoop x).scripts } in
    loop_is x line a s
    ∙ done_then _ _ _ _ (ap (λ z. keep_in false z (out-RawLoop x).keep) (sym no_wrap) ∙ one)
    (done_then _ _ _ _ (ap (λ m. jump_in m (out-RawLoop x).from_line (with_wrap (knows_wrap s) s2) jump) (sym names) ∙ ap (λ z. jump_in n (out-RawLoop x).from_line z jump) (sym (wrap ∙ ap (λ w. with_wrap w s2) known)) ∙ two)
    (done_then _ _ _ _ (ap (λ b. list_in (out-RawLoop x).body b (with_wrap false s4)) (sym aims) ∙ ap (list_in (out-RawLoop x).body b) (sym none) ∙ three)
    (done_then _ _ _ _ four
    (ap (λ z. Ok (Loop (keep_tree t k) (jump_tree t args ss) line (list_tree t p) (option_map (keep_tree t) l), z)) (sym (last ∙ ap (λ w. with_wrap w s7) known))
    ∙ ap (λ f. Ok (f, s8)) (sym (loop_tree t k args ss p l line))))))

pub when_is : (x : RawWhen) (w : WordCounts) (a : Aims) (s : ProgramScope) → when_of x w a s ≡ (condition_in s (out-RawWhen x).condition
    >>= (λ c. proof_block w s (out-RawWhen x).yes_proof
    >>= (λ ps. list_in (out-RawWhen x).yes (in_branch (out-RawWhen x).joined a) ps.1
    >>= (λ p. proof_block w p.1 (out-RawWhen x).no_proof
    >>= (λ qs. list_in (out-RawWhen x).no (in_branch (out-RawWhen x).joined a) qs.1
    >>= (λ q. keep_if q.1 (out-RawWhen x).joined
    >>= (λ k. Ok ((λ o line. OnWhen (record { atomic = o; test = record { cond = c; label = label_of (out-RawWhen x).label }; first = ps.0; second = qs.0 }) line p.0 q.0 k.0), k.1))))))))
when_is x w a s = ap (λ (f : Tail). f w a s) (fold_out-RawWhen RightSide Kind Tail Kind Body Kind Statement Tail right_in kind_in tail_in if_in body_of loop_in statement_of when_in x)

pub when_made : (x : RawWhen) (w : WordCounts) (a b : Aims) (s s1 s2 s3 s4 s5 : ProgramScope) (t : Stored) (c : Cond) (label : Option ℕ) (ps qs : List ProofStmt) (p q : ListNode) (k : Option Keep)
    → b ≡ in_branch (out-RawWhen x).joined a → label ≡ label_of (out-RawWhen x).label
    → condition_in s (out-RawWhen x).condition ≡ Ok c
    → proof_block w s (out-RawWhen x).yes_proof ≡ Ok (proof_steps_tree t ps, s1)
    → list_in (out-RawWhen x).yes b s1 ≡ Ok (list_tree t p, s2)
    → proof_block w s2 (out-RawWhen x).no_proof ≡ Ok (proof_steps_tree t qs, s3)
    → list_in (out-RawWhen x).no b s3 ≡ Ok (list_tree t q, s4)
    → keep_if s4 (out-RawWhen x).joined ≡ Ok (option_map (keep_tree t) k, s5)
    → when_of x w a s ≡ Ok (when_tree t (roll-When (record { cond = c; label = label; yes_proof = ps; yes = p; no_proof = qs; no = q; joined = k })), s5)
when_made x w a b s s1 s2 s3 s4 s5 t c label ps qs p q k aims named one two three four five six =
    when_is x w a s ∙ done_then _ _ _ _ one (done_then _ _ _ _ two (done_then _ _ _ _ (ap (λ b. list_in (out-RawWhen x).yes b s1) (sym aims) ∙ three)
    (done_then _ _ _ _ four (done_then _ _ _ _ (ap (λ b. list_in (out-RawWhen x).no b s3) (sym aims) ∙ five) (done_then _ _ _ _ six
    (ap (λ n. Ok ((λ o line. OnWhen (record { atomic = o; test = record { cond = c; label = n }; first = proof_steps_tree t ps; second = proof_steps_tree t qs }) line (list_tree t p) (list_tree t q) (option_map (keep_tree t) k)), s5)) (sym named)
    ∙ ap (λ f. Ok (f, s5)) (sym (fold-roll-When (ℕ → Then) TailThen (ℕ → Then) ListTree Then TailThen (kind_then t) (tail_then t) (atomic_then t) list_then stmt_then (when_then t)
    (record { cond = c; label = label; yes_proof = ps; yes = p; no_proof = qs; no = q; joined = k })))))))))

-- what a jump brings, part by part
abbrev pub jump_with : List RawExpr → List RawScript → RawJump
jump_with xs ss = record { args = xs; scripts = ss }

pub brought : (xs ys : List RawExpr) (ss us : List RawScript) → xs ≡ ys → ss ≡ us → jump_with xs ss ≡ jump_with ys us
brought xs ys ss us one two = ap (λ xs. jump_with xs ss) one ∙ ap (jump_with ys) two
