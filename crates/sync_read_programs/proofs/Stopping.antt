-- Statements with lists one of whose parts is not made.
use Rattle.std.proofs.Common.{◌≡◌, ℕ, Bool, false, List, length, Option, Some, Ok, Err, sym, ap, ◌∙◌}
use Rattle.sync_base.specs.declared.stops.Stop.{Stop}
use Rattle.sync_base.specs.declared.stops.Stop.TheVariants.{Refused, Memory}
use Rattle.sync_base.specs.Outcome.{◌>>=◌, Stops}
use Rattle.sync_parse_programs.specs.declared.proof_statements.RawProofStatement.{RawProofStatement}
use Rattle.sync_parse_programs.specs.declared.statements.RawJump.{RawJump}
use Rattle.sync_parse_programs.specs.declared.statements.RawIf.{RawIf, out-RawIf}
use Rattle.sync_parse_programs.specs.declared.statements.RawLoop.{RawLoop, out-RawLoop}
use Rattle.sync_parse_programs.specs.declared.statements.RawWhen.{RawWhen, out-RawWhen}
use Rattle.sync_parse_programs.specs.declared.statements.RawTail.{RawTail}
use Rattle.sync_parse_programs.specs.declared.statements.RawTail.TheVariants as tail
use Rattle.sync_thread.specs.declared.operands.Cond.{Cond}
use Rattle.sync_thread.specs.Programs.{ListTree, JumpTree, KeepTree, ProofStepTree}
use Rattle.sync_thread.specs.Views.{Then}
use Rattle.sync_read_programs.specs.declared.scopes.WordCounts.{WordCounts}
use Rattle.sync_read_programs.specs.declared.scopes.Aims.{Aims}
use Rattle.sync_read_programs.specs.declared.scopes.ProgramScope.{ProgramScope}
use Rattle.sync_read_programs.specs.Scopes.{with_wrap, knows_wrap}
use Rattle.sync_read_programs.specs.Operands.{condition_in}
use Rattle.sync_read_programs.specs.Keeps.{keep_in, keep_if}
use Rattle.sync_read_programs.specs.ProofStatements.{proof_block}
use Rattle.sync_read_programs.specs.Statements.{in_branch, in_loop, jump_in, jumped, list_in}
use Rattle.sync_read_programs.specs.Parts.{tail_of, if_of, loop_of, when_of}
use Rattle.sync_read_programs.proofs.Branching.{if_is, loop_is, when_is}
use Rattle.sync_read_programs.proofs.Arms.{block_is}

-- ---- a condition with two lists

pub if_stops_first : (e : Stop) (x : RawIf) (line : ℕ) (a : Aims) (s : ProgramScope) → Stops e (condition_in s (out-RawIf x).condition) → Stops e (if_of x line a s)
if_stops_first Memory x line a s h = tt
if_stops_first (Refused r) x line a s h = rw (if_is x line a s, h)

pub if_stops_yes : (e : Stop) (x : RawIf) (line : ℕ) (a b : Aims) (s : ProgramScope) (c : Cond) → b ≡ in_branch (out-RawIf x).joined a → condition_in s (out-RawIf x).condition ≡ Ok c
    → Stops e (list_in (out-RawIf x).yes b s) → Stops e (if_of x line a s)
if_stops_yes Memory x line a b s c aims one h = tt
if_stops_yes (Refused r) x line a b s c aims one h =
    let here : list_in (out-RawIf x).yes (in_branch (out-RawIf x).joined a) s ≡ Err r = ap (λ b. list_in (out-RawIf x).yes b s) (sym aims) ∙ h in
    rw (if_is x line a s, one, here)

pub if_stops_no : (e : Stop) (x : RawIf) (line : ℕ) (a b : Aims) (s s1 : ProgramScope) (c : Cond) (p : ListTree) → b ≡ in_branch (out-RawIf x).joined a → condition_in s (out-RawIf x).condition ≡ Ok c
    → list_in (out-RawIf x).yes b s ≡ Ok (p, s1) → Stops e (list_in (out-RawIf x).no b s1) → Stops e (if_of x line a s)
if_stops_no Memory x line a b s s1 c p aims one two h = tt
if_stops_no (Refused r) x line a b s s1 c p aims one two h =
    let yes : list_in (out-RawIf x).yes (in_branch (out-RawIf x).joined a) s ≡ Ok (p, s1) = ap (λ b. list_in (out-RawIf x).yes b s) (sym aims) ∙ two in
    let here : list_in (out-RawIf x).no (in_branch (out-RawIf x).joined a) s1 ≡ Err r = ap (λ b. list_in (out-RawIf x).no b s1) (sym aims) ∙ h in
    rw (if_is x line a s, one, yes, here)

pub if_stops_joined : (e : Stop) (x : RawIf) (line : ℕ) (a b : Aims) (s s1 s2 : ProgramScope) (c : Cond) (p q : ListTree) → b ≡ in_branch (out-RawIf x).joined a → condition_in s (out-RawIf x).condition ≡ Ok c
    → list_in (out-RawIf x).yes b s ≡ Ok (p, s1) → list_in (out-RawIf x).no b s1 ≡ Ok (q, s2) → Stops e (keep_if s2 (out-RawIf x).joined) → Stops e (if_of x line a s)
if_stops_joined Memory x line a b s s1 s2 c p q aims one two three h = tt
if_stops_joined (Refused r) x line a b s s1 s2 c p q aims one two three h =
    let yes : list_in (out-RawIf x).yes (in_branch (out-RawIf x).joined a) s ≡ Ok (p, s1) = ap (λ b. list_in (out-RawIf x).yes b s) (sym aims) ∙ two in
    let no : list_in (out-RawIf x).no (in_branch (out-RawIf x).joined a) s1 ≡ Ok (q, s2) = ap (λ b. list_in (out-RawIf x).no b s1) (sym aims) ∙ three in
    rw (if_is x line a s, one, yes, no, h)

-- ---- loops

pub loop_stops_keep : (e : Stop) (x : RawLoop) (line : ℕ) (a : Aims) (s s1 : ProgramScope) → s1 ≡ with_wrap false s → Stops e (keep_in false s1 (out-RawLoop x).keep) → Stops e (loop_of x line a s)
loop_stops_keep Memory x line a s s1 no_wrap h = tt
loop_stops_keep (Refused r) x line a s s1 no_wrap h =
    let here : keep_in false (with_wrap false s) (out-RawLoop x).keep ≡ Err r = ap (λ z. keep_in false z (out-RawLoop x).keep) (sym no_wrap) ∙ h in
    rw (loop_is x line a s, here)

abbrev pub jump_of : RawLoop → RawJump
jump_of x = record { args = (out-RawLoop x).args; scripts = (out-RawLoop x).scripts }

-- what `from` brings, in the loop's own scope
from_is : (x : RawLoop) (s s2 s3 : ProgramScope) (w : Bool) (n : Option ℕ)
    → w ≡ knows_wrap s → n ≡ Some (length (out-RawLoop x).keep.names) → s3 ≡ with_wrap w s2
    → jump_in (Some (length (out-RawLoop x).keep.names)) (out-RawLoop x).from_line (with_wrap (knows_wrap s) s2) (jump_of x) ≡ jump_in n (out-RawLoop x).from_line s3 (jump_of x)
from_is x s s2 s3 w n known names wrap =
    ap (λ m. jump_in m (out-RawLoop x).from_line (with_wrap (knows_wrap s) s2) (jump_of x)) (sym names)
    ∙ ap (λ z. jump_in n (out-RawLoop x).from_line z (jump_of x)) (sym (wrap ∙ ap (λ w. with_wrap w s2) known))

pub loop_stops_from : (e : Stop) (x : RawLoop) (line : ℕ) (a : Aims) (s s1 s2 s3 : ProgramScope) (w : Bool) (n : Option ℕ) (k : KeepTree) (j : RawJump)
    → w ≡ knows_wrap s → n ≡ Some (length (out-RawLoop x).keep.names) → j ≡ jump_of x
    → s1 ≡ with_wrap false s → keep_in false s1 (out-RawLoop x).keep ≡ Ok (k, s2)
    → s3 ≡ with_wrap w s2 → Stops e (jump_in n (out-RawLoop x).from_line s3 j) → Stops e (loop_of x line a s)
loop_stops_from Memory x line a s s1 s2 s3 w n k j known names brings no_wrap one wrap h = tt
loop_stops_from (Refused r) x line a s s1 s2 s3 w n k j known names brings no_wrap one wrap h =
    let keep : keep_in false (with_wrap false s) (out-RawLoop x).keep ≡ Ok (k, s2) = ap (λ z. keep_in false z (out-RawLoop x).keep) (sym no_wrap) ∙ one in
    let here : jump_in (Some (length (out-RawLoop x).keep.names)) (out-RawLoop x).from_line (with_wrap (knows_wrap s) s2) (jump_of x) ≡ Err r =
    from_is x s s2 s3 w n known names wrap ∙ ap (jump_in n (out-RawLoop x).from_line s3) (sym brings) ∙ h in
    rw (loop_is x line a s, keep, here)

pub loop_stops_body : (e : Stop) (x : RawLoop) (line : ℕ) (a b : Aims) (s s1 s2 s3 s4 s5 : ProgramScope) (w : Bool) (n : Option ℕ) (k : KeepTree) (j : JumpTree)
    → w ≡ knows_wrap s → b ≡ in_loop (out-RawLoop x).keep (out-RawLoop x).after a → n ≡ Some (length (out-RawLoop x).keep.names)
    → s1 ≡ with_wrap false s → keep_in false s1 (out-RawLoop x).keep ≡ Ok (k, s2)
    → s3 ≡ with_wrap w s2 → jump_in n (out-RawLoop x).from_line s3 (record { args = (out-RawLoop x).args; scripts = (out-RawLoop x).scripts }) ≡ Ok (j, s4)
    → s5 ≡ with_wrap false s4 → Stops e (list_in (out-RawLoop x).body b s5) → Stops e (loop_of x line a s)
loop_stops_body Memory x line a b s s1 s2 s3 s4 s5 w n k j known aims names no_wrap one wrap two none h = tt
loop_stops_body (Refused r) x line a b s s1 s2 s3 s4 s5 w n k j known aims names no_wrap one wrap two none h =
    let keep : keep_in false (with_wrap false s) (out-RawLoop x).keep ≡ Ok (k, s2) = ap (λ z. keep_in false z (out-RawLoop x).keep) (sym no_wrap) ∙ one in
    let from : jump_in (Some (length (out-RawLoop x).keep.names)) (out-RawLoop x).from_line (with_wrap (knows_wrap s) s2) (jump_of x) ≡ Ok (j, s4) = from_is x s s2 s3 w n known names wrap ∙ two in
    let here : list_in (out-RawLoop x).body (in_loop (out-RawLoop x).keep (out-RawLoop x).after a) (with_wrap false s4) ≡ Err r =
    ap (λ b. list_in (out-RawLoop x).body b (with_wrap false s4)) (sym aims) ∙ ap (list_in (out-RawLoop x).body b) (sym none) ∙ h in
    rw (loop_is x line a s, keep, from, here)

pub loop_stops_left : (e : Stop) (x : RawLoop) (line : ℕ) (a b : Aims) (s s1 s2 s3 s4 s5 s6 : ProgramScope) (w : Bool) (n : Option ℕ) (k : KeepTree) (j : JumpTree) (p : ListTree)
    → w ≡ knows_wrap s → b ≡ in_loop (out-RawLoop x).keep (out-RawLoop x).after a → n ≡ Some (length (out-RawLoop x).keep.names)
    → s1 ≡ with_wrap false s → keep_in false s1 (out-RawLoop x).keep ≡ Ok (k, s2)
    → s3 ≡ with_wrap w s2 → jump_in n (out-RawLoop x).from_line s3 (record { args = (out-RawLoop x).args; scripts = (out-RawLoop x).scripts }) ≡ Ok (j, s4)
    → s5 ≡ with_wrap false s4 → list_in (out-RawLoop x).body b s5 ≡ Ok (p, s6) → Stops e (keep_if s6 (out-RawLoop x).after) → Stops e (loop_of x line a s)
loop_stops_left Memory x line a b s s1 s2 s3 s4 s5 s6 w n k j p known aims names no_wrap one wrap two none three h = tt
loop_stops_left (Refused r) x line a b s s1 s2 s3 s4 s5 s6 w n k j p known aims names no_wrap one wrap two none three h =
    let keep : keep_in false (with_wrap false s) (out-RawLoop x).keep ≡ Ok (k, s2) = ap (λ z. keep_in false z (out-RawLoop x).keep) (sym no_wrap) ∙ one in
    let from : jump_in (Some (length (out-RawLoop x).keep.names)) (out-RawLoop x).from_line (with_wrap (knows_wrap s) s2) (jump_of x) ≡ Ok (j, s4) = from_is x s s2 s3 w n known names wrap ∙ two in
    let body : list_in (out-RawLoop x).body (in_loop (out-RawLoop x).keep (out-RawLoop x).after a) (with_wrap false s4) ≡ Ok (p, s6) =
    ap (λ b. list_in (out-RawLoop x).body b (with_wrap false s4)) (sym aims) ∙ ap (list_in (out-RawLoop x).body b) (sym none) ∙ three in
    rw (loop_is x line a s, keep, from, body, h)

-- ---- outcomes of an operation on a word

pub when_stops_first : (e : Stop) (x : RawWhen) (w : WordCounts) (a : Aims) (s : ProgramScope) → Stops e (condition_in s (out-RawWhen x).condition) → Stops e (when_of x w a s)
when_stops_first Memory x w a s h = tt
when_stops_first (Refused r) x w a s h = rw (when_is x w a s, h)

pub when_stops_yes_proof : (e : Stop) (x : RawWhen) (w : WordCounts) (a : Aims) (s : ProgramScope) (c : Cond) → condition_in s (out-RawWhen x).condition ≡ Ok c
    → Stops e (proof_block w s (out-RawWhen x).yes_proof) → Stops e (when_of x w a s)
when_stops_yes_proof Memory x w a s c one h = tt
when_stops_yes_proof (Refused r) x w a s c one h = rw (when_is x w a s, one, h)

pub when_stops_yes : (e : Stop) (x : RawWhen) (w : WordCounts) (a b : Aims) (s s1 : ProgramScope) (c : Cond) (ps : List ProofStepTree) → b ≡ in_branch (out-RawWhen x).joined a → condition_in s (out-RawWhen x).condition ≡ Ok c
    → proof_block w s (out-RawWhen x).yes_proof ≡ Ok (ps, s1) → Stops e (list_in (out-RawWhen x).yes b s1) → Stops e (when_of x w a s)
when_stops_yes Memory x w a b s s1 c ps aims one two h = tt
when_stops_yes (Refused r) x w a b s s1 c ps aims one two h =
    let here : list_in (out-RawWhen x).yes (in_branch (out-RawWhen x).joined a) s1 ≡ Err r = ap (λ b. list_in (out-RawWhen x).yes b s1) (sym aims) ∙ h in
    rw (when_is x w a s, one, two, here)

pub when_stops_no_proof : (e : Stop) (x : RawWhen) (w : WordCounts) (a b : Aims) (s s1 s2 : ProgramScope) (c : Cond) (ps : List ProofStepTree) (p : ListTree) → b ≡ in_branch (out-RawWhen x).joined a → condition_in s (out-RawWhen x).condition ≡ Ok c
    → proof_block w s (out-RawWhen x).yes_proof ≡ Ok (ps, s1) → list_in (out-RawWhen x).yes b s1 ≡ Ok (p, s2) → Stops e (proof_block w s2 (out-RawWhen x).no_proof) → Stops e (when_of x w a s)
when_stops_no_proof Memory x w a b s s1 s2 c ps p aims one two three h = tt
when_stops_no_proof (Refused r) x w a b s s1 s2 c ps p aims one two three h =
    let yes : list_in (out-RawWhen x).yes (in_branch (out-RawWhen x).joined a) s1 ≡ Ok (p, s2) = ap (λ b. list_in (out-RawWhen x).yes b s1) (sym aims) ∙ three in
    rw (when_is x w a s, one, two, yes, h)

pub when_stops_no : (e : Stop) (x : RawWhen) (w : WordCounts) (a b : Aims) (s s1 s2 s3 : ProgramScope) (c : Cond) (ps qs : List ProofStepTree) (p : ListTree) → b ≡ in_branch (out-RawWhen x).joined a → condition_in s (out-RawWhen x).condition ≡ Ok c
    → proof_block w s (out-RawWhen x).yes_proof ≡ Ok (ps, s1) → list_in (out-RawWhen x).yes b s1 ≡ Ok (p, s2) → proof_block w s2 (out-RawWhen x).no_proof ≡ Ok (qs, s3)
    → Stops e (list_in (out-RawWhen x).no b s3) → Stops e (when_of x w a s)
when_stops_no Memory x w a b s s1 s2 s3 c ps qs p aims one two three four h = tt
when_stops_no (Refused r) x w a b s s1 s2 s3 c ps qs p aims one two three four h =
    let yes : list_in (out-RawWhen x).yes (in_branch (out-RawWhen x).joined a) s1 ≡ Ok (p, s2) = ap (λ b. list_in (out-RawWhen x).yes b s1) (sym aims) ∙ three in
    let here : list_in (out-RawWhen x).no (in_branch (out-RawWhen x).joined a) s3 ≡ Err r = ap (λ b. list_in (out-RawWhen x).no b s3) (sym aims) ∙ h in
    rw (when_is x w a s, one, two, yes, four, here)

pub when_stops_joined : (e : Stop) (x : RawWhen) (w : WordCounts) (a b : Aims) (s s1 s2 s3 s4 : ProgramScope) (c : Cond) (ps qs : List ProofStepTree) (p q : ListTree) → b ≡ in_branch (out-RawWhen x).joined a → condition_in s (out-RawWhen x).condition ≡ Ok c
    → proof_block w s (out-RawWhen x).yes_proof ≡ Ok (ps, s1) → list_in (out-RawWhen x).yes b s1 ≡ Ok (p, s2) → proof_block w s2 (out-RawWhen x).no_proof ≡ Ok (qs, s3)
    → list_in (out-RawWhen x).no b s3 ≡ Ok (q, s4) → Stops e (keep_if s4 (out-RawWhen x).joined) → Stops e (when_of x w a s)
when_stops_joined Memory x w a b s s1 s2 s3 s4 c ps qs p q aims one two three four five h = tt
when_stops_joined (Refused r) x w a b s s1 s2 s3 s4 c ps qs p q aims one two three four five h =
    let yes : list_in (out-RawWhen x).yes (in_branch (out-RawWhen x).joined a) s1 ≡ Ok (p, s2) = ap (λ b. list_in (out-RawWhen x).yes b s1) (sym aims) ∙ three in
    let no : list_in (out-RawWhen x).no (in_branch (out-RawWhen x).joined a) s3 ≡ Ok (q, s4) = ap (λ b. list_in (out-RawWhen x).no b s3) (sym aims) ∙ five in
    rw (when_is x w a s, one, two, yes, four, no, h)

-- ---- tails and jumps

pub block_stops : (e : Stop) (y : RawTail) (xs : List RawProofStatement) (w : WordCounts) (a : Aims) (s : ProgramScope) → y ≡ tail.Block xs → Stops e (proof_block w s xs) → Stops e (tail_of y w a s)
block_stops Memory y xs w a s is h = tt
block_stops (Refused r) y xs w a s is h = rw (block_is y xs w a s is, h)

pub jump_stops : (e : Stop) (make : JumpTree → ℕ → Then) (wanted : Option ℕ) (line : ℕ) (s : ProgramScope) (j : RawJump) → Stops e (jump_in wanted line s j) → Stops e (jumped make wanted line s j)
unfolding jumped
jump_stops Memory make wanted line s j h = tt
jump_stops (Refused r) make wanted line s j h = ap (λ y. y >>= (λ x. Ok (make x.0 line, x.1))) h
