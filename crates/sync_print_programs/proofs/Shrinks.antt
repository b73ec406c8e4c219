-- What stands in a statement's braces is smaller than it, so what is shown of a statement is what its production shows.
use Rattle.std.proofs.Common.{◌≡◌, ◌≤◌, ◌+◌, ℕ, suc, true, List, [], ◌∷◌, map, Option, ◌⊎◌, inl, inr, refl, sym, subst, arith}
use Rattle.sync_lex.specs.declared.signs.Sign.TheVariants as sign
use Rattle.sync_parse_forms.specs.Codes.{at_sign, nothing, either}
use Rattle.sync_parse_forms.specs.Shows.{Each, no_one, and_next, Inner, Shrinking}
use Rattle.sync_parse_forms.proofs.Shown.{show_unrolled}
use Rattle.sync_parse_programs.specs.Known.{Production, ◌∘◌, ◌▸◌, ◌◂◌, expr, script, scripts, args, names, label, numbered}
use Rattle.sync_parse_programs.specs.Operands.{operand, relation, condition, calculated, index, load, change, stored, cas, word_operation}
use Rattle.sync_parse_programs.specs.ProofStatements.{pattern, place, shape, keep_line, keep_fact, keep, in_squares_number, tokens, kept_tokens, pair, opened, yes, token, do_form, kept_token, closing, let_form, split, merge, copy, move_form, assertion, at_plain_proof, plain_proof, opening, case_form, proof_kind, proof_statement, proof_block}
use Rattle.sync_parse_programs.specs.Statements.{statement_row, list, joined, behind_loop, atomic, store, when_form, ending, read_form, peek, at_atomic, right_side, write_form, if_form, loop_form, jump, print_form, assignment, statement_kind, statement, tail_law, right_law, statement_law}
use Rattle.sync_parse_programs.specs.declared.statements.RawRightSide.{RawRightSide, roll-RawRightSide, fold-RawRightSide, fold-roll-RawRightSide, ind-RawRightSide}
use Rattle.sync_parse_programs.specs.declared.statements.RawStatementKind.{RawStatementKind, roll-RawStatementKind, fold-RawStatementKind, fold-roll-RawStatementKind, ind-RawStatementKind}
use Rattle.sync_parse_programs.specs.declared.statements.RawTail.{RawTail, roll-RawTail, fold-RawTail, fold-roll-RawTail, ind-RawTail}
use Rattle.sync_parse_programs.specs.declared.statements.RawIf.{RawIf, fold-RawIf, fold_out-RawIf}
use Rattle.sync_parse_programs.specs.declared.statements.RawList.{RawList, fold-RawList, fold_out-RawList}
use Rattle.sync_parse_programs.specs.declared.statements.RawLoop.{RawLoop, fold-RawLoop, fold_out-RawLoop}
use Rattle.sync_parse_programs.specs.declared.statements.RawStatement.{RawStatement, fold_out-RawStatement}
use Rattle.sync_parse_programs.specs.declared.statements.RawWhen.{RawWhen, fold-RawWhen, fold_out-RawWhen}
use Rattle.sync_parse_programs.specs.declared.statements.RawTail.TheVariants.{rolls-Plain, rolls-Block, rolls-When}
use Rattle.sync_parse_programs.specs.declared.statements.RawRightSide.TheVariants.{rolls-Atomic, rolls-Read, rolls-Peek, rolls-Calculated}
use Rattle.sync_parse_programs.specs.declared.statements.RawStatementKind.TheVariants.{rolls-Store, rolls-Write, rolls-Print, rolls-If, rolls-Loop, rolls-Next, rolls-Break, rolls-Meet, rolls-End, rolls-Proof, rolls-Assign}
use Rattle.sync_parse_programs.specs.declared.statements.RawRightSide.TheViews.{out-RawList, out-RawIf, out-RawLoop, out-RawWhen, out-RawStatement}
use Rattle.sync_parse_programs.specs.declared.statements.RawRightSide.TheOpen.{RawTail-F, RawRightSide-F, RawStatementKind-F}
use Rattle.sync_parse_programs.specs.declared.statements.RawAtomic.{RawAtomic}
use Rattle.sync_parse_programs.specs.declared.statements.RawStore.{RawStore}
use Rattle.sync_parse_programs.specs.declared.statements.RawRead.{RawRead}
use Rattle.sync_parse_programs.specs.declared.statements.RawPeek.{RawPeek}
use Rattle.sync_parse_programs.specs.declared.statements.RawWrite.{RawWrite}
use Rattle.sync_parse_programs.specs.declared.statements.RawJump.{RawJump}
use Rattle.sync_parse_programs.specs.declared.operands.RawCalculation.{RawCalculation}
use Rattle.sync_parse_programs.specs.declared.operands.RawOperand.{RawOperand}
use Rattle.sync_parse_programs.specs.declared.proof_statements.RawPlainProof.{RawPlainProof}
use Rattle.sync_parse_programs.specs.declared.proof_statements.RawProofStatement.{RawProofStatement}
use Rattle.sync_parse_exprs.specs.declared.raw_names.RawName.{RawName}
use Rattle.sync_print_programs.specs.Sizes.{all_sizes, right_size, kind_size, tail_size, if_size, list_size, loop_size, one_size, when_size, statement_size}
use Rattle.sync_print_programs.specs.Shown.{known_shown, shown_statement, show_of}
use Rattle.sync_print_programs.proofs.Alone.{alone, nothing_inner}

abbrev right_in : RawRightSide → ℕ
right_in = fold-RawRightSide ℕ ℕ ℕ ℕ ℕ ℕ ℕ ℕ right_size kind_size tail_size if_size list_size loop_size one_size when_size

abbrev kind_in : RawStatementKind → ℕ
kind_in = fold-RawStatementKind ℕ ℕ ℕ ℕ ℕ ℕ ℕ ℕ right_size kind_size tail_size if_size list_size loop_size one_size when_size

abbrev tail_in : RawTail → ℕ
tail_in = fold-RawTail ℕ ℕ ℕ ℕ ℕ ℕ ℕ ℕ right_size kind_size tail_size if_size list_size loop_size one_size when_size

abbrev if_in : RawIf → ℕ
if_in = fold-RawIf ℕ ℕ ℕ ℕ ℕ ℕ ℕ ℕ right_size kind_size tail_size if_size list_size loop_size one_size when_size

abbrev list_in : RawList → ℕ
list_in = fold-RawList ℕ ℕ ℕ ℕ ℕ ℕ ℕ ℕ right_size kind_size tail_size if_size list_size loop_size one_size when_size

abbrev loop_in : RawLoop → ℕ
loop_in = fold-RawLoop ℕ ℕ ℕ ℕ ℕ ℕ ℕ ℕ right_size kind_size tail_size if_size list_size loop_size one_size when_size

abbrev when_in : RawWhen → ℕ
when_in = fold-RawWhen ℕ ℕ ℕ ℕ ℕ ℕ ℕ ℕ right_size kind_size tail_size if_size list_size loop_size one_size when_size

-- a statement whose size is below a number
abbrev Below : ℕ → RawStatement → Type 0
Below n z = suc (statement_size z) ≤ n

-- ---- productions with no statements in them

condition_alone : alone condition ≡ true
unfolding condition operand relation numbered
condition_alone = refl

label_alone : alone label ≡ true
unfolding label
label_alone = refl

joined_alone : alone joined ≡ true
unfolding joined expr script scripts args names label pattern place shape keep_line keep_fact keep
joined_alone = refl

behind_loop_alone : alone behind_loop ≡ true
unfolding behind_loop expr script scripts args names label pattern place shape keep_line keep_fact keep
behind_loop_alone = refl

keep_alone : alone keep ≡ true
unfolding expr script scripts args names label pattern place shape keep_line keep_fact keep
keep_alone = refl

args_alone : alone args ≡ true
unfolding args expr
args_alone = refl

scripts_alone : alone scripts ≡ true
unfolding scripts script
scripts_alone = refl

proof_block_alone : alone proof_block ≡ true
unfolding expr script scripts args names label token tokens do_form in_squares_number pair let_form split merge copy move_form assertion plain_proof kept_token kept_tokens closing opened opening yes case_form proof_kind proof_statement proof_block
proof_block_alone = refl

atomic_alone : alone atomic ≡ true
unfolding atomic label word_operation load change cas index scripts script operand numbered
atomic_alone = refl

store_alone : alone store ≡ true
unfolding store stored label index scripts script operand numbered
store_alone = refl

read_form_alone : alone read_form ≡ true
unfolding read_form index scripts script operand numbered
read_form_alone = refl

peek_alone : alone peek ≡ true
unfolding peek index operand numbered expr script scripts args names label token tokens do_form in_squares_number
peek_alone = refl

calculated_alone : alone calculated ≡ true
unfolding calculated operand numbered
calculated_alone = refl

write_form_alone : alone write_form ≡ true
unfolding write_form index scripts script operand numbered
write_form_alone = refl

print_form_alone : alone print_form ≡ true
unfolding print_form operand numbered
print_form_alone = refl

jump_alone : alone jump ≡ true
unfolding jump args expr scripts script
jump_alone = refl

plain_proof_alone : alone plain_proof ≡ true
unfolding expr script scripts args names label token tokens do_form in_squares_number pair let_form split merge copy move_form assertion plain_proof
plain_proof_alone = refl

-- ---- statements in braces

rows_below : (n : ℕ) (xs : List RawStatement) → suc (all_sizes (map statement_size xs)) ≤ n → Each (Below n) xs
rows_below n [] h = no_one
rows_below n (x ∷ xs) h =
    let all : suc (statement_size x + all_sizes (map statement_size xs)) ≤ n = h in
    and_next (omega (arith, all)) (rows_below n xs (omega (arith, all)))

list_below : (n : ℕ) (x : RawList) → suc (list_in x) ≤ n → Inner (Below n) list x
unfolding list statement_row
list_below n x h = rows_below n (out-RawList x).statements (subst (λ m. suc m ≤ n) (fold_out-RawList ℕ ℕ ℕ ℕ ℕ ℕ ℕ ℕ right_size kind_size tail_size if_size list_size loop_size one_size when_size x) h)

if_below : (n : ℕ) (x : RawIf) → suc (if_in x) ≤ n → Inner (Below n) if_form x
unfolding if_form
if_below n x h =
    let v = out-RawIf x in
    let both : suc (list_in v.yes + list_in v.no) ≤ n = subst (λ m. suc m ≤ n) (fold_out-RawIf ℕ ℕ ℕ ℕ ℕ ℕ ℕ ℕ right_size kind_size tail_size if_size list_size loop_size one_size when_size x) h in
    (nothing_inner (Below n) condition condition_alone v.condition, (nothing_inner (Below n) label label_alone v.label, (list_below n v.yes (omega (arith, both)), (list_below n v.no (omega (arith, both)), nothing_inner (Below n) joined joined_alone v.joined))))

loop_below : (n : ℕ) (x : RawLoop) → suc (loop_in x) ≤ n → Inner (Below n) loop_form x
unfolding loop_form
loop_below n x h =
    let v = out-RawLoop x in
    let body : suc (list_in v.body) ≤ n = subst (λ m. suc m ≤ n) (fold_out-RawLoop ℕ ℕ ℕ ℕ ℕ ℕ ℕ ℕ right_size kind_size tail_size if_size list_size loop_size one_size when_size x) h in
    (nothing_inner (Below n) keep keep_alone v.keep, (tt, (nothing_inner (Below n) args args_alone v.args, (nothing_inner (Below n) scripts scripts_alone v.scripts, (list_below n v.body body, nothing_inner (Below n) behind_loop behind_loop_alone v.after)))))

when_below : (n : ℕ) (x : RawWhen) → suc (when_in x) ≤ n → Inner (Below n) when_form x
unfolding when_form
when_below n x h =
    let v = out-RawWhen x in
    let both : suc (list_in v.yes + list_in v.no) ≤ n = subst (λ m. suc m ≤ n) (fold_out-RawWhen ℕ ℕ ℕ ℕ ℕ ℕ ℕ ℕ right_size kind_size tail_size if_size list_size loop_size one_size when_size x) h in
    (nothing_inner (Below n) condition condition_alone v.condition, (nothing_inner (Below n) label label_alone v.label, (nothing_inner (Below n) proof_block proof_block_alone v.yes_proof, (list_below n v.yes (omega (arith, both)), (nothing_inner (Below n) proof_block proof_block_alone v.no_proof, (list_below n v.no (omega (arith, both)), nothing_inner (Below n) joined joined_alone v.joined))))))

-- of other types nothing is claimed
abbrev Any : {A : Type 0} → A → Type 0
Any x = Unit {0}

-- ---- ends of atomic statements

abbrev pub tail_code : Production (Unit {0} ⊎ (List RawProofStatement ⊎ RawWhen))
tail_code = either (at_sign sign.Semicolon) (sign.Semicolon ▸ nothing) (either (at_sign sign.Proof) (sign.Proof ▸ proof_block ◂ sign.Semicolon) when_form)

abbrev Tail : RawTail → Type 0
Tail x = (n : ℕ) → suc (tail_in x) ≤ n → Inner (Below n) ending x

tail_case : (x : RawTail-F RawRightSide RawStatementKind RawTail RawIf RawList RawLoop RawStatement RawWhen) → Tail (roll-RawTail x)
unfolding ending roll-RawTail denote.Hole.Carrier.roll
tail_case RawTail-F.Plain n h =
    subst (Inner (Below n) ending) (sym rolls-Plain) (subst (Inner (Below n) tail_code) (sym (tail_law [] (inl tt))) (tt))
tail_case (RawTail-F.Block x) n h =
    subst (Inner (Below n) ending) (sym (rolls-Block x)) (subst (Inner (Below n) tail_code) (sym (tail_law [] (inr (inl x)))) (nothing_inner (Below n) proof_block proof_block_alone x))
tail_case (RawTail-F.When x) n h =
    subst (Inner (Below n) ending) (sym (rolls-When x)) (subst (Inner (Below n) tail_code) (sym (tail_law [] (inr (inr x)))) (when_below n x (subst (λ m. suc m ≤ n) (fold-roll-RawTail ℕ ℕ ℕ ℕ ℕ ℕ ℕ ℕ right_size kind_size tail_size if_size list_size loop_size one_size when_size (RawTail-F.When x)) h)))

tail_below : (x : RawTail) → Tail x
tail_below = ind-RawTail Any Any Tail Any Any Any Any Any (λ x y is. tt) (λ x y is. tt) (λ x y is. tail_case x) (λ x y is. tt) (λ x y is. tt) (λ x y is. tt) (λ x y is. tt) (λ x y is. tt)

-- ---- what a local is given

abbrev pub right_code : Production ((RawAtomic × RawTail) ⊎ (RawRead ⊎ (RawPeek ⊎ (RawCalculation × Option RawName))))
right_code = either at_atomic (atomic ∘ ending) (either (at_sign sign.Read) read_form (either (at_sign sign.Peek) peek (calculated ∘ label ◂ sign.Semicolon)))

abbrev Right : RawRightSide → Type 0
Right x = (n : ℕ) → suc (right_in x) ≤ n → Inner (Below n) right_side x

right_case : (x : RawRightSide-F RawRightSide RawStatementKind RawTail RawIf RawList RawLoop RawStatement RawWhen) → Right (roll-RawRightSide x)
unfolding right_side roll-RawRightSide denote.Hole.Carrier.roll
right_case (RawRightSide-F.Atomic a t) n h =
    subst (Inner (Below n) right_side) (sym (rolls-Atomic a t)) (subst (Inner (Below n) right_code) (sym (right_law [] (inl (a, t)))) ((nothing_inner (Below n) atomic atomic_alone a, tail_below t n (subst (λ m. suc m ≤ n) (fold-roll-RawRightSide ℕ ℕ ℕ ℕ ℕ ℕ ℕ ℕ right_size kind_size tail_size if_size list_size loop_size one_size when_size (RawRightSide-F.Atomic a t)) h))))
right_case (RawRightSide-F.Read x) n h =
    subst (Inner (Below n) right_side) (sym (rolls-Read x)) (subst (Inner (Below n) right_code) (sym (right_law [] (inr (inl x)))) (nothing_inner (Below n) read_form read_form_alone x))
right_case (RawRightSide-F.Peek x) n h =
    subst (Inner (Below n) right_side) (sym (rolls-Peek x)) (subst (Inner (Below n) right_code) (sym (right_law [] (inr (inr (inl x))))) (nothing_inner (Below n) peek peek_alone x))
right_case (RawRightSide-F.Calculated x l) n h =
    subst (Inner (Below n) right_side) (sym (rolls-Calculated x l)) (subst (Inner (Below n) right_code) (sym (right_law [] (inr (inr (inr (x, l)))))) ((nothing_inner (Below n) calculated calculated_alone x, nothing_inner (Below n) label label_alone l)))

right_below : (x : RawRightSide) → Right x
right_below = ind-RawRightSide Right Any Any Any Any Any Any Any (λ x y is. right_case x) (λ x y is. tt) (λ x y is. tt) (λ x y is. tt) (λ x y is. tt) (λ x y is. tt) (λ x y is. tt) (λ x y is. tt)

-- ---- what statements do

abbrev pub kind_code : Production ((RawStore × RawTail) ⊎ (RawWrite ⊎ ((RawName × RawOperand) ⊎ (RawIf ⊎ (RawLoop ⊎ (RawJump ⊎ (RawJump ⊎ (RawJump ⊎ (RawJump ⊎ (RawPlainProof ⊎ (RawName × RawRightSide)))))))))))
kind_code =
    either (at_sign sign.Store) (store ∘ ending)
    (either (at_sign sign.Write) write_form
    (either (at_sign sign.Print) print_form
    (either (at_sign sign.If) if_form
    (either (at_sign sign.Loop) loop_form
    (either (at_sign sign.Next) (sign.Next ▸ jump)
    (either (at_sign sign.Break) (sign.Break ▸ jump)
    (either (at_sign sign.Meet) (sign.Meet ▸ jump)
    (either (at_sign sign.End) (sign.End ▸ jump)
    (either at_plain_proof plain_proof assignment)))))))))

abbrev Kind : RawStatementKind → Type 0
Kind x = (n : ℕ) → suc (kind_in x) ≤ n → Inner (Below n) statement_kind x

kind_case : (x : RawStatementKind-F RawRightSide RawStatementKind RawTail RawIf RawList RawLoop RawStatement RawWhen) → Kind (roll-RawStatementKind x)
unfolding statement_kind assignment roll-RawStatementKind denote.Hole.Carrier.roll
kind_case (RawStatementKind-F.Store s t) n h =
    subst (Inner (Below n) statement_kind) (sym (rolls-Store s t)) (subst (Inner (Below n) kind_code) (sym (statement_law (inl (s, t)))) ((nothing_inner (Below n) store store_alone s, tail_below t n (subst (λ m. suc m ≤ n) (fold-roll-RawStatementKind ℕ ℕ ℕ ℕ ℕ ℕ ℕ ℕ right_size kind_size tail_size if_size list_size loop_size one_size when_size (RawStatementKind-F.Store s t)) h))))
kind_case (RawStatementKind-F.Write x) n h =
    subst (Inner (Below n) statement_kind) (sym (rolls-Write x)) (subst (Inner (Below n) kind_code) (sym (statement_law (inr (inl x)))) (nothing_inner (Below n) write_form write_form_alone x))
kind_case (RawStatementKind-F.Print l o) n h =
    subst (Inner (Below n) statement_kind) (sym (rolls-Print l o)) (subst (Inner (Below n) kind_code) (sym (statement_law (inr (inr (inl (l, o)))))) (nothing_inner (Below n) print_form print_form_alone (l, o)))
kind_case (RawStatementKind-F.If x) n h =
    subst (Inner (Below n) statement_kind) (sym (rolls-If x)) (subst (Inner (Below n) kind_code) (sym (statement_law (inr (inr (inr (inl x)))))) (if_below n x (subst (λ m. suc m ≤ n) (fold-roll-RawStatementKind ℕ ℕ ℕ ℕ ℕ ℕ ℕ ℕ right_size kind_size tail_size if_size list_size loop_size one_size when_size (RawStatementKind-F.If x)) h)))
kind_case (RawStatementKind-F.Loop x) n h =
    subst (Inner (Below n) statement_kind) (sym (rolls-Loop x)) (subst (Inner (Below n) kind_code) (sym (statement_law (inr (inr (inr (inr (inl x))))))) (loop_below n x (subst (λ m. suc m ≤ n) (fold-roll-RawStatementKind ℕ ℕ ℕ ℕ ℕ ℕ ℕ ℕ right_size kind_size tail_size if_size list_size loop_size one_size when_size (RawStatementKind-F.Loop x)) h)))
kind_case (RawStatementKind-F.Next x) n h =
    subst (Inner (Below n) statement_kind) (sym (rolls-Next x)) (subst (Inner (Below n) kind_code) (sym (statement_law (inr (inr (inr (inr (inr (inl x)))))))) (nothing_inner (Below n) jump jump_alone x))
kind_case (RawStatementKind-F.Break x) n h =
    subst (Inner (Below n) statement_kind) (sym (rolls-Break x)) (subst (Inner (Below n) kind_code) (sym (statement_law (inr (inr (inr (inr (inr (inr (inl x))))))))) (nothing_inner (Below n) jump jump_alone x))
kind_case (RawStatementKind-F.Meet x) n h =
    subst (Inner (Below n) statement_kind) (sym (rolls-Meet x)) (subst (Inner (Below n) kind_code) (sym (statement_law (inr (inr (inr (inr (inr (inr (inr (inl x)))))))))) (nothing_inner (Below n) jump jump_alone x))
kind_case (RawStatementKind-F.End x) n h =
    subst (Inner (Below n) statement_kind) (sym (rolls-End x)) (subst (Inner (Below n) kind_code) (sym (statement_law (inr (inr (inr (inr (inr (inr (inr (inr (inl x))))))))))) (nothing_inner (Below n) jump jump_alone x))
kind_case (RawStatementKind-F.Proof x) n h =
    subst (Inner (Below n) statement_kind) (sym (rolls-Proof x)) (subst (Inner (Below n) kind_code) (sym (statement_law (inr (inr (inr (inr (inr (inr (inr (inr (inr (inl x)))))))))))) (nothing_inner (Below n) plain_proof plain_proof_alone x))
kind_case (RawStatementKind-F.Assign l r) n h =
    subst (Inner (Below n) statement_kind) (sym (rolls-Assign l r)) (subst (Inner (Below n) kind_code) (sym (statement_law (inr (inr (inr (inr (inr (inr (inr (inr (inr (inr (l, r))))))))))))) ((tt, right_below r n (subst (λ m. suc m ≤ n) (fold-roll-RawStatementKind ℕ ℕ ℕ ℕ ℕ ℕ ℕ ℕ right_size kind_size tail_size if_size list_size loop_size one_size when_size (RawStatementKind-F.Assign l r)) h))))

kind_below : (x : RawStatementKind) → Kind x
kind_below = ind-RawStatementKind Any Kind Any Any Any Any Any Any (λ x y is. tt) (λ x y is. kind_case x) (λ x y is. tt) (λ x y is. tt) (λ x y is. tt) (λ x y is. tt) (λ x y is. tt) (λ x y is. tt)

-- ---- statements

shrinks : Shrinking statement_size statement
unfolding statement
shrinks y =
    let size : statement_size y ≡ suc (kind_in (out-RawStatement y).what) = fold_out-RawStatement ℕ ℕ ℕ ℕ ℕ ℕ ℕ ℕ right_size kind_size tail_size if_size list_size loop_size one_size when_size y in
    kind_below (out-RawStatement y).what (statement_size y) (omega (arith, size))

pub statement_shown : (y : RawStatement) → shown_statement y ≡ show_of statement_kind (out-RawStatement y).what
unfolding shown_statement statement
statement_shown y = show_unrolled known_shown statement_size statement shrinks y
