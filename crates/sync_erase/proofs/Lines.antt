-- The lines of a statement, and of one after the other.
use Rattle.std.proofs.Common.{◌≡◌, ℕ, suc, ◌+◌, ◌<◌, ◌≤◌, List, [], ◌∷◌, ◌++◌, length, map, drop, get_or, Option, None, option_map, Result, Ok, Err, OnOk, codes, refl, sym, ap, ◌∙◌, append_assoc, add-one, drop-cons}
use Rattle.std.proofs.Math.ListN.{drop_of_length-le}
use Rattle.std.proofs.lemmas.List.{append-nil}
use Rattle.std.specs.List.{flat_map}
use Rattle.sync_base.specs.declared.names.NameList.{NameList}
use Rattle.sync_thread.specs.declared.operands.Calc.{Calc}
use Rattle.sync_thread.specs.declared.operands.Cond.{Cond}
use Rattle.sync_thread.specs.declared.operands.Opd.{Opd}
use Rattle.sync_thread.specs.declared.operands.WordOp.{WordOp}
use Rattle.sync_thread.specs.declared.operands.CodeDecl.{CodeDecl}
use Rattle.sync_thread.specs.declared.program.Code.{Code}
use Rattle.sync_thread.specs.declared.program.CodeThread.{CodeThread}
use Rattle.sync_thread.specs.declared.program.CodeStmt.{CodeStmt}
use Rattle.sync_thread.specs.declared.program.CodeStmt.TheVariants as made
use Rattle.sync_thread.specs.Control.{Brace}
use Rattle.sync_thread.specs.Code.{CodeList}
use Rattle.sync_thread.specs.Code as code
use Rattle.sync_thread.specs.Views.{code_before, code_stmt_tree, code_list_tree, code_thread_tree, code_tree}
use Rattle.sync_erase.specs.ErasedForm.{given_text, calculation_text, element_text, step_text, condition_text, line_text, list_text, branches_text, loop_text, deeper, decl_text, thread_text, final_text, code_text, Prints}
use Rattle.sync_erase.proofs.Statements.{set_code, read_code, write_code, peek_code, word_code, print_code, if_code, loop_code, next_code, break_code, end_code, front_item}

-- what a statement's text is before any rest
abbrev pub Says : NameList → List ℕ → CodeStmt → List ℕ → Type 0
Says names indent x text =
    (rest : CodeList) → list_text names indent (code_stmt_tree x rest) ≡ text ++ list_text names indent rest

pub set_says : (names : NameList) (indent : List ℕ) (l : ℕ) (c : Calc)
    → Says names indent (made.Set l c) (line_text indent (given_text names l ++ calculation_text names c ++ codes ";"))
unfolding list_text
set_says names indent l c rest = ap (list_text names indent) (set_code l c rest)

pub read_says : (names : NameList) (indent : List ℕ) (l c : ℕ) (i : Opd)
    → Says names indent (made.Read l c i) (line_text indent (step_text names (code.Read l c i) ++ codes ";"))
unfolding list_text
read_says names indent l c i rest = ap (list_text names indent) (read_code l c i rest)

pub write_says : (names : NameList) (indent : List ℕ) (c : ℕ) (i o : Opd)
    → Says names indent (made.Write c i o) (line_text indent (step_text names (code.Write c i o) ++ codes ";"))
unfolding list_text
write_says names indent c i o rest = ap (list_text names indent) (write_code c i o rest)

pub peek_says : (names : NameList) (indent : List ℕ) (l c : ℕ) (i : Opd)
    → Says names indent (made.Peek l c i) (line_text indent (step_text names (code.Peek l c i) ++ codes ";"))
unfolding list_text
peek_says names indent l c i rest = ap (list_text names indent) (peek_code l c i rest)

pub word_says : (names : NameList) (indent : List ℕ) (l : Option ℕ) (op : WordOp) (w : ℕ) (i : Opd)
    → Says names indent (made.Word l op w i) (line_text indent (step_text names (code.Operate l op w i) ++ codes ";"))
unfolding list_text
word_says names indent l op w i rest = ap (list_text names indent) (word_code l op w i rest)

pub print_says : (names : NameList) (indent : List ℕ) (l : ℕ) (o : Opd)
    → Says names indent (made.Print l o) (line_text indent (step_text names (code.Print l o) ++ codes ";"))
unfolding list_text
print_says names indent l o rest = ap (list_text names indent) (print_code l o rest)

pub next_says : (names : NameList) (indent : List ℕ) → Says names indent made.Next (line_text indent (codes "next;"))
unfolding list_text
next_says names indent rest = ap (list_text names indent) (next_code rest)

pub break_says : (names : NameList) (indent : List ℕ)
    → Says names indent made.Break (line_text indent (codes "break;"))
unfolding list_text
break_says names indent rest = ap (list_text names indent) (break_code rest)

pub end_says : (names : NameList) (indent : List ℕ) → Says names indent made.End (line_text indent (codes "end;"))
unfolding list_text
end_says names indent rest = ap (list_text names indent) (end_code rest)

pub if_says : (names : NameList) (indent : List ℕ) (c : Cond) (p q : List CodeStmt)
    → Says names indent (made.If c p q) (line_text indent (codes "if " ++ condition_text names c ++ codes " {") ++ branches_text names indent (code_list_tree p) (code_list_tree q))
unfolding list_text
if_says names indent c p q rest = ap (list_text names indent) (if_code c p q rest)

pub loop_says : (names : NameList) (indent : List ℕ) (p : List CodeStmt)
    → Says names indent (made.Loop p) (loop_text names indent (code_list_tree p))
unfolding list_text
loop_says names indent p rest = ap (list_text names indent) (loop_code p rest)

-- what a statement says was written
pub prints : (names : NameList) (indent : List ℕ) (x y : CodeStmt) (text old new : List ℕ) → x ≡ y
    → Says names indent y text → new ≡ old ++ text → Prints names indent x old new
prints names indent x y text old new is says made rest =
    ap (λ z. z ++ list_text names indent rest) made ∙ append_assoc old text (list_text names indent rest)
    ∙ ap (λ z. old ++ z) (sym (says rest) ∙ ap (λ z. list_text names indent (code_stmt_tree z rest)) (sym is))

pub two_parts : (old between new one two : List ℕ) → between ≡ old ++ one → new ≡ between ++ two
    → new ≡ old ++ (one ++ two)
two_parts old between new one two is_one is_two = is_two ∙ ap (λ z. z ++ two) is_one ∙ append_assoc old one two

-- an `if`: its first line, its first branch, the line between, the second branch, the last line
pub if_written : (names : NameList) (indent : List ℕ) (c : Cond) (p q : List CodeStmt) (old one two three four new : List ℕ) (x : CodeStmt)
    → x ≡ made.If c p q
    → one ≡ old ++ line_text indent (codes "if " ++ condition_text names c ++ codes " {")
    → two ≡ one ++ list_text names (deeper indent) (code_list_tree p)
    → three ≡ two ++ line_text indent (codes "} else {")
    → four ≡ three ++ list_text names (deeper indent) (code_list_tree q) → new ≡ four ++ line_text indent (codes "}")
    → Prints names indent x old new
if_written names indent c p q old one two three four new x is a b d e f =
    let begin : List ℕ = line_text indent (codes "if " ++ condition_text names c ++ codes " {") in
    let first : List ℕ =
    list_text names (deeper indent) (code_list_tree p) in let middle : List ℕ = line_text indent (codes "} else {") in
    let second : List ℕ =
    list_text names (deeper indent) (code_list_tree q) in let last : List ℕ = line_text indent (codes "}") in
    prints names indent x (made.If c p q) (begin ++ (first ++ middle ++ second ++ last)) old new is (if_says names indent c p q)
    (two_parts old one new begin (first ++ middle ++ second ++ last) a
    (two_parts one four new (first ++ middle ++ second) last (two_parts one three four (first ++ middle) second (two_parts one two three first middle b d) e) f))

pub loop_written : (names : NameList) (indent : List ℕ) (p : List CodeStmt) (old one two new : List ℕ) (x : CodeStmt)
    → x ≡ made.Loop p → one ≡ old ++ line_text indent (codes "loop {")
    → two ≡ one ++ list_text names (deeper indent) (code_list_tree p)
    → new ≡ two ++ line_text indent (codes "}") → Prints names indent x old new
loop_written names indent p old one two new x is a b d =
    let begin : List ℕ =
    line_text indent (codes "loop {") in let body : List ℕ = list_text names (deeper indent) (code_list_tree p) in let last : List ℕ = line_text indent (codes "}") in
    prints names indent x (made.Loop p) (begin ++ body ++ last) old new is (loop_says names indent p)
    (two_parts old two new (begin ++ body) last (two_parts old one two begin body a b) d)

-- lists of what is written one after the other
abbrev pub FlatTo : {A : Type 0} → (A → List ℕ) → List ℕ → List ℕ → ℕ → List A → Type 0
FlatTo f first out n xs = out ++ flat_map f (drop n xs) ≡ first ++ flat_map f xs

pub flat_more : {A : Type 0} (f : A → List ℕ) (first old new : List ℕ) (n : ℕ) (xs : List A) (x : A) → n < length xs
    → x ≡ get_or xs n x → new ≡ old ++ f x → FlatTo f first old n xs → FlatTo f first new (n + 1) xs
flat_more f first old new n xs x within is made so_far =
    ap (λ z. z ++ flat_map f (drop (n + 1) xs)) made ∙ append_assoc old (f x) (flat_map f (drop (n + 1) xs))
    ∙ ap (λ ys. old ++ flat_map f ys) (sym (front_item n xs x within is)) ∙ so_far

front_of : {A : Type 0} (n : ℕ) (xs : List A) (d : A) → n < length xs → drop n xs ≡ get_or xs n d ∷ drop (n + 1) xs
front_of n xs d within = rw add-one (drop-cons xs n d within)

pub flat_more_at : {A : Type 0} (f : A → List ℕ) (first old new : List ℕ) (n : ℕ) (xs : List A) (d : A)
    → n < length xs → new ≡ old ++ f (get_or xs n d) → FlatTo f first old n xs
    → FlatTo f first new (n + 1) xs
flat_more_at f first old new n xs d within made so_far =
    ap (λ z. z ++ flat_map f (drop (n + 1) xs)) made ∙ append_assoc old (f (get_or xs n d)) (flat_map f (drop (n + 1) xs))
    ∙ ap (λ ys. old ++ flat_map f ys) (sym (front_of n xs d within)) ∙ so_far

pub flat_all : {A : Type 0} (f : A → List ℕ) (first out : List ℕ) (n : ℕ) (xs : List A) → length xs ≤ n
    → FlatTo f first out n xs → out ≡ first ++ flat_map f xs
flat_all f first out n xs past so_far =
    sym (append-nil out) ∙ ap (λ ys. out ++ flat_map f ys) (sym (drop_of_length-le xs past)) ∙ so_far

-- so much of a list is written
abbrev pub WrittenTo : NameList → List ℕ → List ℕ → List ℕ → ℕ → List CodeStmt → Type 0
WrittenTo names indent first out n xs =
    out ++ list_text names indent (code_list_tree (drop n xs)) ≡ first ++ list_text names indent (code_list_tree xs)

pub one_written : (names : NameList) (indent first old new : List ℕ) (n : ℕ) (xs : List CodeStmt) (x : CodeStmt)
    → n < length xs → x ≡ get_or xs n x
    → Prints names indent x old new → WrittenTo names indent first old n xs
    → WrittenTo names indent first new (n + 1) xs
one_written names indent first old new n xs x within is prints written = prints (code_list_tree (drop (n + 1) xs))
    ∙ ap (λ ys. old ++ list_text names indent (code_list_tree ys)) (sym (front_item n xs x within is)) ∙ written

pub all_written : (names : NameList) (indent first out : List ℕ) (n : ℕ) (xs : List CodeStmt) → length xs ≤ n
    → WrittenTo names indent first out n xs → out ≡ first ++ list_text names indent (code_list_tree xs)
unfolding list_text
all_written names indent first out n xs past written =
    sym (append-nil out) ∙ ap (λ ys. out ++ list_text names indent (code_list_tree ys)) (sym (drop_of_length-le xs past)) ∙ written

pub flat_through : {A B : Type 0} (f : B → List ℕ) (g : A → B) (xs : List A)
    → flat_map (λ x. f (g x)) xs ≡ flat_map f (map g xs)
flat_through f g [] = refl
flat_through f g (x ∷ xs) = ap (λ ys. f (g x) ++ ys) (flat_through f g xs)

-- declarations, threads and the final block, one after the other
pub code_written : (names : NameList) (c : Code) (decls : List CodeDecl) (threads : List CodeThread) (none one two three : List ℕ)
    → none ≡ [] → decls ≡ c.decls → threads ≡ c.threads
    → one ≡ none ++ flat_map (decl_text names) decls
    → two ≡ one ++ flat_map (λ t. thread_text names (code_thread_tree t)) threads
    → three ≡ two ++ final_text names (option_map code_list_tree c.last)
    → three ≡ code_text names (code_tree c)
code_written names c decls threads none one two three is_none is_decls is_threads a b d =
    let last : List ℕ = final_text names (option_map code_list_tree c.last) in
    d ∙ ap (λ z. z ++ last) (b ∙ ap (λ z. z ++ flat_map (λ t. thread_text names (code_thread_tree t)) threads) (a ∙ ap (λ z. z ++ flat_map (decl_text names) decls) is_none ∙ ap (flat_map (decl_text names)) is_decls)
    ∙ ap (λ z. flat_map (decl_text names) c.decls ++ z) (ap (flat_map (λ t. thread_text names (code_thread_tree t))) is_threads ∙ flat_through (thread_text names) code_thread_tree c.threads))
