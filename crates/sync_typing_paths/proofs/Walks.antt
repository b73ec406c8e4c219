-- Lists of statements, a statement at a time.
use Rattle.std.proofs.Common.{◌≡◌, ℕ, suc, ◌+◌, ◌<◌, ◌≤◌, Bool, true, false, ◌||◌, if◌then◌else◌, List, ◌∷◌, length, map, drop, get_or, Option, Result, Ok, Err, OnOk, refl, sym, ap, ◌∙◌, add-one, drop-cons}
use Rattle.std.proofs.Math.ListN.{drop_of_length-le}
use Rattle.sync_terms.specs.Stored.{Stored}
use Rattle.sync_terms.specs.declared.nodes.TermId.{TermId}
use Rattle.sync_terms.specs.declared.scripts.Script.{Script}
use Rattle.sync_thread.specs.declared.operands.Cond.{Cond}
use Rattle.sync_thread.specs.declared.program.Atomic.{Atomic, out-Atomic}
use Rattle.sync_thread.specs.declared.program.Keep.{Keep}
use Rattle.sync_thread.specs.declared.program.List.{List as ListNode, out-List, fold_out-List}
use Rattle.sync_thread.specs.declared.program.Stmt.{Stmt, out-Stmt}
use Rattle.sync_thread.specs.declared.program.StmtKind.TheVariants as raw
use Rattle.sync_thread.specs.declared.program.Tail.TheVariants as tail
use Rattle.sync_thread.specs.declared.program.When.{When, out-When}
use Rattle.sync_thread.specs.Control.{Brace}
use Rattle.sync_thread.specs.Programs.{ListTree}
use Rattle.sync_thread.specs.Resting.{Silent, either, after_branches, no_way, silent}
use Rattle.sync_thread.specs.Views.{Then, TailThen, kind_then, tail_then, atomic_then, list_then, stmt_then, when_then, before, list_tree, stmt_tree}
use Rattle.sync_typing.specs.Lists.{assigned_locals, end_line, has_break, with_local_if}
use Rattle.sync_typing_paths.specs.Statements.{atomic_tree}
use Rattle.sync_typing_paths.proofs.Trees.{braces_behind, if_tree, loop_tree, word_tree, choice_tree}

-- a list from a statement on
abbrev pub from : Stored → ℕ → List Stmt → ListTree → ListTree
from s n xs rest = before (map (stmt_tree s) (drop n xs)) rest

front_item : (n : ℕ) (xs : List Stmt) (x : Stmt) → n < length xs → x ≡ get_or xs n x → drop n xs ≡ x ∷ drop (n + 1) xs
front_item n xs x within is = rw add-one (drop-cons xs n x within ∙ ap (λ z. z ∷ drop (suc n) xs) (sym is))

front : (s : Stored) (n : ℕ) (xs : List Stmt) (x : Stmt) (rest : ListTree) → n < length xs → x ≡ get_or xs n x
    → from s n xs rest ≡ stmt_tree s x (from s (n + 1) xs rest)
front s n xs x rest within is =
    ap (λ ys. before (map (stmt_tree s) ys) rest) (front_item n xs x within is)

over : (s : Stored) (n : ℕ) (xs : List Stmt) (rest : ListTree) → length xs ≤ n → from s n xs rest ≡ rest
over s n xs rest past = ap (λ ys. before (map (stmt_tree s) ys) rest) (drop_of_length-le xs past)

abbrev brace_of : ListNode → ListTree
brace_of list = Brace (out-List list).end_line

whole : (s : Stored) (xs : List Stmt) (list : ListNode) → xs ≡ (out-List list).stmts
    → list_tree s list ≡ from s 0 xs (brace_of list)
whole s xs list are =
    fold_out-List (ℕ → Then) TailThen (ℕ → Then) ListTree Then TailThen (kind_then s) (tail_then s) (atomic_then s) list_then stmt_then (when_then s) list
    ∙ ap (λ ys. before (map (stmt_tree s) ys) (brace_of list)) (sym are)

pub same_end : (s : Stored) (list : ListNode) → (out-List list).end_line ≡ end_line (list_tree s list)
same_end s list =
    sym (ap end_line (whole s (out-List list).stmts list refl) ∙ braces_behind s (out-List list).stmts (brace_of list))

-- ---- whether a statement of a list is of a kind

-- what was passed is of no account
abbrev pub IsPassed : (ListTree → Bool) → ℕ → List Stmt → Type 0
IsPassed f n xs = (s : Stored) (rest : ListTree) → f (from s 0 xs rest) ≡ f (from s n xs rest)

-- before any rest the statement is of the kind, or the rest has one
abbrev pub Says : (ListTree → Bool) → Stmt → Bool → Type 0
Says f x b = (s : Stored) (rest : ListTree) → f (stmt_tree s x rest) ≡ (b || f rest)

pub passed : (f : ListTree → Bool) (n : ℕ) (xs : List Stmt) (x : Stmt) (b : Bool) → n < length xs → x ≡ get_or xs n x
    → b ≡ false → Says f x b → IsPassed f n xs → IsPassed f (n + 1) xs
passed f n xs x b within is off says so_far s rest =
    so_far s rest ∙ ap f (front s n xs x rest within is) ∙ says s (from s (n + 1) xs rest)
    ∙ ap (λ c. c || f (from s (n + 1) xs rest)) off

pub found : (f : ListTree → Bool) (n : ℕ) (xs : List Stmt) (x : Stmt) (b : Bool) (list : ListNode) → n < length xs
    → x ≡ get_or xs n x → b ≡ true → xs ≡ (out-List list).stmts → Says f x b → IsPassed f n xs
    → (s : Stored) → true ≡ f (list_tree s list)
found f n xs x b list within is on are says so_far s =
    sym (ap f (whole s xs list are) ∙ so_far s (brace_of list) ∙ ap f (front s n xs x (brace_of list) within is)
    ∙ says s (from s (n + 1) xs (brace_of list)) ∙ ap (λ c. c || f (from s (n + 1) xs (brace_of list))) on)

pub none_left : (f : ListTree → Bool) (n : ℕ) (xs : List Stmt) (list : ListNode) → length xs ≤ n
    → xs ≡ (out-List list).stmts → ((k : ℕ) → f (Brace k) ≡ false) → IsPassed f n xs
    → (s : Stored) → false ≡ f (list_tree s list)
none_left f n xs list past are none so_far s =
    sym (ap f (whole s xs list are) ∙ so_far s (brace_of list) ∙ ap f (over s n xs (brace_of list) past)
    ∙ none (out-List list).end_line)

one_of : (a b c : Bool) → (a || (b || c)) ≡ ((a || b) || c)
one_of true b c = refl
one_of false b c = refl

-- a list has a `break`, or has none
abbrev pub Breaks : ListNode → Bool → Type 0
Breaks list b = (s : Stored) → b ≡ has_break (list_tree s list)

either_breaks : (one two c : Bool) (p q : ListTree) → one ≡ has_break p → two ≡ has_break q
    → (has_break p || (has_break q || c)) ≡ ((one || two) || c)
either_breaks one two c p q first second =
    one_of (has_break p) (has_break q) c
    ∙ sym (ap (λ (b : Bool). (b || two) || c) first ∙ ap (λ (b : Bool). (has_break p || b) || c) second)

pub if_breaks : (x : Stmt) (c : Cond) (label : Option ℕ) (p q : ListNode) (k : Option Keep) (one two : Bool)
    → (out-Stmt x).what ≡ raw.If c label p q k → Breaks p one → Breaks q two → Says has_break x (one || two)
if_breaks x c label p q k one two is first second s rest =
    ap has_break (if_tree s x c label p q k is rest)
    ∙ either_breaks one two (has_break rest) (list_tree s p) (list_tree s q) (first s) (second s)

pub when_breaks : (a : Atomic) (w : When) (one two : Bool) → (out-Atomic a).tail ≡ tail.When w
    → Breaks (out-When w).yes one → Breaks (out-When w).no two → (s : Stored) (line : ℕ) (rest : ListTree)
    → has_break (atomic_tree s a line rest) ≡ ((one || two) || has_break rest)
when_breaks a w one two is first second s line rest =
    ap has_break (choice_tree s a w is line rest)
    ∙ either_breaks one two (has_break rest) (list_tree s (out-When w).yes) (list_tree s (out-When w).no) (first s) (second s)

-- ---- silent jumps

-- what was found, together with what is left, is what the list may come to
abbrev pub HasFound : Silent → ℕ → List Stmt → Type 0
HasFound x n xs = (s : Stored) (rest : ListTree) → silent (from s 0 xs rest) ≡ either x (silent (from s n xs rest))

-- what a statement adds to what was found; behind it the list goes on, or does not
abbrev pub Finds : Silent → Silent → Bool → Stmt → Type 0
Finds old new on x =
    (s : Stored) (rest : ListTree) → either old (silent (stmt_tree s x rest)) ≡ either new (if on then silent rest else no_way)

either_none : (x : Silent) → either x no_way ≡ x
either_none x = by x.next x.break x.meet
  where
    by : (a b c : Bool)
        → either (record { next = a; break = b; meet = c }) no_way ≡ record { next = a; break = b; meet = c }
    by true true true = refl
    by true true false = refl
    by true false true = refl
    by true false false = refl
    by false true true = refl
    by false true false = refl
    by false false true = refl
    by false false false = refl

one_after : (a b c : Silent) → either a (either b c) ≡ either (either a b) c
one_after a b c =
    ap (λ (n : Bool). record { next = n; break = a.break || (b.break || c.break); meet = a.meet || (b.meet || c.meet) })
    (one_of a.next b.next c.next)
    ∙ ap (λ (n : Bool). record { next = (a.next || b.next) || c.next; break = n; meet = a.meet || (b.meet || c.meet) })
    (one_of a.break b.break c.break)
    ∙ ap (λ (n : Bool). record { next = (a.next || b.next) || c.next; break = (a.break || b.break) || c.break; meet = n })
    (one_of a.meet b.meet c.meet)

abbrev outward : Silent → Silent
outward x = record { next = x.next; break = x.break; meet = false }

pub if_finds : (x : Stmt) (c : Cond) (label : Option ℕ) (p q : ListNode) (k : Option Keep) (old new one two inner : Silent)
    → (out-Stmt x).what ≡ raw.If c label p q k → ((s : Stored) → one ≡ silent (list_tree s p))
    → ((s : Stored) → two ≡ silent (list_tree s q)) → inner ≡ either one two
    → new ≡ either old (record { next = inner.next; break = inner.break; meet = false }) → Finds old new inner.meet x
if_finds x c label p q k old new one two inner is first second are made s rest =
    ap (λ l. either old (silent l)) (if_tree s x c label p q k is rest)
    ∙ ap (λ (i : Silent). either old (after_branches i (silent rest)))
    (sym (are ∙ ap (λ i. either i two) (first s) ∙ ap (either (silent (list_tree s p))) (second s)))
    ∙ one_after old (outward inner) (if inner.meet then silent rest else no_way)
    ∙ ap (λ i. either i (if inner.meet then silent rest else no_way)) (sym made)

pub loop_finds : (x : Stmt) (k : Keep) (ts : List TermId) (ss : List Script) (body : ListNode) (left : Option Keep)
    (old inner : Silent) → (out-Stmt x).what ≡ raw.Loop k ts ss body left
    → ((s : Stored) → inner ≡ silent (list_tree s body)) → Finds old old inner.break x
loop_finds x k ts ss body left old inner is of s rest =
    ap (λ l. either old (silent l)) (loop_tree s x k ts ss body left is rest)
    ∙ ap (λ (i : Silent). either old (if i.break then silent rest else no_way)) (sym (of s))

pub found_more : (old new : Silent) (on : Bool) (n : ℕ) (xs : List Stmt) (x : Stmt) → n < length xs → x ≡ get_or xs n x
    → on ≡ true → Finds old new on x → HasFound old n xs → HasFound new (n + 1) xs
found_more old new on n xs x within is goes finds so_far s rest =
    so_far s rest ∙ ap (λ l. either old (silent l)) (front s n xs x rest within is) ∙ finds s (from s (n + 1) xs rest)
    ∙ ap (λ (b : Bool). either new (if b then silent (from s (n + 1) xs rest) else no_way)) goes

pub found_last : (old new : Silent) (on : Bool) (n : ℕ) (xs : List Stmt) (x : Stmt) (list : ListNode) → n < length xs
    → x ≡ get_or xs n x → on ≡ false → xs ≡ (out-List list).stmts → Finds old new on x → HasFound old n xs
    → (s : Stored) → new ≡ silent (list_tree s list)
found_last old new on n xs x list within is stops are finds so_far s =
    let rest : ListTree = brace_of list in
    sym (ap silent (whole s xs list are) ∙ so_far s rest ∙ ap (λ l. either old (silent l)) (front s n xs x rest within is)
    ∙ finds s (from s (n + 1) xs rest)
    ∙ ap (λ (b : Bool). either new (if b then silent (from s (n + 1) xs rest) else no_way)) stops ∙ either_none new)

pub found_all : (x : Silent) (n : ℕ) (xs : List Stmt) (list : ListNode) → length xs ≤ n → xs ≡ (out-List list).stmts
    → HasFound x n xs → (s : Stored) → x ≡ silent (list_tree s list)
found_all x n xs list past are so_far s =
    sym (ap silent (whole s xs list are) ∙ so_far s (brace_of list)
    ∙ ap (λ l. either x (silent l)) (over s n xs (brace_of list) past) ∙ either_none x)

-- ---- locals

-- the locals so far are those of what was passed
abbrev pub HasNoted : List ℕ → List ℕ → ℕ → List Stmt → Type 0
HasNoted old new n xs = (s : Stored) (rest : ListTree)
    → assigned_locals (from s 0 xs rest) old ≡ assigned_locals (from s n xs rest) new

abbrev pub Notes : List ℕ → List ℕ → (Stored → Then) → Type 0
Notes old new stmt = (s : Stored) (rest : ListTree) → assigned_locals (stmt s rest) old ≡ assigned_locals rest new

pub noted_more : (first old new : List ℕ) (n : ℕ) (xs : List Stmt) (x : Stmt) → n < length xs → x ≡ get_or xs n x
    → Notes old new (λ s rest. stmt_tree s x rest) → HasNoted first old n xs → HasNoted first new (n + 1) xs
noted_more first old new n xs x within is notes so_far s rest =
    so_far s rest ∙ ap (λ l. assigned_locals l old) (front s n xs x rest within is) ∙ notes s (from s (n + 1) xs rest)

pub noted_all : (old new : List ℕ) (n : ℕ) (xs : List Stmt) (list : ListNode) → length xs ≤ n
    → xs ≡ (out-List list).stmts → HasNoted old new n xs → (s : Stored) → new ≡ assigned_locals (list_tree s list) old
noted_all old new n xs list past are so_far s =
    sym (ap (λ l. assigned_locals l old) (whole s xs list are) ∙ so_far s (brace_of list)
    ∙ ap (λ l. assigned_locals l new) (over s n xs (brace_of list) past))

-- what a list assigns
abbrev pub NotesAll : List ℕ → List ℕ → ListNode → Type 0
NotesAll old new list = (s : Stored) → new ≡ assigned_locals (list_tree s list) old

pub if_notes : (x : Stmt) (c : Cond) (label : Option ℕ) (p q : ListNode) (k : Option Keep) (old between new : List ℕ)
    → (out-Stmt x).what ≡ raw.If c label p q k → NotesAll old between p → NotesAll between new q
    → Notes old new (λ s rest. stmt_tree s x rest)
if_notes x c label p q k old between new is first second s rest =
    ap (λ l. assigned_locals l old) (if_tree s x c label p q k is rest)
    ∙ ap (λ xs. assigned_locals rest (assigned_locals (list_tree s q) xs)) (sym (first s))
    ∙ ap (assigned_locals rest) (sym (second s))

pub loop_notes : (x : Stmt) (k : Keep) (ts : List TermId) (ss : List Script) (body : ListNode) (left : Option Keep)
    (old new : List ℕ) → (out-Stmt x).what ≡ raw.Loop k ts ss body left → NotesAll old new body
    → Notes old new (λ s rest. stmt_tree s x rest)
loop_notes x k ts ss body left old new is of s rest =
    ap (λ l. assigned_locals l old) (loop_tree s x k ts ss body left is rest) ∙ ap (assigned_locals rest) (sym (of s))

pub word_notes : (x : Stmt) (a : Atomic) (old new : List ℕ) → (out-Stmt x).what ≡ raw.Word a
    → ((s : Stored) (line : ℕ) (rest : ListTree) → assigned_locals (atomic_tree s a line rest) old ≡ assigned_locals rest new)
    → Notes old new (λ s rest. stmt_tree s x rest)
word_notes x a old new is notes s rest =
    ap (λ l. assigned_locals l old) (word_tree s x a is rest) ∙ notes s (out-Stmt x).line rest

pub when_notes : (a : Atomic) (w : When) (old first between new : List ℕ) → (out-Atomic a).tail ≡ tail.When w
    → first ≡ with_local_if (out-Atomic a).local old → NotesAll first between (out-When w).yes
    → NotesAll between new (out-When w).no → (s : Stored) (line : ℕ) (rest : ListTree)
    → assigned_locals (atomic_tree s a line rest) old ≡ assigned_locals rest new
when_notes a w old first between new is own one two s line rest =
    ap (λ l. assigned_locals l old) (choice_tree s a w is line rest)
    ∙ ap (λ xs. assigned_locals rest (assigned_locals (list_tree s (out-When w).no) (assigned_locals (list_tree s (out-When w).yes) xs))) (sym own)
    ∙ ap (λ xs. assigned_locals rest (assigned_locals (list_tree s (out-When w).no) xs)) (sym (one s))
    ∙ ap (assigned_locals rest) (sym (two s))

pub on_ok : {A E : Type 0} (r : Result A E) (P Q : Type 0) → (P → Q) → OnOk r P → OnOk r Q
on_ok (Ok a) P Q f is = f is
on_ok (Err e) P Q f is = tt
