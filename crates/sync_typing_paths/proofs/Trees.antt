-- What a statement is as a tree.
use Rattle.std.proofs.Common.{◌≡◌, ℕ, List, [], ◌∷◌, map, Option, option_map, refl, sym, ap, ◌∙◌}
use Rattle.sync_terms.specs.Stored.{Stored}
use Rattle.sync_terms.specs.declared.nodes.TermId.{TermId}
use Rattle.sync_terms.specs.declared.scripts.Script.{Script}
use Rattle.sync_thread.specs.declared.operands.Cond.{Cond}
use Rattle.sync_thread.specs.declared.program.Atomic.{Atomic, out-Atomic, fold_out-Atomic}
use Rattle.sync_thread.specs.declared.program.Keep.{Keep}
use Rattle.sync_thread.specs.declared.program.List.{List as ListNode}
use Rattle.sync_thread.specs.declared.program.Stmt.{Stmt, out-Stmt, fold_out-Stmt}
use Rattle.sync_thread.specs.declared.program.StmtKind.{StmtKind, out-StmtKind, map-StmtKind, fold-StmtKind, fold_out-StmtKind, fold-roll-StmtKind}
use Rattle.sync_thread.specs.declared.program.StmtKind.TheOpen.{StmtKind-F, Tail-F}
use Rattle.sync_thread.specs.declared.program.StmtKind.TheVariants as raw
use Rattle.sync_thread.specs.declared.program.StmtKind.TheVariants.{rolls-Set, rolls-Read, rolls-Write, rolls-Peek, rolls-Word, rolls-Print, rolls-If, rolls-Loop, rolls-Next, rolls-Break, rolls-Meet, rolls-End, rolls-Proof}
use Rattle.sync_thread.specs.declared.program.Tail.{Tail, out-Tail, map-Tail, fold-Tail, fold_out-Tail, fold-roll-Tail}
use Rattle.sync_thread.specs.declared.program.Tail.TheVariants as tail
use Rattle.sync_thread.specs.declared.program.Tail.TheVariants.{rolls-Plain, rolls-Proof as tail-Proof, rolls-When}
use Rattle.sync_thread.specs.declared.program.When.{When, out-When, fold-When, fold_out-When}
use Rattle.sync_thread.specs.Control.{On, OnWhen, If, Loop}
use Rattle.sync_thread.specs.Programs.{ListTree, AtomicTree}
use Rattle.sync_thread.specs.Programs as tree
use Rattle.sync_thread.specs.Views.{before, Then, TailThen, kind_then, tail_then, atomic_then, list_then, stmt_then, when_then, list_tree, stmt_tree, index_tree, keep_tree, jump_tree}
use Rattle.sync_typing.specs.Lists.{end_line}
use Rattle.sync_typing_paths.specs.Statements.{atomic_tree}

-- ---- a statement as a tree

abbrev kind_tree : Stored → StmtKind → ℕ → Then
kind_tree s =
    fold-StmtKind (ℕ → Then) TailThen (ℕ → Then) ListTree Then TailThen (kind_then s) (tail_then s) (atomic_then s) list_then stmt_then (when_then s)

stmt_is : (s : Stored) (x : Stmt) (k : StmtKind) → (out-Stmt x).what ≡ k
    → stmt_tree s x ≡ kind_tree s k (out-Stmt x).line
stmt_is s x k is =
    fold_out-Stmt (ℕ → Then) TailThen (ℕ → Then) ListTree Then TailThen (kind_then s) (tail_then s) (atomic_then s) list_then stmt_then (when_then s) x
    ∙ ap (λ k. kind_tree s k (out-Stmt x).line) is

pub if_tree : (s : Stored) (x : Stmt) (c : Cond) (label : Option ℕ) (p q : ListNode) (k : Option Keep)
    → (out-Stmt x).what ≡ raw.If c label p q k
    → (rest : ListTree)
    → stmt_tree s x rest ≡ If (record { cond = c; label = label }) (out-Stmt x).line (list_tree s p) (list_tree s q) (option_map (keep_tree s) k) rest
if_tree s x c label p q k is rest =
    ap (λ g. g rest) (stmt_is s x (raw.If c label p q k) is ∙ ap (λ k. kind_tree s k (out-Stmt x).line) (sym (rolls-If c label p q k))
    ∙ ap (λ g. g (out-Stmt x).line) (fold-roll-StmtKind (ℕ → Then) TailThen (ℕ → Then) ListTree Then TailThen (kind_then s) (tail_then s) (atomic_then s) list_then stmt_then (when_then s) (StmtKind-F.If c label p q k)))

pub loop_tree : (s : Stored) (x : Stmt) (k : Keep) (ts : List TermId) (ss : List Script) (body : ListNode) (left : Option Keep)
    → (out-Stmt x).what ≡ raw.Loop k ts ss body left
    → (rest : ListTree)
    → stmt_tree s x rest ≡ Loop (keep_tree s k) (jump_tree s ts ss) (out-Stmt x).line (list_tree s body) (option_map (keep_tree s) left) rest
loop_tree s x k ts ss body left is rest =
    ap (λ g. g rest) (stmt_is s x (raw.Loop k ts ss body left) is ∙ ap (λ k. kind_tree s k (out-Stmt x).line) (sym (rolls-Loop k ts ss body left))
    ∙ ap (λ g. g (out-Stmt x).line) (fold-roll-StmtKind (ℕ → Then) TailThen (ℕ → Then) ListTree Then TailThen (kind_then s) (tail_then s) (atomic_then s) list_then stmt_then (when_then s) (StmtKind-F.Loop k ts ss body left)))

pub word_tree : (s : Stored) (x : Stmt) (a : Atomic) → (out-Stmt x).what ≡ raw.Word a → (rest : ListTree)
    → stmt_tree s x rest ≡ atomic_tree s a (out-Stmt x).line rest
word_tree s x a is rest =
    ap (λ g. g rest) (stmt_is s x (raw.Word a) is ∙ ap (λ k. kind_tree s k (out-Stmt x).line) (sym (rolls-Word a))
    ∙ ap (λ g. g (out-Stmt x).line) (fold-roll-StmtKind (ℕ → Then) TailThen (ℕ → Then) ListTree Then TailThen (kind_then s) (tail_then s) (atomic_then s) list_then stmt_then (when_then s) (StmtKind-F.Word a)))

-- ---- an operation on a word

abbrev atomic_part : Stored → Atomic → AtomicTree
atomic_part s a = record {
  op = (out-Atomic a).op;
  local = (out-Atomic a).local;
  word = (out-Atomic a).word;
  index = index_tree s (out-Atomic a).index;
  label = (out-Atomic a).label;
}

abbrev tail_tree : Stored → Tail → TailThen
tail_tree s =
    fold-Tail (ℕ → Then) TailThen (ℕ → Then) ListTree Then TailThen (kind_then s) (tail_then s) (atomic_then s) list_then stmt_then (when_then s)

abbrev when_tree : Stored → When → TailThen
when_tree s =
    fold-When (ℕ → Then) TailThen (ℕ → Then) ListTree Then TailThen (kind_then s) (tail_then s) (atomic_then s) list_then stmt_then (when_then s)

atomic_is : (s : Stored) (a : Atomic) (k : Tail) → (out-Atomic a).tail ≡ k → (line : ℕ) (rest : ListTree)
    → atomic_tree s a line rest ≡ tail_tree s k (atomic_part s a) line rest
atomic_is s a k is line rest =
    ap (λ g. g line rest) (fold_out-Atomic (ℕ → Then) TailThen (ℕ → Then) ListTree Then TailThen (kind_then s) (tail_then s) (atomic_then s) list_then stmt_then (when_then s) a)
    ∙ ap (λ k. tail_tree s k (atomic_part s a) line rest) is

pub choice_tree : (s : Stored) (a : Atomic) (w : When) → (out-Atomic a).tail ≡ tail.When w
    → (line : ℕ) (rest : ListTree)
    → atomic_tree s a line rest ≡ when_then s (record {
      cond = (out-When w).cond;
      label = (out-When w).label;
      yes_proof = (out-When w).yes_proof;
      yes = list_tree s (out-When w).yes;
      no_proof = (out-When w).no_proof;
      no = list_tree s (out-When w).no;
      joined = (out-When w).joined;
    }) (atomic_part s a) line rest
choice_tree s a w is line rest =
    atomic_is s a (tail.When w) is line rest ∙ ap (λ k. tail_tree s k (atomic_part s a) line rest) (sym (rolls-When w))
    ∙ ap (λ g. g (atomic_part s a) line rest) (fold-roll-Tail (ℕ → Then) TailThen (ℕ → Then) ListTree Then TailThen (kind_then s) (tail_then s) (atomic_then s) list_then stmt_then (when_then s) (Tail-F.When w))
    ∙ ap (λ g. g (atomic_part s a) line rest) (fold_out-When (ℕ → Then) TailThen (ℕ → Then) ListTree Then TailThen (kind_then s) (tail_then s) (atomic_then s) list_then stmt_then (when_then s) w)

-- ---- an operation on a word, whatever stands behind it

abbrev opened_tail : Stored → Tail-F StmtKind Tail Atomic ListNode Stmt When
    → Tail-F (ℕ → Then) TailThen (ℕ → Then) ListTree Then TailThen
opened_tail s =
    map-Tail StmtKind Tail Atomic ListNode Stmt When (ℕ → Then) TailThen (ℕ → Then) ListTree Then TailThen
    (kind_tree s) (tail_tree s) (atomic_tree s) (list_tree s) (stmt_tree s) (when_tree s)

any_tail : {A : Type 0} (f : ListTree → A) (y : A) (s : Stored) (t : Tail-F StmtKind Tail Atomic ListNode Stmt When)
    (a : AtomicTree) (line : ℕ) (rest : ListTree)
    → ((u : tree.SharedTree) (n : ℕ) → f (On u n rest) ≡ y)
    → ((c : tree.ChoiceTree) (n : ℕ) (p q : ListTree) (k : Option tree.KeepTree) → f (OnWhen c n p q k rest) ≡ y)
    → f (tail_then s (opened_tail s t) a line rest) ≡ y
any_tail f y s Tail-F.Plain a line rest alone chosen = alone _ _
any_tail f y s (Tail-F.Tail::Proof ps) a line rest alone chosen = alone _ _
any_tail f y s (Tail-F.When w) a line rest alone chosen =
    ap (λ g. f (g a line rest)) (fold_out-When (ℕ → Then) TailThen (ℕ → Then) ListTree Then TailThen (kind_then s) (tail_then s) (atomic_then s) list_then stmt_then (when_then s) w)
    ∙ chosen _ _ _ _ _

pub any_word : {A : Type 0} (f : ListTree → A) (y : A) (s : Stored) (a : Atomic) (line : ℕ) (rest : ListTree)
    → ((u : tree.SharedTree) (n : ℕ) → f (On u n rest) ≡ y)
    → ((c : tree.ChoiceTree) (n : ℕ) (p q : ListTree) (k : Option tree.KeepTree) → f (OnWhen c n p q k rest) ≡ y)
    → f (atomic_tree s a line rest) ≡ y
any_word f y s a line rest alone chosen =
    ap f (atomic_is s a (out-Atomic a).tail refl line rest)
    ∙ ap (λ g. f (g (atomic_part s a) line rest)) (fold_out-Tail (ℕ → Then) TailThen (ℕ → Then) ListTree Then TailThen (kind_then s) (tail_then s) (atomic_then s) list_then stmt_then (when_then s) (out-Atomic a).tail)
    ∙ any_tail f y s (out-Tail (out-Atomic a).tail) (atomic_part s a) line rest alone chosen

-- ---- any statement

abbrev opened_kind : Stored → StmtKind-F StmtKind Tail Atomic ListNode Stmt When
    → StmtKind-F (ℕ → Then) TailThen (ℕ → Then) ListTree Then TailThen
opened_kind s =
    map-StmtKind StmtKind Tail Atomic ListNode Stmt When (ℕ → Then) TailThen (ℕ → Then) ListTree Then TailThen
    (kind_tree s) (tail_tree s) (atomic_tree s) (list_tree s) (stmt_tree s) (when_tree s)

-- the closing brace is that of the rest
brace_behind : (s : Stored) (k : StmtKind-F StmtKind Tail Atomic ListNode Stmt When) (line : ℕ) (rest : ListTree)
    → end_line (kind_then s (opened_kind s k) line rest) ≡ end_line rest
brace_behind s (StmtKind-F.Set x c label) line rest = refl
brace_behind s (StmtKind-F.Read x c i p ss) line rest = refl
brace_behind s (StmtKind-F.Write c i o p ss) line rest = refl
brace_behind s (StmtKind-F.Peek x c i d) line rest = refl
brace_behind s (StmtKind-F.Word a) line rest =
    any_word end_line (end_line rest) s a line rest (λ u n. refl) (λ c n p q k. refl)
brace_behind s (StmtKind-F.Print l o) line rest = refl
brace_behind s (StmtKind-F.If c label p q k) line rest = refl
brace_behind s (StmtKind-F.Loop k args ss body left) line rest = refl
brace_behind s (StmtKind-F.Next args ss) line rest = refl
brace_behind s (StmtKind-F.Break args ss) line rest = refl
brace_behind s (StmtKind-F.Meet args ss) line rest = refl
brace_behind s (StmtKind-F.End args ss) line rest = refl
brace_behind s (StmtKind-F.StmtKind::Proof p) line rest = refl

pub same_brace : (s : Stored) (x : Stmt) (rest : ListTree) → end_line (stmt_tree s x rest) ≡ end_line rest
same_brace s x rest =
    ap (λ g. end_line (g rest)) (stmt_is s x (out-Stmt x).what refl)
    ∙ ap (λ g. end_line (g (out-Stmt x).line rest)) (fold_out-StmtKind (ℕ → Then) TailThen (ℕ → Then) ListTree Then TailThen (kind_then s) (tail_then s) (atomic_then s) list_then stmt_then (when_then s) (out-Stmt x).what)
    ∙ brace_behind s (out-StmtKind (out-Stmt x).what) (out-Stmt x).line rest

pub braces_behind : (s : Stored) (xs : List Stmt) (rest : ListTree)
    → end_line (before (map (stmt_tree s) xs) rest) ≡ end_line rest
braces_behind s [] rest = refl
braces_behind s (x ∷ xs) rest = same_brace s x (before (map (stmt_tree s) xs) rest) ∙ braces_behind s xs rest
