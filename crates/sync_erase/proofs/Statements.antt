-- What a statement is as a tree, and what its code is.
use Rattle.std.proofs.Common.{◌≡◌, ℕ, ◌+◌, ◌<◌, ◌≤◌, List, [], ◌∷◌, ◌++◌, length, map, drop, get_or, Option, Some, None, option_map, Result, Ok, Err, OnOk, suc, refl, sym, ap, ◌∙◌, add-one, drop-cons, append_assoc, ◌⊎◌, inl, inr}
use Rattle.std.proofs.Math.ListN.{drop_of_length-le}
use Rattle.std.proofs.lemmas.List.{append-nil, map-append}
use Rattle.sync_terms.specs.Stored.{Stored}
use Rattle.sync_terms.specs.declared.nodes.TermId.{TermId}
use Rattle.sync_terms.specs.declared.scripts.Script.{Script}
use Rattle.sync_thread.specs.declared.operands.Calc.{Calc}
use Rattle.sync_thread.specs.declared.operands.Cond.{Cond}
use Rattle.sync_thread.specs.declared.operands.Opd.{Opd}
use Rattle.sync_thread.specs.declared.operands.WordOp.{WordOp}
use Rattle.sync_thread.specs.declared.program.Atomic.{Atomic, out-Atomic, fold_out-Atomic}
use Rattle.sync_thread.specs.declared.program.CodeStmt.{CodeStmt, fold-roll-CodeStmt}
use Rattle.sync_thread.specs.declared.program.CodeStmt.TheOpen.{CodeStmt-F}
use Rattle.sync_thread.specs.declared.program.CodeStmt.TheVariants as made
use Rattle.sync_thread.specs.declared.program.CodeStmt.TheVariants.{rolls-Set as code-Set, rolls-Read as code-Read, rolls-Write as code-Write, rolls-Peek as code-Peek, rolls-Word as code-Word, rolls-Print as code-Print, rolls-If as code-If, rolls-Loop as code-Loop, rolls-Next as code-Next, rolls-Break as code-Break, rolls-End as code-End}
use Rattle.sync_thread.specs.declared.operands.CodeDecl.{CodeDecl}
use Rattle.sync_thread.specs.declared.program.CodeThread.{CodeThread}
use Rattle.sync_thread.specs.declared.program.DoForm.{DoForm}
use Rattle.sync_thread.specs.declared.program.Idx.{Idx}
use Rattle.sync_thread.specs.declared.program.Keep.{Keep}
use Rattle.sync_thread.specs.declared.program.List.{List as ListNode, out-List, fold_out-List}
use Rattle.sync_thread.specs.declared.program.ProofKind.{ProofKind}
use Rattle.sync_thread.specs.declared.program.ProofStmt.{ProofStmt}
use Rattle.sync_thread.specs.declared.program.Stmt.{Stmt, out-Stmt, fold_out-Stmt}
use Rattle.sync_thread.specs.declared.program.StmtKind.{StmtKind, fold-StmtKind, fold-roll-StmtKind}
use Rattle.sync_thread.specs.declared.program.StmtKind.TheOpen.{StmtKind-F, Tail-F}
use Rattle.sync_thread.specs.declared.program.StmtKind.TheVariants as raw
use Rattle.sync_thread.specs.declared.program.StmtKind.TheVariants.{rolls-Set, rolls-Read, rolls-Write, rolls-Peek, rolls-Word, rolls-Print, rolls-If, rolls-Loop, rolls-Next, rolls-Break, rolls-Meet, rolls-End, rolls-Proof}
use Rattle.sync_thread.specs.declared.program.Program.{Program}
use Rattle.sync_thread.specs.declared.program.Thread.{Thread}
use Rattle.sync_thread.specs.declared.program.Tail.{Tail, fold-Tail, fold-roll-Tail}
use Rattle.sync_thread.specs.declared.program.Tail.TheVariants as tail
use Rattle.sync_thread.specs.declared.program.Tail.TheVariants.{rolls-Plain, rolls-Proof as tail-Proof, rolls-When}
use Rattle.sync_thread.specs.declared.program.When.{When, out-When, fold-When, fold_out-When}
use Rattle.sync_thread.specs.Control.{Brace, Do, On, If, Loop, Next, Break, Meet, End}
use Rattle.sync_thread.specs.Programs.{ListTree, AtomicTree}
use Rattle.sync_thread.specs.Programs as tree
use Rattle.sync_thread.specs.Arrays.{code_decl}
use Rattle.sync_thread.specs.Code.{CodeList, CodeTree, code_list, code_of, code_thread}
use Rattle.sync_thread.specs.Code as code
use Rattle.sync_thread.specs.Views.{Then, TailThen, kind_then, tail_then, atomic_then, list_then, stmt_then, when_then, before, list_tree, stmt_tree, index_tree, scripts_tree, do_tree, keep_tree, jump_tree, proof_tree, proof_steps_tree, CodeThen, code_then, code_before, code_stmt_tree, code_list_tree, code_thread_tree, code_tree, decl_tree, thread_tree, program_tree}
use Rattle.sync_erase.specs.Erasing.{Appends, atomic_tree}

-- ---- the code of a statement

pub set_code : (l : ℕ) (c : Calc) (rest : CodeList)
    → code_stmt_tree (made.Set l c) rest ≡ Do (record { local = l; calc = c }) 0 rest
set_code l c rest =
    ap (λ g. g rest) (ap code_stmt_tree (sym (code-Set l c)) ∙ fold-roll-CodeStmt CodeThen code_then (CodeStmt-F.Set l c))

pub read_code : (l c : ℕ) (i : Opd) (rest : CodeList)
    → code_stmt_tree (made.Read l c i) rest ≡ On (code.Read l c i) 0 rest
read_code l c i rest =
    ap (λ g. g rest) (ap code_stmt_tree (sym (code-Read l c i)) ∙ fold-roll-CodeStmt CodeThen code_then (CodeStmt-F.Read l c i))

pub write_code : (c : ℕ) (i o : Opd) (rest : CodeList)
    → code_stmt_tree (made.Write c i o) rest ≡ On (code.Write c i o) 0 rest
write_code c i o rest =
    ap (λ g. g rest) (ap code_stmt_tree (sym (code-Write c i o)) ∙ fold-roll-CodeStmt CodeThen code_then (CodeStmt-F.Write c i o))

pub peek_code : (l c : ℕ) (i : Opd) (rest : CodeList)
    → code_stmt_tree (made.Peek l c i) rest ≡ On (code.Peek l c i) 0 rest
peek_code l c i rest =
    ap (λ g. g rest) (ap code_stmt_tree (sym (code-Peek l c i)) ∙ fold-roll-CodeStmt CodeThen code_then (CodeStmt-F.Peek l c i))

pub word_code : (l : Option ℕ) (op : WordOp) (w : ℕ) (i : Opd) (rest : CodeList)
    → code_stmt_tree (made.Word l op w i) rest ≡ On (code.Operate l op w i) 0 rest
word_code l op w i rest =
    ap (λ g. g rest) (ap code_stmt_tree (sym (code-Word l op w i)) ∙ fold-roll-CodeStmt CodeThen code_then (CodeStmt-F.Word l op w i))

pub print_code : (l : ℕ) (o : Opd) (rest : CodeList)
    → code_stmt_tree (made.Print l o) rest ≡ On (code.Print l o) 0 rest
print_code l o rest =
    ap (λ g. g rest) (ap code_stmt_tree (sym (code-Print l o)) ∙ fold-roll-CodeStmt CodeThen code_then (CodeStmt-F.Print l o))

pub if_code : (c : Cond) (p q : List CodeStmt) (rest : CodeList)
    → code_stmt_tree (made.If c p q) rest ≡ If c 0 (code_list_tree p) (code_list_tree q) None rest
if_code c p q rest =
    ap (λ g. g rest) (ap code_stmt_tree (sym (code-If c p q)) ∙ fold-roll-CodeStmt CodeThen code_then (CodeStmt-F.If c p q))

pub loop_code : (p : List CodeStmt) (rest : CodeList)
    → code_stmt_tree (made.Loop p) rest ≡ Loop tt tt 0 (code_list_tree p) (Some tt) rest
loop_code p rest =
    ap (λ g. g rest) (ap code_stmt_tree (sym (code-Loop p)) ∙ fold-roll-CodeStmt CodeThen code_then (CodeStmt-F.Loop p))

pub next_code : (rest : CodeList) → code_stmt_tree made.Next rest ≡ Next tt 0 rest
next_code rest =
    ap (λ g. g rest) (ap code_stmt_tree (sym code-Next) ∙ fold-roll-CodeStmt CodeThen code_then CodeStmt-F.Next)

pub break_code : (rest : CodeList) → code_stmt_tree made.Break rest ≡ Break tt 0 rest
break_code rest =
    ap (λ g. g rest) (ap code_stmt_tree (sym code-Break) ∙ fold-roll-CodeStmt CodeThen code_then CodeStmt-F.Break)

pub end_code : (rest : CodeList) → code_stmt_tree made.End rest ≡ End tt 0 rest
end_code rest =
    ap (λ g. g rest) (ap code_stmt_tree (sym code-End) ∙ fold-roll-CodeStmt CodeThen code_then CodeStmt-F.End)

-- ---- a statement as a tree

abbrev kind_tree : Stored → StmtKind → ℕ → Then
kind_tree s =
    fold-StmtKind (ℕ → Then) TailThen (ℕ → Then) ListTree Then TailThen (kind_then s) (tail_then s) (atomic_then s) list_then stmt_then (when_then s)

stmt_is : (s : Stored) (x : Stmt) (k : StmtKind) → (out-Stmt x).what ≡ k
    → stmt_tree s x ≡ kind_tree s k (out-Stmt x).line
stmt_is s x k is =
    fold_out-Stmt (ℕ → Then) TailThen (ℕ → Then) ListTree Then TailThen (kind_then s) (tail_then s) (atomic_then s) list_then stmt_then (when_then s) x
    ∙ ap (λ k. kind_tree s k (out-Stmt x).line) is

pub set_tree : (s : Stored) (x : Stmt) (l : ℕ) (c : Calc) (label : Option ℕ) → (out-Stmt x).what ≡ raw.Set l c label
    → (rest : ListTree) → stmt_tree s x rest ≡ Do (tree.Set l c label) (out-Stmt x).line rest
set_tree s x l c label is rest =
    ap (λ g. g rest) (stmt_is s x (raw.Set l c label) is ∙ ap (λ k. kind_tree s k (out-Stmt x).line) (sym (rolls-Set l c label))
    ∙ ap (λ g. g (out-Stmt x).line) (fold-roll-StmtKind (ℕ → Then) TailThen (ℕ → Then) ListTree Then TailThen (kind_then s) (tail_then s) (atomic_then s) list_then stmt_then (when_then s) (StmtKind-F.Set l c label)))

pub read_tree : (s : Stored) (x : Stmt) (l c : ℕ) (i : Idx) (n : ℕ) (ss : List Script)
    → (out-Stmt x).what ≡ raw.Read l c i n ss → (rest : ListTree)
    → stmt_tree s x rest ≡ On (tree.Read l c (index_tree s i) n (scripts_tree s ss)) (out-Stmt x).line rest
read_tree s x l c i n ss is rest =
    ap (λ g. g rest) (stmt_is s x (raw.Read l c i n ss) is ∙ ap (λ k. kind_tree s k (out-Stmt x).line) (sym (rolls-Read l c i n ss))
    ∙ ap (λ g. g (out-Stmt x).line) (fold-roll-StmtKind (ℕ → Then) TailThen (ℕ → Then) ListTree Then TailThen (kind_then s) (tail_then s) (atomic_then s) list_then stmt_then (when_then s) (StmtKind-F.Read l c i n ss)))

pub write_tree : (s : Stored) (x : Stmt) (c : ℕ) (i : Idx) (o : Opd) (n : ℕ) (ss : List Script)
    → (out-Stmt x).what ≡ raw.Write c i o n ss → (rest : ListTree)
    → stmt_tree s x rest ≡ On (tree.Write c (index_tree s i) o n (scripts_tree s ss)) (out-Stmt x).line rest
write_tree s x c i o n ss is rest =
    ap (λ g. g rest) (stmt_is s x (raw.Write c i o n ss) is ∙ ap (λ k. kind_tree s k (out-Stmt x).line) (sym (rolls-Write c i o n ss))
    ∙ ap (λ g. g (out-Stmt x).line) (fold-roll-StmtKind (ℕ → Then) TailThen (ℕ → Then) ListTree Then TailThen (kind_then s) (tail_then s) (atomic_then s) list_then stmt_then (when_then s) (StmtKind-F.Write c i o n ss)))

pub peek_tree : (s : Stored) (x : Stmt) (l c : ℕ) (i : Idx) (d : DoForm) → (out-Stmt x).what ≡ raw.Peek l c i d
    → (rest : ListTree)
    → stmt_tree s x rest ≡ On (tree.Peek l c (index_tree s i) (do_tree s d)) (out-Stmt x).line rest
peek_tree s x l c i d is rest =
    ap (λ g. g rest) (stmt_is s x (raw.Peek l c i d) is ∙ ap (λ k. kind_tree s k (out-Stmt x).line) (sym (rolls-Peek l c i d))
    ∙ ap (λ g. g (out-Stmt x).line) (fold-roll-StmtKind (ℕ → Then) TailThen (ℕ → Then) ListTree Then TailThen (kind_then s) (tail_then s) (atomic_then s) list_then stmt_then (when_then s) (StmtKind-F.Peek l c i d)))

pub print_tree : (s : Stored) (x : Stmt) (l : ℕ) (o : Opd) → (out-Stmt x).what ≡ raw.Print l o → (rest : ListTree)
    → stmt_tree s x rest ≡ On (tree.Print l o) (out-Stmt x).line rest
print_tree s x l o is rest =
    ap (λ g. g rest) (stmt_is s x (raw.Print l o) is ∙ ap (λ k. kind_tree s k (out-Stmt x).line) (sym (rolls-Print l o))
    ∙ ap (λ g. g (out-Stmt x).line) (fold-roll-StmtKind (ℕ → Then) TailThen (ℕ → Then) ListTree Then TailThen (kind_then s) (tail_then s) (atomic_then s) list_then stmt_then (when_then s) (StmtKind-F.Print l o)))

pub next_tree : (s : Stored) (x : Stmt) (ts : List TermId) (ss : List Script) → (out-Stmt x).what ≡ raw.Next ts ss
    → (rest : ListTree) → stmt_tree s x rest ≡ Next (jump_tree s ts ss) (out-Stmt x).line rest
next_tree s x ts ss is rest =
    ap (λ g. g rest) (stmt_is s x (raw.Next ts ss) is ∙ ap (λ k. kind_tree s k (out-Stmt x).line) (sym (rolls-Next ts ss))
    ∙ ap (λ g. g (out-Stmt x).line) (fold-roll-StmtKind (ℕ → Then) TailThen (ℕ → Then) ListTree Then TailThen (kind_then s) (tail_then s) (atomic_then s) list_then stmt_then (when_then s) (StmtKind-F.Next ts ss)))

pub break_tree : (s : Stored) (x : Stmt) (ts : List TermId) (ss : List Script) → (out-Stmt x).what ≡ raw.Break ts ss
    → (rest : ListTree) → stmt_tree s x rest ≡ Break (jump_tree s ts ss) (out-Stmt x).line rest
break_tree s x ts ss is rest =
    ap (λ g. g rest) (stmt_is s x (raw.Break ts ss) is ∙ ap (λ k. kind_tree s k (out-Stmt x).line) (sym (rolls-Break ts ss))
    ∙ ap (λ g. g (out-Stmt x).line) (fold-roll-StmtKind (ℕ → Then) TailThen (ℕ → Then) ListTree Then TailThen (kind_then s) (tail_then s) (atomic_then s) list_then stmt_then (when_then s) (StmtKind-F.Break ts ss)))

pub meet_tree : (s : Stored) (x : Stmt) (ts : List TermId) (ss : List Script) → (out-Stmt x).what ≡ raw.Meet ts ss
    → (rest : ListTree) → stmt_tree s x rest ≡ Meet (jump_tree s ts ss) (out-Stmt x).line rest
meet_tree s x ts ss is rest =
    ap (λ g. g rest) (stmt_is s x (raw.Meet ts ss) is ∙ ap (λ k. kind_tree s k (out-Stmt x).line) (sym (rolls-Meet ts ss))
    ∙ ap (λ g. g (out-Stmt x).line) (fold-roll-StmtKind (ℕ → Then) TailThen (ℕ → Then) ListTree Then TailThen (kind_then s) (tail_then s) (atomic_then s) list_then stmt_then (when_then s) (StmtKind-F.Meet ts ss)))

pub end_tree : (s : Stored) (x : Stmt) (ts : List TermId) (ss : List Script) → (out-Stmt x).what ≡ raw.End ts ss
    → (rest : ListTree) → stmt_tree s x rest ≡ End (jump_tree s ts ss) (out-Stmt x).line rest
end_tree s x ts ss is rest =
    ap (λ g. g rest) (stmt_is s x (raw.End ts ss) is ∙ ap (λ k. kind_tree s k (out-Stmt x).line) (sym (rolls-End ts ss))
    ∙ ap (λ g. g (out-Stmt x).line) (fold-roll-StmtKind (ℕ → Then) TailThen (ℕ → Then) ListTree Then TailThen (kind_then s) (tail_then s) (atomic_then s) list_then stmt_then (when_then s) (StmtKind-F.End ts ss)))

pub proof_stmt_tree : (s : Stored) (x : Stmt) (p : ProofKind) → (out-Stmt x).what ≡ raw.Proof p → (rest : ListTree)
    → stmt_tree s x rest ≡ Do (tree.Proof (proof_tree s p)) (out-Stmt x).line rest
proof_stmt_tree s x p is rest =
    ap (λ g. g rest) (stmt_is s x (raw.Proof p) is ∙ ap (λ k. kind_tree s k (out-Stmt x).line) (sym (rolls-Proof p))
    ∙ ap (λ g. g (out-Stmt x).line) (fold-roll-StmtKind (ℕ → Then) TailThen (ℕ → Then) ListTree Then TailThen (kind_then s) (tail_then s) (atomic_then s) list_then stmt_then (when_then s) (StmtKind-F.StmtKind::Proof p)))

pub if_tree : (s : Stored) (x : Stmt) (c : Cond) (label : Option ℕ) (p q : ListNode) (k : Option Keep)
    → (out-Stmt x).what ≡ raw.If c label p q k
    → (rest : ListTree)
    → stmt_tree s x rest ≡ If (record { cond = c; label = label }) (out-Stmt x).line (list_tree s p) (list_tree s q) (option_map (keep_tree s) k) rest
if_tree s x c label p q k is rest =
    ap (λ g. g rest) (stmt_is s x (raw.If c label p q k) is ∙ ap (λ k. kind_tree s k (out-Stmt x).line) (sym (rolls-If c label p q k))
    ∙ ap (λ g. g (out-Stmt x).line) (fold-roll-StmtKind (ℕ → Then) TailThen (ℕ → Then) ListTree Then TailThen (kind_then s) (tail_then s) (atomic_then s) list_then stmt_then (when_then s) (StmtKind-F.If c label p q k)))

pub loop_tree : (s : Stored) (x : Stmt) (k : Keep) (ts : List TermId) (ss : List Script) (body : ListNode) (left : Option Keep)
    → (out-Stmt x).what ≡ raw.Loop k ts ss body left
    → (rest : ListTree)
    → stmt_tree s x rest ≡ Loop (keep_tree s k) (jump_tree s ts ss) (out-Stmt x).line (list_tree s body) (option_map (keep_tree s) left) rest
loop_tree s x k ts ss body left is rest =
    ap (λ g. g rest) (stmt_is s x (raw.Loop k ts ss body left) is ∙ ap (λ k. kind_tree s k (out-Stmt x).line) (sym (rolls-Loop k ts ss body left))
    ∙ ap (λ g. g (out-Stmt x).line) (fold-roll-StmtKind (ℕ → Then) TailThen (ℕ → Then) ListTree Then TailThen (kind_then s) (tail_then s) (atomic_then s) list_then stmt_then (when_then s) (StmtKind-F.Loop k ts ss body left)))

pub word_tree : (s : Stored) (x : Stmt) (a : Atomic) → (out-Stmt x).what ≡ raw.Word a → (rest : ListTree)
    → stmt_tree s x rest ≡ atomic_tree s a (out-Stmt x).line rest
word_tree s x a is rest =
    ap (λ g. g rest) (stmt_is s x (raw.Word a) is ∙ ap (λ k. kind_tree s k (out-Stmt x).line) (sym (rolls-Word a))
    ∙ ap (λ g. g (out-Stmt x).line) (fold-roll-StmtKind (ℕ → Then) TailThen (ℕ → Then) ListTree Then TailThen (kind_then s) (tail_then s) (atomic_then s) list_then stmt_then (when_then s) (StmtKind-F.Word a)))

-- ---- an operation on a word

abbrev atomic_part : Stored → Atomic → AtomicTree
atomic_part s a = record {
  op = (out-Atomic a).op;
  local = (out-Atomic a).local;
  word = (out-Atomic a).word;
  index = index_tree s (out-Atomic a).index;
  label = (out-Atomic a).label;
}

abbrev tail_tree : Stored → Tail → TailThen
tail_tree s =
    fold-Tail (ℕ → Then) TailThen (ℕ → Then) ListTree Then TailThen (kind_then s) (tail_then s) (atomic_then s) list_then stmt_then (when_then s)

abbrev when_tree : Stored → When → TailThen
when_tree s =
    fold-When (ℕ → Then) TailThen (ℕ → Then) ListTree Then TailThen (kind_then s) (tail_then s) (atomic_then s) list_then stmt_then (when_then s)

atomic_is : (s : Stored) (a : Atomic) (k : Tail) → (out-Atomic a).tail ≡ k → (line : ℕ) (rest : ListTree)
    → atomic_tree s a line rest ≡ tail_tree s k (atomic_part s a) line rest
atomic_is s a k is line rest =
    ap (λ g. g line rest) (fold_out-Atomic (ℕ → Then) TailThen (ℕ → Then) ListTree Then TailThen (kind_then s) (tail_then s) (atomic_then s) list_then stmt_then (when_then s) a)
    ∙ ap (λ k. tail_tree s k (atomic_part s a) line rest) is

pub plain_tree : (s : Stored) (a : Atomic) → (out-Atomic a).tail ≡ tail.Plain → (line : ℕ) (rest : ListTree)
    → atomic_tree s a line rest ≡ On (tree.Operate (atomic_part s a) (record { what = tree.Still []; line = line } ∷ [])) line rest
plain_tree s a is line rest =
    atomic_is s a tail.Plain is line rest ∙ ap (λ k. tail_tree s k (atomic_part s a) line rest) (sym rolls-Plain)
    ∙ ap (λ g. g (atomic_part s a) line rest) (fold-roll-Tail (ℕ → Then) TailThen (ℕ → Then) ListTree Then TailThen (kind_then s) (tail_then s) (atomic_then s) list_then stmt_then (when_then s) Tail-F.Plain)

pub block_tree : (s : Stored) (a : Atomic) (ps : List ProofStmt) → (out-Atomic a).tail ≡ tail.Proof ps
    → (line : ℕ) (rest : ListTree)
    → atomic_tree s a line rest ≡ On (tree.Operate (atomic_part s a) (proof_steps_tree s ps)) line rest
block_tree s a ps is line rest =
    atomic_is s a (tail.Proof ps) is line rest ∙ ap (λ k. tail_tree s k (atomic_part s a) line rest) (sym (tail-Proof ps))
    ∙ ap (λ g. g (atomic_part s a) line rest) (fold-roll-Tail (ℕ → Then) TailThen (ℕ → Then) ListTree Then TailThen (kind_then s) (tail_then s) (atomic_then s) list_then stmt_then (when_then s) (Tail-F.Tail::Proof ps))

pub choice_tree : (s : Stored) (a : Atomic) (w : When) → (out-Atomic a).tail ≡ tail.When w
    → (line : ℕ) (rest : ListTree)
    → atomic_tree s a line rest ≡ when_then s (record {
      cond = (out-When w).cond;
      label = (out-When w).label;
      yes_proof = (out-When w).yes_proof;
      yes = list_tree s (out-When w).yes;
      no_proof = (out-When w).no_proof;
      no = list_tree s (out-When w).no;
      joined = (out-When w).joined;
    }) (atomic_part s a) line rest
choice_tree s a w is line rest =
    atomic_is s a (tail.When w) is line rest ∙ ap (λ k. tail_tree s k (atomic_part s a) line rest) (sym (rolls-When w))
    ∙ ap (λ g. g (atomic_part s a) line rest) (fold-roll-Tail (ℕ → Then) TailThen (ℕ → Then) ListTree Then TailThen (kind_then s) (tail_then s) (atomic_then s) list_then stmt_then (when_then s) (Tail-F.When w))
    ∙ ap (λ g. g (atomic_part s a) line rest) (fold_out-When (ℕ → Then) TailThen (ℕ → Then) ListTree Then TailThen (kind_then s) (tail_then s) (atomic_then s) list_then stmt_then (when_then s) w)

-- ---- what the code gains

pub pushed : (xs : List CodeStmt) (x : CodeStmt) (rest : CodeList)
    → code_before (map code_stmt_tree (xs ++ x ∷ [])) rest ≡ code_before (map code_stmt_tree xs) (code_stmt_tree x rest)
pushed [] x rest = refl
pushed (y ∷ ys) x rest = ap (code_stmt_tree y) (pushed ys x rest)

pub appends_one : (old new : List CodeStmt) (x : CodeStmt) (stmt : Stored → Then)
    → ((s : Stored) (rest : ListTree) → code_stmt_tree x (code_list rest) ≡ code_list (stmt s rest))
    → new ≡ old ++ x ∷ [] → Appends old new stmt
appends_one old new x stmt same is s rest =
    ap (λ xs. code_before (map code_stmt_tree xs) (code_list rest)) is ∙ pushed old x (code_list rest) ∙ ap (code_before (map code_stmt_tree old)) (same s rest)

pub appends_none : (old : List CodeStmt) (stmt : Stored → Then)
    → ((s : Stored) (rest : ListTree) → code_list rest ≡ code_list (stmt s rest)) → Appends old old stmt
appends_none old stmt same s rest = ap (code_before (map code_stmt_tree old)) (same s rest)

-- ---- the code of a statement is the code of its tree

pub set_same : (x : Stmt) (l : ℕ) (c : Calc) (label : Option ℕ) → (out-Stmt x).what ≡ raw.Set l c label
    → (s : Stored) (rest : ListTree) → code_stmt_tree (made.Set l c) (code_list rest) ≡ code_list (stmt_tree s x rest)
unfolding code_list
set_same x l c label is s rest = set_code l c (code_list rest) ∙ sym (ap code_list (set_tree s x l c label is rest))

pub read_same : (x : Stmt) (l c : ℕ) (i : Idx) (n : ℕ) (ss : List Script) → (out-Stmt x).what ≡ raw.Read l c i n ss
    → (s : Stored) (rest : ListTree)
    → code_stmt_tree (made.Read l c i.opd) (code_list rest) ≡ code_list (stmt_tree s x rest)
unfolding code_list
read_same x l c i n ss is s rest =
    read_code l c i.opd (code_list rest) ∙ sym (ap code_list (read_tree s x l c i n ss is rest))

pub write_same : (x : Stmt) (c : ℕ) (i : Idx) (o : Opd) (n : ℕ) (ss : List Script)
    → (out-Stmt x).what ≡ raw.Write c i o n ss → (s : Stored) (rest : ListTree)
    → code_stmt_tree (made.Write c i.opd o) (code_list rest) ≡ code_list (stmt_tree s x rest)
unfolding code_list
write_same x c i o n ss is s rest =
    write_code c i.opd o (code_list rest) ∙ sym (ap code_list (write_tree s x c i o n ss is rest))

pub peek_same : (x : Stmt) (l c : ℕ) (i : Idx) (d : DoForm) → (out-Stmt x).what ≡ raw.Peek l c i d
    → (s : Stored) (rest : ListTree)
    → code_stmt_tree (made.Peek l c i.opd) (code_list rest) ≡ code_list (stmt_tree s x rest)
unfolding code_list
peek_same x l c i d is s rest =
    peek_code l c i.opd (code_list rest) ∙ sym (ap code_list (peek_tree s x l c i d is rest))

pub print_same : (x : Stmt) (l : ℕ) (o : Opd) → (out-Stmt x).what ≡ raw.Print l o → (s : Stored) (rest : ListTree)
    → code_stmt_tree (made.Print l o) (code_list rest) ≡ code_list (stmt_tree s x rest)
unfolding code_list
print_same x l o is s rest = print_code l o (code_list rest) ∙ sym (ap code_list (print_tree s x l o is rest))

pub next_same : (x : Stmt) (ts : List TermId) (ss : List Script) → (out-Stmt x).what ≡ raw.Next ts ss
    → (s : Stored) (rest : ListTree) → code_stmt_tree made.Next (code_list rest) ≡ code_list (stmt_tree s x rest)
unfolding code_list
next_same x ts ss is s rest = next_code (code_list rest) ∙ sym (ap code_list (next_tree s x ts ss is rest))

pub break_same : (x : Stmt) (ts : List TermId) (ss : List Script) → (out-Stmt x).what ≡ raw.Break ts ss
    → (s : Stored) (rest : ListTree) → code_stmt_tree made.Break (code_list rest) ≡ code_list (stmt_tree s x rest)
unfolding code_list
break_same x ts ss is s rest = break_code (code_list rest) ∙ sym (ap code_list (break_tree s x ts ss is rest))

pub end_same : (x : Stmt) (ts : List TermId) (ss : List Script) → (out-Stmt x).what ≡ raw.End ts ss
    → (s : Stored) (rest : ListTree) → code_stmt_tree made.End (code_list rest) ≡ code_list (stmt_tree s x rest)
unfolding code_list
end_same x ts ss is s rest = end_code (code_list rest) ∙ sym (ap code_list (end_tree s x ts ss is rest))

pub meet_same : (x : Stmt) (ts : List TermId) (ss : List Script) → (out-Stmt x).what ≡ raw.Meet ts ss
    → (s : Stored) (rest : ListTree) → code_list rest ≡ code_list (stmt_tree s x rest)
unfolding code_list
meet_same x ts ss is s rest = sym (ap code_list (meet_tree s x ts ss is rest))

pub proof_same : (x : Stmt) (p : ProofKind) → (out-Stmt x).what ≡ raw.Proof p → (s : Stored) (rest : ListTree)
    → code_list rest ≡ code_list (stmt_tree s x rest)
unfolding code_list
proof_same x p is s rest = sym (ap code_list (proof_stmt_tree s x p is rest))

-- a list's code, whatever the store
abbrev pub IsCodeOf : List CodeStmt → ListNode → Type 0
IsCodeOf code list = (s : Stored) → code_list_tree code ≡ code_list (list_tree s list)

branches : (s : Stored) (c : Cond) (p q : ListNode) (one two : List CodeStmt) (rest : CodeList) → IsCodeOf one p
    → IsCodeOf two q
    → If c 0 (code_list_tree one) (code_list_tree two) None rest ≡ If c 0 (code_list (list_tree s p)) (code_list (list_tree s q)) None rest
branches s c p q one two rest is_first is_second =
    ap (λ a. If c 0 a (code_list_tree two) None rest) (is_first s) ∙ ap (λ a. If c 0 (code_list (list_tree s p)) a None rest) (is_second s)

pub if_same : (x : Stmt) (c : Cond) (label : Option ℕ) (p q : ListNode) (k : Option Keep) (one two : List CodeStmt)
    → (out-Stmt x).what ≡ raw.If c label p q k → IsCodeOf one p → IsCodeOf two q
    → (s : Stored) (rest : ListTree)
    → code_stmt_tree (made.If c one two) (code_list rest) ≡ code_list (stmt_tree s x rest)
unfolding code_list
if_same x c label p q k one two is is_first is_second s rest =
    if_code c one two (code_list rest) ∙ branches s c p q one two (code_list rest) is_first is_second ∙ sym (ap code_list (if_tree s x c label p q k is rest))

pub loop_same : (x : Stmt) (k : Keep) (ts : List TermId) (ss : List Script) (body : ListNode) (left : Option Keep) (code : List CodeStmt)
    → (out-Stmt x).what ≡ raw.Loop k ts ss body left → IsCodeOf code body
    → (s : Stored) (rest : ListTree)
    → code_stmt_tree (made.Loop code) (code_list rest) ≡ code_list (stmt_tree s x rest)
unfolding code_list
loop_same x k ts ss body left code is is_body s rest =
    loop_code code (code_list rest) ∙ ap (λ a. Loop tt tt 0 a (Some tt) (code_list rest)) (is_body s) ∙ sym (ap code_list (loop_tree s x k ts ss body left is rest))

pub plain_same : (a : Atomic) → (out-Atomic a).tail ≡ tail.Plain → (line : ℕ) (s : Stored) (rest : ListTree)
    → code_stmt_tree (made.Word (out-Atomic a).local (out-Atomic a).op (out-Atomic a).word (out-Atomic a).index.opd) (code_list rest) ≡ code_list (atomic_tree s a line rest)
unfolding code_list
plain_same a is line s rest =
    word_code (out-Atomic a).local (out-Atomic a).op (out-Atomic a).word (out-Atomic a).index.opd (code_list rest) ∙ sym (ap code_list (plain_tree s a is line rest))

pub block_same : (a : Atomic) (ps : List ProofStmt) → (out-Atomic a).tail ≡ tail.Proof ps
    → (line : ℕ) (s : Stored) (rest : ListTree)
    → code_stmt_tree (made.Word (out-Atomic a).local (out-Atomic a).op (out-Atomic a).word (out-Atomic a).index.opd) (code_list rest) ≡ code_list (atomic_tree s a line rest)
unfolding code_list
block_same a ps is line s rest =
    word_code (out-Atomic a).local (out-Atomic a).op (out-Atomic a).word (out-Atomic a).index.opd (code_list rest) ∙ sym (ap code_list (block_tree s a ps is line rest))

pub choice_same : (a : Atomic) (w : When) (one two : List CodeStmt) → (out-Atomic a).tail ≡ tail.When w
    → IsCodeOf one (out-When w).yes → IsCodeOf two (out-When w).no → (line : ℕ) (s : Stored) (rest : ListTree)
    → code_stmt_tree (made.Word (out-Atomic a).local (out-Atomic a).op (out-Atomic a).word (out-Atomic a).index.opd) (code_stmt_tree (made.If (out-When w).cond one two) (code_list rest))
    ≡ code_list (atomic_tree s a line rest)
unfolding code_list
choice_same a w one two is is_first is_second line s rest =
    let l =
    (out-Atomic a).local in let op = (out-Atomic a).op in let word = (out-Atomic a).word in let i = (out-Atomic a).index.opd in
    word_code l op word i (code_stmt_tree (made.If (out-When w).cond one two) (code_list rest))
    ∙ ap (On (code.Operate l op word i) 0) (if_code (out-When w).cond one two (code_list rest) ∙ branches s (out-When w).cond (out-When w).yes (out-When w).no one two (code_list rest) is_first is_second)
    ∙ sym (ap code_list (choice_tree s a w is line rest))

pub word_appends : (old new : List CodeStmt) (x : Stmt) (a : Atomic) → (out-Stmt x).what ≡ raw.Word a
    → ((line : ℕ) → Appends old new (λ s rest. atomic_tree s a line rest))
    → Appends old new (λ s rest. stmt_tree s x rest)
word_appends old new x a is appends s rest =
    appends (out-Stmt x).line s rest ∙ ap (λ l. code_before (map code_stmt_tree old) (code_list l)) (sym (word_tree s x a is rest))

pub appends_two : (old between new : List CodeStmt) (x y : CodeStmt) (stmt : Stored → Then)
    → ((s : Stored) (rest : ListTree) → code_stmt_tree x (code_stmt_tree y (code_list rest)) ≡ code_list (stmt s rest))
    → between ≡ old ++ x ∷ [] → new ≡ between ++ y ∷ [] → Appends old new stmt
appends_two old between new x y stmt same is_one is_two s rest =
    ap (λ xs. code_before (map code_stmt_tree xs) (code_list rest)) is_two ∙ pushed between y (code_list rest)
    ∙ ap (λ xs. code_before (map code_stmt_tree xs) (code_stmt_tree y (code_list rest))) is_one ∙ pushed old x (code_stmt_tree y (code_list rest)) ∙ ap (code_before (map code_stmt_tree old)) (same s rest)

-- ---- lists

pub front_item : {A : Type 0} (n : ℕ) (xs : List A) (x : A) → n < length xs → x ≡ get_or xs n x
    → drop n xs ≡ x ∷ drop (n + 1) xs
front_item n xs x within is = rw add-one (drop-cons xs n x within ∙ ap (λ z. z ∷ drop (suc n) xs) (sym is))

-- so much of a list is done
abbrev pub DoneTo : List CodeStmt → ℕ → List Stmt → Type 0
DoneTo code n xs =
    (s : Stored) (rest : ListTree)
    → code_before (map code_stmt_tree code) (code_list (before (map (stmt_tree s) (drop n xs)) rest)) ≡ code_list (before (map (stmt_tree s) xs) rest)

pub one_more : (old new : List CodeStmt) (n : ℕ) (xs : List Stmt) (x : Stmt) → n < length xs → x ≡ get_or xs n x
    → Appends old new (λ s rest. stmt_tree s x rest) → DoneTo old n xs → DoneTo new (n + 1) xs
one_more old new n xs x within is appends done s rest = appends s (before (map (stmt_tree s) (drop (n + 1) xs)) rest)
    ∙ ap (λ ys. code_before (map code_stmt_tree old) (code_list (before (map (stmt_tree s) ys) rest))) (sym (front_item n xs x within is)) ∙ done s rest

pub all_done : (code : List CodeStmt) (n : ℕ) (xs : List Stmt) (list : ListNode) → length xs ≤ n
    → xs ≡ (out-List list).stmts → DoneTo code n xs → IsCodeOf code list
unfolding code_list
all_done code n xs list past are done s = let end : ListTree = Brace (out-List list).end_line in
    ap (λ ys. code_before (map code_stmt_tree code) (code_list (before (map (stmt_tree s) ys) end))) (sym (drop_of_length-le xs past)) ∙ done s end
    ∙ ap (λ ys. code_list (before (map (stmt_tree s) ys) end)) are
    ∙ sym (ap code_list (fold_out-List (ℕ → Then) TailThen (ℕ → Then) ListTree Then TailThen (kind_then s) (tail_then s) (atomic_then s) list_then stmt_then (when_then s) list))

pub on_ok : {A E : Type 0} (r : Result A E) (P Q : Type 0) → (P → Q) → OnOk r P → OnOk r Q
on_ok (Ok a) P Q f is = f is
on_ok (Err e) P Q f is = tt

-- no block, or one: nothing of it is in the code
pub tail_same : (a : Atomic)
    → ((out-Atomic a).tail ≡ tail.Plain) ⊎ ((ps : List ProofStmt) × ((out-Atomic a).tail ≡ tail.Proof ps))
    → (line : ℕ) (s : Stored) (rest : ListTree)
    → code_stmt_tree (made.Word (out-Atomic a).local (out-Atomic a).op (out-Atomic a).word (out-Atomic a).index.opd) (code_list rest) ≡ code_list (atomic_tree s a line rest)
tail_same a (inl is) = plain_same a is
tail_same a (inr (ps, is)) = block_same a ps is

-- a `meet`, or a proof statement
pub left_out : (x : Stmt)
    → ((ts : List TermId) × (ss : List Script) × ((out-Stmt x).what ≡ raw.Meet ts ss)) ⊎ ((p : ProofKind) × ((out-Stmt x).what ≡ raw.Proof p))
    → (s : Stored) (rest : ListTree) → code_list rest ≡ code_list (stmt_tree s x rest)
left_out x (inl (ts, ss, is)) = meet_same x ts ss is
left_out x (inr (p, is)) = proof_same x p is

-- ---- declarations and threads

-- one more of a list is done
pub listed_more : {A B : Type 0} (g : A → B) (done all : List B) (n : ℕ) (xs : List A) (x : A) → n < length xs
    → x ≡ get_or xs n x → done ++ map g (drop n xs) ≡ all
    → (done ++ g x ∷ []) ++ map g (drop (n + 1) xs) ≡ all
listed_more g done all n xs x within is so_far =
    append_assoc done (g x ∷ []) (map g (drop (n + 1) xs)) ∙ ap (λ ys. done ++ map g ys) (sym (front_item n xs x within is)) ∙ so_far

pub listed_all : {A B : Type 0} (g : A → B) (done all : List B) (n : ℕ) (xs : List A) → length xs ≤ n
    → done ++ map g (drop n xs) ≡ all → done ≡ all
listed_all g done all n xs past so_far =
    sym (append-nil done) ∙ ap (λ ys. done ++ map g ys) (sym (drop_of_length-le xs past)) ∙ so_far

pub map_twice : {A B C : Type 0} (f : B → C) (g : A → B) (xs : List A) → map (λ x. f (g x)) xs ≡ map f (map g xs)
map_twice f g [] = refl
map_twice f g (x ∷ xs) = ap (λ ys. f (g x) ∷ ys) (map_twice f g xs)

pub threads_more : (s : Stored) (done new : List CodeThread) (n : ℕ) (xs : List Thread) (x : Thread) (body : List CodeStmt)
    → n < length xs → x ≡ get_or xs n x
    → new ≡ done ++ record { name = x.name; body = body } ∷ [] → code_list_tree body ≡ code_list (list_tree s x.body)
    → map code_thread_tree done ++ map (λ t. code_thread (thread_tree s t)) (drop n xs) ≡ map (λ t. code_thread (thread_tree s t)) xs
    → map code_thread_tree new ++ map (λ t. code_thread (thread_tree s t)) (drop (n + 1) xs) ≡ map (λ t. code_thread (thread_tree s t)) xs
threads_more s done new n xs x body within is made same so_far =
    let later : List code.CodeThread = map (λ t. code_thread (thread_tree s t)) (drop (n + 1) xs) in
    ap (λ cs. map code_thread_tree cs ++ later) made
    ∙ ap (λ cs. cs ++ later) (map-append code_thread_tree done (record { name = x.name; body = body } ∷ []))
    ∙ ap (λ b. (map code_thread_tree done ++ record { name = x.name; body = b } ∷ []) ++ later) same
    ∙ listed_more (λ (t : Thread). code_thread (thread_tree s t)) (map code_thread_tree done) (map (λ t. code_thread (thread_tree s t)) xs) n xs x within is so_far

pub erased : (s : Stored) (p : Program) (decls : List CodeDecl) (threads : List CodeThread) (last : Option (List CodeStmt))
    → decls ≡ map (λ d. code_decl (decl_tree s d)) p.decls
    → map code_thread_tree threads ≡ map (λ t. code_thread (thread_tree s t)) p.threads
    → option_map code_list_tree last ≡ option_map code_list (option_map (list_tree s) p.last)
    → code_tree (record { decls = decls; threads = threads; last = last }) ≡ code_of (program_tree s p)
erased s p decls threads last is_decls is_threads is_last =
    ap (λ d. record { decls = d; threads = map code_thread_tree threads; last = option_map code_list_tree last }) (is_decls ∙ map_twice code_decl (decl_tree s) p.decls)
    ∙ ap (λ t. record { decls = map code_decl (map (decl_tree s) p.decls); threads = t; last = option_map code_list_tree last }) (is_threads ∙ map_twice code_thread (thread_tree s) p.threads)
    ∙ ap (λ l. record { decls = map code_decl (map (decl_tree s) p.decls); threads = map code_thread (map (thread_tree s) p.threads); last = l }) is_last
