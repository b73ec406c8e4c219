-- What a program over a store of terms is as plain trees.
use Rattle.std.specs.Prelude.{◌≡◌, ℕ, List, [], ◌∷◌, map, option_map, Some, None}
use Rattle.sync_terms.specs.Stored.{Stored, Extends, tree, formula}
use Rattle.sync_terms.specs.Plans.{plan_of}
use Rattle.sync_terms.specs.declared.scripts.Script.{Script}
use Rattle.sync_terms.specs.declared.nodes.TermId.{TermId}
use Rattle.sync_thread.specs.declared.program.Idx.{Idx}
use Rattle.sync_thread.specs.declared.program.Shape.{Shape}
use Rattle.sync_thread.specs.declared.program.Clause.{Clause}
use Rattle.sync_thread.specs.declared.program.Word.{Word}
use Rattle.sync_thread.specs.declared.program.Cell.{Cell}
use Rattle.sync_thread.specs.declared.program.Decl.{Decl}
use Rattle.sync_thread.specs.declared.program.Decl.TheVariants as decl
use Rattle.sync_thread.specs.declared.program.KeepLine.{KeepLine}
use Rattle.sync_thread.specs.declared.program.KeepFact.{KeepFact}
use Rattle.sync_thread.specs.declared.program.Keep.{Keep}
use Rattle.sync_thread.specs.declared.program.DoForm.{DoForm}
use Rattle.sync_thread.specs.declared.program.Closing.{Closing}
use Rattle.sync_thread.specs.declared.program.CaseForm.{CaseForm}
use Rattle.sync_thread.specs.declared.program.ProofKind.{ProofKind}
use Rattle.sync_thread.specs.declared.program.ProofKind.TheVariants as proof
use Rattle.sync_thread.specs.declared.program.ProofStmt.{ProofStmt}
use Rattle.sync_thread.specs.declared.program.List.{List as ListNode, fold-List}
use Rattle.sync_thread.specs.declared.program.Stmt.{Stmt as StmtNode, fold-Stmt}
use Rattle.sync_thread.specs.declared.program.StmtKind.TheOpen.{StmtKind-F, Tail-F, Atomic-F, List-F, Stmt-F, When-F}
use Rattle.sync_thread.specs.declared.program.Thread.{Thread}
use Rattle.sync_thread.specs.declared.program.Start.{Start}
use Rattle.sync_thread.specs.declared.program.Program.{Program}
use Rattle.sync_thread.specs.declared.program.CodeStmt.{CodeStmt, fold-CodeStmt}
use Rattle.sync_thread.specs.declared.program.CodeStmt.TheOpen.{CodeStmt-F}
use Rattle.sync_thread.specs.declared.program.CodeThread.{CodeThread}
use Rattle.sync_thread.specs.declared.program.Code.{Code}
use Rattle.sync_thread.specs.Control.{Brace, Do, On, OnWhen, If, Loop, Next, Break, Meet, End}
use Rattle.sync_thread.specs.Programs.{ScriptTree, IndexTree, ShapeTree, ClauseTree, WordTree, CellTree, DeclTree}
use Rattle.sync_thread.specs.Programs.{KeepLineTree, KeepFactTree, KeepTree, DoTree, ClosingTree, CaseTree, ProofTree}
use Rattle.sync_thread.specs.Programs.{ProofStepTree, JumpTree, AtomicTree, ListTree, ThreadTree, StartTree}
use Rattle.sync_thread.specs.Programs.{ProgramTree}
use Rattle.sync_thread.specs.Programs as tree_of
use Rattle.sync_thread.specs.Code.{CodeList, CodeTree}
use Rattle.sync_thread.specs.Code as code

abbrev pub script_tree : Stored → Script → ScriptTree
script_tree s x = record { plan = plan_of s x.block; line = x.line }

abbrev pub scripts_tree : Stored → List Script → List ScriptTree
scripts_tree s ss = map (script_tree s) ss

abbrev pub index_tree : Stored → Idx → IndexTree
index_tree s i = record { operand = i.opd; scripts = scripts_tree s i.scripts }

abbrev pub shape_tree : Stored → Shape → ShapeTree
shape_tree s x = record { field = x.field; key = option_map (tree s) x.key; value = option_map (tree s) x.value }

abbrev pub clause_tree : Stored → Clause → ClauseTree
clause_tree s c = record { shape = shape_tree s c.shape; guard = option_map (formula s) c.guard; line = c.line }

abbrev pub word_tree : Stored → Word → WordTree
word_tree s w = record {
  name = w.name;
  len = w.len;
  init = w.init;
  names = w.with;
  clauses = map (clause_tree s) w.clauses;
  fact = option_map (formula s) w.fact;
  line = w.line;
}

abbrev pub cell_tree : Cell → CellTree
cell_tree c = record { name = c.name; len = c.len; init = c.init; line = c.line }

abbrev pub decl_tree : Stored → Decl → DeclTree
decl_tree s (decl.Word w) = tree_of.Word (word_tree s w)
decl_tree s (decl.Cell c) = tree_of.Cell (cell_tree c)

abbrev pub keep_line_tree : Stored → KeepLine → KeepLineTree
keep_line_tree s l = record { name = l.name; shape = shape_tree s l.shape; line = l.line }

abbrev pub keep_fact_tree : Stored → KeepFact → KeepFactTree
keep_fact_tree s f = record { form = formula s f.form; label = f.label; line = f.line }

abbrev pub keep_tree : Stored → Keep → KeepTree
keep_tree s k = record {
  names = k.names;
  lines = map (keep_line_tree s) k.lines;
  facts = map (keep_fact_tree s) k.facts;
  line = k.line;
}

abbrev pub do_tree : Stored → DoForm → DoTree
do_tree s d = record {
  op = d.op;
  args = map (tree s) d.args;
  tokens = d.tokens;
  given = d.given;
  label = d.label;
  scripts = scripts_tree s d.scripts;
  line = d.line;
}

abbrev pub closing_tree : Stored → Closing → ClosingTree
closing_tree s c = record { args = map (tree s) c.args; tokens = c.tokens; scripts = scripts_tree s c.scripts }

abbrev pub case_tree : Stored → CaseForm → CaseTree
case_tree s c = record { clause = c.clause; taken = c.yes; scripts = scripts_tree s c.scripts }

abbrev pub proof_tree : Stored → ProofKind → ProofTree
proof_tree s (proof.Let n t) = tree_of.Let n (tree s t)
proof_tree s (proof.Do d) = tree_of.Exchange (do_tree s d)
proof_tree s (proof.Split n one two t ss) = tree_of.Split n one two (tree s t) (scripts_tree s ss)
proof_tree s (proof.Merge a b into) = tree_of.Merge a b into
proof_tree s (proof.Copy n new) = tree_of.Copy n new
proof_tree s (proof.Move t new) = tree_of.Move t new
proof_tree s (proof.Assert f label ss) = tree_of.Assert (formula s f) label (scripts_tree s ss)
proof_tree s (proof.Open names tokens label) = tree_of.Open names tokens label
proof_tree s (proof.Case c) = tree_of.Case (case_tree s c)
proof_tree s (proof.Close c) = tree_of.Close (closing_tree s c)
proof_tree s (proof.Still ss) = tree_of.Still (scripts_tree s ss)
proof_tree s (proof.Seal w at c) = tree_of.Seal w at (closing_tree s c)
proof_tree s (proof.Give t args ss) = tree_of.Give t (map (tree s) args) (scripts_tree s ss)

abbrev pub proof_step_tree : Stored → ProofStmt → ProofStepTree
proof_step_tree s p = record { what = proof_tree s p.what; line = p.line }

abbrev pub proof_steps_tree : Stored → List ProofStmt → List ProofStepTree
proof_steps_tree s ps = map (proof_step_tree s) ps

abbrev pub jump_tree : Stored → List TermId → List Script → JumpTree
jump_tree s args ss = record { args = map (tree s) args; scripts = scripts_tree s ss }

-- ---- lists of statements: a statement is what it puts before the rest of its list

abbrev pub Then : Type 0
Then = ListTree → ListTree

-- a tail after an operation on a word
abbrev pub TailThen : Type 0
TailThen = AtomicTree → ℕ → Then

abbrev pub before : List Then → ListTree → ListTree
before [] rest = rest
before (s ∷ ss) rest = s (before ss rest)

abbrev pub when_then : Stored → When-F (ℕ → Then) TailThen (ℕ → Then) ListTree Then TailThen → TailThen
when_then s w a line rest = OnWhen (record {
  atomic = a;
  test = record { cond = w.cond; label = w.label };
  first = proof_steps_tree s w.yes_proof;
  second = proof_steps_tree s w.no_proof;
}) line w.yes w.no (option_map (keep_tree s) w.joined) rest

-- no tail stands for `still`
abbrev pub tail_then : Stored → Tail-F (ℕ → Then) TailThen (ℕ → Then) ListTree Then TailThen → TailThen
tail_then s Tail-F.Plain a line rest =
    On (tree_of.Operate a (record { what = tree_of.Still []; line = line } ∷ [])) line rest
tail_then s (Tail-F.Tail::Proof ps) a line rest = On (tree_of.Operate a (proof_steps_tree s ps)) line rest
tail_then s (Tail-F.When w) a line rest = w a line rest

abbrev pub atomic_then : Stored → Atomic-F (ℕ → Then) TailThen (ℕ → Then) ListTree Then TailThen → ℕ → Then
atomic_then s a line rest =
    a.tail (record { op = a.op; local = a.local; word = a.word; index = index_tree s a.index; label = a.label })
    line rest

abbrev pub kind_then : Stored → StmtKind-F (ℕ → Then) TailThen (ℕ → Then) ListTree Then TailThen → ℕ → Then
kind_then s (StmtKind-F.Set x c label) line rest = Do (tree_of.Set x c label) line rest
kind_then s (StmtKind-F.Read x c i p ss) line rest =
    On (tree_of.Read x c (index_tree s i) p (scripts_tree s ss)) line rest
kind_then s (StmtKind-F.Write c i o p ss) line rest =
    On (tree_of.Write c (index_tree s i) o p (scripts_tree s ss)) line rest
kind_then s (StmtKind-F.Peek x c i d) line rest = On (tree_of.Peek x c (index_tree s i) (do_tree s d)) line rest
kind_then s (StmtKind-F.Word a) line rest = a line rest
kind_then s (StmtKind-F.Print l o) line rest = On (tree_of.Print l o) line rest
kind_then s (StmtKind-F.If c label p q k) line rest =
    If (record { cond = c; label = label }) line p q (option_map (keep_tree s) k) rest
kind_then s (StmtKind-F.Loop k args ss body left) line rest =
    Loop (keep_tree s k) (jump_tree s args ss) line body (option_map (keep_tree s) left) rest
kind_then s (StmtKind-F.Next args ss) line rest = Next (jump_tree s args ss) line rest
kind_then s (StmtKind-F.Break args ss) line rest = Break (jump_tree s args ss) line rest
kind_then s (StmtKind-F.Meet args ss) line rest = Meet (jump_tree s args ss) line rest
kind_then s (StmtKind-F.End args ss) line rest = End (jump_tree s args ss) line rest
kind_then s (StmtKind-F.StmtKind::Proof p) line rest = Do (tree_of.Proof (proof_tree s p)) line rest

abbrev pub stmt_then : Stmt-F (ℕ → Then) TailThen (ℕ → Then) ListTree Then TailThen → Then
stmt_then x = x.what x.line

abbrev pub list_then : List-F (ℕ → Then) TailThen (ℕ → Then) ListTree Then TailThen → ListTree
list_then l = before l.stmts (Brace l.end_line)

abbrev pub list_tree : Stored → ListNode → ListTree
list_tree s l =
    fold-List (ℕ → Then) TailThen (ℕ → Then) ListTree Then TailThen
    (kind_then s) (tail_then s) (atomic_then s) list_then stmt_then (when_then s) l

abbrev pub stmt_tree : Stored → StmtNode → Then
stmt_tree s x =
    fold-Stmt (ℕ → Then) TailThen (ℕ → Then) ListTree Then TailThen
    (kind_then s) (tail_then s) (atomic_then s) list_then stmt_then (when_then s) x

-- ---- programs

abbrev pub thread_tree : Stored → Thread → ThreadTree
thread_tree s t = record {
  name = t.name;
  takes = keep_tree s t.takes;
  ends = keep_tree s t.ends;
  body = list_tree s t.body;
  line = t.line;
}

abbrev pub start_tree : Stored → Start → StartTree
start_tree s x = record { form = do_tree s x.form; steps = proof_steps_tree s x.stmts; line = x.line }

abbrev pub program_tree : Stored → Program → ProgramTree
program_tree s p = record {
  decls = map (decl_tree s) p.decls;
  start = option_map (start_tree s) p.start;
  threads = map (thread_tree s) p.threads;
  last = option_map (list_tree s) p.last;
}

-- The ids of a program, its scripts' too, are of the store: whatever the store gains, the program stays the same.
abbrev pub IsProgramOf : Stored → Program → Type 0
IsProgramOf s p = (t : Stored) → Extends s t → program_tree t p ≡ program_tree s p

-- ---- code

abbrev pub CodeThen : Type 0
CodeThen = CodeList → CodeList

abbrev pub code_before : List CodeThen → CodeList → CodeList
code_before [] rest = rest
code_before (s ∷ ss) rest = s (code_before ss rest)

abbrev pub code_then : CodeStmt-F CodeThen → CodeThen
code_then (CodeStmt-F.Set x c) rest = Do (record { local = x; calc = c }) 0 rest
code_then (CodeStmt-F.Read x c i) rest = On (code.Read x c i) 0 rest
code_then (CodeStmt-F.Write c i o) rest = On (code.Write c i o) 0 rest
code_then (CodeStmt-F.Peek x c i) rest = On (code.Peek x c i) 0 rest
code_then (CodeStmt-F.Word x op w i) rest = On (code.Operate x op w i) 0 rest
code_then (CodeStmt-F.Print l o) rest = On (code.Print l o) 0 rest
code_then (CodeStmt-F.If c p q) rest = If c 0 (code_before p (Brace 0)) (code_before q (Brace 0)) None rest
code_then (CodeStmt-F.Loop body) rest = Loop tt tt 0 (code_before body (Brace 0)) (Some tt) rest
code_then CodeStmt-F.Next rest = Next tt 0 rest
code_then CodeStmt-F.Break rest = Break tt 0 rest
code_then CodeStmt-F.End rest = End tt 0 rest

-- a statement, as what it puts before the rest of its list
abbrev pub code_stmt_tree : CodeStmt → CodeThen
code_stmt_tree = fold-CodeStmt CodeThen code_then

abbrev pub code_list_tree : List CodeStmt → CodeList
code_list_tree ss = code_before (map code_stmt_tree ss) (Brace 0)

abbrev pub code_thread_tree : CodeThread → code.CodeThread
code_thread_tree t = record { name = t.name; body = code_list_tree t.body }

abbrev pub code_tree : Code → CodeTree
code_tree c = record {
  decls = c.decls;
  threads = map code_thread_tree c.threads;
  last = option_map code_list_tree c.last;
}
