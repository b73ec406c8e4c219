-- Statements of a program, or the first rule of names that they break: a statement is what it puts before the rest of
-- its list.
use Rattle.std.specs.Prelude.{ℕ, Bool, true, false, List, [], ◌∷◌, ◌++◌, length, Option, Some, None, option_map, Result, Ok}
use Rattle.sync_base.specs.declared.stops.Refusal.{Refusal}
use Rattle.sync_base.specs.Outcome.{◌>>=◌}
use Rattle.sync_parse_exprs.specs.declared.raw_names.RawName.{RawName}
use Rattle.sync_parse_programs.specs.declared.operands.RawOperand.{RawOperand}
use Rattle.sync_parse_programs.specs.declared.operands.RawCalculation.{RawCalculation}
use Rattle.sync_parse_programs.specs.declared.operands.RawCalculation.TheVariants as calculation
use Rattle.sync_parse_programs.specs.declared.operands.RawLoad.{RawLoad}
use Rattle.sync_parse_programs.specs.declared.operands.RawChange.{RawChange}
use Rattle.sync_parse_programs.specs.declared.operands.RawCas.{RawCas}
use Rattle.sync_parse_programs.specs.declared.operands.RawWordOperation.{RawWordOperation}
use Rattle.sync_parse_programs.specs.declared.operands.RawWordOperation.TheVariants as word
use Rattle.sync_parse_programs.specs.declared.proof_statements.RawKeep.{RawKeep}
use Rattle.sync_parse_programs.specs.declared.proof_statements.RawPlainProof.{RawPlainProof}
use Rattle.sync_parse_programs.specs.declared.statements.RawAtomic.{RawAtomic}
use Rattle.sync_parse_programs.specs.declared.statements.RawStore.{RawStore}
use Rattle.sync_parse_programs.specs.declared.statements.RawRead.{RawRead}
use Rattle.sync_parse_programs.specs.declared.statements.RawPeek.{RawPeek}
use Rattle.sync_parse_programs.specs.declared.statements.RawWrite.{RawWrite}
use Rattle.sync_parse_programs.specs.declared.statements.RawJump.{RawJump}
use Rattle.sync_parse_programs.specs.declared.statements.RawList.{RawList, fold-RawList}
use Rattle.sync_parse_programs.specs.declared.statements.RawStatement.{RawStatement, fold-RawStatement}
use Rattle.sync_parse_programs.specs.declared.statements.RawRightSide.TheOpen.{RawList-F, RawIf-F, RawLoop-F, RawStatement-F, RawWhen-F, RawTail-F, RawRightSide-F, RawStatementKind-F}
use Rattle.sync_thread.specs.declared.operands.WordOp.{WordOp}
use Rattle.sync_thread.specs.declared.operands.WordOp.TheVariants as op
use Rattle.sync_thread.specs.declared.operands.Opd.{Opd}
use Rattle.sync_thread.specs.Control.{Brace, Do, On, OnWhen, If, Loop, Next, Break, Meet, End}
use Rattle.sync_thread.specs.Programs.{IndexTree, AtomicTree, JumpTree, ListTree}
use Rattle.sync_thread.specs.Programs as tree
use Rattle.sync_thread.specs.Views.{Then, TailThen, before}
use Rattle.sync_read.specs.Scripts.{numbers_from}
use Rattle.sync_read_programs.specs.declared.scopes.WordCounts.{WordCounts}
use Rattle.sync_read_programs.specs.declared.scopes.Purpose.TheVariants as purpose
use Rattle.sync_read_programs.specs.declared.scopes.Aims.{Aims}
use Rattle.sync_read_programs.specs.declared.scopes.ProgramScope.{ProgramScope}
use Rattle.sync_read_programs.specs.Scopes.{as_many_if, may_assign, assign_name, word_in, cell_in, with_wrap, knows_wrap}
use Rattle.sync_read_programs.specs.Operands.{token_name, label_of, operand_in, two_operands, condition_in, calculation_in, scripts_from, index_in}
use Rattle.sync_read_programs.specs.Keeps.{keep_in, keep_if}
use Rattle.sync_read_programs.specs.ProofStatements.{exchange_in, plain_in, proof_block}

-- ---- operations on words

-- an operation on a word, with what the word has
pub record Operation : Type 0 where
  pub op : WordOp
  pub word : ℕ
  pub index : IndexTree
  pub counts : WordCounts

abbrev pub atomic_of : Operation → Option ℕ → Option RawName → AtomicTree
atomic_of o local label = record { op = o.op; local = local; word = o.word; index = o.index; label = label_of label }

unfoldable pub load_in : ProgramScope → RawLoad → Result (Operation × ProgramScope) Refusal
load_in s x = do
  w ← word_in s x.word
  i ← index_in s x.index
  Ok (record { op = op.Load; word = x.word.name; index = i.0; counts = w }, i.1)

-- an operation with an operand
unfoldable pub change_in : (Opd → WordOp) → ProgramScope → RawChange → Result (Operation × ProgramScope) Refusal
change_in make s x = do
  w ← word_in s x.word
  i ← index_in s x.index
  o ← operand_in i.1 x.operand
  Ok (record { op = make o; word = x.word.name; index = i.0; counts = w }, i.1)

unfoldable pub cas_in : ProgramScope → RawCas → Result (Operation × ProgramScope) Refusal
cas_in s x = do
  w ← word_in s x.word
  i ← index_in s x.index
  p ← two_operands i.1 x.expected x.changed
  Ok (record { op = op.Cas p.0 p.1; word = x.word.name; index = i.0; counts = w }, i.1)

unfoldable pub word_operation_in : ProgramScope → RawWordOperation → Result (Operation × ProgramScope) Refusal
word_operation_in s (word.Load x) = load_in s x
word_operation_in s (word.Swap x) = change_in op.Swap s x
word_operation_in s (word.Add x) = change_in op.Add s x
word_operation_in s (word.Sub x) = change_in op.Sub s x
word_operation_in s (word.Cas x) = cas_in s x

-- operations and calculations behind which `wrap` is theirs
abbrev pub wraps : RawWordOperation → Bool
wraps (word.Add x) = true
wraps (word.Sub x) = true
wraps (word.Load x) = false
wraps (word.Swap x) = false
wraps (word.Cas x) = false

abbrev pub calculation_wraps : RawCalculation → Bool
calculation_wraps (calculation.Plain a) = false
calculation_wraps (calculation.Plus a b) = true
calculation_wraps (calculation.Minus a b) = true
calculation_wraps (calculation.Times a n) = true
calculation_wraps (calculation.Over a n) = true
calculation_wraps (calculation.Modulo a n) = true

abbrev pub wrap_if : Bool → ProgramScope → ProgramScope
wrap_if true s = with_wrap true s
wrap_if false s = s

-- ---- statements without lists

unfoldable pub set_in : RawName → RawCalculation → Option RawName → ℕ → ProgramScope → Result (Then × ProgramScope) Refusal
set_in x c label line s = do
  n ← may_assign s x
  y ← calculation_in s c
  s2 ← assign_name (wrap_if (calculation_wraps c) s) x
  Ok (Do (tree.Set n y (label_of label)) line, s2)

unfoldable pub read_in : RawName → RawRead → ℕ → ProgramScope → Result (Then × ProgramScope) Refusal
read_in x r line s = do
  n ← may_assign s x
  c ← cell_in s r.cell
  i ← index_in s r.index
  ss ← scripts_from [] i.1 r.scripts
  s2 ← assign_name ss.1 x
  Ok (On (tree.Read n c i.0 (token_name r.permission) ss.0) line, s2)

unfoldable pub peek_in : RawName → RawPeek → ℕ → ProgramScope → Result (Then × ProgramScope) Refusal
peek_in x p line s = do
  n ← may_assign s x
  c ← cell_in s p.cell
  i ← index_in s p.index
  d ← exchange_in purpose.Via i.1 p.via
  s2 ← assign_name d.1 x
  Ok (On (tree.Peek n c i.0 d.0) line, s2)

unfoldable pub write_in : RawWrite → ℕ → ProgramScope → Result (Then × ProgramScope) Refusal
write_in w line s = do
  c ← cell_in s w.cell
  i ← index_in s w.index
  o ← operand_in i.1 w.operand
  ss ← scripts_from [] i.1 w.scripts
  Ok (On (tree.Write c i.0 o (token_name w.permission) ss.0) line, ss.1)

unfoldable pub print_in : RawName → RawOperand → ℕ → ProgramScope → Result (Then × ProgramScope) Refusal
print_in label o line s = do
  x ← operand_in s o
  Ok (On (tree.Print label.name x) line, s)

-- what a jump brings to its keep
unfoldable pub jump_in : Option ℕ → ℕ → ProgramScope → RawJump → Result (JumpTree × ProgramScope) Refusal
jump_in wanted line s j = do
  n ← as_many_if wanted (length j.args) line
  args ← numbers_from [] s.scope j.args
  ss ← scripts_from [] s j.scripts
  Ok (record { args = args; scripts = ss.0 }, ss.1)

unfoldable pub jumped : (JumpTree → ℕ → Then) → Option ℕ → ℕ → ProgramScope → RawJump → Result (Then × ProgramScope) Refusal
jumped make wanted line s j = do
  x ← jump_in wanted line s j
  Ok (make x.0 line, x.1)

unfoldable pub proof_statement : ℕ → ProgramScope → RawPlainProof → Result (Then × ProgramScope) Refusal
proof_statement line s x = do
  p ← plain_in s x
  Ok (Do (tree.Proof p.0) line, p.1)

-- ---- statements with lists

-- what each part of a statement is, behind what stands before it: to which keeps jumps go, and what is known
abbrev pub Statement : Type 0
Statement = Aims → ProgramScope → Result (Then × ProgramScope) Refusal

-- a statement at a line
abbrev pub Kind : Type 0
Kind = ℕ → Statement

-- what a local is given
abbrev pub RightSide : Type 0
RightSide = RawName → Kind

-- how an operation on a word with these counts ends
abbrev pub Tail : Type 0
Tail = WordCounts → Aims → ProgramScope → Result (TailThen × ProgramScope) Refusal

abbrev pub Body : Type 0
Body = Aims → ProgramScope → Result (ListTree × ProgramScope) Refusal

abbrev pub names_of : Option RawKeep → Option ℕ
names_of k = option_map (λ (k : RawKeep). length k.names) k

-- in a branch, `meet` goes to the `join`
abbrev pub in_branch : Option RawKeep → Aims → Aims
in_branch joined a = record a { meet = names_of joined }

abbrev pub in_loop : RawKeep → Option RawKeep → Aims → Aims
in_loop keep left a = record { next = Some (length keep.names); breaks = names_of left; meet = None; end = a.end }

abbrev pub when_in : RawWhen-F RightSide Kind Tail Kind Body Kind Statement Tail → Tail
when_in x w a s = do
  c ← condition_in s x.condition
  ps ← proof_block w s x.yes_proof
  p ← x.yes (in_branch x.joined a) ps.1
  qs ← proof_block w p.1 x.no_proof
  q ← x.no (in_branch x.joined a) qs.1
  k ← keep_if q.1 x.joined
  Ok ((λ o line. OnWhen (record { atomic = o; test = record { cond = c; label = label_of x.label }; first = ps.0; second = qs.0 }) line p.0 q.0 k.0), k.1)

-- no block stands for `still`
abbrev pub tail_in : RawTail-F RightSide Kind Tail Kind Body Kind Statement Tail → Tail
tail_in RawTail-F.Plain w a s = Ok ((λ o line. On (tree.Operate o (record { what = tree.Still []; line = line } ∷ [])) line), s)
tail_in (RawTail-F.Block xs) w a s = do
  ps ← proof_block w s xs
  Ok ((λ o line. On (tree.Operate o ps.0) line), ps.1)
tail_in (RawTail-F.When x) w a s = x w a s

-- the local is known in the tail
abbrev pub assigned_in : RawName → RawAtomic → Tail → Kind
assigned_in x o tail line a s = do
  n ← may_assign s x
  p ← word_operation_in s o.operation
  s2 ← assign_name (wrap_if (wraps o.operation) p.1) x
  t ← tail p.0.counts a s2
  Ok (t.0 (atomic_of p.0 (Some n) o.label) line, t.1)

abbrev pub stored_in : RawStore → Tail → Kind
stored_in x tail line a s = do
  p ← change_in op.Store s x.change
  t ← tail p.0.counts a p.1
  Ok (t.0 (atomic_of p.0 None x.label) line, t.1)

abbrev pub right_in : RawRightSide-F RightSide Kind Tail Kind Body Kind Statement Tail → RightSide
right_in (RawRightSide-F.Atomic o tail) x line a s = assigned_in x o tail line a s
right_in (RawRightSide-F.Read r) x line a s = read_in x r line s
right_in (RawRightSide-F.Peek p) x line a s = peek_in x p line s
right_in (RawRightSide-F.Calculated c label) x line a s = set_in x c label line s

abbrev pub if_in : RawIf-F RightSide Kind Tail Kind Body Kind Statement Tail → Kind
if_in x line a s = do
  c ← condition_in s x.condition
  p ← x.yes (in_branch x.joined a) s
  q ← x.no (in_branch x.joined a) p.1
  k ← keep_if q.1 x.joined
  Ok (If (record { cond = c; label = label_of x.label }) line p.0 q.0 k.0, k.1)

-- `wrap` is known in what `from` brings, and not in the loop's keeps and body
abbrev pub loop_in : RawLoop-F RightSide Kind Tail Kind Body Kind Statement Tail → Kind
loop_in x line a s = do
  k ← keep_in false (with_wrap false s) x.keep
  j ← jump_in (Some (length x.keep.names)) x.from_line (with_wrap (knows_wrap s) k.1) (record { args = x.args; scripts = x.scripts })
  b ← x.body (in_loop x.keep x.after a) (with_wrap false j.1)
  l ← keep_if b.1 x.after
  Ok (Loop k.0 j.0 line b.0 l.0, with_wrap (knows_wrap s) l.1)

abbrev pub kind_in : RawStatementKind-F RightSide Kind Tail Kind Body Kind Statement Tail → Kind
kind_in (RawStatementKind-F.Store x tail) line a s = stored_in x tail line a s
kind_in (RawStatementKind-F.Write w) line a s = write_in w line s
kind_in (RawStatementKind-F.Print label o) line a s = print_in label o line s
kind_in (RawStatementKind-F.If x) line a s = x line a s
kind_in (RawStatementKind-F.Loop x) line a s = x line a s
kind_in (RawStatementKind-F.Next j) line a s = jumped Next a.next line s j
kind_in (RawStatementKind-F.Break j) line a s = jumped Break a.breaks line s j
kind_in (RawStatementKind-F.Meet j) line a s = jumped Meet a.meet line s j
kind_in (RawStatementKind-F.End j) line a s = jumped End a.end line s j
kind_in (RawStatementKind-F.Proof x) line a s = proof_statement line s x
kind_in (RawStatementKind-F.Assign x r) line a s = r x line a s

abbrev pub statement_of : RawStatement-F RightSide Kind Tail Kind Body Kind Statement Tail → Statement
statement_of x = x.what x.line

unfoldable pub statements_from : Aims → List Then → ProgramScope → List Statement → Result (List Then × ProgramScope) Refusal
statements_from a held s [] = Ok (held, s)
statements_from a held s (x ∷ xs) = do
  y ← x a s
  statements_from a (held ++ y.0 ∷ []) y.1 xs

-- behind a list `wrap` is what it was before
abbrev pub body_of : RawList-F RightSide Kind Tail Kind Body Kind Statement Tail → Body
body_of x a s = do
  ys ← statements_from a [] s x.statements
  Ok (before ys.0 (Brace x.end_line), with_wrap (knows_wrap s) ys.1)

abbrev pub list_in : RawList → Body
list_in = fold-RawList RightSide Kind Tail Kind Body Kind Statement Tail right_in kind_in tail_in if_in body_of loop_in statement_of when_in

abbrev pub statement_in : RawStatement → Statement
statement_in = fold-RawStatement RightSide Kind Tail Kind Body Kind Statement Tail right_in kind_in tail_in if_in body_of loop_in statement_of when_in
