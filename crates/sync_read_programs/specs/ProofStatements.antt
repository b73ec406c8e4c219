-- Proof statements of a program, or the first rule of names that they break.
use Rattle.std.specs.Prelude.{ℕ, ◌==◌, Bool, true, false, ◌&&◌, List, [], ◌∷◌, ◌++◌, length, map, slice_get, Option, Some, None, Result, Ok, if◌then◌else◌}
use Rattle.sync_base.specs.declared.stops.Refusal.{Refusal}
use Rattle.sync_base.specs.declared.stops.Rule.TheVariants.{N1, N3}
use Rattle.sync_base.specs.Outcome.{◌>>=◌}
use Rattle.sync_terms.specs.Trees.{Tree}
use Rattle.sync_parse_exprs.specs.declared.raw_names.RawName.{RawName}
use Rattle.sync_parse_programs.specs.declared.proof_statements.RawToken.{RawToken}
use Rattle.sync_parse_programs.specs.declared.proof_statements.RawDoForm.{RawDoForm}
use Rattle.sync_parse_programs.specs.declared.proof_statements.RawClosing.{RawClosing}
use Rattle.sync_parse_programs.specs.declared.proof_statements.RawLet.{RawLet}
use Rattle.sync_parse_programs.specs.declared.proof_statements.RawSplit.{RawSplit}
use Rattle.sync_parse_programs.specs.declared.proof_statements.RawMove.{RawMove}
use Rattle.sync_parse_programs.specs.declared.proof_statements.RawAssert.{RawAssert}
use Rattle.sync_parse_programs.specs.declared.proof_statements.RawPlainProof.{RawPlainProof}
use Rattle.sync_parse_programs.specs.declared.proof_statements.RawPlainProof.TheVariants as plain
use Rattle.sync_parse_programs.specs.declared.proof_statements.RawOpen.{RawOpen}
use Rattle.sync_parse_programs.specs.declared.proof_statements.RawCase.{RawCase}
use Rattle.sync_parse_programs.specs.declared.proof_statements.RawProofKind.{RawProofKind}
use Rattle.sync_parse_programs.specs.declared.proof_statements.RawProofKind.TheVariants as kind
use Rattle.sync_parse_programs.specs.declared.proof_statements.RawProofStatement.{RawProofStatement}
use Rattle.sync_parse_programs.specs.declared.proof_statements.RawSeal.{RawSeal}
use Rattle.sync_parse_programs.specs.declared.proof_statements.RawGive.{RawGive}
use Rattle.sync_parse_programs.specs.declared.proof_statements.RawStartKind.{RawStartKind}
use Rattle.sync_parse_programs.specs.declared.proof_statements.RawStartKind.TheVariants as start
use Rattle.sync_parse_programs.specs.declared.proof_statements.RawStartStatement.{RawStartStatement}
use Rattle.sync_thread.specs.declared.operands.Tok.{Tok}
use Rattle.sync_thread.specs.Programs.{DoTree, ClosingTree, CaseTree, ProofTree, ProofStepTree}
use Rattle.sync_thread.specs.Programs as tree
use Rattle.sync_read_names.specs.declared.scopes.Sort.TheVariants as sort
use Rattle.sync_read_names.specs.Scopes.{refuse, meaning_of}
use Rattle.sync_read_names.specs.Exprs.{term_of, form_of}
use Rattle.sync_read.specs.Scripts.{operation_meaning, numbers_from}
use Rattle.sync_read_programs.specs.declared.scopes.WordCounts.{WordCounts}
use Rattle.sync_read_programs.specs.declared.scopes.Call.{Call}
use Rattle.sync_read_programs.specs.declared.scopes.Purpose.{Purpose}
use Rattle.sync_read_programs.specs.declared.scopes.Purpose.TheVariants as purpose
use Rattle.sync_read_programs.specs.declared.scopes.ProgramScope.{ProgramScope}
use Rattle.sync_read_programs.specs.Scopes.{as_many, may_call, may_prove, prove_name, standing_of, is_cell, word_in, thread_named, next_list, with_constants, with_atomic}
use Rattle.sync_read_programs.specs.Operands.{place_of, token_name, token_name_if, label_of, scripts_from}
use Rattle.sync_read_programs.specs.Keeps.{proof_names_from}

-- ---- tokens and exchanges

-- `c[j]` stands in the start alone, of a cell
abbrev pub token_in : ProgramScope → RawToken → Result Tok Refusal
token_in s t = of t.at where
  of : Option ℕ → Result Tok Refusal
  of None = Ok (record { name = token_name t.name; at = None })
  of (Some j) =
      if s.starts && is_cell (standing_of s (token_name t.name)).declared
      then Ok (record { name = token_name t.name; at = Some (place_of j) })
      else refuse N1 t.name.line

unfoldable pub tokens_from : List Tok → ProgramScope → List RawToken → Result (List Tok) Refusal
tokens_from held s [] = Ok held
tokens_from held s (t ∷ ts) = do
  x ← token_in s t
  tokens_from (held ++ x ∷ []) s ts

abbrev pub token_or_no : ProgramScope → Option RawToken → Result (Option Tok) Refusal
token_or_no s None = Ok None
token_or_no s (Some t) = do
  x ← token_in s t
  Ok (Some x)

unfoldable pub tokens_or_no_from : List (Option Tok) → ProgramScope → List (Option RawToken) → Result (List (Option Tok)) Refusal
tokens_or_no_from held s [] = Ok held
tokens_or_no_from held s (t ∷ ts) = do
  x ← token_or_no s t
  tokens_or_no_from (held ++ x ∷ []) s ts

abbrev pub has_counts : Call → RawDoForm → Bool
has_counts c d = (length d.args == c.args) && ((length d.tokens == c.tokens) && (length d.given == c.given))

abbrev pub call_with : Option Call → Purpose → RawDoForm → ℕ → Result ℕ Refusal
call_with None p d op = refuse N1 d.operation.line
call_with (Some c) p d op =
    if may_call p c then (if has_counts c d then Ok op else refuse N3 d.operation.line) else refuse N1 d.operation.line

-- the number of an operation that may be called so
unfoldable pub called : Purpose → ProgramScope → RawDoForm → Result ℕ Refusal
called p s d = do
  op ← operation_meaning (meaning_of s.scope d.operation.name) d.operation.line
  call_with (slice_get s.calls op) p d op

-- an exchange behind its arguments
unfoldable pub exchange_with : ℕ → List Tree → ProgramScope → RawDoForm → Result (DoTree × ProgramScope) Refusal
exchange_with op args s d = do
  ts ← tokens_from [] s d.tokens
  ss ← scripts_from [] s d.scripts
  Ok (
    record {
      op = op;
      args = args;
      tokens = ts;
      given = map token_name d.given;
      label = label_of d.label;
      scripts = ss.0;
      line = d.operation.line;
    },
    ss.1,
  )

unfoldable pub exchange_in : Purpose → ProgramScope → RawDoForm → Result (DoTree × ProgramScope) Refusal
exchange_in p s d = do
  op ← called p s d
  args ← numbers_from [] s.scope d.args
  exchange_with op args s d

-- the exchange of the start, behind whose arguments constants are known
unfoldable pub start_exchange : ProgramScope → RawDoForm → Result (DoTree × ProgramScope) Refusal
start_exchange s d = do
  op ← called purpose.Start s d
  args ← numbers_from [] s.scope d.args
  exchange_with op args (with_constants s) d

unfoldable pub closing_in : ProgramScope → RawClosing → Result (ClosingTree × ProgramScope) Refusal
closing_in s c = do
  args ← numbers_from [] s.scope c.args
  ts ← tokens_or_no_from [] s c.tokens
  ss ← scripts_from [] s c.scripts
  Ok (record { args = args; tokens = ts; scripts = ss.0 }, ss.1)

-- as many values and tokens as the word has names and clauses
abbrev pub closes : WordCounts → RawClosing → ℕ → Result ℕ Refusal
closes w c line = if (length c.args == w.names) && (length c.tokens == w.clauses) then Ok w.clauses else refuse N3 line

-- ---- statements that stand everywhere

-- the name differs from locals and constants before its term is read, and is known behind it
unfoldable pub let_in : ProgramScope → RawLet → Result (ProofTree × ProgramScope) Refusal
let_in s l = do
  n ← may_prove s l.name
  t ← term_of sort.Number l.value s.scope
  s2 ← prove_name s l.name
  Ok (tree.Let n t, s2)

unfoldable pub split_in : ProgramScope → RawSplit → Result (ProofTree × ProgramScope) Refusal
split_in s x = do
  t ← term_of sort.Number x.amount s.scope
  ss ← scripts_from [] s x.scripts
  Ok (tree.Split (token_name x.token) (token_name x.first) (token_name x.second) t ss.0, ss.1)

unfoldable pub move_in : ProgramScope → RawMove → Result ProofTree Refusal
move_in s x = do
  t ← token_in s x.token
  Ok (tree.Move t (token_name x.given))

unfoldable pub assert_in : ProgramScope → RawAssert → Result (ProofTree × ProgramScope) Refusal
assert_in s x = do
  f ← form_of x.form s.scope
  ss ← scripts_from [] s x.scripts
  Ok (tree.Assert f (label_of x.label) ss.0, ss.1)

unfoldable pub plain_in : ProgramScope → RawPlainProof → Result (ProofTree × ProgramScope) Refusal
plain_in s (plain.Let x) = let_in s x
plain_in s (plain.Do d) = do
  x ← exchange_in purpose.Do s d
  Ok (tree.Exchange x.0, x.1)
plain_in s (plain.Split x) = split_in s x
plain_in s (plain.Merge x) = Ok (tree.Merge (token_name x.first) (token_name x.second) (token_name x.given), s)
plain_in s (plain.Copy x) = Ok (tree.Copy (token_name x.token) (token_name x.given), s)
plain_in s (plain.Move x) = do
  t ← move_in s x
  Ok (t, s)
plain_in s (plain.Assert x) = assert_in s x

-- ---- the block of an operation on a word

-- as many names as the word has, and a token for each clause without a guard
abbrev pub opens : WordCounts → RawOpen → ℕ → Result ℕ Refusal
opens w x line = if (length x.names == w.names) && (length x.tokens == w.unguarded) then Ok w.names else refuse N3 line

unfoldable pub open_in : WordCounts → ℕ → ProgramScope → RawOpen → Result (ProofTree × ProgramScope) Refusal
open_in w line s x = do
  n ← opens w x line
  ns ← proof_names_from false [] (next_list s) x.names
  Ok (tree.Open ns.0 (map token_name x.tokens) (label_of x.label), ns.1)

unfoldable pub case_in : ProgramScope → RawCase → Result (ProofTree × ProgramScope) Refusal
case_in s x = do
  ss ← scripts_from [] s x.scripts
  Ok (tree.Case (record { clause = place_of x.clause; taken = token_name_if x.yes; scripts = ss.0 }), ss.1)

unfoldable pub close_in : WordCounts → ℕ → ProgramScope → RawClosing → Result (ProofTree × ProgramScope) Refusal
close_in w line s c = do
  n ← closes w c line
  x ← closing_in s c
  Ok (tree.Close x.0, x.1)

unfoldable pub proof_in : WordCounts → ℕ → ProgramScope → RawProofKind → Result (ProofTree × ProgramScope) Refusal
proof_in w line s (kind.Plain x) = plain_in s x
proof_in w line s (kind.Open x) = open_in w line s x
proof_in w line s (kind.Case x) = case_in s x
proof_in w line s (kind.Close c) = close_in w line s c
proof_in w line s (kind.Still xs) = do
  ss ← scripts_from [] s xs
  Ok (tree.Still ss.0, ss.1)

unfoldable pub proof_step : WordCounts → ProgramScope → RawProofStatement → Result (ProofStepTree × ProgramScope) Refusal
proof_step w s x = do
  y ← proof_in w x.line s x.what
  Ok (record { what = y.0; line = x.line }, y.1)

unfoldable pub proof_steps_from : WordCounts → List ProofStepTree → ProgramScope → List RawProofStatement → Result (List ProofStepTree × ProgramScope) Refusal
proof_steps_from w held s [] = Ok (held, s)
proof_steps_from w held s (x ∷ xs) = do
  y ← proof_step w s x
  proof_steps_from w (held ++ y.0 ∷ []) y.1 xs

-- a block, in which `old` and `new` are known
unfoldable pub proof_block : WordCounts → ProgramScope → List RawProofStatement → Result (List ProofStepTree × ProgramScope) Refusal
proof_block w s xs = do
  ys ← proof_steps_from w [] (with_atomic true s) xs
  Ok (ys.0, with_atomic false ys.1)

-- ---- the start

unfoldable pub seal_in : ProgramScope → RawSeal → Result (ProofTree × ProgramScope) Refusal
seal_in s x = do
  w ← word_in s x.word
  n ← closes w x.closing x.word.line
  c ← closing_in s x.closing
  Ok (tree.Seal x.word.name (place_of x.at) c.0, c.1)

unfoldable pub give_in : ProgramScope → RawGive → Result (ProofTree × ProgramScope) Refusal
give_in s x = do
  e ← thread_named s x.thread
  n ← as_many (length x.args) e.names x.thread.line
  args ← numbers_from [] s.scope x.args
  ss ← scripts_from [] s x.scripts
  Ok (tree.Give x.thread.name args ss.0, ss.1)

unfoldable pub start_kind : ProgramScope → RawStartKind → Result (ProofTree × ProgramScope) Refusal
start_kind s (start.Plain x) = plain_in s x
start_kind s (start.Seal x) = seal_in s x
start_kind s (start.Give x) = give_in s x

unfoldable pub start_step : ProgramScope → RawStartStatement → Result (ProofStepTree × ProgramScope) Refusal
start_step s x = do
  y ← start_kind s x.what
  Ok (record { what = y.0; line = x.line }, y.1)

unfoldable pub start_steps_from : List ProofStepTree → ProgramScope → List RawStartStatement → Result (List ProofStepTree × ProgramScope) Refusal
start_steps_from held s [] = Ok (held, s)
start_steps_from held s (x ∷ xs) = do
  y ← start_step s x
  start_steps_from (held ++ y.0 ∷ []) y.1 xs
