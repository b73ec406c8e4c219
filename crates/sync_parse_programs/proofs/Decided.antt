-- One terminal ahead decides in all productions of programs.
use Rattle.std.proofs.Common.{◌≡◌, ℕ, true, false, List, [], ◌∷◌, refl, ap}
use Rattle.sync_lex.specs.declared.terminals.Terminal.{Terminal}
use Rattle.sync_parse_forms.specs.Deciding.{decided, first, solid, closed}
use Rattle.sync_parse_forms.proofs.Levels.{nested_reads}
use Rattle.sync_parse_programs.specs.Known.{known_read, expr, script, scripts, args, names, label, numbered}
use Rattle.sync_parse_programs.specs.Operands.{operand, relation, condition, calculated, index, load, change, stored, cas, word_operation}
use Rattle.sync_parse_programs.specs.ProofStatements.{pattern, place, shape, keep_line, keep_fact, keep, guard, clause, in_squares, with_names, word_fact, word, cell, declaration, in_squares_number, tokens, kept_tokens, pair, opened, yes, token, do_form, kept_token, closing, let_form, split, merge, copy, move_form, assertion, plain_proof, opening, case_form, proof_kind, proof_statement, proof_block, seal, give, start_kind, start_statement}
use Rattle.sync_parse_programs.specs.Statements.{statement_row, list, joined, behind_loop, atomic, store, when_form, ending, read_form, peek, right_side, write_form, if_form, loop_form, jump, print_form, assignment, statement_kind, statement}
use Rattle.sync_parse_programs.specs.Programs.{start_block, start, thread, final_block, ended, program, statement_at, read}
use Rattle.sync_parse_programs.specs.Begun.{begun, begins_statement, behind_statement}

pub statement_decided : decided begun begins_statement behind_statement false statement behind_statement ≡ true
unfolding statement statement_kind write_form if_form loop_form jump print_form assignment right_side read_form peek ending when_form store atomic joined behind_loop statement_row list expr script scripts args names label numbered operand relation condition calculated index load change stored cas word_operation pattern place shape keep_line keep_fact keep in_squares_number tokens kept_tokens pair opened yes token do_form kept_token closing let_form split merge copy move_form assertion plain_proof opening case_form proof_kind proof_statement proof_block
statement_decided = refl

pub statement_first : first begun.first begins_statement statement behind_statement ≡ begins_statement
unfolding statement statement_kind write_form if_form loop_form jump print_form assignment right_side read_form peek ending when_form store atomic joined behind_loop statement_row list expr script scripts args names label numbered operand relation condition calculated index load change stored cas word_operation pattern place shape keep_line keep_fact keep in_squares_number tokens kept_tokens pair opened yes token do_form kept_token closing let_form split merge copy move_form assertion plain_proof opening case_form proof_kind proof_statement proof_block
statement_first = refl

pub statement_solid : solid statement ≡ true
unfolding statement statement_kind write_form if_form loop_form jump print_form assignment right_side store let_form split merge copy move_form assertion plain_proof
statement_solid = refl

pub statement_closed : closed false statement ≡ true
unfolding statement statement_kind write_form if_form loop_form jump print_form assignment right_side read_form peek ending when_form store atomic joined behind_loop statement_row list expr script scripts args names label numbered operand relation condition calculated index load change stored cas word_operation pattern place shape keep_line keep_fact keep in_squares_number tokens kept_tokens pair opened yes token do_form kept_token closing let_form split merge copy move_form assertion plain_proof opening case_form proof_kind proof_statement proof_block
statement_closed = refl

-- how a statement is read, one level unrolled
pub statement_reads : (left : ℕ) (ts : List Terminal) → statement_at left ts ≡ read statement left ts
unfolding statement_at
statement_reads left ts = ap (λ f. f ts) (nested_reads known_read statement statement_closed left)

-- nothing follows a program
pub program_decided : decided begun begins_statement behind_statement true program (0 ∷ []) ≡ true
unfolding program ended final_block thread start start_block start_statement start_kind give seal declaration cell word clause guard in_squares with_names word_fact statement_row list expr script scripts args names label numbered pattern place shape keep_line keep_fact keep in_squares_number tokens kept_tokens pair opened yes token do_form kept_token closing let_form split merge copy move_form assertion plain_proof
program_decided = refl
