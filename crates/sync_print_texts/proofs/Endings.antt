-- What is written of a statement or an ending of one kind.
use Rattle.std.proofs.Common.{◌≡◌, List, [], inl, inr, sym, ap, ◌∙◌}
use Rattle.sync_base.specs.declared.names.NameList.{NameList}
use Rattle.sync_lex.specs.declared.signs.Sign.TheVariants as sign
use Rattle.sync_parse_exprs.specs.declared.raw_names.RawName.{RawName}
use Rattle.sync_parse_programs.specs.declared.operands.RawOperand.{RawOperand}
use Rattle.sync_parse_programs.specs.declared.proof_statements.RawProofStatement.{RawProofStatement}
use Rattle.sync_parse_programs.specs.declared.statements.RawTail.{RawTail}
use Rattle.sync_parse_programs.specs.declared.statements.RawStatementKind.{RawStatementKind}
use Rattle.sync_parse_programs.specs.declared.statements.RawTail.TheVariants as tail
use Rattle.sync_parse_programs.specs.declared.statements.RawStatementKind.TheVariants as stmt
use Rattle.sync_parse_programs.specs.Known.{◌▸◌, ◌◂◌}
use Rattle.sync_parse_programs.specs.ProofStatements.{proof_block}
use Rattle.sync_parse_programs.specs.Statements.{ending, print_form, statement_kind, tail_law, statement_law}
use Rattle.sync_print_programs.specs.Written.{write, known_written, written_statement, written_of}
use Rattle.sync_print_programs.proofs.Shrinks.{tail_code, kind_code}

pub ending_block : (names : NameList) (x : RawTail) (ys zs : List RawProofStatement) → x ≡ tail.Block ys → zs ≡ ys → written_of names (sign.Proof ▸ proof_block ◂ sign.Semicolon) zs ≡ written_of names ending x
unfolding ending
ending_block names x ys zs is same =
    ap (written_of names (sign.Proof ▸ proof_block ◂ sign.Semicolon)) same
    ∙ sym (ap (written_of names ending) is ∙ ap (write names (known_written names) (written_statement names) tail_code) (tail_law [] (inr (inl ys))))

pub printed_line : (names : NameList) (x : RawStatementKind) (local : RawName) (y : RawOperand) → x ≡ stmt.Print local y → written_of names print_form (local, y) ≡ written_of names statement_kind x
unfolding statement_kind
printed_line names x local y is =
    sym (ap (written_of names statement_kind) is ∙ ap (write names (known_written names) (written_statement names) kind_code) (statement_law (inr (inr (inl (local, y))))))
