use Rattle.std.proofs.Common.{sym, ◌∙◌}
use Rattle.sync_lex.proofs.Endings.{no_sign}
use Rattle.sync_lex.proofs.signs.sign_of.Goals as goal

pub returns-then-ends_in_digit : goal.returns-then-ends_in_digit
returns-then-ends_in_digit c = sym (no_sign c.args.bytes.now (sym c.ends_in_digit.ensures ∙ c.if-ends_in_digit.true))
