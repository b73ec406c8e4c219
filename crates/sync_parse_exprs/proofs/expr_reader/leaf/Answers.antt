use Rattle.std.proofs.Common.{◌≡◌, false, sym, ap, ◌∙◌, arith}
use Rattle.std.specs.Prelude.{is_some}
use Rattle.sync_lex.specs.declared.signs.Sign.TheVariants as sign
use Rattle.sync_lex.specs.Terminals.{is_sign}
use Rattle.sync_parse_exprs.specs.Expressions.{sum_of}
use Rattle.sync_parse_exprs.proofs.Lone.{name_is_sum, number_is_sum}
use Rattle.sync_parse_exprs.proofs.expr_reader.leaf.Goals as goal

pub returns-in-Name : goal.returns-in-Name
returns-in-Name c =
    let z = c.in_ok-behind.behind in
    let star : is_sign z sign.Star ≡ false = sym c.is.ensures ∙ c.if-is.false in
    let no_sum : is_some (sum_of z) ≡ false = ap is_some (sym c.sum_of.ensures) ∙ sym c.is_some.ensures ∙ c.if-is_some.false in
    λ inner. name_is_sum inner c.args.left c.args.terminals.now c.in_ok-first.rest.now c.in_ok-first.first z c.in_ok-behind.field-0-1.now c.in-Name.name c.in-Name.field-1
    c.in_ok-first.ensures c.in_ok-behind.ensures c.in-Name.is (λ e. omega arith) star no_sum

pub returns-in-Number : goal.returns-in-Number
returns-in-Number c =
    let z = c.in_ok-behind.behind in
    let star : is_sign z sign.Star ≡ false = sym c.is.ensures ∙ c.if-is.false in
    let no_sum : is_some (sum_of z) ≡ false = ap is_some (sym c.sum_of.ensures) ∙ sym c.is_some.ensures ∙ c.if-is_some.false in
    λ inner. rw c.number_leaf.ensures (number_is_sum inner c.args.left c.args.terminals.now c.in_ok-first.rest.now c.in_ok-first.first z c.in_ok-behind.field-0-1.now c.in-Number.number
    c.in_ok-first.ensures c.in_ok-behind.ensures c.in-Number.is (λ e. omega arith) star no_sum)
