use Rattle.std.proofs.Common.{refl}
use Rattle.sync_parse_exprs.proofs.Lone.{sum_is_all}
use Rattle.sync_parse_exprs.proofs.expr_reader.lone.Goals as goal

pub returns-in-Some : goal.returns-in-Some
returns-in-Some c = λ inner run. sum_is_all inner c.args.left run c.args.terminals.now c.in_ok-what.rest.now c.in_ok-what.what c.in-Some.behind c.in-Some.field-0-1.now c.in-Some.ensures (c.in_ok-what.ensures inner)
    (c.if-ends_levels.ensures.relations refl) (c.if-ends_levels.ensures.ands refl) (c.if-ends_levels.ensures.ors refl) (c.if-ends_levels.ensures.implications refl)
