use Rattle.sync_read_names.proofs.Kept.{along}
use Rattle.sync_read_programs.proofs.Made.{peek_made}
use Rattle.sync_read_programs.proofs.statements.peek.Goals as goal

pub returns-clause-exact : goal.returns-clause-exact
returns-clause-exact c t line more =
    peek_made c.args.scope.now _ _ _ t c.args.local c.args.raw.now line c.in_ok-name.name c.in_ok-cell.cell c.in_ok-index.index c.in_ok-via.via
    c.in_ok-name.ensures c.in_ok-cell.ensures (c.in_ok-index.ensures.exact t (along _ _ t c.exchange.ensures.keeps more))
    (c.in_ok-via.ensures.exact t more) c.in_ok-assign_name.ensures
