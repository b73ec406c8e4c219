use Rattle.std.proofs.Common.{[], sym, ap, ◌∙◌}
use Rattle.sync_read_names.proofs.Kept.{along}
use Rattle.sync_read_programs.specs.Operands.{scripts_from}
use Rattle.sync_read_programs.proofs.Made.{read_made}
use Rattle.sync_read_programs.proofs.statements.read.Goals as goal

pub returns-clause-exact : goal.returns-clause-exact
returns-clause-exact c t line more =
    read_made c.args.scope.now _ _ _ t c.args.local c.args.raw.now line c.in_ok-name.name c.in_ok-cell.cell c.token_name.result c.in_ok-index.index c.in_ok-scripts.scripts
    c.in_ok-name.ensures c.in_ok-cell.ensures (c.in_ok-index.ensures.exact t (along _ _ t c.scripts.ensures.keeps more))
    (ap (scripts_from [] _) (sym c.as_slice.ensures) ∙ c.in_ok-scripts.ensures.exact t more) c.in_ok-assign_name.ensures c.token_name.ensures
