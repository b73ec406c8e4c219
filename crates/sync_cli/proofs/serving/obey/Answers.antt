use Rattle.std.proofs.Common.{IfOk, sym, subst}
use Rattle.sync_cli.specs.Commands.{IsDone}
use Rattle.sync_cli.proofs.serving.obey.Goals as goal

pub returns-in-Obligations-clause-done : goal.returns-in-Obligations-clause-done
returns-in-Obligations-clause-done c =
    subst (λ command. IfOk c.list.result (IsDone command c.args.text.now)) (sym c.in-Obligations.is) c.list.ensures.means
