use Rattle.sync_machine.specs.Views.{machine_tree}
use Rattle.sync_machine.proofs.Named.{named_on_ok}
use Rattle.sync_machine.proofs.naming.well_formed.Goals as goal

pub returns-clause-named : goal.returns-clause-named
returns-clause-named c = named_on_ok c.check.result (machine_tree c.args.m.now) c.requires.names c.check.ensures
