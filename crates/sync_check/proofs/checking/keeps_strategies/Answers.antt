use Rattle.sync_machine.specs.Views.{machine_tree}
use Rattle.sync_machine.proofs.Named.{named}
use Rattle.sync_check.proofs.checking.keeps_strategies.Goals as goal

pub returns-in-Ok-clause-named : goal.returns-in-Ok-clause-named
returns-in-Ok-clause-named c = named (machine_tree c.args.m.now) c.requires.names c.requires.formed
