use Rattle.sync_machine.specs.Views.{machine_tree}
use Rattle.sync_check_sharding.proofs.Sharded.{are-sharded}
use Rattle.sync_check_sharding.proofs.machines.tokenized_machine.Goals as goal

pub returns-clause-sharded : goal.returns-clause-sharded
returns-clause-sharded c = are-sharded machine_tree c.accepted_machine.result c.accepted_machine.ensures.names c.accepted_machine.ensures.formed c.accepted_machine.ensures.strategies c.accepted_machine.ensures.holds
