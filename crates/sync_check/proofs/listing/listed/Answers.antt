use Rattle.sync_machine.specs.Views.{machine_tree}
use Rattle.sync_rules.proofs.Named.{HasFewFields-from_IsNamed}
use Rattle.sync_check.proofs.listing.listed.Goals as goal

pub obligations-requires-clause-fields : goal.obligations-requires-clause-fields
obligations-requires-clause-fields c = HasFewFields-from_IsNamed (machine_tree c.args.text.now.machine) c.in_ok-keeps_strategies.ensures.named
