use Rattle.sync_machine.specs.Views.{machine_tree}
use Rattle.sync_check.specs.Texts.{text_tree}
use Rattle.sync_check.proofs.Accepting.{is_meant, are_own, text_means}
use Rattle.sync_check.proofs.checking.accepted_machine.Goals as goal

pub returns-clause-means : goal.returns-clause-means
returns-clause-means c = is_meant c.args.text.now (text_tree c.in_ok-text.text) machine_tree c.proved_machine.result (text_means c.args.text.now (text_tree c.in_ok-text.text) c.in_ok-text.ensures.exact) c.proved_machine.ensures.same

pub returns-clause-ids : goal.returns-clause-ids
returns-clause-ids c = are_own c.in_ok-text.text.machine c.proved_machine.result c.in_ok-text.ensures.ids c.proved_machine.ensures.grown
