use Rattle.sync_check.specs.Texts.{text_tree}
use Rattle.sync_check.proofs.Accepting.{accepted, text_means}
use Rattle.sync_check.proofs.checking.check.Goals as goal

pub returns-clause-sound : goal.returns-clause-sound
returns-clause-sound c = accepted c.args.text.now (text_tree c.in_ok-text.text) c.number_of_scripts-scripts.result (text_means c.args.text.now (text_tree c.in_ok-text.text) c.in_ok-text.ensures.exact) c.in_ok-proved_machine.ensures.holds c.number_of_scripts-scripts.ensures
