use Rattle.sync_typing.proofs.Examples.{each_rule_is_broken}
use Rattle.sync_typing.proofs.each_rule_is_broken.Goals as goal

pub returns : goal.returns
returns c = each_rule_is_broken
