use Rattle.sync_cli.proofs.WordLists.{Asks-word}
use Rattle.sync_cli.proofs.commands.command_of.Goals as goal

pub returns-in-len1 : goal.returns-in-len1
returns-in-len1 c =
    Asks-word c.word-item.result c.args.words.now c.as_str.result.now c.command_named.result c.in-len1.len_at_least c.in-len1.len_below c.word-item.is c.as_str.ensures.value c.command_named.ensures
