use Rattle.sync_typing_paths.proofs.Walks.{same_end}
use Rattle.sync_typing_paths.proofs.endings.end_line.Goals as goal

pub returns : goal.returns
returns c = λ s. same_end s c.args.list.now
