use Rattle.sync_typing_laws.proofs.ClosingStands.{close_stands}
use Rattle.sync_typing_laws.proofs.close_stands.Goals as goal

pub returns : goal.returns
returns c = close_stands
