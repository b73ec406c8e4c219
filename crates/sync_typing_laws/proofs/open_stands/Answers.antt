use Rattle.sync_typing_laws.proofs.Opening.{open_stands}
use Rattle.sync_typing_laws.proofs.open_stands.Goals as goal

pub returns : goal.returns
returns c = open_stands
