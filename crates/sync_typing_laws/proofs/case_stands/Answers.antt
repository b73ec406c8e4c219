use Rattle.sync_typing_laws.proofs.Deciding.{case_stands}
use Rattle.sync_typing_laws.proofs.case_stands.Goals as goal

pub returns : goal.returns
returns c = case_stands
