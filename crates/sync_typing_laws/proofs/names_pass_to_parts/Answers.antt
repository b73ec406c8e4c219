use Rattle.sync_typing_laws.proofs.ControlNamed.{parts_of}
use Rattle.sync_typing_laws.proofs.names_pass_to_parts.Goals as goal

pub returns : goal.returns
returns g c = λ x t. parts_of x g.T.Meant.meanings t
