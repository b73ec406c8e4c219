use Rattle.sync_typing_laws.proofs.ControlTyped.{rows_of}
use Rattle.sync_typing_laws.proofs.typed_lists_go_on.Goals as goal

pub returns : goal.returns
returns g c = λ fits x t parts rows. rows_of fits x g.T.Meant.meanings t parts rows
