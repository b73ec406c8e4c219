use Rattle.sync_typing_laws.proofs.ControlTyped.{after_rests}
use Rattle.sync_typing_laws.proofs.typed_programs_rest.Goals as goal

pub returns : goal.returns
returns g c = λ fits x premises start is ready sigma. after_rests fits x g.T.Meant.meanings premises start is ready sigma
