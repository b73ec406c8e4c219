use Rattle.sync_read_laws.proofs.ProgramsRead.{read_programs_keep_names}
use Rattle.sync_read_laws.proofs.read_programs_keep_names.Goals as goal

pub returns : goal.returns
returns c = read_programs_keep_names
