use Rattle.sync_parse_programs.proofs.Decided.{statement_decided, program_decided}
use Rattle.sync_parse_programs.proofs.one_terminal_ahead_decides.Goals as goal

pub returns : goal.returns
returns c = (statement_decided, program_decided)
