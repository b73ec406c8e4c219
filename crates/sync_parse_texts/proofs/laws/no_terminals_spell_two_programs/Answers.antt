use Rattle.sync_parse_texts.proofs.ReadPrograms.{one_program}
use Rattle.sync_parse_texts.proofs.laws.no_terminals_spell_two_programs.Goals as goal

pub returns : goal.returns
returns c = one_program
