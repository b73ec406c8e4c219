-- The canonical lexemes of a whole text.
use Rattle.std.specs.Prelude.{List, ◌++◌, map}
use Rattle.sync_print.specs.Lexemes.{Lexeme}
use Rattle.sync_print.specs.Texts.{PlainText, plain_machine, plain_proof}
use Rattle.sync_print.specs.ShowTexts.{show}
use Rattle.sync_print_programs.specs.Shown.{show_of}
use Rattle.sync_print_programs.specs.Written.{as_printed}
use Rattle.sync_parse_texts.specs.declared.text_reader.RawWholeText.{RawWholeText}
use Rattle.sync_parse_texts.specs.Texts.{program_part}

-- what the machine of a text and its proofs say
abbrev pub plain_part : RawWholeText → PlainText
plain_part t = record { machine = plain_machine t.machine; proofs = map plain_proof t.proofs }

-- the machine and its proofs, and behind them the program, where there is one
abbrev pub show_whole : RawWholeText → List Lexeme
show_whole t = show (plain_part t) ++ map as_printed (show_of program_part t.program)
