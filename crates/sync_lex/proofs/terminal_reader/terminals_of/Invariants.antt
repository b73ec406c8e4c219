use Rattle.std.proofs.Common.{◌≡◌, [], drop}
use Rattle.std.specs.HashMap.{get_by}
use Rattle.std.specs.Str.{bytes_eq}
use Rattle.sync_lex.specs.Terminals.{terminals_after, Recalls}
use Rattle.sync_lex.proofs.terminal_reader.terminals_of.Given as goal

abbrev pub invariant-loop-lexeme : goal.invariant-loop-lexeme
invariant-loop-lexeme l = Recalls l.names (λ q. get_by (λ r. bytes_eq q r.now) l.met) × (terminals_after l.text l.list.items l.names (drop l.lexeme-index l.lexemes) ≡ terminals_after l.text [] [] l.lexemes)
