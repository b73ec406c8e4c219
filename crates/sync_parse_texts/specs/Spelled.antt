-- What a whole text spells, by the productions.
use Rattle.std.specs.Prelude.{◌≡◌, ℕ, List, [], Ok}
use Rattle.sync_base.specs.declared.stops.Stop.{Stop}
use Rattle.sync_base.specs.declared.stops.Stop.TheVariants.{Refused, Memory}
use Rattle.sync_base.specs.declared.stops.Rule.TheVariants as rule
use Rattle.sync_lex.specs.declared.signs.Sign.TheVariants as sign
use Rattle.sync_lex.specs.declared.terminals.Terminals.{Terminals}
use Rattle.sync_lex.specs.Terminals.{terminals_in}
use Rattle.sync_parse_forms.specs.Relations.{Spelled, The, Yields, ◌>>=◌, ◌>>◌}
use Rattle.sync_parse_grammar.specs.Machines.{Machine, Proofs}
use Rattle.sync_parse_grammar.specs.Texts.{Version}
use Rattle.sync_parse_texts.specs.SpelledPrograms as programs
use Rattle.sync_parse_texts.specs.declared.text_reader.RawWholeText.{RawWholeText}
use Rattle.sync_parse_texts.specs.Texts.{program_part, Sections}

-- text = "version" NUMBER ";" machine [proofs] [program]
unfoldable pub WholeText : Spelled Sections
WholeText = do
  Version
  The sign.Semicolon
  m ← Machine
  ps ← Proofs
  p ← programs.Spells program_part
  Yields (m, (ps, p))

-- the bytes spell this raw tree: all of their terminals are a text of it, and its names are theirs
abbrev pub Spells : List ℕ → RawWholeText → Type 0
Spells text raw = (ws : Terminals) × (terminals_in text ≡ Ok ws) × WholeText ws.list [] (raw.machine, (raw.proofs, raw.program)) × (raw.names ≡ ws.names)

-- why a text of version 1 may be refused that a tree is spelled by: for want of memory, or too deep
abbrev pub MayRefuseVersionOne : Stop → Type 0
MayRefuseVersionOne Memory = Unit {0}
MayRefuseVersionOne (Refused r) = r.rule ≡ rule.G3
