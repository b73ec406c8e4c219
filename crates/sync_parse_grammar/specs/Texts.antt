-- What a text spells.
use Rattle.std.specs.Prelude.{◌≡◌, ℕ, ◌+◌, ◌⊎◌, List, [], ◌∷◌, Ok, if◌then◌else◌}
use Rattle.sync_base.specs.declared.stops.Stop.{Stop}
use Rattle.sync_base.specs.declared.stops.Stop.TheVariants.{Refused, Memory}
use Rattle.sync_base.specs.declared.stops.Rule.TheVariants as rule
use Rattle.sync_lex.specs.declared.signs.Sign.{Sign}
use Rattle.sync_lex.specs.declared.signs.Sign.TheVariants as sign
use Rattle.sync_lex.specs.declared.terminals.TerminalKind.TheVariants as what
use Rattle.sync_lex.specs.declared.terminals.Terminal.{Terminal}
use Rattle.sync_lex.specs.declared.terminals.Terminals.{Terminals}
use Rattle.sync_lex.specs.Terminals.{is_sign, terminals_in}
use Rattle.sync_parse.specs.declared.trees.RawText.{RawText}
use Rattle.sync_parse.specs.declared.trees.RawMachine.{RawMachine}
use Rattle.sync_parse.specs.declared.trees.RawProof.{RawProof}
use Rattle.sync_parse_forms.specs.Relations.{Spelled, The, ANumber, Yields, ◌>>=◌, ◌>>◌}
use Rattle.sync_parse_grammar.specs.Machines.{Machine, Proofs}
use Rattle.sync_parse_grammar.specs.Shallow.{IsShallow}

-- the number behind the first terminal is 1
abbrev pub IsVersionOne : List Terminal → Type 0
IsVersionOne [] = ⊥
IsVersionOne (w ∷ []) = ⊥
IsVersionOne (w ∷ v ∷ ws) = v.what ≡ what.Number 1

-- "version" NUMBER, whichever the number is
unfoldable pub Version : Spelled ℕ
Version = do
  line ← The sign.Version
  ANumber
  Yields line

-- text = "version" NUMBER ";" machine [proofs]
unfoldable pub Text : Spelled (RawMachine × List RawProof)
Text = do
  Version
  The sign.Semicolon
  m ← Machine
  ps ← Proofs
  Yields (m, ps)

-- the bytes spell this raw tree: all of their terminals are a text of it, and its names are theirs
abbrev pub Spells : List ℕ → RawText → Type 0
Spells text raw = (ws : Terminals) × (terminals_in text ≡ Ok ws) × Text ws.list [] (raw.machine, raw.proofs) × (raw.names ≡ ws.names)

-- how often a sign or reserved word stands among terminals
unfoldable pub times_said : Sign → List Terminal → ℕ
times_said s [] = 0
times_said s (w ∷ ws) = (if is_sign w s then 1 else 0) + times_said s ws

-- so often `by` stands in the text
abbrev pub HasScripts : List ℕ → ℕ → Type 0
HasScripts text n = (ws : Terminals) × (terminals_in text ≡ Ok ws) × (times_said sign.By ws.list ≡ n)

-- why a text may be refused that a tree is spelled by: for want of memory, too deep, or another version than 1
abbrev pub MayRefuse : Stop → Type 0
MayRefuse Memory = Unit {0}
MayRefuse (Refused r) = (r.rule ≡ rule.G3) ⊎ (r.rule ≡ rule.G4)

-- the text says that it is of version 1
abbrev pub IsOfVersionOne : List ℕ → Type 0
IsOfVersionOne text = (ws : Terminals) × (terminals_in text ≡ Ok ws) × IsVersionOne ws.list

-- why such a text may be refused that spells this tree: for want of memory, or as too deep, and then the tree is not shallow
abbrev pub MayRefuseVersionOne : RawText → Stop → Type 0
MayRefuseVersionOne tree Memory = Unit {0}
MayRefuseVersionOne tree (Refused r) = (r.rule ≡ rule.G3) × ¬ (IsShallow tree)
