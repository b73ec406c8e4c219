-- What is shown of a plain tree spells it: by the productions of the grammar, terminals that say its canonical lexemes are a raw
-- tree that says just this. What a text spells: one tree alone, within the limits, with its names as they are shown. And each tree that
-- a text can hold is spelled by its canonical bytes.
use Rattle.std.specs.Prelude.{◌≡◌, ◌≤◌, ℕ, List, [], length, Ok, All}
use Rattle.sync_base.specs.Limits.{longest_text}
use Rattle.sync_lex.specs.declared.terminals.Terminal.{Terminal}
use Rattle.sync_lex.specs.declared.terminals.Terminals.{Terminals}
use Rattle.sync_lex.specs.Terminals.{terminals_in}
use Rattle.sync_parse.specs.declared.trees.RawText.{RawText}
use Rattle.sync_parse.specs.Machines.{parsed}
use Rattle.sync_parse_forms.specs.Relations.{Spelled}
use Rattle.sync_parse_grammar.specs.Expressions.{AnExpr}
use Rattle.sync_parse_grammar.specs.Scripts.{Block}
use Rattle.sync_parse_grammar.specs.Texts.{Spells}
use Rattle.sync_print.specs.Exprs.{plain}
use Rattle.sync_print.specs.Scripts.{plain_block}
use Rattle.sync_print.specs.Texts.{PlainText, plain_text}
use Rattle.sync_print.specs.Lexemes.{Lexeme, printed}
use Rattle.sync_print.specs.ShowExprs.{show_expr}
use Rattle.sync_print.specs.ShowScripts.{show_block}
use Rattle.sync_print.specs.ShowTexts.{show}
use Rattle.sync_print_spelling.specs.Says.{Says}
use Rattle.sync_print_spelling.specs.Limits.{ExprFits, BlockFits, TextFits}
use Rattle.sync_print_spelling.specs.Names.{AreNames}
use Rattle.sync_print_spelling.specs.Namings.{names_said, terminal_names, in_order, LexemeFits}

-- no bytes spell two raw trees
abbrev pub OneTree : Type 0
OneTree = (text : List ℕ) (one other : RawText) → Spells text one → Spells text other → one ≡ other

-- what is read of a text is spelled by it
abbrev pub ReadIsSpelled : Type 0
ReadIsSpelled = (text : List ℕ) (raw : RawText) → parsed text ≡ Ok raw → Spells text raw

-- a production derives these terminals, as a raw tree that says this
pub record Derives {A B : Type 0} (production : Spelled A) (says : A → B) (said : B) (ts rest : List Terminal) : Type 0 where
  pub raw : A
  pub spelled : production ts rest raw
  pub is : says raw ≡ said

-- terminals that say what is shown of something, within the limits, spell it by a production
pub record ShownIsDerived {A B : Type 0} (production : Spelled A) (says : A → B) (shown : B → List Lexeme) (limits : B → Type 0) : Type 0 where
  pub holds : (x : B) → limits x → (ts rest : List Terminal) → Says (shown x) ts rest → Derives production says x ts rest

-- these bytes spell a raw tree that says this, and no other
pub record SaysText (t : PlainText) (text : List ℕ) : Type 0 where
  pub tree : RawText
  pub spelled : Spells text tree
  pub is : plain_text tree ≡ t
  pub only : (other : RawText) → Spells text other → plain_text other ≡ t

pub record ShowSpells : Type 0 where
  pub exprs : ShownIsDerived AnExpr plain show_expr ExprFits
  pub blocks : ShownIsDerived Block plain_block show_block BlockFits
  -- of a text, all of whose terminals say what is shown
  pub texts : (t : PlainText) → TextFits t → (text : List ℕ) (ws : Terminals) → terminals_in text ≡ Ok ws → Says (show t) ws.list [] → SaysText t text

-- what any text spells is within the limits, and its names are those that are shown of it, in the order in which they are shown
pub record SpelledFits : Type 0 where
  pub limits : (text : List ℕ) (raw : RawText) → Spells text raw → TextFits (plain_text raw)
  -- what is shown of it names only names of its list, and numbers that a text can hold
  pub lexemes : (text : List ℕ) (raw : RawText) → Spells text raw → All (LexemeFits raw.names) (show (plain_text raw))
  -- the terminals of the text name, one after another, what the shown lexemes name
  pub terminals : (text : List ℕ) (raw : RawText) (ws : Terminals) → Spells text raw → terminals_in text ≡ Ok ws → terminal_names raw.names ws.list ≡ names_said raw.names (show (plain_text raw))
  -- its list of names has just these, each where it first appears
  pub names : (text : List ℕ) (raw : RawText) → Spells text raw → raw.names.list ≡ in_order [] (names_said raw.names (show (plain_text raw)))

-- ---- each tree is spelled

-- the canonical bytes of a tree
abbrev pub canonical : RawText → List ℕ
canonical raw = printed raw.names (show (plain_text raw))

-- a tree that a text can hold: its numbers are within the limits, its names are names, each once, in the order in which they are
-- shown, and its canonical bytes are not too many
pub record CanBeWritten (raw : RawText) : Type 0 where
  pub limits : TextFits (plain_text raw)
  pub names : AreNames raw.names.list
  pub lexemes : All (LexemeFits raw.names) (show (plain_text raw))
  pub order : raw.names.list ≡ in_order [] (names_said raw.names (show (plain_text raw)))
  pub short : length (canonical raw) ≤ longest_text

-- these bytes spell a tree that says the same, with the same names
pub record SpellAgain (raw : RawText) (bytes : List ℕ) : Type 0 where
  pub tree : RawText
  pub spelled : Spells bytes tree
  pub is : plain_text tree ≡ plain_text raw
  pub same_names : tree.names ≡ raw.names

abbrev pub EachTreeIsSpelled : Type 0
EachTreeIsSpelled = (raw : RawText) → CanBeWritten raw → SpellAgain raw (canonical raw)
