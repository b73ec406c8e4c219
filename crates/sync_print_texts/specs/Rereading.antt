-- What reading a printed text gives.
use Rattle.std.specs.Prelude.{◌≡◌, ◌⊎◌, ℕ, List, Result, Ok, Err}
use Rattle.sync_base.specs.declared.stops.Refusal.{Refusal}
use Rattle.sync_base.specs.declared.stops.Rule.TheVariants.{L1, G3}
use Rattle.sync_parse_forms.specs.Shows.{Same, SameLevels}
use Rattle.sync_parse_programs.specs.declared.statements.RawStatement.{RawStatement}
use Rattle.sync_parse_programs.specs.Known.{Known, an_expr, a_script, Production}
use Rattle.sync_parse_programs.specs.Statements.{statement}
use Rattle.sync_parse_texts.specs.declared.text_reader.RawWholeText.{RawWholeText}
use Rattle.sync_parse_texts.specs.Texts.{program_part, whole_text}
use Rattle.sync_print.specs.Exprs.{plain}
use Rattle.sync_print.specs.Scripts.{plain_block}
use Rattle.sync_print_texts.specs.Whole.{plain_part}

-- two expressions or scripts say the same: only lines and brackets may differ
abbrev pub known_same : (X : Type 0) → Known X → X → X → Type 0
known_same X an_expr a b = plain a ≡ plain b
known_same X a_script a b = plain_block a.block ≡ plain_block b.block

-- two statements say the same, with all that stands in their braces
abbrev pub SameStatement : RawStatement → RawStatement → Type 0
SameStatement a b = (depth : ℕ) × SameLevels known_same statement depth a b

-- what a production spells says the same twice
abbrev pub SayAlike : {A : Type 0} → Production A → A → A → Type 0
SayAlike c = Same known_same SameStatement c

-- two texts say the same, with the same names
pub record SaySame (again raw : RawWholeText) : Type 0 where
  pub plain_parts : plain_part again ≡ plain_part raw
  pub programs : SayAlike program_part again.program raw.program
  pub same_names : again.names ≡ raw.names

-- a tree that says the same; or the text is too long, or too deep
abbrev pub Rereads : RawWholeText → Result RawWholeText Refusal → Type 0
Rereads raw (Ok again) = SaySame again raw
Rereads raw (Err r) = (r.rule ≡ L1) ⊎ (r.rule ≡ G3)

-- these bytes are read as this tree, but for its lines; or they are too long, or too deep
abbrev pub ReadsBack : RawWholeText → List ℕ → Type 0
ReadsBack raw bytes = Rereads raw (whole_text bytes)
