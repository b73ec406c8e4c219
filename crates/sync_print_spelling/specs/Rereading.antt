-- What reading a printed text gives.
use Rattle.std.specs.Prelude.{◌≡◌, ◌⊎◌, ℕ, List, Result, Ok, Err}
use Rattle.sync_base.specs.declared.stops.Refusal.{Refusal}
use Rattle.sync_base.specs.declared.stops.Rule.TheVariants.{L1, G3}
use Rattle.sync_parse.specs.declared.trees.RawText.{RawText}
use Rattle.sync_parse.specs.Machines.{parsed}
use Rattle.sync_print.specs.Texts.{plain_text}

-- a tree that says the same, with the same names; or the text is too long, or too deep
abbrev pub Rereads : RawText → Result RawText Refusal → Type 0
Rereads raw (Ok again) = (plain_text again ≡ plain_text raw) × (again.names ≡ raw.names)
Rereads raw (Err r) = (r.rule ≡ L1) ⊎ (r.rule ≡ G3)

-- these bytes are read as this tree, but for its lines; or they are too long, or too deep
abbrev pub ReadsBack : RawText → List ℕ → Type 0
ReadsBack raw bytes = Rereads raw (parsed bytes)
