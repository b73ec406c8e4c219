-- A text that is longer than the limit is refused for that.
use Rattle.std.proofs.Common.{◌≡◌, ℕ, ◌<◌, List, length, Err, refl}
use Rattle.std.proofs.lemmas.Bool.{lt-ltb}
use Rattle.sync_base.specs.Limits.{longest_text}
use Rattle.sync_base.specs.declared.stops.Rule.TheVariants.{L1}
use Rattle.sync_lex.specs.Lexemes.{lexemes_of}
use Rattle.sync_lex.specs.Terminals.{terminals_in}
use Rattle.sync_parse_texts.specs.Texts.{whole_text}
use Rattle.sync_check.specs.Texts.{built_text_in}

pub built_text_in-too_long : (bytes : List ℕ) → longest_text < length bytes → built_text_in bytes ≡ Err (record { line = 1; rule = L1 })
unfolding built_text_in whole_text terminals_in lexemes_of
built_text_in-too_long bytes h = rw (lt-ltb longest_text (length bytes) h) refl
