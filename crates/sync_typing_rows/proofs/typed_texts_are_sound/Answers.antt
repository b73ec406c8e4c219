use Rattle.sync_typing_rows.proofs.TextSound.{typed_texts_are_sound}
use Rattle.sync_typing_rows.proofs.typed_texts_are_sound.Goals as goal

pub returns : goal.returns
returns c = typed_texts_are_sound
