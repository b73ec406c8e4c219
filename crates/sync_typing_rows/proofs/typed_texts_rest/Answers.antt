use Rattle.sync_typing_rows.proofs.TextRests.{typed_texts_rest}
use Rattle.sync_typing_rows.proofs.typed_texts_rest.Goals as goal

pub returns : goal.returns
returns g c = typed_texts_rest g.T.Meant.meanings
