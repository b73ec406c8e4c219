use Rattle.sync_typing.proofs.Parts.{typed_by_parts}
use Rattle.sync_typing.proofs.typed_by_parts.Goals as goal

pub returns : goal.returns
returns c = typed_by_parts
