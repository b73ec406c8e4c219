use Rattle.sync_join.proofs.Bags.{value_at-apart}
use Rattle.sync_join.proofs.laws.other_fields.Goals as goal

pub returns : goal.returns
returns c = value_at-apart
