use Rattle.sync_join.proofs.Bags.{join_of-front}
use Rattle.sync_join.proofs.laws.bag_order.Goals as goal

pub returns : goal.returns
returns c = join_of-front
