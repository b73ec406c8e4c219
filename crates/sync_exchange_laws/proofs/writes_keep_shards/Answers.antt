use Rattle.sync_exchange_laws.proofs.Writing.{writes-keep-shards}
use Rattle.sync_exchange_laws.proofs.writes_keep_shards.Goals as goal

pub returns : goal.returns
returns c = writes-keep-shards
