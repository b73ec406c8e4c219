use Rattle.sync_exchange_laws.proofs.Succeeding.{exchanges-succeed}
use Rattle.sync_exchange_laws.proofs.exchanges_succeed.Goals as goal

pub returns : goal.returns
returns c = exchanges-succeed
