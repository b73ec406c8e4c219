use Rattle.std.proofs.Common.{◌≡◌, take}
use Rattle.sync_exchange.specs.Exchange.{token_name}
use Rattle.sync_exchange.specs.Works.{variables_of}
use Rattle.sync_exchange.proofs.works.token_name.Given as goal

abbrev pub invariant-loop-v : goal.invariant-loop-v
invariant-loop-v l = l.name ≡ token_name l.field (variables_of (take l.v-index l.variables))
