use Rattle.std.proofs.Common.{◌≡◌, List, length}
use Rattle.sync_join.specs.declared.values.Value.{Value}
use Rattle.sync_exchange.specs.Works.{laid_over}
use Rattle.sync_exchange.proofs.changes.unchanged.Given as goal

abbrev pub invariant-loop : goal.invariant-loop
invariant-loop l = ((vs : List Value) → laid_over l.news vs ≡ vs) × (length l.news ≡ l.counter)
