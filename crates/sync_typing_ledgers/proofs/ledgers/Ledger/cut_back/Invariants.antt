use Rattle.std.proofs.Common.{◌≡◌, length}
use Rattle.sync_typing_ledgers.specs.Entries.{oldest}
use Rattle.sync_typing_ledgers.proofs.ledgers.Ledger.cut_back.Given as goal

abbrev pub invariant-loop-self : goal.invariant-loop-self
invariant-loop-self l = (oldest l.len l.self.entries ≡ oldest l.len l.fn.self.entries) × (l.self.floor ≡ l.fn.self.floor)

abbrev pub decreases-loop-self : goal.decreases-loop-self
decreases-loop-self l = length l.self.entries
