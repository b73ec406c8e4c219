use Rattle.std.proofs.Common.{◌<◌, length, ap, ◌∙◌, arith}
use Rattle.sync_typing_ledgers.specs.Entries.{Kept, oldest}
use Rattle.sync_typing_ledgers.proofs.Hiding.{oldest_less}
use Rattle.sync_typing_ledgers.proofs.ledgers.Ledger.cut_back.Goals as goal

pub loop-self-preserved : goal.loop-self-preserved
loop-self-preserved c =
    let more : c.args.len < length c.loop-self.self.entries = omega (arith, c.loop-self-test.true, c.len.ensures) in (
      ap (λ (k : Kept). oldest c.args.len k.entries) c.pop.ensures ∙ oldest_less c.args.len c.loop-self.self.entries more ∙ c.loop-self.invariant.0,
      ap (λ (k : Kept). k.floor) c.pop.ensures ∙ c.loop-self.invariant.1,
    )
