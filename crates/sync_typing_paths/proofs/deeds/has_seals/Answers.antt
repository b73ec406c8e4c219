use Rattle.std.proofs.Common.{rules, ◌≡◌, true, sym, ◌∙◌}
use Rattle.std.specs.HashMap.{get}
use Rattle.sync_typing_paths.specs.Deeds.{is_once, same_deed, seals}
use Rattle.sync_typing_paths.proofs.Counting.{all_more}
use Rattle.sync_typing_paths.proofs.deeds.has_seals.Goals as goal

pub loop-at-preserved : goal.loop-at-preserved
loop-at-preserved c =
    let passes : c.is_once.result ≡ true = search rules in
    all_more (λ i. is_once (get same_deed c.args.deeds.now (seals c.args.word.now.name i))) c.loop-at.at c.args.word.now.len _ c.loop-at-test.true (sym c.is_once.ensures ∙ passes) c.loop-at.invariant
