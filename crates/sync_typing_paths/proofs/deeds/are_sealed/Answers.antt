use Rattle.std.proofs.Common.{rules, ◌≡◌, true, false}
use Rattle.std.specs.HashMap.{get}
use Rattle.sync_typing_paths.specs.Deeds.{same_deed}
use Rattle.sync_typing_paths.proofs.Counting.{sealed_more, sealed_not, sealed_end}
use Rattle.sync_typing_paths.proofs.deeds.are_sealed.Goals as goal

pub returns-then-not-is_sealed : goal.returns-then-not-is_sealed
returns-then-not-is_sealed c = λ s.
    let fails : c.is_sealed.result ≡ false = search rules in
    sealed_not (λ d. get same_deed c.args.deeds.now d) s c.args.decls.now c.loop-decl.decl-index c.decl-item.result c.is_sealed.result _ c.loop-decl-test.true c.decl-item.is (c.is_sealed.ensures s) fails (c.loop-decl.invariant s)

pub loop-decl-preserved : goal.loop-decl-preserved
loop-decl-preserved c = λ s.
    let passes : c.is_sealed.result ≡ true = search rules in
    sealed_more (λ d. get same_deed c.args.deeds.now d) s c.args.decls.now c.loop-decl.decl-index c.decl-item.result c.is_sealed.result _ c.loop-decl-test.true c.decl-item.is (c.is_sealed.ensures s) passes (c.loop-decl.invariant s)

pub returns : goal.returns
returns c = λ s. sealed_end (λ d. get same_deed c.args.deeds.now d) s c.args.decls.now c.loop-decl.decl-index _ c.loop-decl-test.false (c.loop-decl.invariant s)
