use Rattle.std.proofs.Common.{ap, sym, ◌∙◌}
use Rattle.sync_read.specs.Resolving.{invariant_in}
use Rattle.sync_machine.specs.declared.machine.Invariant.{Invariant}
use Rattle.sync_terms.specs.Stored.{IsForm}
use Rattle.sync_read_names.proofs.Kept.{along}
use Rattle.sync_read.proofs.Growing.{invariants_stay}
use Rattle.sync_read.proofs.Going.{invariants_go, one_more}
use Rattle.sync_read.proofs.machines.invariants.Goals as goal

pub loop-i-preserved : goal.loop-i-preserved
loop-i-preserved c =
    let l = c.loop-i in
    let x = c.in_ok-made.made in
    let after = c.invariant.new.terms in
    let grows = c.invariant.ensures.keeps in (
      invariants_go l.terms after l.scope c.invariant.new.scope c.args.raw.now l.i-index c.i-item.result l.held c.push.new.self x _
          c.loop-i-test.true c.i-item.is grows l.invariant.1 (ap (λ n. invariant_in n l.scope c.i-item.result) (sym c.len.ensures) ∙ c.in_ok-made.ensures.exact) c.in_ok-push.ensures.ok l.invariant.0,
      one_more (λ (i : Invariant). IsForm after i.form) l.held c.push.new.self x c.in_ok-push.ensures.ok (invariants_stay _ _ l.held grows l.invariant.1) c.in_ok-made.ensures.id,
      along _ _ _ l.invariant.2 grows,
    )
