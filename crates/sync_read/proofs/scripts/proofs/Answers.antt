use Rattle.std.proofs.Common.{sym, ap, ◌∙◌}
use Rattle.sync_read_names.proofs.Kept.{along}
use Rattle.sync_read.specs.Scripts.{proof_in}
use Rattle.sync_read.proofs.Going.{proofs_go}
use Rattle.sync_read.proofs.scripts.proofs.Goals as goal

pub loop-p-preserved : goal.loop-p-preserved
loop-p-preserved c =
    let l = c.loop-p in
    let grows = c.proof.ensures.keeps in (
      λ t more. proofs_go t l.scope c.proof.new.scope c.args.raw.now l.p-index c.p-item.result l.held c.push.new.self c.in_ok-made.made _
          c.loop-p-test.true c.p-item.is (ap (λ n. proof_in n l.scope c.p-item.result) (sym c.len.ensures) ∙ c.in_ok-made.ensures.exact t more) c.in_ok-push.ensures.ok
          (l.invariant.0 t (along _ _ t grows more)),
      along _ _ _ l.invariant.1 grows,
    )
