use Rattle.std.proofs.Common.{Ok, sym, ap, ◌∙◌}
use Rattle.sync_terms.specs.Stored.{tree}
use Rattle.sync_read_names.proofs.Kept.{along, kept_tree}
use Rattle.sync_read.proofs.Going.{numbers_go}
use Rattle.sync_read.proofs.scripts.numbers.Goals as goal

pub loop-e-preserved : goal.loop-e-preserved
loop-e-preserved c =
    let l = c.loop-e in
    let id = c.in_ok-t.t in
    let grows = c.term_of.ensures.keeps in (
      λ t more. numbers_go c.args.scope.now (tree t) c.args.es.now l.e-index c.e-item.result l.held c.push.new.self id _
          c.loop-e-test.true c.e-item.is (c.in_ok-t.ensures.exact ∙ ap Ok (sym (kept_tree c.term_of.new.terms t id more c.in_ok-t.ensures.id))) c.in_ok-push.ensures.ok
          (l.invariant.0 t (along _ _ t grows more)),
      along _ _ _ l.invariant.1 grows,
    )
