use Rattle.std.proofs.Common.{Ok, [], sym, ap, subst, ◌∙◌}
use Rattle.sync_base.specs.Outcome.{◌>>=◌, Stops}
use Rattle.sync_terms.specs.Plans.{Inst}
use Rattle.std.proofs.lemmas.Result.{err_from_is_err_and}
use Rattle.sync_read_names.proofs.Kept.{along, kept_formula}
use Rattle.sync_read.specs.Scripts.{parts_from, numbers_from, step_of, then_of}
use Rattle.sync_read.proofs.Going.{thens_go}
use Rattle.sync_read.proofs.Planned.{sum_made, inst_made, parts_made, split_made, cut_made, block_made, block_stops, first_stops, second_stops}
use Rattle.sync_read.proofs.Stepped.{stops_at, sum_of, inst_of, parts_of, split_of, read_of, size_of, total_of, cong_of, same_made, read_made, size_made, total_made, cong_made}
use Rattle.sync_read.proofs.scripts.+blocks.Goals as goal

pub block-loop-step-preserved : goal.block-loop-step-preserved
block-loop-step-preserved t c =
    let l = c.loop-step in
    let grows = c.step_of.ensures.keeps in (
      λ s more. thens_go (step_of c.args.scope.now) (then_of s) c.as_slice-step-items.result.now l.step-index c.step-item.result l.steps c.push.new.self c.in_ok-made.made _
          c.loop-step-test.true c.step-item.is (c.in_ok-made.ensures.exact s more) c.in_ok-push.ensures.ok (l.invariant.0 s (along _ _ s grows more)),
      along _ _ _ l.invariant.1 grows,
    )

pub block-returns-in_err-made-clause-exact : goal.block-returns-in_err-made-clause-exact
block-returns-in_err-made-clause-exact t c s more =
    let p = err_from_is_err_and c.from_residual.result c.from_residual.ensures.1 in
    rw (p.1, p.2) (block_stops c.in_err-made.field-0.0 c.args.scope.now c.args.raw.now c.as_slice-step-items.result.now c.loop-step.step-index c.step-item.result _
    c.loop-step-test.true c.step-item.is c.as_slice-step-items.ensures (c.loop-step.invariant.0 s (along _ _ s c.step_of.ensures.keeps more)) (c.in_err-made.ensures.exact s more))

pub block-returns-clause-exact : goal.block-returns-clause-exact
block-returns-clause-exact t c s more =
    block_made c.args.scope.now s c.args.raw.now c.as_slice-step-items.result.now c.loop-step.step-index c.loop-step.steps
    c.loop-step-test.false c.as_slice-step-items.ensures (c.loop-step.invariant.0 s more)

pub step_of-returns-in_ok-parts-in-Sum-clause-exact : goal.step_of-returns-in_ok-parts-in-Sum-clause-exact
step_of-returns-in_ok-parts-in-Sum-clause-exact t c s more =
    sum_made c.args.scope.now s c.args.raw.now c.in-Sum.list c.in_ok-parts-in-Sum.field-0 c.in-Sum.is (ap (parts_from c.args.scope.now []) (sym c.as_slice.ensures) ∙ c.in_ok-parts-in-Sum.ensures)
    ∙ ap (λ x. Ok (then_of s x)) (sym c.made-in-Sum.ensures)

pub step_of-returns-in_ok-es-in-Inst-clause-exact : goal.step_of-returns-in_ok-es-in-Inst-clause-exact
step_of-returns-in_ok-es-in-Inst-clause-exact t c s more =
    inst_made c.args.scope.now s c.args.raw.now c.in-Inst.h c.in-Inst.es c.in-Inst.n c.in_ok-h-in-Inst.h c.in_ok-es-in-Inst.es c.in-Inst.is c.in_ok-h-in-Inst.ensures
    (ap (numbers_from [] c.args.scope.now) (sym c.as_slice-in-Inst.ensures) ∙ c.in_ok-es-in-Inst.ensures.exact s more)
    ∙ ap (λ x. Ok (then_of s x)) (sym c.made-in-Inst.ensures)

pub step_of-returns-in_ok-hyp-in-Parts-clause-exact : goal.step_of-returns-in_ok-hyp-in-Parts-clause-exact
step_of-returns-in_ok-hyp-in-Parts-clause-exact t c s more =
    parts_made c.args.scope.now s c.args.raw.now c.in-Parts.h c.in-Parts.a c.in-Parts.b c.in_ok-hyp-in-Parts.field-0 c.in-Parts.is c.in_ok-hyp-in-Parts.ensures
    ∙ ap (λ x. Ok (then_of s x)) (sym c.made-in-Parts.ensures)

pub step_of-returns-in_ok-c-in-Split-clause-exact : goal.step_of-returns-in_ok-c-in-Split-clause-exact
step_of-returns-in_ok-c-in-Split-clause-exact t c s more =
    split_made c.args.scope.now s c.args.raw.now c.in-Split.h c.in-Split.n c.in-Split.b c.in-Split.c c.in_ok-h-in-Split.h c.in_ok-b-in-Split.b c.in_ok-c-in-Split.c c.in-Split.is
    c.in_ok-h-in-Split.ensures (c.in_ok-b-in-Split.ensures.exact s (along _ _ s c.block-in-Split.ensures.keeps more)) (c.in_ok-c-in-Split.ensures.exact s more)
    ∙ ap (λ x. Ok (then_of s x)) (sym c.made-in-Split.ensures)

pub step_of-returns-in_ok-b-in-Cut-clause-exact : goal.step_of-returns-in_ok-b-in-Cut-clause-exact
step_of-returns-in_ok-b-in-Cut-clause-exact t c s more =
    let kept = kept_formula c.form_of.new.terms s c.in_ok-f-in-Cut.f (along _ _ s c.block-in-Cut.ensures.keeps more) c.in_ok-f-in-Cut.ensures.id in
    cut_made c.args.scope.now s c.args.raw.now c.in-Cut.e c.in-Cut.n c.in-Cut.b c.in_ok-f-in-Cut.f c.in_ok-b-in-Cut.b c.in-Cut.is
    (c.in_ok-f-in-Cut.ensures.exact ∙ ap Ok (sym kept)) (c.in_ok-b-in-Cut.ensures.exact s more)
    ∙ ap (λ x. Ok (then_of s x)) (sym c.made-in-Cut.ensures)

pub step_of-returns-in_err-b-in-Split-clause-exact : goal.step_of-returns-in_err-b-in-Split-clause-exact
step_of-returns-in_err-b-in-Split-clause-exact t c s more =
    let i = c.in-Split in
    let p = err_from_is_err_and c.from_residual-in_err-b-in-Split.result c.from_residual-in_err-b-in-Split.ensures.1 in
    rw (p.1, p.2) (first_stops c.in_err-b-in-Split.field-0.0 c.args.scope.now c.args.raw.now i.h i.n i.b i.c c.in_ok-h-in-Split.h i.is c.in_ok-h-in-Split.ensures (c.in_err-b-in-Split.ensures.exact s more))

pub step_of-returns-in_err-c-in-Split-clause-exact : goal.step_of-returns-in_err-c-in-Split-clause-exact
step_of-returns-in_err-c-in-Split-clause-exact t c s more =
    let i = c.in-Split in
    let p = err_from_is_err_and c.from_residual-in_err-c-in-Split.result c.from_residual-in_err-c-in-Split.ensures.1 in
    rw (p.1, p.2) (second_stops c.in_err-c-in-Split.field-0.0 c.args.scope.now c.args.raw.now i.h i.n i.b i.c c.in_ok-h-in-Split.h _ i.is c.in_ok-h-in-Split.ensures
    (c.in_ok-b-in-Split.ensures.exact s (along _ _ s c.block-in-Split.ensures.keeps more)) (c.in_err-c-in-Split.ensures.exact s more))

pub step_of-returns-in_err-parts-in-Sum-clause-exact : goal.step_of-returns-in_err-parts-in-Sum-clause-exact
step_of-returns-in_err-parts-in-Sum-clause-exact t c s more =
    let i = c.in-Sum in
    let p = err_from_is_err_and c.from_residual.result c.from_residual.ensures.1 in
    rw (p.1, p.2) (stops_at c.in_err-parts-in-Sum.field-0.0 _ _ _ (sum_of c.args.scope.now c.args.raw.now i.list i.is) (subst (λ xs. Stops c.in_err-parts-in-Sum.field-0.0 (parts_from c.args.scope.now [] xs)) c.as_slice.ensures c.in_err-parts-in-Sum.ensures))

pub step_of-returns-in_err-h-in-Inst-clause-exact : goal.step_of-returns-in_err-h-in-Inst-clause-exact
step_of-returns-in_err-h-in-Inst-clause-exact t c s more =
    let i = c.in-Inst in
    let p = err_from_is_err_and c.from_residual-in_err-h-in-Inst.result c.from_residual-in_err-h-in-Inst.ensures.1 in
    rw (p.1, p.2) (stops_at c.in_err-h-in-Inst.field-0.0 _ _ _ (inst_of c.args.scope.now c.args.raw.now i.h i.es i.n i.is) (c.in_err-h-in-Inst.ensures))

pub step_of-returns-in_err-hyp-in-Parts-clause-exact : goal.step_of-returns-in_err-hyp-in-Parts-clause-exact
step_of-returns-in_err-hyp-in-Parts-clause-exact t c s more =
    let i = c.in-Parts in
    let p = err_from_is_err_and c.from_residual-in_err-hyp-in-Parts.result c.from_residual-in_err-hyp-in-Parts.ensures.1 in
    rw (p.1, p.2) (stops_at c.in_err-hyp-in-Parts.field-0.0 _ _ _ (parts_of c.args.scope.now c.args.raw.now i.h i.a i.b i.is) (c.in_err-hyp-in-Parts.ensures))

pub step_of-returns-in_err-h-in-Split-clause-exact : goal.step_of-returns-in_err-h-in-Split-clause-exact
step_of-returns-in_err-h-in-Split-clause-exact t c s more =
    let i = c.in-Split in
    let p = err_from_is_err_and c.from_residual-in_err-h-in-Split.result c.from_residual-in_err-h-in-Split.ensures.1 in
    rw (p.1, p.2) (stops_at c.in_err-h-in-Split.field-0.0 _ _ _ (split_of c.args.scope.now c.args.raw.now i.h i.n i.b i.c i.is) (c.in_err-h-in-Split.ensures))

pub step_of-returns-in_err-m-in-Read-clause-exact : goal.step_of-returns-in_err-m-in-Read-clause-exact
step_of-returns-in_err-m-in-Read-clause-exact t c s more =
    let i = c.in-Read in
    let p = err_from_is_err_and c.from_residual-in_err-m-in-Read.result c.from_residual-in_err-m-in-Read.ensures.1 in
    rw (p.1, p.2) (stops_at c.in_err-m-in-Read.field-0.0 _ _ _ (read_of c.args.scope.now c.args.raw.now i.m i.k i.n i.is) (c.in_err-m-in-Read.ensures.exact s more))

pub step_of-returns-in_err-m-in-Size-clause-exact : goal.step_of-returns-in_err-m-in-Size-clause-exact
step_of-returns-in_err-m-in-Size-clause-exact t c s more =
    let i = c.in-Size in
    let p = err_from_is_err_and c.from_residual-in_err-m-in-Size.result c.from_residual-in_err-m-in-Size.ensures.1 in
    rw (p.1, p.2) (stops_at c.in_err-m-in-Size.field-0.0 _ _ _ (size_of c.args.scope.now c.args.raw.now i.m i.k i.n i.is) (c.in_err-m-in-Size.ensures.exact s more))

pub step_of-returns-in_err-m-in-Total-clause-exact : goal.step_of-returns-in_err-m-in-Total-clause-exact
step_of-returns-in_err-m-in-Total-clause-exact t c s more =
    let i = c.in-Total in
    let p = err_from_is_err_and c.from_residual-in_err-m-in-Total.result c.from_residual-in_err-m-in-Total.ensures.1 in
    rw (p.1, p.2) (stops_at c.in_err-m-in-Total.field-0.0 _ _ _ (total_of c.args.scope.now c.args.raw.now i.m i.k i.n i.is) (c.in_err-m-in-Total.ensures.exact s more))

pub step_of-returns-in_err-m-in-Cong-clause-exact : goal.step_of-returns-in_err-m-in-Cong-clause-exact
step_of-returns-in_err-m-in-Cong-clause-exact t c s more =
    let i = c.in-Cong in
    let p = err_from_is_err_and c.from_residual-in_err-m-in-Cong.result c.from_residual-in_err-m-in-Cong.ensures.1 in
    rw (p.1, p.2) (stops_at c.in_err-m-in-Cong.field-0.0 _ _ _ (cong_of c.args.scope.now c.args.raw.now i.m i.j i.k i.n i.is) (c.in_err-m-in-Cong.ensures.exact s more))

pub step_of-returns-in_err-es-in-Inst-clause-exact : goal.step_of-returns-in_err-es-in-Inst-clause-exact
step_of-returns-in_err-es-in-Inst-clause-exact t c s more =
    let i = c.in-Inst in
    let p = err_from_is_err_and c.from_residual-in_err-es-in-Inst.result c.from_residual-in_err-es-in-Inst.ensures.1 in
    rw (p.1, p.2) (stops_at c.in_err-es-in-Inst.field-0.0 _ _ _ (inst_of c.args.scope.now c.args.raw.now i.h i.es i.n i.is ∙ ap (λ r. r >>= (λ y. numbers_from [] c.args.scope.now i.es >>= (λ ts. Ok (Inst c.args.raw.now.line y ts i.n.name)))) c.in_ok-h-in-Inst.ensures)
    (subst (λ xs. Stops c.in_err-es-in-Inst.field-0.0 (numbers_from [] c.args.scope.now xs)) c.as_slice-in-Inst.ensures (c.in_err-es-in-Inst.ensures.exact s more)))

pub step_of-returns-in-Same-clause-exact : goal.step_of-returns-in-Same-clause-exact
step_of-returns-in-Same-clause-exact t c s more = same_made c.args.scope.now s c.args.raw.now c.in-Same.is ∙ ap (λ x. Ok (then_of s x)) (sym c.made.ensures)

pub step_of-returns-in_ok-m-in-Read-clause-exact : goal.step_of-returns-in_ok-m-in-Read-clause-exact
step_of-returns-in_ok-m-in-Read-clause-exact t c s more =
    let i = c.in-Read in
    read_made c.args.scope.now s c.args.raw.now i.m i.k i.n c.in_ok-m-in-Read.m c.in_ok-m-in-Read.k i.is (c.in_ok-m-in-Read.ensures.exact s more)
    ∙ ap (λ x. Ok (then_of s x)) (sym c.made-in-Read.ensures)

pub step_of-returns-in_ok-m-in-Size-clause-exact : goal.step_of-returns-in_ok-m-in-Size-clause-exact
step_of-returns-in_ok-m-in-Size-clause-exact t c s more =
    let i = c.in-Size in
    size_made c.args.scope.now s c.args.raw.now i.m i.k i.n c.in_ok-m-in-Size.m c.in_ok-m-in-Size.k i.is (c.in_ok-m-in-Size.ensures.exact s more)
    ∙ ap (λ x. Ok (then_of s x)) (sym c.made-in-Size.ensures)

pub step_of-returns-in_ok-m-in-Total-clause-exact : goal.step_of-returns-in_ok-m-in-Total-clause-exact
step_of-returns-in_ok-m-in-Total-clause-exact t c s more =
    let i = c.in-Total in
    total_made c.args.scope.now s c.args.raw.now i.m i.k i.n c.in_ok-m-in-Total.m c.in_ok-m-in-Total.k i.is (c.in_ok-m-in-Total.ensures.exact s more)
    ∙ ap (λ x. Ok (then_of s x)) (sym c.made-in-Total.ensures)

pub step_of-returns-in_ok-m-in-Cong-clause-exact : goal.step_of-returns-in_ok-m-in-Cong-clause-exact
step_of-returns-in_ok-m-in-Cong-clause-exact t c s more =
    let i = c.in-Cong in
    cong_made c.args.scope.now s c.args.raw.now i.m i.j i.k i.n c.in_ok-m-in-Cong.m c.in_ok-m-in-Cong.j c.in_ok-m-in-Cong.k i.is (c.in_ok-m-in-Cong.ensures.exact s more)
    ∙ ap (λ x. Ok (then_of s x)) (sym c.made-in-Cong.ensures)
