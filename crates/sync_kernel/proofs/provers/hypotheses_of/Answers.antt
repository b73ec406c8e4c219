use Rattle.std.proofs.Common.{◌≡◌, ◌∷◌, ◌++◌, [], List, map, take, get_or, sym, ap, ◌∙◌}
use Rattle.std.proofs.lemmas.List.{map_push, take_more}
use Rattle.sync_terms.specs.declared.nodes.Sym.{Sym}
use Rattle.sync_kernel_facts.specs.Facts.{Fact, fact_of}
use Rattle.sync_kernel.proofs.provers.hypotheses_of.Goals as goal

pub loop-hyp-init : goal.loop-hyp-init
loop-hyp-init c = (c.new-ready.ensures.ready c.args.terms.now, c.new-ready.ensures.known c.args.terms.now)

pub loop-hyp-preserved : goal.loop-hyp-preserved
loop-hyp-preserved c =
    let s = c.args.terms.now in
    let xs = c.args.hyps.now in
    let i = c.loop-hyp.hyp-index in
    let h = c.hyp-item.result in
    let pushed : Fact = fact_of s (record { name = h.name; params = c.in_ok-params.params; form = h.form }) in
    let same : pushed ≡ fact_of s (get_or xs i h) =
    ap (λ (ps : List Sym). fact_of s (record { name = h.name; params = ps; form = h.form })) (c.in_ok-params.ensures ∙ c.as_slice.ensures) ∙ ap (fact_of s) c.hyp-item.is in (
      c.in_ok-push.ensures.ready,
      c.in_ok-push.ensures.known ∙ ap (λ (fs : List Fact). fs ++ pushed ∷ []) c.loop-hyp.invariant.1 ∙ ap (λ (f : Fact). map (fact_of s) (take i xs) ++ f ∷ []) same
          ∙ sym (ap (map (fact_of s)) (take_more xs i h c.loop-hyp-test.true) ∙ map_push (fact_of s) (take i xs) (get_or xs i h)),
    )
