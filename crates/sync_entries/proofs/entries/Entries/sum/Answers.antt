use Rattle.std.proofs.Common.{rules, ◌≡◌, ◌<◌, ◌^◌, ℤ, pos, ◌+ℤ◌, List, [], ◌∷◌, length, sym, ap, subst, ◌∙◌, arith}
use Rattle.std.specs.Prelude.{FitsSigned, SomeIff}
use Rattle.std.specs.Int.{w128}
use Rattle.std.proofs.lemmas.Int.{ints, to_z-of_z}
use Rattle.std.specs.List.{fold}
use Rattle.sync_entries.specs.Narrow.{HasNarrowValues, sum_of}
use Rattle.sync_entries.specs.Totals.{sum_in}
use Rattle.sync_entries.proofs.Ordered.{sum-map_in}
use Rattle.sync_entries.proofs.entries.Entries.sum.Goals as goal

abbrev sum_from : ℤ → List ℤ → ℤ
sum_from s ns = fold (λ (s n : ℤ). s +ℤ n) s ns

-- nothing is left: all is in the total
all_in : (t s : ℤ) (vs : List ℤ) → vs ≡ [] → sum_from t vs ≡ s → t ≡ s
all_in t s vs none e = sym (ap (sum_from t) none) ∙ e

-- one value goes into the total
one_in : (t u v s : ℤ) (vs ws : List ℤ) → vs ≡ v ∷ ws → sum_from t vs ≡ s → u ≡ t +ℤ v → sum_from u ws ≡ s
one_in t u v s vs ws first e is = ap (λ (q : ℤ). sum_from q ws) is ∙ sym (ap (sum_from t) first) ∙ e

pub loop-value-init : goal.loop-value-init
loop-value-init c =
    let z : sum_in c.zero-total.result ≡ pos 0 = c.zero-total.ensures.value in
    let n = c.zero-total.ensures.carries in
    let short : length c.into_iter-value-iterator.result < 2 ^ 63 = subst (λ (vs : List ℤ). length vs < 2 ^ 63) (sym c.into_iter-value-iterator.ensures.into_iter_gives) (subst (λ n. n < 2 ^ 63) (sym c.values-value-items.ensures.len) c.values-value-items.ensures.fits) in
    record {
      sum = ap (λ (n : ℤ). sum_from n c.into_iter-value-iterator.result) z;
      above = omega (arith, ints);
      below = omega (arith, ints);
    }

pub plus-total-requires-clause-above : goal.plus-total-requires-clause-above
plus-total-requires-clause-above c =
    let n = ap length c.in-Some.ensures.steps in
    let h = c.loop-value.invariant.above in
    omega (arith, ints)

pub plus-total-requires-clause-below : goal.plus-total-requires-clause-below
plus-total-requires-clause-below c =
    let n = ap length c.in-Some.ensures.steps in
    let h = c.loop-value.invariant.below in
    omega (arith, ints)

pub loop-value-preserved : goal.loop-value-preserved
loop-value-preserved c =
    let f : FitsSigned w128 c.in-Some.value.now = search rules in
    let v = to_z-of_z w128 c.in-Some.value.now f in
    let n = ap length c.in-Some.ensures.steps in
    let h = c.loop-value.invariant in
    let p = c.plus-total.ensures in
    record {
      sum = one_in (sum_in c.loop-value.total) (sum_in c.plus-total.result) c.in-Some.value.now (sum_from (pos 0) c.into_iter-value-iterator.result) c.loop-value.value-iterator c.next.new.self c.in-Some.ensures.steps h.sum (p.value ∙ ap (λ (q : ℤ). sum_in c.loop-value.total +ℤ q) v);
      above = omega (arith, ints, h.above, p.falls);
      below = omega (arith, ints, h.below, p.rises);
    }

pub returns-clause-sum : goal.returns-clause-sum
returns-clause-sum c =
    let is : sum_in c.loop-value.total ≡ sum_of c.args.self.now =
    all_in (sum_in c.loop-value.total) (sum_from (pos 0) c.into_iter-value-iterator.result) c.loop-value.value-iterator c.in-None.ensures.steps.0 c.loop-value.invariant.sum
    ∙ ap (sum_from (pos 0)) (c.into_iter-value-iterator.ensures.into_iter_gives ∙ c.values-value-items.ensures.rest)
    ∙ sym (sum-map_in c.self.inside.map.entries c.values-value-items.ensures.ordered)
    ∙ ap sum_of c.self.view_is in
    subst (λ (n : ℤ). SomeIff c.narrow.result (FitsSigned w128 n) n) is c.narrow.ensures

pub returns-clause-narrow : goal.returns-clause-narrow
returns-clause-narrow c = subst HasNarrowValues c.self.view_is c.self.invariant
