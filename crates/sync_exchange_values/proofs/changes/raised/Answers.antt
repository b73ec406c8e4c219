use Rattle.std.proofs.Common.{rules, ◌≡◌, ℤ, pos, ◌+ℤ◌, Option, unwrap_or, sym, ap, subst, ◌∙◌, refl, arith, to_z, of_z}
use Rattle.std.specs.Prelude.{FitsSigned}
use Rattle.std.specs.Int.{w128}
use Rattle.std.proofs.lemmas.Int.{ints, to_z-of_z}
use Rattle.sync_terms.specs.Maps as maps
use Rattle.sync_exchange_values.proofs.Building.{up_ok, out_ok, gone_ok, up_wide}
use Rattle.sync_exchange_values.proofs.changes.raised.Goals as goal

pub same-map : goal.same-map
same-map c = refl

pub same-map-else-new-gt0 : goal.same-map-else-new-gt0
same-map-else-new-gt0 c = refl

pub same-map-else-count-gt0 : goal.same-map-else-count-gt0
same-map-else-count-gt0 c = refl

pub returns-in-Ok : goal.returns-in-Ok
returns-in-Ok c =
    let m = c.args.map in
    let k : to_z w128 (of_z w128 c.args.key) ≡ c.args.key = to_z-of_z w128 c.args.key c.ranges.key in
    let n : to_z w128 (of_z w128 c.args.count) ≡ c.args.count = to_z-of_z w128 c.args.count c.ranges.count in
    let fits : FitsSigned w128 c.unwrap_or-old.result = search rules in
    let o : to_z w128 (of_z w128 c.unwrap_or-old.result) ≡ c.unwrap_or-old.result = to_z-of_z w128 c.unwrap_or-old.result fits in
    let old : c.unwrap_or-old.result ≡ maps.get m c.args.key = c.unwrap_or-old.ensures ∙ ap (λ (o : Option ℤ). unwrap_or o (pos 0)) c.get.ensures.value ∙ ap (λ (q : ℤ). maps.get m q) k in
    let sum : (to_z w128 (of_z w128 c.unwrap_or-old.result) +ℤ to_z w128 (of_z w128 c.args.count)) ≡ maps.get m c.args.key +ℤ c.args.count = ap (λ (z : ℤ). z +ℤ to_z w128 (of_z w128 c.args.count)) (o ∙ old) ∙ ap (λ (z : ℤ). maps.get m c.args.key +ℤ z) n in
    let new : FitsSigned w128 c.in-Some.new = search rules in
    let is = c.in-Some.ensures.1 ∙ sum in
    let up = c.if-new-gt0.true in
    up_ok m c.put.new.self c.args.key c.args.count c.get.ensures.narrow (subst (FitsSigned w128) sum c.in-Some.ensures.0) (omega (arith, ints, up, is))
    (c.in-Ok.ensures.ok ∙ ap (λ (q : ℤ). maps.put m q (to_z w128 (of_z w128 c.in-Some.new))) k ∙ ap (λ (z : ℤ). maps.put m c.args.key z) (to_z-of_z w128 c.in-Some.new new ∙ is))

pub returns-else-new-gt0 : goal.returns-else-new-gt0
returns-else-new-gt0 c =
    let m = c.args.map in
    let k : to_z w128 (of_z w128 c.args.key) ≡ c.args.key = to_z-of_z w128 c.args.key c.ranges.key in
    let n : to_z w128 (of_z w128 c.args.count) ≡ c.args.count = to_z-of_z w128 c.args.count c.ranges.count in
    let fits : FitsSigned w128 c.unwrap_or-old.result = search rules in
    let o : to_z w128 (of_z w128 c.unwrap_or-old.result) ≡ c.unwrap_or-old.result = to_z-of_z w128 c.unwrap_or-old.result fits in
    let old : c.unwrap_or-old.result ≡ maps.get m c.args.key = c.unwrap_or-old.ensures ∙ ap (λ (o : Option ℤ). unwrap_or o (pos 0)) c.get.ensures.value ∙ ap (λ (q : ℤ). maps.get m q) k in
    let sum : (to_z w128 (of_z w128 c.unwrap_or-old.result) +ℤ to_z w128 (of_z w128 c.args.count)) ≡ maps.get m c.args.key +ℤ c.args.count = ap (λ (z : ℤ). z +ℤ to_z w128 (of_z w128 c.args.count)) (o ∙ old) ∙ ap (λ (z : ℤ). maps.get m c.args.key +ℤ z) n in
    let is = c.in-Some.ensures.1 ∙ sum in
    let low = c.if-new-gt0.false in
    out_ok m c.remove.new.self c.args.key c.args.count c.get.ensures.narrow (omega (arith, ints, low, is)) (c.remove.ensures.gone ∙ ap (λ (q : ℤ). maps.del m q) k)

pub returns-then-count-gt0 : goal.returns-then-count-gt0
returns-then-count-gt0 c =
    let m = c.args.map in
    let k : to_z w128 (of_z w128 c.args.key) ≡ c.args.key = to_z-of_z w128 c.args.key c.ranges.key in
    let n : to_z w128 (of_z w128 c.args.count) ≡ c.args.count = to_z-of_z w128 c.args.count c.ranges.count in
    let fits : FitsSigned w128 c.unwrap_or-old.result = search rules in
    let o : to_z w128 (of_z w128 c.unwrap_or-old.result) ≡ c.unwrap_or-old.result = to_z-of_z w128 c.unwrap_or-old.result fits in
    let old : c.unwrap_or-old.result ≡ maps.get m c.args.key = c.unwrap_or-old.ensures ∙ ap (λ (o : Option ℤ). unwrap_or o (pos 0)) c.get.ensures.value ∙ ap (λ (q : ℤ). maps.get m q) k in
    let sum : (to_z w128 (of_z w128 c.unwrap_or-old.result) +ℤ to_z w128 (of_z w128 c.args.count)) ≡ maps.get m c.args.key +ℤ c.args.count = ap (λ (z : ℤ). z +ℤ to_z w128 (of_z w128 c.args.count)) (o ∙ old) ∙ ap (λ (z : ℤ). maps.get m c.args.key +ℤ z) n in
    let up = c.if-count-gt0.true in
    up_wide m c.args.key c.args.count (subst (FitsSigned w128) old fits) c.ranges.count (λ w. c.in-None.ensures (subst (FitsSigned w128) (sym sum) w)) (omega (arith, ints, up, n))

pub returns-else-count-gt0 : goal.returns-else-count-gt0
returns-else-count-gt0 c =
    let m = c.args.map in
    let k : to_z w128 (of_z w128 c.args.key) ≡ c.args.key = to_z-of_z w128 c.args.key c.ranges.key in
    let n : to_z w128 (of_z w128 c.args.count) ≡ c.args.count = to_z-of_z w128 c.args.count c.ranges.count in
    let fits : FitsSigned w128 c.unwrap_or-old.result = search rules in
    let o : to_z w128 (of_z w128 c.unwrap_or-old.result) ≡ c.unwrap_or-old.result = to_z-of_z w128 c.unwrap_or-old.result fits in
    let old : c.unwrap_or-old.result ≡ maps.get m c.args.key = c.unwrap_or-old.ensures ∙ ap (λ (o : Option ℤ). unwrap_or o (pos 0)) c.get.ensures.value ∙ ap (λ (q : ℤ). maps.get m q) k in
    let sum : (to_z w128 (of_z w128 c.unwrap_or-old.result) +ℤ to_z w128 (of_z w128 c.args.count)) ≡ maps.get m c.args.key +ℤ c.args.count = ap (λ (z : ℤ). z +ℤ to_z w128 (of_z w128 c.args.count)) (o ∙ old) ∙ ap (λ (z : ℤ). maps.get m c.args.key +ℤ z) n in
    let low = c.if-count-gt0.false in
    gone_ok m c.remove-else-count-gt0.new.self c.args.key c.args.count c.get.ensures.narrow (subst (FitsSigned w128) old fits) c.ranges.count (λ w. c.in-None.ensures (subst (FitsSigned w128) (sym sum) w)) (omega (arith, ints, low, n))
    (c.remove-else-count-gt0.ensures.gone ∙ ap (λ (q : ℤ). maps.del m q) k)
