use Rattle.std.proofs.Common.{◌≡◌, ℤ, pos, ◌+◌, ◌+ℤ◌, List, get_or, drop, subst, sym, ap, ◌∙◌, rules, SFits, to_z, of_z}
use Rattle.std.specs.Int.{w128}
use Rattle.std.proofs.lemmas.Int.{to_z-of_z}
use Rattle.sync_join.specs.declared.tokens.Token.{Token}
use Rattle.sync_join.specs.Join.{tokens_of, sum_of}
use Rattle.sync_join.specs.Widths.{SumsFit}
use Rattle.sync_join.proofs.Through.{is_same, is_other, other-drop, sum-own, fits-own, later-own}
use Rattle.sync_join.proofs.sums.sum_of.Goals as goal
use Rattle.sync_join.proofs.sums.sum_of.Goals.{then-token-field+in_ok-sum, else-token-field}

pub loop-token-preserved : goal.loop-token-preserved
loop-token-preserved c =
    let f = c.args.field in
    let xs = c.args.tokens.now in
    let i = c.loop-token.token-index in
    let d : Token = record { field = 0; key = pos 0; value = pos 0 } in
    let t = get_or xs i d in
    let old = to_z w128 c.loop-token.sum-bits in
    let new = to_z w128 c.if-token-field.sum-bits in
    let inside = c.loop-token-test.true in
    let inv = c.loop-token.invariant in
    elim c.if-token-field.branch [
      | then-token-field+in_ok-sum w ↦
          (let value_fits : SFits w128 t.value = search rules in
          let v : to_z w128 (of_z w128 t.value) ≡ t.value = to_z-of_z w128 t.value value_fits in
          let own = is_same t.field f w.if-token-field.true in
          let more = w.in_ok-sum.ensures in
          let fit : SFits w128 (old +ℤ t.value) = subst (λ (q : ℤ). SFits w128 (old +ℤ q)) v more.0 in
          let is : new ≡ old +ℤ t.value =
          w.sum-is ∙ ap (λ (q : ℤ). to_z w128 (of_z w128 q)) more.1
          ∙ ap (λ (q : ℤ). to_z w128 (of_z w128 (old +ℤ q))) v ∙ to_z-of_z w128 (old +ℤ t.value) fit in
          record {
            sum = sum-own f i xs d old new _ inside own is inv.sum;
            fits = λ h. inv.fits (fits-own f i xs d old new inside own is fit h);
            rest = λ h. later-own f i xs d old new inside own is (inv.rest h);
          })
      | else-token-field w ↦
          (let passed = other-drop f i xs d inside (is_other t.field f w.if-token-field.false) in
          let later = tokens_of f (drop (i + 1) xs) in
          record {
            sum = ap (λ (q : ℤ). q +ℤ sum_of later) w.sum-is ∙ ap (λ ts. old +ℤ sum_of ts) (sym passed) ∙ inv.sum;
            fits = λ h. inv.fits (subst (λ (ts : List Token). SumsFit old ts) (sym passed) (subst (λ (q : ℤ). SumsFit q later) w.sum-is h));
            rest = λ h. subst (λ (q : ℤ). SumsFit q later) (sym w.sum-is) (subst (λ (ts : List Token). SumsFit old ts) passed (inv.rest h));
          })
    ]
