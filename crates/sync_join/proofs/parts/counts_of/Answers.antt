use Rattle.std.proofs.Common.{◌≡◌, ℤ, pos, ◌+ℤ◌, ◌≤ℤ◌, length, get_or, Option, unwrap_or, subst, sym, ap, ◌∙◌, arith, rules, Fits, SFits, to_z, of_z, w64}
use Rattle.std.specs.Int.{w128}
use Rattle.std.proofs.lemmas.Int.{to_z-of_z, ints}
use Rattle.sync_join.specs.declared.tokens.Token.{Token}
use Rattle.sync_join.specs.Join.{counts_of}
use Rattle.sync_join.proofs.Through.{is_same, is_other, other-take, counted-within, counts-more}
use Rattle.sync_join.proofs.parts.counts_of.Goals as goal
use Rattle.sync_join.proofs.parts.counts_of.Goals.{then-token-field+in_ok-put, else-token-field}

pub overflow_add-before : goal.overflow_add-before
overflow_add-before c =
    let i = c.loop-token.token-index in
    let d : Token = record { field = 0; key = pos 0; value = pos 0 } in
    let key = to_z w128 (of_z w128 (get_or c.args.tokens.now i d).key) in
    let n = c.unwrap_or-before.result in
    let long : Fits w64 (length c.args.tokens.now) = search rules in
    let within = counted-within c.args.field i c.args.tokens.now c.loop-token.counts key n c.loop-token.invariant
    (c.unwrap_or-before.ensures ∙ ap (λ (o : Option ℤ). unwrap_or o (pos 0)) c.get.ensures.value) in
    let low : pos 0 ≤ℤ n = within.0 in
    let high : n ≤ℤ pos i = within.1 in
    let fits : SFits w128 n = omega (arith, ints) in
    let same : to_z w128 (of_z w128 n) ≡ n = to_z-of_z w128 n fits in
    let more : SFits w128 (n +ℤ pos 1) = omega (arith, ints) in
    subst (λ (q : ℤ). SFits w128 (q +ℤ pos 1)) (sym same) more

pub loop-token-preserved : goal.loop-token-preserved
loop-token-preserved c =
    let i = c.loop-token.token-index in
    let d : Token = record { field = 0; key = pos 0; value = pos 0 } in
    let t = get_or c.args.tokens.now i d in
    let key = to_z w128 (of_z w128 t.key) in
    let long : Fits w64 (length c.args.tokens.now) = search rules in
    elim c.if-token-field.branch [
      | then-token-field+in_ok-put w ↦
          (let key_fits : SFits w128 t.key = search rules in
          let k : key ≡ t.key = to_z-of_z w128 t.key key_fits in
          let n = w.unwrap_or-before.result in
          let now = w.unwrap_or-before.ensures ∙ ap (λ (o : Option ℤ). unwrap_or o (pos 0)) w.get.ensures.value in
          let within = counted-within c.args.field i c.args.tokens.now c.loop-token.counts key n c.loop-token.invariant now in
          let low : pos 0 ≤ℤ n = within.0 in
          let high : n ≤ℤ pos i = within.1 in
          let fits : SFits w128 n = omega (arith, ints) in
          let same : to_z w128 (of_z w128 n) ≡ n = to_z-of_z w128 n fits in
          let more : SFits w128 (n +ℤ pos 1) = omega (arith, ints) in
          let one : to_z w128 (of_z w128 (to_z w128 (of_z w128 n) +ℤ pos 1)) ≡ n +ℤ pos 1 =
          ap (λ (q : ℤ). to_z w128 (of_z w128 (q +ℤ pos 1))) same ∙ to_z-of_z w128 (n +ℤ pos 1) more in
          counts-more c.args.field i c.args.tokens.now d c.loop-token.counts c.if-token-field.counts key n _ c.loop-token-test.true (is_same t.field c.args.field w.if-token-field.true) c.loop-token.invariant k now one (w.counts-is ∙ w.in_ok-put.ensures.ok))
      | else-token-field w ↦
          ap counts_of (other-take c.args.field i c.args.tokens.now d c.loop-token-test.true (is_other t.field c.args.field w.if-token-field.false))
          ∙ c.loop-token.invariant ∙ sym w.counts-is
    ]
