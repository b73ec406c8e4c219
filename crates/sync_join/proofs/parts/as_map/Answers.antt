use Rattle.std.proofs.Common.{◌≡◌, ℤ, pos, true, false, is_some, get_or, Some, sym, ap, ◌∙◌, rules, SFits, to_z, of_z}
use Rattle.std.specs.Int.{w128}
use Rattle.std.specs.FinMap as finmap
use Rattle.std.proofs.lemmas.Int.{to_z-of_z}
use Rattle.sync_terms.specs.Maps.{put}
use Rattle.sync_join.specs.declared.tokens.Token.{Token}
use Rattle.sync_join.specs.Join.{as_map}
use Rattle.sync_join.proofs.Through.{is_same, is_other, map-more, map-twice, other-take}
use Rattle.sync_join.proofs.parts.as_map.Goals as goal
use Rattle.sync_join.proofs.parts.as_map.Goals.{then-token-field+else-is_some+in_ok-put, else-token-field}

pub returns-then-is_some : goal.returns-then-is_some
returns-then-is_some c =
    let i = c.loop-token.token-index in
    let d : Token = record { field = 0; key = pos 0; value = pos 0 } in
    let t = get_or c.args.tokens.now i d in
    let fits : SFits w128 t.key = search rules in
    let k : to_z w128 (of_z w128 t.key) ≡ t.key = to_z-of_z w128 t.key fits in
    let there : is_some (finmap.get c.loop-token.map t.key) ≡ true =
    ap (λ (q : ℤ). is_some (finmap.get c.loop-token.map q)) (sym k) ∙ ap is_some (sym c.get.ensures.value) ∙ sym c.is_some.ensures ∙ c.if-is_some.true in
    sym (map-twice c.args.field i c.args.tokens.now d c.loop-token.map c.loop-token-test.true (is_same t.field c.args.field c.if-token-field.true) c.loop-token.invariant there)

pub loop-token-preserved : goal.loop-token-preserved
loop-token-preserved c =
    let i = c.loop-token.token-index in
    let m = c.loop-token.map in
    let d : Token = record { field = 0; key = pos 0; value = pos 0 } in
    let t = get_or c.args.tokens.now i d in
    elim c.if-token-field.branch [
      | then-token-field+else-is_some+in_ok-put w ↦
          (let key_fits : SFits w128 t.key = search rules in
          let value_fits : SFits w128 t.value = search rules in
          let k : to_z w128 (of_z w128 t.key) ≡ t.key = to_z-of_z w128 t.key key_fits in
          let v : to_z w128 (of_z w128 t.value) ≡ t.value = to_z-of_z w128 t.value value_fits in
          let free : is_some (finmap.get m t.key) ≡ false =
          ap (λ (q : ℤ). is_some (finmap.get m q)) (sym k) ∙ ap is_some (sym w.get.ensures.value) ∙ sym w.is_some.ensures ∙ w.if-is_some.false in
          map-more c.args.field i c.args.tokens.now d m c.loop-token-test.true (is_same t.field c.args.field w.if-token-field.true) c.loop-token.invariant free
          ∙ ap Some (sym (w.map-is ∙ w.in_ok-put.ensures.ok
          ∙ ap (λ (q : ℤ). put m q (to_z w128 (of_z w128 t.value))) k ∙ ap (λ (q : ℤ). put m t.key q) v)))
      | else-token-field w ↦
          ap as_map (other-take c.args.field i c.args.tokens.now d c.loop-token-test.true (is_other t.field c.args.field w.if-token-field.false))
          ∙ c.loop-token.invariant ∙ ap Some (sym w.map-is)
    ]
