use Rattle.std.proofs.Common.{◌≡◌, ℤ, pos, false, true, get_or, sym, ap, ◌∙◌, to_z, of_z}
use Rattle.std.specs.Int.{w128}
use Rattle.std.proofs.lemmas.Int.{to_z-of_z}
use Rattle.sync_join.specs.declared.tokens.Token.{Token}
use Rattle.sync_exchange.specs.Exchange.{is_at_place}
use Rattle.sync_exchange.proofs.Walks.{stored-here, stored-later, stored-none}
use Rattle.sync_exchange.proofs.hands.stored_at.Goals as goal

pub returns-then-is_at_place : goal.returns-then-is_at_place
returns-then-is_at_place c =
    let ts = c.args.stored.now in
    let i = c.loop-t.t-index in
    let d : Token = record { field = 0; key = pos 0; value = pos 0 } in
    let t = get_or ts i d in
    let k : to_z w128 (of_z w128 c.args.key) ≡ c.args.key = to_z-of_z w128 c.args.key c.ranges.key in
    let is : is_at_place c.args.field c.args.key t ≡ true = ap (λ (q : ℤ). is_at_place c.args.field q t) (sym k) ∙ sym c.is_at_place.ensures ∙ c.if-is_at_place.true in
    sym (stored-here c.args.field c.args.key ts i d c.loop-t-test.true is) ∙ rw k at c.loop-t.invariant

pub loop-t-preserved : goal.loop-t-preserved
loop-t-preserved c =
    let ts = c.args.stored.now in
    let i = c.loop-t.t-index in
    let d : Token = record { field = 0; key = pos 0; value = pos 0 } in
    let t = get_or ts i d in
    let key = to_z w128 (of_z w128 c.args.key) in
    let is : is_at_place c.args.field key t ≡ false = sym c.is_at_place.ensures ∙ c.if-is_at_place.false in
    sym (stored-later c.args.field key ts i d c.loop-t-test.true is) ∙ c.loop-t.invariant

pub returns : goal.returns
returns c =
    let k : to_z w128 (of_z w128 c.args.key) ≡ c.args.key = to_z-of_z w128 c.args.key c.ranges.key in
    sym (stored-none c.args.field c.args.key c.args.stored.now c.loop-t.t-index c.loop-t-test.false) ∙ rw k at c.loop-t.invariant
