-- The rule allows the cut, and both parts are seats of the state behind it.
use Rattle.std.proofs.Common.{◌≡◌, ◌<◌, ℕ, length, ap, sym, subst, ◌∙◌}
use Rattle.atomic_table.specs.Table.{Me}
use Rattle.sync_words.specs.declared.rule.View.{View}
use Rattle.sync_words.specs.Views.{below, from}
use Rattle.sync_words.specs.Rule.{IsSeated}
use Rattle.sync_words.proofs.Resting.{rests_below, rests_from}
use Rattle.sync_words.proofs.Stepping.{cuts}
use Rattle.sync_words.proofs.words.Words.split_as.Goals as goal

pub split_seat-token-requires : goal.split_seat-token-requires
split_seat-token-requires g c =
    let shared = c.args.self.now.table.shared in
    let seat = c.args.seat.now.token in
    (c.requires.own.0, c.args.self.now.some, cuts shared.key.words.items shared.key.threads seat.id g.N.Number.number seat.me.0)

pub invariant_of-seat : goal.invariant_of-seat
invariant_of-seat g c =
    let at : ℕ = g.N.Number.number in
    let v : View = c.args.seat.now.token.me.0 in
    let e = c.split_seat-token.ensures.2 in
    let view : c.split_seat-token.new.seat.me.0 ≡ below at v = ap (λ (m : Me ℕ View). m.0) e in
    record {
      bare = ap (λ (m : Me ℕ View). m.1) e ∙ c.args.seat.now.bare;
      some = subst (λ (u : View). 0 < length u.numbers) (sym view) (subst (λ (x : ℕ). 0 < length (below x v).numbers) c.requires.number c.requires.low);
      rests = subst (λ (u : View). ∥ IsSeated u ∥₁) (sym view) (rests_below at v c.args.seat.now.rests);
    }

pub invariant_of-result : goal.invariant_of-result
invariant_of-result g c =
    let at : ℕ = g.N.Number.number in
    let v : View = c.args.seat.now.token.me.0 in
    let e = c.split_seat-token.ensures.4 in
    let view : c.split_seat-token.result.me.0 ≡ from at v = ap (λ (m : Me ℕ View). m.0) e in
    record {
      bare = ap (λ (m : Me ℕ View). m.1) e;
      some = subst (λ (u : View). 0 < length u.numbers) (sym view) (subst (λ (x : ℕ). 0 < length (from x v).numbers) c.requires.number c.requires.high);
      rests = subst (λ (u : View). ∥ IsSeated u ∥₁) (sym view) (rests_from at v c.args.seat.now.rests);
    }
