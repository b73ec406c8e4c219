use Rattle.std.proofs.Common.{◌<◌, ◌≤◌, false, take, ap, ◌∙◌, arith}
use Rattle.sync_kernel.specs.Seen.{seen_count}
use Rattle.sync_kernel.proofs.Seeing.{seen_is, seen_fewer, seen_kept}
use Rattle.sync_kernel.proofs.seen.Seen.cut_back.Goals as goal
use Rattle.sync_kernel.proofs.seen.Seen.cut_back.Goals.{then-len, else-len}

pub returns : goal.returns
returns c = λ s fs h.
    (let v = c.args.self.now in
    let n = c.args.len in
    let x = c.cut_back.new.self in
    let y = c.cut_back-2.new.self in
    let b = c.if-len.self.closed in
    elim c.if-len.branch [
      | then-len w ↦
          (let lt : n < seen_count v = omega (arith, w.if-len.true, c.len.ensures) in
          seen_fewer s fs v (record { said = x; denied = y; closed = b }) n h lt
          (seen_is x y (take n v.said) (take n v.denied) b false (c.cut_back.ensures ∙ ap (λ i. take n i.said) w.self-is) (c.cut_back-2.ensures ∙ ap (λ i. take n i.denied) w.self-is) (ap (λ i. i.closed) w.self-is)))
      | else-len w ↦
          (let le : seen_count v ≤ n = omega (arith, w.if-len.false, c.len.ensures) in
          seen_kept s fs v (record { said = x; denied = y; closed = b }) n h le
          (seen_is x y (take n v.said) (take n v.denied) b v.closed (c.cut_back.ensures ∙ ap (λ i. take n i.said) w.self-is) (c.cut_back-2.ensures ∙ ap (λ i. take n i.denied) w.self-is) (ap (λ i. i.closed) w.self-is)))
    ])
