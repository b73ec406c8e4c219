use Rattle.std.proofs.Common.{◌≡◌, ◌<◌, ◌≤◌, length, take, Err, ◌++◌, ◌∷◌, [], sym, ap, subst, ◌∙◌, arith}
use Rattle.std.proofs.lemmas.Bool.{both_ways}
use Rattle.std.proofs.lemmas.List.{length-map}
use Rattle.sync_base.specs.declared.stops.Rule.TheVariants.{K4}
use Rattle.sync_base.specs.declared.stops.Stop.TheVariants.{Refused}
use Rattle.sync_kernel_facts.specs.declared.branches.Held.{Held}
use Rattle.sync_kernel_facts.specs.Facts.{Fact}
use Rattle.sync_kernel_facts.specs.Branches.{facts_in, said_fact, AreSaid}
use Rattle.sync_kernel.specs.Seen.{HasSeen, seen_count}
use Rattle.sync_kernel.specs.Steps.{at_line, same_fault}
use Rattle.sync_kernel.proofs.Seeing.{held_fact, seen_more, seen_closed, seen_open}
use Rattle.sync_kernel.proofs.SameSteps.{fault_none, fault_some}
use Rattle.sync_kernel_facts.proofs.Stacking.{said_at}
use Rattle.sync_kernel.proofs.Stepping.{passes_err}
use Rattle.sync_kernel.proofs.sames.same.Goals as goal
use Rattle.sync_kernel.proofs.sames.same.Goals.{then-loop-seen-test+else-len-facts, else-loop-seen-test}

pub look_at-requires-clause-said : goal.look_at-requires-clause-said
look_at-requires-clause-said c =
    let hs = c.held-facts.result.now in
    let lt : c.len-in-loop-seen.result < length hs = omega (arith, c.if-len-facts.true, c.len.ensures, c.len-in-loop-seen.ensures) in
    said_at c.args.terms.now hs c.len-in-loop-seen.result c.index-facts-len.result (subst (AreSaid c.args.terms.now) (sym c.held-facts.ensures) c.requires.said) lt

pub loop-seen-preserved : goal.loop-seen-preserved
loop-seen-preserved c =
    let s = c.args.terms.now in
    let hs = c.held-facts.result.now in
    let fs = facts_in s c.args.branch.now in
    let x = c.index-facts-len.result in
    let v = c.loop-seen.seen in
    let w = c.look_at.new.seen in
    let lt : seen_count v < length hs = omega (arith, c.if-len-facts.true, c.len.ensures) in
    let long : length fs ≡ length hs = length-map c.args.branch.now (said_fact s) ∙ ap length (sym c.held-facts.ensures) ∙ length-map hs (λ (h : Held). h.said) in
    seen_more s fs (said_fact s x.said) v w c.loop-seen.invariant (omega (arith, lt, long))
    (subst (λ (f : Fact). HasSeen s (take (seen_count v) fs ++ f ∷ []) w) (held_fact s c.args.branch.now hs c.len-in-loop-seen.result (seen_count v) x c.held-facts.ensures c.len-in-loop-seen.ensures lt)
    (c.in_ok-look_at.ensures.seen (take (seen_count v) fs) c.loop-seen.invariant.oldest))
    c.in_ok-look_at.ensures.more

pub returns-then-seen-clause-exact : goal.returns-then-seen-clause-exact
returns-then-seen-clause-exact c =
    let fs = facts_in c.args.terms.now c.args.branch.now in
    fault_none c.args.line fs (seen_closed c.args.terms.now fs c.loop-seen.seen c.loop-seen.invariant c.if-seen.true)

pub returns-else-seen-clause-exact : goal.returns-else-seen-clause-exact
returns-else-seen-clause-exact c =
    let s = c.args.terms.now in
    let hs = c.held-facts.result.now in
    let fs = facts_in s c.args.branch.now in
    let v = c.loop-seen.seen in
    let long : length fs ≡ length hs = length-map c.args.branch.now (said_fact s) ∙ ap length (sym c.held-facts.ensures) ∙ length-map hs (λ (h : Held). h.said) in
    passes_err {A = Unit {0}} (Err c.refusal.result) (Refused (record { line = c.args.line; rule = K4 })) (at_line c.args.line (same_fault fs)) (ap Err c.refusal.ensures)
    (fault_some c.args.line fs (seen_open s fs v c.loop-seen.invariant c.if-seen.false
    (elim c.loop-seen-test.branch [
      | then-loop-seen-test+else-len-facts w ↦ (let le : length hs ≤ seen_count v = omega (arith, w.if-len-facts.false, w.len.ensures) in omega (arith, le, long))
      | else-loop-seen-test w ↦ absurd (both_ways v.closed c.if-seen.false w.loop-seen-test.false)
    ])))
