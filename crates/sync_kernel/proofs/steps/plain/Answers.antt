use Rattle.sync_base.specs.declared.stops.Rule.TheVariants.{K1, K2}
use Rattle.sync_kernel_facts.specs.Facts.{newest}
use Rattle.sync_kernel_facts.specs.Branches.{facts_in}
use Rattle.sync_kernel.specs.Taking.{plain_fact}
use Rattle.sync_kernel.proofs.Stepping.{stops_at, known_is}
use Rattle.sync_kernel.proofs.Adding.{none_known, plain_leaves, plain_stops}
use Rattle.sync_kernel.proofs.steps.plain.Goals as goal

pub returns-in-None : goal.returns-in-None
returns-in-None c =
    let s = c.args.terms.now in
    let o = newest c.args.hyp (facts_in s c.args.branch.now) in
    stops_at c.args.line c.refusal.result K1 (plain_fact o) c.refusal.ensures (none_known s c.known.result o c.in-None.is (known_is s c.args.branch.now c.args.hyp c.known.result c.requires c.known.ensures))

pub returns-in-Some : goal.returns-in-Some
returns-in-Some c =
    let s = c.args.terms.now in
    let o = newest c.args.hyp (facts_in s c.args.branch.now) in
    plain_leaves s c.args.line c.known.result c.in-Some.known o c.in-Some.is (known_is s c.args.branch.now c.args.hyp c.known.result c.requires c.known.ensures) c.if-known.true

pub returns-in-Some-2 : goal.returns-in-Some-2
returns-in-Some-2 c =
    let s = c.args.terms.now in
    let o = newest c.args.hyp (facts_in s c.args.branch.now) in
    stops_at c.args.line c.refusal-in-Some-2.result K2 (plain_fact o) c.refusal-in-Some-2.ensures
    (plain_stops s c.known.result c.in-Some.known o c.in-Some.is (known_is s c.args.branch.now c.args.hyp c.known.result c.requires c.known.ensures) c.if-known.false)
