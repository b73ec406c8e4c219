use Rattle.std.proofs.Common.{sym, ◌∙◌}
use Rattle.sync_kernel_facts.specs.Branches.{said_fact}
use Rattle.sync_kernel_facts.proofs.Names.{plain_is}
use Rattle.sync_kernel.proofs.Seeing.{seen_passed, seen_taken}
use Rattle.sync_kernel.proofs.sames.look_at.Goals as goal

pub returns-then-not-is_empty-clause-seen : goal.returns-then-not-is_empty-clause-seen
returns-then-not-is_empty-clause-seen c = λ fs h.
    (let plain = plain_is c.args.said.now.params c.is_empty.result c.is_empty.ensures.0 c.is_empty.ensures.1 in
    seen_passed c.args.terms.now fs (said_fact c.args.terms.now c.args.said.now) c.args.seen.now c.push.new.self h c.requires.open c.in_ok-push.ensures (sym plain ∙ c.if-not-is_empty.true))

pub returns-clause-seen : goal.returns-clause-seen
returns-clause-seen c = λ fs h.
    (let plain = plain_is c.args.said.now.params c.is_empty.result c.is_empty.ensures.0 c.is_empty.ensures.1 in
    seen_taken c.args.terms.now fs (said_fact c.args.terms.now c.args.said.now) c.args.seen.now c.push-2.new.self h c.requires.open c.bare-says.result c.denied-denies.result c.in_ok-closed.closed c.in_ok-push-2.ensures
    (sym plain ∙ c.if-not-is_empty.false) c.bare-says.ensures.form c.bare-says.ensures.stored c.bare-says.ensures.bare c.denied-denies.ensures (c.in_ok-closed.ensures fs c.bare-says.ensures.shared h))
