use Rattle.std.proofs.Common.{◌+◌, pos, List, drop, get_or, sym, subst}
use Rattle.std.proofs.lemmas.List.{drop_more}
use Rattle.std.proofs.lemmas.Result.{err_from_is_err_and}
use Rattle.sync_terms.specs.declared.scripts.Part.{Part}
use Rattle.sync_terms.specs.declared.scripts.HypName.TheVariants.{Label}
use Rattle.sync_kernel.specs.declared.rows.Used.{Used}
use Rattle.sync_kernel_facts.specs.Facts.{newest}
use Rattle.sync_kernel_facts.specs.Branches.{facts_in}
use Rattle.sync_kernel.specs.Steps.{at_line, sum_fault}
use Rattle.sync_kernel.proofs.Parts.{Summing, begins, known_stored, stops_at, goes_at, passes_err}
use Rattle.sync_kernel.proofs.Stepping.{known_is}
use Rattle.sync_kernel.proofs.sums.sum.Goals as goal

pub loop-part-init : goal.loop-part-init
loop-part-init c = (begins c.args.terms.now (facts_in c.args.terms.now c.args.branch.now) c.args.parts.now c.new-used.result.items c.zero-total.result c.new-used.ensures.items c.zero-total.ensures, c.limit.ensures c.args.terms.now c.requires.lines)

pub with_part-requires-clause-known : goal.with_part-requires-clause-known
with_part-requires-clause-known c =
    let s = c.args.terms.now in
    let p : Part = get_or c.args.parts.now c.loop-part.part-index (record { times = pos 0; hyp = Label 0 }) in
    known_stored s c.known-known.result (newest p.hyp (facts_in s c.args.branch.now)) (known_is s c.args.branch.now p.hyp c.known-known.result c.requires.said c.known-known.ensures)

pub returns-in_err-next-clause-exact : goal.returns-in_err-next-clause-exact
returns-in_err-next-clause-exact c =
    let s = c.args.terms.now in
    let fs = facts_in s c.args.branch.now in
    let p : Part = get_or c.args.parts.now c.loop-part.part-index (record { times = pos 0; hyp = Label 0 }) in
    let known = known_is s c.args.branch.now p.hyp c.known-known.result c.requires.said c.known-known.ensures in
    let h = subst (λ (rest : List Part). Summing s fs c.args.parts.now rest c.loop-part.used.items c.loop-part.total)
    (drop_more c.args.parts.now c.loop-part.part-index (record { times = pos 0; hyp = Label 0 }) c.loop-part-test.true) c.loop-part.invariant.0 in
    let q = err_from_is_err_and c.from_residual.result c.from_residual.ensures.1 in
    passes_err c.from_residual.result c.in_err-next.field-0.0 (at_line c.args.line (sum_fault fs c.args.parts.now)) (cc)
    (stops_at s c.args.line fs c.args.parts.now (drop (c.loop-part.part-index + 1) c.args.parts.now) c.loop-part.used.items c.loop-part.total p h c.in_err-next.field-0.0 (c.in_err-next.ensures.part h.sum (newest p.hyp fs) h.has_line known))

pub loop-part-preserved : goal.loop-part-preserved
loop-part-preserved c =
    let s = c.args.terms.now in
    let fs = facts_in s c.args.branch.now in
    let p : Part = get_or c.args.parts.now c.loop-part.part-index (record { times = pos 0; hyp = Label 0 }) in
    let known = known_is s c.args.branch.now p.hyp c.known-known.result c.requires.said c.known-known.ensures in
    let h = subst (λ (rest : List Part). Summing s fs c.args.parts.now rest c.loop-part.used.items c.loop-part.total)
    (drop_more c.args.parts.now c.loop-part.part-index (record { times = pos 0; hyp = Label 0 }) c.loop-part-test.true) c.loop-part.invariant.0 in (
      subst (λ (u : List Used). Summing s fs c.args.parts.now (drop (c.loop-part.part-index + 1) c.args.parts.now) u c.in_ok-next.next.total) (sym c.in_ok-push.ensures.items)
          (goes_at s c.args.line fs c.args.parts.now (drop (c.loop-part.part-index + 1) c.args.parts.now) c.loop-part.used.items c.loop-part.total p h c.in_ok-next.next (c.in_ok-next.ensures.part h.sum (newest p.hyp fs) h.has_line known)),
      c.in_ok-next.ensures.lines,
    )
