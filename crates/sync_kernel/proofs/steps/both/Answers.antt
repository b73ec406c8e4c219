use Rattle.std.proofs.Common.{◌≡◌, true, false, refl, sym, ◌∙◌}
use Rattle.std.specs.Prelude.{not, nat_lt}
use Rattle.sync_base.specs.declared.stops.Rule.TheVariants.{K8}
use Rattle.sync_terms.specs.Trees.{most_nodes}
use Rattle.sync_kernel.specs.declared.splits.Pair.{Pair}
use Rattle.sync_kernel_facts.specs.Facts.{facts_size}
use Rattle.sync_kernel_facts.specs.Branches.{facts_in}
use Rattle.sync_kernel.specs.Pairs.{pair_forms}
use Rattle.sync_kernel.specs.Scripts.{with_fact, Cases, cases_with, both_fitting}
use Rattle.sync_kernel.proofs.Fitting.{fits_with, both_if}
use Rattle.sync_kernel.proofs.Stepping.{leaves_ok, stops_at}
use Rattle.sync_kernel.proofs.steps.both.Goals as goal
use Rattle.sync_kernel.proofs.steps.both.Goals.{else-fits-via-then-fits+else-fits-2, else-fits-via-else-fits}

pub returns-then-fits-2-clause-leaves : goal.returns-then-fits-2-clause-leaves
returns-then-fits-2-clause-leaves c = λ name.
    (let s = c.args.terms.now in
    let xs = c.args.branch.now in
    let forms = pair_forms s c.args.pair in
    leaves_ok c.args.line (λ (p : Pair) (d : Cases). d ≡ cases_with (facts_in s xs) name (pair_forms s p)) c.args.pair (cases_with (facts_in s xs) name forms) (both_fitting (facts_in s xs) name forms)
    (both_if (facts_in s xs) name forms true true
    (fits_with s xs name c.size.result forms.left true c.requires.branch c.size.ensures.size c.if-fits.ensures)
    (fits_with s xs name c.size-then-fits.result forms.right true c.requires.branch c.size-then-fits.ensures.size c.if-fits-2.ensures)) refl)

pub returns-else-fits-clause-leaves : goal.returns-else-fits-clause-leaves
returns-else-fits-clause-leaves c = λ name.
    (let s = c.args.terms.now in
    let xs = c.args.branch.now in
    let forms = pair_forms s c.args.pair in
    stops_at c.args.line c.refusal.result K8 (both_fitting (facts_in s xs) name forms) c.refusal.ensures
    (elim c.else-fits.branch [
      | else-fits-via-then-fits+else-fits-2 w ↦ both_if (facts_in s xs) name forms true false
          (fits_with s xs name c.size.result forms.left true c.requires.branch c.size.ensures.size (sym w.if-fits.true ∙ c.fits.ensures))
          (fits_with s xs name w.size-then-fits.result forms.right false c.requires.branch w.size-then-fits.ensures.size (sym w.if-fits-2.false ∙ w.fits-then-fits.ensures))
      | else-fits-via-else-fits w ↦ both_if (facts_in s xs) name forms false (not (nat_lt most_nodes (facts_size (with_fact (facts_in s xs) name forms.right))))
          (fits_with s xs name c.size.result forms.left false c.requires.branch c.size.ensures.size (sym w.if-fits.false ∙ c.fits.ensures)) refl
    ]))
