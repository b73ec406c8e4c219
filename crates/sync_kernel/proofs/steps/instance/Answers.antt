use Rattle.std.proofs.Common.{◌≡◌, ◌<◌, List, length, Err, sym, ap, subst, ◌∙◌}
use Rattle.std.proofs.lemmas.List.{length-map}
use Rattle.std.specs.List.{All}
use Rattle.sync_base.specs.declared.stops.Rule.TheVariants.{K1, K3}
use Rattle.sync_terms.specs.declared.nodes.Sym.{Sym}
use Rattle.sync_terms.specs.declared.nodes.TermId.{TermId}
use Rattle.sync_terms.specs.Trees.{most_nodes}
use Rattle.sync_terms.specs.Trees.{formula_size, replaced_in}
use Rattle.sync_terms.specs.Stored.{formula, IsTerm}
use Rattle.sync_terms.specs.Substitution.{substitution}
use Rattle.sync_terms.proofs.Extending.{Extends-trans}
use Rattle.sync_kernel_facts.specs.Facts.{newest}
use Rattle.sync_kernel_facts.specs.Branches.{facts_in}
use Rattle.sync_kernel.specs.Readings.{tree_read, trees_read, ArePaired}
use Rattle.sync_kernel.specs.Taking.{instance}
use Rattle.sync_kernel.proofs.Instancing.{pairs_stored, no_instance, other_number, same_number, instance_is, instance_made, instance_stops, terms_stop, found_said, makes_rule}
use Rattle.sync_kernel.proofs.steps.instance.Goals as goal

pub returns-in_default-clause-makes : goal.returns-in_default-clause-makes
returns-in_default-clause-makes c =
    let s = c.args.terms.now in
    let ts = trees_read s c.args.names.now c.args.list.now in
    makes_rule s c.args.line c.refusal.result K1 (instance (newest c.args.hyp (facts_in s c.args.branch.now)) ts) c.refusal.ensures
    (no_instance s c.args.branch.now c.args.hyp ts (sym c.in_default.ensures))

pub returns-then-params-list-clause-makes : goal.returns-then-params-list-clause-makes
returns-then-params-list-clause-makes c =
    let s = c.args.terms.now in
    let ts = trees_read s c.args.names.now c.args.list.now in
    makes_rule s c.args.line c.refusal-then-params-list.result K3 (instance (newest c.args.hyp (facts_in s c.args.branch.now)) ts) c.refusal-then-params-list.ensures
    (other_number s c.args.branch.now c.args.hyp ts c.in-Some.said.now (sym c.in-Some.ensures)
    (λ q. c.if-params-list.true (ap length c.as_slice-params.ensures ∙ q ∙ length-map c.args.list.now (tree_read s c.args.names.now))))

pub returns-in-Err-clause-makes : goal.returns-in-Err-clause-makes
returns-in-Err-clause-makes c =
    let s = c.args.terms.now in
    let k = c.args.names.now in
    let ts = trees_read s k c.args.list.now in
    let x = c.in-Some.said.now in
    let same : length x.params ≡ length ts = ap length (sym c.as_slice-params.ensures) ∙ c.if-params-list.false ∙ sym (length-map c.args.list.now (tree_read s k)) in
    terms_stop s c.paired.new.terms c.args.line x ts (instance (newest c.args.hyp (facts_in s c.args.branch.now)) ts) c.in-Err.stop c.too_large.result
    (same_number s c.args.branch.now c.args.hyp ts x (sym c.in-Some.ensures) same) c.too_large.ensures (λ e. c.in-Err.ensures.stop (ap Err e))

pub subst-requires-clause-form : goal.subst-requires-clause-form
subst-requires-clause-form c =
    (c.paired.ensures.keeps.forms _ (found_said c.args.terms.now c.args.hyp c.args.branch.now c.in-Some.said.now c.requires.branch (sym c.in-Some.ensures)).0).0

pub subst-requires-clause-terms : goal.subst-requires-clause-terms
subst-requires-clause-terms c =
    let t = c.paired.new.terms in
    subst (All (λ (p : Sym × TermId). IsTerm t p.1)) (sym c.as_slice.ensures.value) (pairs_stored t c.in-Ok.pairs.items c.in-Ok.ensures.paired.stored)

pub returns-in-Ok-subst-clause-makes : goal.returns-in-Ok-subst-clause-makes
returns-in-Ok-subst-clause-makes c =
    let s = c.args.terms.now in
    let k = c.args.names.now in
    let t = c.paired.new.terms in
    let ts = trees_read s k c.args.list.now in
    let x = c.in-Some.said.now in
    let same : length x.params ≡ length ts = ap length (sym c.as_slice-params.ensures) ∙ c.if-params-list.false ∙ sym (length-map c.args.list.now (tree_read s k)) in
    let stored = (found_said s c.args.hyp c.args.branch.now x c.requires.branch (sym c.in-Some.ensures)).0 in
    let paired = subst (λ (ps : List Sym). ArePaired t ps ts c.in-Ok.pairs.items) c.as_slice-params.ensures c.in-Ok.ensures.paired in
    instance_made s t c.subst.new.self c.args.line x ts c.in-Ok.pairs.items (instance (newest c.args.hyp (facts_in s c.args.branch.now)) ts)
    (instance_is s c.args.branch.now c.args.hyp ts x (sym c.in-Some.ensures) same c.in-Ok.ensures.fits) paired (c.paired.ensures.keeps.forms x.says.form stored).1
    c.in-Ok-subst.form c.in-Ok-subst.ensures.value.0
    (c.in-Ok-subst.ensures.value.1 ∙ ap (λ (ps : List (Sym × TermId)). replaced_in (substitution t ps) (formula t x.says.form)) c.as_slice.ensures.value)

pub returns-in-Ok-subst-clause-keeps : goal.returns-in-Ok-subst-clause-keeps
returns-in-Ok-subst-clause-keeps c = Extends-trans c.paired.ensures.keeps c.subst.ensures.keeps

pub returns-clause-makes : goal.returns-clause-makes
returns-clause-makes c =
    let s = c.args.terms.now in
    let k = c.args.names.now in
    let t = c.paired.new.terms in
    let ts = trees_read s k c.args.list.now in
    let x = c.in-Some.said.now in
    let same : length x.params ≡ length ts = ap length (sym c.as_slice-params.ensures) ∙ c.if-params-list.false ∙ sym (length-map c.args.list.now (tree_read s k)) in
    let stored = (found_said s c.args.hyp c.args.branch.now x c.requires.branch (sym c.in-Some.ensures)).0 in
    let paired = subst (λ (ps : List Sym). ArePaired t ps ts c.in-Ok.pairs.items) c.as_slice-params.ensures c.in-Ok.ensures.paired in
    instance_stops s t c.subst.new.self c.args.line x ts c.in-Ok.pairs.items (instance (newest c.args.hyp (facts_in s c.args.branch.now)) ts)
    (instance_is s c.args.branch.now c.args.hyp ts x (sym c.in-Some.ensures) same c.in-Ok.ensures.fits) paired (c.paired.ensures.keeps.forms x.says.form stored).1
    c.in-Err-subst.stop c.too_large-in-Err-subst.result c.too_large-in-Err-subst.ensures
    (λ e. subst (λ (ps : List (Sym × TermId)). most_nodes < formula_size (replaced_in (substitution t ps) (formula t x.says.form))) c.as_slice.ensures.value (c.in-Err-subst.ensures.too_large (ap Err e)))

pub returns-clause-keeps : goal.returns-clause-keeps
returns-clause-keeps c = Extends-trans c.paired.ensures.keeps c.subst.ensures.keeps
