use Rattle.std.proofs.Common.{Err, refl, sym, subst, ap, ◌∙◌}
use Rattle.sync_base.specs.Outcome.{Passes}
use Rattle.sync_base.specs.declared.stops.Stop.{Stop}
use Rattle.sync_terms.specs.Stored.{formula}
use Rattle.sync_terms.specs.Trees.{formula_size, Formula}
use Rattle.sync_thread.specs.Views.{script_tree}
use Rattle.sync_typing.specs.Dues.{script_rule}
use Rattle.sync_typing_places.specs.Places.{env_of}
use Rattle.sync_typing_places.proofs.Owing.{on_both, script_passes, still_there, too_large}
use Rattle.sync_typing_places.proofs.places.Place.prove.Goals as goal

pub returns-then-not-fit-clause-proves : goal.returns-then-not-fit-clause-proves
returns-then-not-fit-clause-proves c =
    let s = c.args.terms.now in
    let p = c.args.self.now in
    subst (λ (x : Stop). Passes {A = Unit {0}} (Err x) (script_rule (env_of s p) c.args.line (formula s c.args.claim) (script_tree s c.args.script.now)))
    (sym c.refused.ensures)
    (too_large s p c.args.line (formula s c.args.claim) (script_tree s c.args.script.now) c.size.result c.fit.result
    (c.size.ensures.size ∙ ap (λ (f : Formula). formula_size f) c.denial.ensures.form) (c.fit.ensures s c.requires.own.ready) c.if-not-fit.true)

pub returns-clause-proves : goal.returns-clause-proves
returns-clause-proves c =
    let s = c.args.terms.now in
    script_passes c.prove_by_names.result s c.args.self.now c.args.line (formula s c.args.claim) c.args.script.now c.size.result c.fit.result
    c.requires.own (c.size.ensures.size ∙ ap (λ (f : Formula). formula_size f) c.denial.ensures.form) (c.fit.ensures s c.requires.own.ready) c.if-not-fit.false
    c.prove_by_names.ensures.exact

pub returns-clause-same : goal.returns-clause-same
returns-clause-same c =
    let s = c.args.terms.now in
    on_both c.prove_by_names.result _ _ _ (λ ready known. still_there s _ c.args.self.now _ c.requires.own c.prove_by_names.ensures.keeps refl refl ready known)
    c.prove_by_names.ensures.ready c.prove_by_names.ensures.hyps
