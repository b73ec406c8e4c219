use Rattle.std.proofs.Common.{ℕ, ◌≤◌, List, sym, ap, subst, ◌∙◌}
use Rattle.std.proofs.lemmas.List.{nil_from_length}
use Rattle.std.proofs.lemmas.Result.{err_from_is_err_and}
use Rattle.sync_base.specs.Outcome.{Stops}
use Rattle.sync_base.specs.declared.stops.Stop.{Stop}
use Rattle.sync_terms.specs.Stored.{formula}
use Rattle.sync_terms.specs.Trees.{most_nodes}
use Rattle.sync_terms.specs.declared.scripts.Script.{Script}
use Rattle.sync_thread.specs.Views.{script_tree, scripts_tree}
use Rattle.sync_typing.specs.Dues.{show}
use Rattle.sync_typing_places.specs.Places.{env_of}
use Rattle.sync_typing_places.proofs.Owing.{first_script, gives_stop, later_scripts, shown_clear, shown_none, shown_proved, shown_stops}
use Rattle.sync_typing_places.proofs.places.Place.owes.Goals as goal

pub returns-then-branch-clause-shows : goal.returns-then-branch-clause-shows
returns-then-branch-clause-shows c =
    let s = c.args.terms.now in
    let fits = subst (λ (n : ℕ). n ≤ most_nodes) c.size_of.ensures.size c.size_of.ensures.bound in
    shown_clear (env_of s c.args.self.now) c.args.line c.args.rule (formula s c.args.claim) (scripts_tree s c.args.scripts.now.left.now) fits
    (sym c.in_ok-is_clear.ensures ∙ c.if-branch.true)

pub returns-in_default-clause-shows : goal.returns-in_default-clause-shows
returns-in_default-clause-shows c =
    let s = c.args.terms.now in
    let e = env_of s c.args.self.now in
    let all = c.args.scripts.now.left.now in
    let fits = subst (λ (n : ℕ). n ≤ most_nodes) c.size_of.ensures.size c.size_of.ensures.bound in
    subst (λ (x : Stop). Stops x (show e c.args.line c.args.rule (formula s c.args.claim) (scripts_tree s all))) (sym c.refused.ensures)
    (shown_none e c.args.line c.args.rule (formula s c.args.claim) (scripts_tree s all) fits (sym c.in_ok-is_clear.ensures ∙ c.if-branch.false)
    (ap (λ (ss : List Script). scripts_tree s ss) (nil_from_length all c.in_default.ensures.cases)))

pub returns-in_err-prove-clause-shows : goal.returns-in_err-prove-clause-shows
returns-in_err-prove-clause-shows c =
    let s = c.args.terms.now in
    let e = env_of s c.args.self.now in
    let all = c.args.scripts.now.left.now in
    let x = c.in-Some.script.now in
    let ss = c.in-Some.left.now in
    let fits = subst (λ (n : ℕ). n ≤ most_nodes) c.size_of.ensures.size c.size_of.ensures.bound in
    let q = err_from_is_err_and c.from_residual-in_err-prove.result c.from_residual-in_err-prove.ensures.1 in
    gives_stop _ c.from_residual-in_err-prove.result c.in_err-prove.field-0.0
    (show e c.args.line c.args.rule (formula s c.args.claim) (scripts_tree s all)) (cc)
    (shown_stops e c.args.line c.args.rule (formula s c.args.claim) (scripts_tree s all) (script_tree s x) (scripts_tree s ss)
    c.in_err-prove.field-0.0 fits (sym c.in_ok-is_clear.ensures ∙ c.if-branch.false)
    (ap (λ (xs : List Script). scripts_tree s xs) c.in-Some.ensures.cases.0) c.in_err-prove.ensures.proves)

pub returns-clause-shows : goal.returns-clause-shows
returns-clause-shows c =
    let s = c.args.terms.now in
    let all = c.args.scripts.now.left.now in
    let x = c.in-Some.script.now in
    let ss = c.in-Some.left.now in
    let fits = subst (λ (n : ℕ). n ≤ most_nodes) c.size_of.ensures.size c.size_of.ensures.bound in
    shown_proved (env_of s c.args.self.now) c.args.line c.args.rule (formula s c.args.claim) (scripts_tree s all) (script_tree s x) (scripts_tree s ss)
    fits (sym c.in_ok-is_clear.ensures ∙ c.if-branch.false)
    (ap (λ (xs : List Script). scripts_tree s xs) c.in-Some.ensures.cases.0) c.in_ok-prove.ensures.proves

pub returns-clause-scripts : goal.returns-clause-scripts
returns-clause-scripts c =
    later_scripts c.args.terms.now c.args.scripts.now.left.now c.in-Some.script.now c.in-Some.left.now c.requires.scripts c.in-Some.ensures.cases.0

pub prove-requires-clause-script : goal.prove-requires-clause-script
prove-requires-clause-script c =
    first_script c.args.terms.now c.args.scripts.now.left.now c.in-Some.script.now c.in-Some.left.now c.requires.scripts c.in-Some.ensures.cases.0
