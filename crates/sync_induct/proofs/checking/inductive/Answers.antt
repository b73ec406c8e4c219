use Rattle.std.proofs.Common.{◌≡◌, ◌∙◌, [], List, None, Err, rules, sym, ap, subst}
use Rattle.std.specs.HashSet.{contains}
use Rattle.sync_base.specs.Outcome.{Passes}
use Rattle.sync_machine.specs.Views.{machine_tree}
use Rattle.sync_machine.specs.States.{HoldsAlways}
use Rattle.sync_terms.specs.declared.proofs.Obligation.{Obligation}
use Rattle.sync_rules.specs.Obligations.{obligations_of}
use Rattle.sync_rules.proofs.Named.{HasFewFields-from_IsNamed}
use Rattle.sync_induct.specs.declared.index.Title.{Title}
use Rattle.sync_terms.specs.declared.proofs.Proof.{Proof}
use Rattle.sync_induct.specs.Checks.{has_title, stray_fault, checks_fault}
use Rattle.sync_terms.specs.Proofs.{AreScriptsOf, titles_of, proofs_in}
use Rattle.sync_induct.specs.Checklist.{Check, checks_of, AreShown}
use Rattle.sync_induct.specs.Titles.{same_title, first_at}
use Rattle.sync_induct.proofs.Deciding.{machine-stays, stray-answer, check-answer, no-answer, checks-are, met-keepable, met-ids, met-wanted}
use Rattle.sync_induct.proofs.Law.{proved-machine-holds}
use Rattle.sync_induct.proofs.Showing.{all-proved}
use Rattle.sync_induct.proofs.checking.inductive.Goals as goal

pub obligations-requires-clause-fields : goal.obligations-requires-clause-fields
obligations-requires-clause-fields c = HasFewFields-from_IsNamed (machine_tree c.args.m) c.requires.named

pub check_operations-requires-clause-invariants : goal.check_operations-requires-clause-invariants
check_operations-requires-clause-invariants c =
    met-keepable c.args.m c.as_slice-4.result.now c.as_slice-5.result.now c.as_slice-6.result.now c.as_slice-4.ensures c.as_slice-5.ensures c.as_slice-6.ensures c.requires.ids c.requires.named

pub check_operations-requires-clause-ids : goal.check_operations-requires-clause-ids
check_operations-requires-clause-ids c =
    met-ids c.args.m c.as_slice-4.result.now c.as_slice-5.result.now c.as_slice-6.result.now c.as_slice-4.ensures c.as_slice-5.ensures c.as_slice-6.ensures c.requires.ids

pub check_operations-requires-clause-book : goal.check_operations-requires-clause-book
check_operations-requires-clause-book c = record {
  scripts = subst (λ (ps : List Proof). AreScriptsOf c.args.m.terms ps) (sym c.as_slice-3.ensures) c.requires.scripts;
  placed = λ t. c.in_ok-placed.ensures.placed t ∙ ap (λ (ps : List Proof). first_at t 0 (titles_of ps)) (c.as_slice-2.ensures ∙ sym c.as_slice-3.ensures);
}

pub check_operations-requires-clause-wanted : goal.check_operations-requires-clause-wanted
check_operations-requires-clause-wanted c =
    met-wanted c.args.m c.as_slice-4.result.now c.as_slice-5.result.now c.as_slice-6.result.now c.as_slice-4.ensures c.as_slice-5.ensures c.as_slice-6.ensures
    (contains same_title c.in_ok-titles.titles) (λ t. c.in_ok-titles.ensures t ∙ ap (λ (os : List Obligation). has_title os t) (c.as_slice.ensures.value ∙ c.in_ok-listed.ensures))

pub returns-in_err-placed-clause-exact : goal.returns-in_err-placed-clause-exact
returns-in_err-placed-clause-exact c =
    let m = machine_tree c.args.m in
    let knows : (t : Title) → contains same_title c.in_ok-titles.titles t ≡ has_title (obligations_of m) t = λ t. c.in_ok-titles.ensures t ∙ ap (λ (os : List Obligation). has_title os t) (c.as_slice.ensures.value ∙ c.in_ok-listed.ensures) in
    let h = stray-answer c.args.m.terms m c.args.p.list (Unit {0}) (Unit {0}) c.in_err-placed.field-0.0
    (subst (λ (ps : List Proof). Passes {A = Unit {0}} (Err c.in_err-placed.field-0.0) (stray_fault (obligations_of m) [] (titles_of ps))) c.as_slice-2.ensures (c.in_err-placed.ensures.exact (obligations_of m) knows)) in
    search rules

pub returns-in_err-check_operations-clause-exact : goal.returns-in_err-check_operations-clause-exact
returns-in_err-check_operations-clause-exact c =
    let m = machine_tree c.args.m in
    let knows : (t : Title) → contains same_title c.in_ok-titles.titles t ≡ has_title (obligations_of m) t = λ t. c.in_ok-titles.ensures t ∙ ap (λ (os : List Obligation). has_title os t) (c.as_slice.ensures.value ∙ c.in_ok-listed.ensures) in
    let none = subst (λ (ps : List Proof). stray_fault (obligations_of m) [] (titles_of ps) ≡ None) c.as_slice-2.ensures (c.in_ok-placed.ensures.exact (obligations_of m) knows) in
    let checks = checks-are c.args.m c.as_slice-4.result.now c.as_slice-5.result.now c.as_slice-6.result.now c.as_slice-4.ensures c.as_slice-5.ensures c.as_slice-6.ensures in
    let h = check-answer c.args.m.terms m c.args.p.list none (Unit {0}) (Unit {0}) c.in_err-check_operations.field-0.0
    (subst (λ (ps : List Proof). Passes {A = Unit {0}} (Err c.in_err-check_operations.field-0.0) (checks_fault (proofs_in c.args.m.terms ps) (checks_of m))) c.as_slice-3.ensures
    (subst (λ (ds : List Check). Passes {A = Unit {0}} (Err c.in_err-check_operations.field-0.0) (checks_fault (proofs_in c.args.m.terms c.as_slice-3.result.now) ds)) checks c.in_err-check_operations.ensures.exact)) in
    search rules

pub new-requires : goal.new-requires
new-requires c =
    let m = machine_tree c.args.m in
    let checks = checks-are c.args.m c.as_slice-4.result.now c.as_slice-5.result.now c.as_slice-6.result.now c.as_slice-4.ensures c.as_slice-5.ensures c.as_slice-6.ensures in
    subst HoldsAlways (sym (machine-stays c.args.m c.check_operations.new.terms c.requires.ids c.in_ok-check_operations.ensures.keeps))
    (proved-machine-holds m c.requires.named c.requires.allowed c.requires.still (all-proved m (subst (λ (cs : List Check). AreShown cs) checks c.in_ok-check_operations.ensures.shown)))

pub returns-clause-exact : goal.returns-clause-exact
returns-clause-exact c =
    let m = machine_tree c.args.m in
    let knows : (t : Title) → contains same_title c.in_ok-titles.titles t ≡ has_title (obligations_of m) t = λ t. c.in_ok-titles.ensures t ∙ ap (λ (os : List Obligation). has_title os t) (c.as_slice.ensures.value ∙ c.in_ok-listed.ensures) in
    let none = subst (λ (ps : List Proof). stray_fault (obligations_of m) [] (titles_of ps) ≡ None) c.as_slice-2.ensures (c.in_ok-placed.ensures.exact (obligations_of m) knows) in
    let checks = checks-are c.args.m c.as_slice-4.result.now c.as_slice-5.result.now c.as_slice-6.result.now c.as_slice-4.ensures c.as_slice-5.ensures c.as_slice-6.ensures in
    no-answer c.args.m.terms m c.args.p.list none
    (subst (λ (ps : List Proof). checks_fault (proofs_in c.args.m.terms ps) (checks_of m) ≡ None) c.as_slice-3.ensures
    (subst (λ (ds : List Check). checks_fault (proofs_in c.args.m.terms c.as_slice-3.result.now) ds ≡ None) checks c.in_ok-check_operations.ensures.exact))

pub returns-clause-holds : goal.returns-clause-holds
returns-clause-holds c =
    let m = machine_tree c.args.m in
    let checks = checks-are c.args.m c.as_slice-4.result.now c.as_slice-5.result.now c.as_slice-6.result.now c.as_slice-4.ensures c.as_slice-5.ensures c.as_slice-6.ensures in
    proved-machine-holds m c.requires.named c.requires.allowed c.requires.still (all-proved m (subst (λ (cs : List Check). AreShown cs) checks c.in_ok-check_operations.ensures.shown))

pub returns-clause-same : goal.returns-clause-same
returns-clause-same c = ap machine_tree c.new.ensures ∙ machine-stays c.args.m c.check_operations.new.terms c.requires.ids c.in_ok-check_operations.ensures.keeps
