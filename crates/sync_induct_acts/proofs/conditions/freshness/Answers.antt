use Rattle.std.proofs.Common.{Some, None, Ok, arith}
use Rattle.sync_terms.proofs.Extending.{Extends-trans}
use Rattle.sync_terms.specs.Trees.{Get, Le, Eq, Or}
use Rattle.sync_terms.specs.Stored.{tree}
use Rattle.sync_base.specs.declared.strategies.Strategy.{Strategy}
use Rattle.sync_machine.specs.Views.{place_tree}
use Rattle.sync_machine.specs.Statements.{zero, key_of, value_of, is_free, freshness}
use Rattle.sync_induct_acts.specs.Conditions.{BuildsCondition}
use Rattle.sync_induct_acts.proofs.ConditionLemmas.{BuildsForm-at}
use Rattle.sync_induct_acts.proofs.Choices.{by1, by2, by3, by6}
use Rattle.sync_induct_acts.proofs.conditions.freshness.Goals as goal

pub returns-in-Option-clause-built : goal.returns-in-Option-clause-built
unfolding freshness
returns-in-Option-clause-built c =
    let p = place_tree c.args.terms.now c.args.place in
    let m = tree c.args.terms.now c.args.current in
    let made : BuildsCondition c.is_free.new.terms (Some (is_free m (key_of p))) c.as_condition.result =
    c.as_condition.ensures _ _ (BuildsForm-at c.args.current c.in_ok-at.at c.terms_of.ensures.keeps c.requires.current c.in_ok-at.ensures.found (λ m k v. is_free m k) c.is_free.result c.is_free.ensures.built) in
    by3 (λ (k : Strategy). BuildsCondition c.is_free.new.terms (freshness k m p) c.as_condition.result) c.in-Option.is made made made

pub returns-in-Option-clause-keeps : goal.returns-in-Option-clause-keeps
returns-in-Option-clause-keeps c = Extends-trans c.terms_of.ensures.keeps c.is_free.ensures.keeps

pub returns-in-Count-clause-built : goal.returns-in-Count-clause-built
unfolding freshness
returns-in-Count-clause-built c =
    let p = place_tree c.args.terms.now c.args.place in
    let m = tree c.args.terms.now c.args.current in
    let made : BuildsCondition c.is_natural.new.terms (Some (Le zero (value_of p))) c.as_condition-in-Count.result =
    c.as_condition-in-Count.ensures _ _ (BuildsForm-at c.args.current c.in_ok-at.at c.terms_of.ensures.keeps c.requires.current c.in_ok-at.ensures.found (λ m k v. Le zero v) c.is_natural.result c.is_natural.ensures.built) in
    by1 (λ (k : Strategy). BuildsCondition c.is_natural.new.terms (freshness k m p) c.as_condition-in-Count.result) c.in-Count.is made

pub returns-in-Count-clause-keeps : goal.returns-in-Count-clause-keeps
returns-in-Count-clause-keeps c = Extends-trans c.terms_of.ensures.keeps c.is_natural.ensures.keeps

pub returns-in-PersistentOption-clause-built : goal.returns-in-PersistentOption-clause-built
unfolding freshness
returns-in-PersistentOption-clause-built c =
    let p = place_tree c.args.terms.now c.args.place in
    let m = tree c.args.terms.now c.args.current in
    let made : BuildsCondition c.is_free_or_with.new.terms (Some (Or (is_free m (key_of p)) (Eq (Get m (key_of p)) (value_of p)))) c.as_condition-in-PersistentOption.result =
    c.as_condition-in-PersistentOption.ensures _ _ (BuildsForm-at c.args.current c.in_ok-at.at c.terms_of.ensures.keeps c.requires.current c.in_ok-at.ensures.found (λ m k v. Or (is_free m k) (Eq (Get m k) v)) c.is_free_or_with.result c.is_free_or_with.ensures.built) in
    by2 (λ (k : Strategy). BuildsCondition c.is_free_or_with.new.terms (freshness k m p) c.as_condition-in-PersistentOption.result) c.in-PersistentOption.is made made

pub returns-in-PersistentOption-clause-keeps : goal.returns-in-PersistentOption-clause-keeps
returns-in-PersistentOption-clause-keeps c = Extends-trans c.terms_of.ensures.keeps c.is_free_or_with.ensures.keeps

pub returns-in-PersistentCount-clause-built : goal.returns-in-PersistentCount-clause-built
unfolding freshness
returns-in-PersistentCount-clause-built c =
    let p = place_tree c.args.terms.now c.args.place in
    let m = tree c.args.terms.now c.args.current in
    let made : BuildsCondition c.form.new.terms (Some (Le m (value_of p))) c.as_condition-in-PersistentCount.result =
    c.as_condition-in-PersistentCount.ensures _ _ (BuildsForm-at c.args.current c.in_ok-at.at c.terms_of.ensures.keeps c.requires.current c.in_ok-at.ensures.found (λ m k v. Le m v) c.form.result c.form.ensures.built) in
    by1 (λ (k : Strategy). BuildsCondition c.form.new.terms (freshness k m p) c.as_condition-in-PersistentCount.result) c.in-PersistentCount.is made

pub returns-in-PersistentCount-clause-keeps : goal.returns-in-PersistentCount-clause-keeps
returns-in-PersistentCount-clause-keeps c = Extends-trans c.terms_of.ensures.keeps c.form.ensures.keeps

pub returns-in-Multiset-clause-built : goal.returns-in-Multiset-clause-built
unfolding freshness
returns-in-Multiset-clause-built c =
    let p = place_tree c.args.terms.now c.args.place in
    let m = tree c.args.terms.now c.args.current in
    let none : BuildsCondition c.terms_of.new.terms None (Ok None) = record { value = tt; fits = omega arith; stop = tt } in
    by6 (λ (k : Strategy). BuildsCondition c.terms_of.new.terms (freshness k m p) (Ok None)) c.in-Multiset.is none none none none none none
