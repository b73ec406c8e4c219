use Rattle.std.proofs.Common.{Some, None, Ok, arith}
use Rattle.sync_terms.proofs.Extending.{Extends-trans}
use Rattle.sync_terms.specs.Trees.{Get, Le}
use Rattle.sync_terms.specs.Stored.{tree}
use Rattle.sync_base.specs.declared.strategies.Strategy.{Strategy}
use Rattle.sync_machine.specs.Views.{place_tree}
use Rattle.sync_machine.specs.Statements.{one, key_of, value_of, is_there, is_there_with, presence}
use Rattle.sync_induct_acts.specs.Conditions.{BuildsCondition}
use Rattle.sync_induct_acts.proofs.ConditionLemmas.{BuildsForm-at}
use Rattle.sync_induct_acts.proofs.Choices.{by1, by2, by4}
use Rattle.sync_induct_acts.proofs.conditions.presence.Goals as goal

pub returns-in-Option-clause-built : goal.returns-in-Option-clause-built
unfolding presence
returns-in-Option-clause-built c =
    let p = place_tree c.args.terms.now c.args.place in
    let m = tree c.args.terms.now c.args.current in
    let made : BuildsCondition c.is_there_with.new.terms (Some (is_there_with m (key_of p) (value_of p))) c.as_condition.result =
    c.as_condition.ensures _ _ (BuildsForm-at c.args.current c.in_ok-at.at c.terms_of.ensures.keeps c.requires.current c.in_ok-at.ensures.found (λ m k v. is_there_with m k v) c.is_there_with.result c.is_there_with.ensures.built) in
    by4 (λ (k : Strategy). BuildsCondition c.is_there_with.new.terms (presence k m p) c.as_condition.result) c.in-Option.is made made made made

pub returns-in-Option-clause-keeps : goal.returns-in-Option-clause-keeps
returns-in-Option-clause-keeps c = Extends-trans c.terms_of.ensures.keeps c.is_there_with.ensures.keeps

pub returns-in-Set-clause-built : goal.returns-in-Set-clause-built
unfolding presence
returns-in-Set-clause-built c =
    let p = place_tree c.args.terms.now c.args.place in
    let m = tree c.args.terms.now c.args.current in
    let made : BuildsCondition c.is_there.new.terms (Some (is_there m (key_of p))) c.as_condition-in-Set.result =
    c.as_condition-in-Set.ensures _ _ (BuildsForm-at c.args.current c.in_ok-at.at c.terms_of.ensures.keeps c.requires.current c.in_ok-at.ensures.found (λ m k v. is_there m k) c.is_there.result c.is_there.ensures.built) in
    by2 (λ (k : Strategy). BuildsCondition c.is_there.new.terms (presence k m p) c.as_condition-in-Set.result) c.in-Set.is made made

pub returns-in-Set-clause-keeps : goal.returns-in-Set-clause-keeps
returns-in-Set-clause-keeps c = Extends-trans c.terms_of.ensures.keeps c.is_there.ensures.keeps

pub returns-in-Multiset-clause-built : goal.returns-in-Multiset-clause-built
unfolding presence
returns-in-Multiset-clause-built c =
    let p = place_tree c.args.terms.now c.args.place in
    let m = tree c.args.terms.now c.args.current in
    let made : BuildsCondition c.is_counted.new.terms (Some (Le one (Get m (key_of p)))) c.as_condition-in-Multiset.result =
    c.as_condition-in-Multiset.ensures _ _ (BuildsForm-at c.args.current c.in_ok-at.at c.terms_of.ensures.keeps c.requires.current c.in_ok-at.ensures.found (λ m k v. Le one (Get m k)) c.is_counted.result c.is_counted.ensures.built) in
    by1 (λ (k : Strategy). BuildsCondition c.is_counted.new.terms (presence k m p) c.as_condition-in-Multiset.result) c.in-Multiset.is made

pub returns-in-Multiset-clause-keeps : goal.returns-in-Multiset-clause-keeps
returns-in-Multiset-clause-keeps c = Extends-trans c.terms_of.ensures.keeps c.is_counted.ensures.keeps

pub returns-in-Count-clause-built : goal.returns-in-Count-clause-built
unfolding presence
returns-in-Count-clause-built c =
    let p = place_tree c.args.terms.now c.args.place in
    let m = tree c.args.terms.now c.args.current in
    let made : BuildsCondition c.form.new.terms (Some (Le (value_of p) m)) c.as_condition-in-Count.result =
    c.as_condition-in-Count.ensures _ _ (BuildsForm-at c.args.current c.in_ok-at.at c.terms_of.ensures.keeps c.requires.current c.in_ok-at.ensures.found (λ m k v. Le v m) c.form.result c.form.ensures.built) in
    by2 (λ (k : Strategy). BuildsCondition c.form.new.terms (presence k m p) c.as_condition-in-Count.result) c.in-Count.is made made

pub returns-in-Count-clause-keeps : goal.returns-in-Count-clause-keeps
returns-in-Count-clause-keeps c = Extends-trans c.terms_of.ensures.keeps c.form.ensures.keeps

pub returns-in-Variable-clause-built : goal.returns-in-Variable-clause-built
unfolding presence
returns-in-Variable-clause-built c =
    let p = place_tree c.args.terms.now c.args.place in
    let m = tree c.args.terms.now c.args.current in
    let none : BuildsCondition c.terms_of.new.terms None (Ok None) = record { value = tt; fits = omega arith; stop = tt } in
    by4 (λ (k : Strategy). BuildsCondition c.terms_of.new.terms (presence k m p) (Ok None)) c.in-Variable.is none none none none
