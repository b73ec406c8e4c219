use Rattle.sync_terms.proofs.Extending.{Extends-trans}
use Rattle.sync_terms.specs.Trees.{Add, Put, Bump}
use Rattle.sync_terms.specs.Stored.{tree}
use Rattle.sync_base.specs.declared.strategies.Strategy.{Strategy}
use Rattle.sync_machine.specs.Views.{place_tree}
use Rattle.sync_machine.specs.Statements.{one, key_of, value_of, added}
use Rattle.sync_terms.specs.Building.{BuildsTerm}
use Rattle.sync_induct_acts.proofs.ConditionLemmas.{BuildsTerm-at}
use Rattle.sync_induct_acts.proofs.Choices.{by1, by2, by4}
use Rattle.sync_induct_acts.proofs.values.added.Goals as goal

pub returns-in-Option-clause-built : goal.returns-in-Option-clause-built
unfolding added
returns-in-Option-clause-built c =
    let p = place_tree c.args.terms.now c.args.place in
    let m = tree c.args.terms.now c.args.current in
    let made : BuildsTerm c.term.new.terms (Put m (key_of p) (value_of p)) c.term.result = BuildsTerm-at c.args.current c.in_ok-at.at c.terms_of.ensures.keeps c.requires.current c.in_ok-at.ensures.found (λ m k v. Put m k v) c.term.result c.term.ensures.built in
    by4 (λ (k : Strategy). BuildsTerm c.term.new.terms (added k m p) c.term.result) c.in-Option.is made made made made

pub returns-in-Option-clause-keeps : goal.returns-in-Option-clause-keeps
returns-in-Option-clause-keeps c = Extends-trans c.terms_of.ensures.keeps c.term.ensures.keeps

pub returns-in-Set-clause-built : goal.returns-in-Set-clause-built
unfolding added
returns-in-Set-clause-built c =
    let p = place_tree c.args.terms.now c.args.place in
    let m = tree c.args.terms.now c.args.current in
    let made : BuildsTerm c.with_element.new.terms (Put m (key_of p) one) c.with_element.result = BuildsTerm-at c.args.current c.in_ok-at.at c.terms_of.ensures.keeps c.requires.current c.in_ok-at.ensures.found (λ m k v. Put m k one) c.with_element.result c.with_element.ensures.built in
    by2 (λ (k : Strategy). BuildsTerm c.with_element.new.terms (added k m p) c.with_element.result) c.in-Set.is made made

pub returns-in-Set-clause-keeps : goal.returns-in-Set-clause-keeps
returns-in-Set-clause-keeps c = Extends-trans c.terms_of.ensures.keeps c.with_element.ensures.keeps

pub returns-in-Multiset-clause-built : goal.returns-in-Multiset-clause-built
unfolding added
returns-in-Multiset-clause-built c =
    let p = place_tree c.args.terms.now c.args.place in
    let m = tree c.args.terms.now c.args.current in
    let made : BuildsTerm c.once_more.new.terms (Bump m (key_of p) one) c.once_more.result = BuildsTerm-at c.args.current c.in_ok-at.at c.terms_of.ensures.keeps c.requires.current c.in_ok-at.ensures.found (λ m k v. Bump m k one) c.once_more.result c.once_more.ensures.built in
    by1 (λ (k : Strategy). BuildsTerm c.once_more.new.terms (added k m p) c.once_more.result) c.in-Multiset.is made

pub returns-in-Multiset-clause-keeps : goal.returns-in-Multiset-clause-keeps
returns-in-Multiset-clause-keeps c = Extends-trans c.terms_of.ensures.keeps c.once_more.ensures.keeps

pub returns-in-Count-clause-built : goal.returns-in-Count-clause-built
unfolding added
returns-in-Count-clause-built c =
    let p = place_tree c.args.terms.now c.args.place in
    let m = tree c.args.terms.now c.args.current in
    let made : BuildsTerm c.term-in-Count.new.terms (Add m (value_of p)) c.term-in-Count.result = BuildsTerm-at c.args.current c.in_ok-at.at c.terms_of.ensures.keeps c.requires.current c.in_ok-at.ensures.found (λ m k v. Add m v) c.term-in-Count.result c.term-in-Count.ensures.built in
    by1 (λ (k : Strategy). BuildsTerm c.term-in-Count.new.terms (added k m p) c.term-in-Count.result) c.in-Count.is made

pub returns-in-Count-clause-keeps : goal.returns-in-Count-clause-keeps
returns-in-Count-clause-keeps c = Extends-trans c.terms_of.ensures.keeps c.term-in-Count.ensures.keeps

pub returns-in-PersistentCount-clause-built : goal.returns-in-PersistentCount-clause-built
unfolding added
returns-in-PersistentCount-clause-built c =
    let p = place_tree c.args.terms.now c.args.place in
    let m = tree c.args.terms.now c.args.current in
    let made : BuildsTerm c.terms_of.new.terms (value_of p) c.stored_term.result = BuildsTerm-at c.args.current c.in_ok-at.at c.terms_of.ensures.keeps c.requires.current c.in_ok-at.ensures.found (λ m k v. v) c.stored_term.result c.stored_term.ensures in
    by1 (λ (k : Strategy). BuildsTerm c.terms_of.new.terms (added k m p) c.stored_term.result) c.in-PersistentCount.is made

pub returns-in-Variable-clause-built : goal.returns-in-Variable-clause-built
unfolding added
returns-in-Variable-clause-built c =
    let p = place_tree c.args.terms.now c.args.place in
    let m = tree c.args.terms.now c.args.current in
    let made : BuildsTerm c.terms_of.new.terms (m) c.stored_term-in-Variable.result = BuildsTerm-at c.args.current c.in_ok-at.at c.terms_of.ensures.keeps c.requires.current c.in_ok-at.ensures.found (λ m k v. m) c.stored_term-in-Variable.result c.stored_term-in-Variable.ensures in
    by4 (λ (k : Strategy). BuildsTerm c.terms_of.new.terms (added k m p) c.stored_term-in-Variable.result) c.in-Variable.is made made made made
