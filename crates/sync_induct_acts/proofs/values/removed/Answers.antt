use Rattle.sync_terms.proofs.Extending.{Extends-trans}
use Rattle.sync_terms.specs.Trees.{Sub, Del, Bump}
use Rattle.sync_terms.specs.Stored.{tree}
use Rattle.sync_base.specs.declared.strategies.Strategy.{Strategy}
use Rattle.sync_machine.specs.Views.{place_tree}
use Rattle.sync_machine.specs.Statements.{zero, one, key_of, value_of, removed}
use Rattle.sync_terms.specs.Building.{BuildsTerm}
use Rattle.sync_induct_acts.proofs.ConditionLemmas.{BuildsTerm-at}
use Rattle.sync_induct_acts.proofs.Choices.{by1, by3, by8}
use Rattle.sync_induct_acts.proofs.values.removed.Goals as goal

pub returns-in-Option-clause-built : goal.returns-in-Option-clause-built
unfolding removed
returns-in-Option-clause-built c =
    let p = place_tree c.args.terms.now c.args.place in
    let m = tree c.args.terms.now c.args.current in
    let made : BuildsTerm c.term.new.terms (Del m (key_of p)) c.term.result = BuildsTerm-at c.args.current c.in_ok-at.at c.terms_of.ensures.keeps c.requires.current c.in_ok-at.ensures.found (λ m k v. Del m k) c.term.result c.term.ensures.built in
    by3 (λ (k : Strategy). BuildsTerm c.term.new.terms (removed k m p) c.term.result) c.in-Option.is made made made

pub returns-in-Option-clause-keeps : goal.returns-in-Option-clause-keeps
returns-in-Option-clause-keeps c = Extends-trans c.terms_of.ensures.keeps c.term.ensures.keeps

pub returns-in-Multiset-clause-built : goal.returns-in-Multiset-clause-built
unfolding removed
returns-in-Multiset-clause-built c =
    let p = place_tree c.args.terms.now c.args.place in
    let m = tree c.args.terms.now c.args.current in
    let made : BuildsTerm c.once_less.new.terms (Bump m (key_of p) (Sub zero one)) c.once_less.result = BuildsTerm-at c.args.current c.in_ok-at.at c.terms_of.ensures.keeps c.requires.current c.in_ok-at.ensures.found (λ m k v. Bump m k (Sub zero one)) c.once_less.result c.once_less.ensures.built in
    by1 (λ (k : Strategy). BuildsTerm c.once_less.new.terms (removed k m p) c.once_less.result) c.in-Multiset.is made

pub returns-in-Multiset-clause-keeps : goal.returns-in-Multiset-clause-keeps
returns-in-Multiset-clause-keeps c = Extends-trans c.terms_of.ensures.keeps c.once_less.ensures.keeps

pub returns-in-Count-clause-built : goal.returns-in-Count-clause-built
unfolding removed
returns-in-Count-clause-built c =
    let p = place_tree c.args.terms.now c.args.place in
    let m = tree c.args.terms.now c.args.current in
    let made : BuildsTerm c.term-in-Count.new.terms (Sub m (value_of p)) c.term-in-Count.result = BuildsTerm-at c.args.current c.in_ok-at.at c.terms_of.ensures.keeps c.requires.current c.in_ok-at.ensures.found (λ m k v. Sub m v) c.term-in-Count.result c.term-in-Count.ensures.built in
    by1 (λ (k : Strategy). BuildsTerm c.term-in-Count.new.terms (removed k m p) c.term-in-Count.result) c.in-Count.is made

pub returns-in-Count-clause-keeps : goal.returns-in-Count-clause-keeps
returns-in-Count-clause-keeps c = Extends-trans c.terms_of.ensures.keeps c.term-in-Count.ensures.keeps

pub returns-in-PersistentOption-clause-built : goal.returns-in-PersistentOption-clause-built
unfolding removed
returns-in-PersistentOption-clause-built c =
    let p = place_tree c.args.terms.now c.args.place in
    let m = tree c.args.terms.now c.args.current in
    let made : BuildsTerm c.terms_of.new.terms (m) c.stored_term.result = BuildsTerm-at c.args.current c.in_ok-at.at c.terms_of.ensures.keeps c.requires.current c.in_ok-at.ensures.found (λ m k v. m) c.stored_term.result c.stored_term.ensures in
    by8 (λ (k : Strategy). BuildsTerm c.terms_of.new.terms (removed k m p) c.stored_term.result) c.in-PersistentOption.is made made made made made made made made
