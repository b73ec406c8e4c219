use Rattle.sync_terms.specs.Stored.{tree}
use Rattle.sync_machine.specs.declared.machine.Act.{Act}
use Rattle.sync_machine.specs.Statements.{after}
use Rattle.sync_machine.specs.Views.{act_tree}
use Rattle.sync_terms.specs.Building.{BuildsTerm}
use Rattle.sync_induct_acts.proofs.Choices.{by1, by2-of}
use Rattle.sync_terms.proofs.BuildingLemmas.{BuildsTerm-same}
use Rattle.sync_induct_acts.proofs.Otherwise.{after-same}
use Rattle.sync_induct_acts.proofs.values.after.Goals as goal

pub returns-in-Init-clause-built : goal.returns-in-Init-clause-built
unfolding after
returns-in-Init-clause-built c =
    let made = c.stored_term-in-Init.ensures in
    by2-of (λ (a : Act). BuildsTerm c.args.terms.now (after c.args.strategy (tree c.args.terms.now c.args.current) (act_tree c.args.terms.now a)) c.stored_term-in-Init.result) c.in-Init.is (λ _. made) (λ _. made)

pub returns-in-Add-clause-built : goal.returns-in-Add-clause-built
unfolding after
returns-in-Add-clause-built c = by1 (λ (a : Act). BuildsTerm c.added.new.terms (after c.args.strategy (tree c.args.terms.now c.args.current) (act_tree c.args.terms.now a)) c.added.result) c.in-Add.is c.added.ensures.built

pub returns-in-Remove-clause-built : goal.returns-in-Remove-clause-built
unfolding after
returns-in-Remove-clause-built c = by1 (λ (a : Act). BuildsTerm c.removed.new.terms (after c.args.strategy (tree c.args.terms.now c.args.current) (act_tree c.args.terms.now a)) c.removed.result) c.in-Remove.is c.removed.ensures.built

pub returns-in-Deposit-clause-built : goal.returns-in-Deposit-clause-built
unfolding after
returns-in-Deposit-clause-built c = by1 (λ (a : Act). BuildsTerm c.with_object.new.terms (after c.args.strategy (tree c.args.terms.now c.args.current) (act_tree c.args.terms.now a)) c.with_object.result) c.in-Deposit.is c.with_object.ensures.built

pub returns-in-Withdraw-clause-built : goal.returns-in-Withdraw-clause-built
unfolding after
returns-in-Withdraw-clause-built c = by1 (λ (a : Act). BuildsTerm c.without_object.new.terms (after c.args.strategy (tree c.args.terms.now c.args.current) (act_tree c.args.terms.now a)) c.without_object.result) c.in-Withdraw.is c.without_object.ensures.built

pub returns-in-Require-clause-built : goal.returns-in-Require-clause-built
returns-in-Require-clause-built c = BuildsTerm-same c.stored_term.ensures (after-same c.args.terms.now c.args.strategy (tree c.args.terms.now c.args.current) c.args.act c.in-Require.is)
