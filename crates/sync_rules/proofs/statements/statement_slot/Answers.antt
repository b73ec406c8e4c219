use Rattle.sync_rules.proofs.statements.statement_slot.Goals as goal

pub returns-in-Init-clause-ids : goal.returns-in-Init-clause-ids
returns-in-Init-clause-ids c = c.of_value.ensures.ids c.args.m.now.terms (rw c.in-Init.is at c.requires)

pub returns-in-Add-clause-ids : goal.returns-in-Add-clause-ids
returns-in-Add-clause-ids c = c.of_place.ensures.ids c.args.m.now.terms (rw c.in-Add.is at c.requires)

pub returns-in-Remove-clause-ids : goal.returns-in-Remove-clause-ids
returns-in-Remove-clause-ids c = c.of_place-in-Remove.ensures.ids c.args.m.now.terms (rw c.in-Remove.is at c.requires)

pub returns-in-Have-clause-ids : goal.returns-in-Have-clause-ids
returns-in-Have-clause-ids c = c.of_place-in-Have.ensures.ids c.args.m.now.terms (rw c.in-Have.is at c.requires)

pub returns-in-Deposit-clause-ids : goal.returns-in-Deposit-clause-ids
returns-in-Deposit-clause-ids c = c.of_place-in-Deposit.ensures.ids c.args.m.now.terms (rw c.in-Deposit.is at c.requires)

pub returns-in-Withdraw-clause-ids : goal.returns-in-Withdraw-clause-ids
returns-in-Withdraw-clause-ids c = c.of_place-in-Withdraw.ensures.ids c.args.m.now.terms (rw c.in-Withdraw.is at c.requires)

pub returns-in-Guard-clause-ids : goal.returns-in-Guard-clause-ids
returns-in-Guard-clause-ids c = c.of_place-in-Guard.ensures.ids c.args.m.now.terms (rw c.in-Guard.is at c.requires)
