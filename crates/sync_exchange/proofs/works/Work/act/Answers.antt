use Rattle.std.proofs.Common.{◌≡◌, ℕ, Result, sym, subst}
use Rattle.sync_machine.specs.declared.machine.Act.{Act}
use Rattle.sync_machine.specs.Views.{act_tree}
use Rattle.sync_exchange.specs.declared.cases.Case.{Case}
use Rattle.sync_exchange.specs.declared.hands.XStop.{XStop}
use Rattle.sync_exchange.specs.declared.works.Work.{Work}
use Rattle.sync_exchange.specs.Works.{ActsAt, ActsAs}
use Rattle.sync_exchange.proofs.works.Work.act.Goals as goal

-- a statement does what its act does
acts-at : {A : Type 0} (r : Result A XStop) (case : Case) (old new : Work) (line : ℕ) (a b : Act) → a ≡ b
    → ActsAs r case (act_tree case.m.now.terms b) old new → ActsAt r case (record { act = act_tree case.m.now.terms a; line = line }) old new
acts-at r case old new line a b is h =
    subst (λ (x : Act). ActsAt r case (record { act = act_tree case.m.now.terms x; line = line }) old new) (sym is) (h line)

pub returns-in-Init : goal.returns-in-Init
returns-in-Init c =
    acts-at c.init.result c.args.case.now c.args.self.now c.init.new.self c.args.step.now.line c.args.step.now.act _ c.in-Init.is c.init.ensures

pub returns-in-Update : goal.returns-in-Update
returns-in-Update c =
    acts-at c.update.result c.args.case.now c.args.self.now c.update.new.self c.args.step.now.line c.args.step.now.act _ c.in-Update.is c.update.ensures

pub returns-in-Remove : goal.returns-in-Remove
returns-in-Remove c =
    acts-at c.remove.result c.args.case.now c.args.self.now c.remove.new.self c.args.step.now.line c.args.step.now.act _ c.in-Remove.is c.remove.ensures

pub returns-in-Have : goal.returns-in-Have
returns-in-Have c =
    acts-at c.have.result c.args.case.now c.args.self.now c.have.new.self c.args.step.now.line c.args.step.now.act _ c.in-Have.is c.have.ensures

pub returns-in-Add : goal.returns-in-Add
returns-in-Add c =
    acts-at c.add.result c.args.case.now c.args.self.now c.add.new.self c.args.step.now.line c.args.step.now.act _ c.in-Add.is c.add.ensures

pub returns-in-Deposit : goal.returns-in-Deposit
returns-in-Deposit c =
    acts-at c.deposit.result c.args.case.now c.args.self.now c.deposit.new.self c.args.step.now.line c.args.step.now.act _ c.in-Deposit.is c.deposit.ensures

pub returns-in-Withdraw : goal.returns-in-Withdraw
returns-in-Withdraw c =
    acts-at c.take_out.result c.args.case.now c.args.self.now c.take_out.new.self c.args.step.now.line c.args.step.now.act _ c.in-Withdraw.is c.take_out.ensures

pub returns-in-Guard : goal.returns-in-Guard
returns-in-Guard c =
    acts-at c.guard.result c.args.case.now c.args.self.now c.guard.new.self c.args.step.now.line c.args.step.now.act _ c.in-Guard.is c.guard.ensures
