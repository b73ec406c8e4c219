use Rattle.std.proofs.Common.{sym, ◌∙◌}
use Rattle.sync_machine.specs.Views.{machine_tree}
use Rattle.sync_rules.proofs.Faultless.{AreAllowed-from_faultless, ChangesNothing-from_faultless}
use Rattle.sync_rules.proofs.checking.check_ops.Goals as goal

pub returns-in-None-clause-allowed : goal.returns-in-None-clause-allowed
returns-in-None-clause-allowed c =
    AreAllowed-from_faultless (machine_tree c.args.m.now) (sym c.first_fault.ensures ∙ c.in-None.is)

pub returns-in-None-clause-still : goal.returns-in-None-clause-still
returns-in-None-clause-still c =
    ChangesNothing-from_faultless (machine_tree c.args.m.now) (sym c.first_fault.ensures ∙ c.in-None.is)
