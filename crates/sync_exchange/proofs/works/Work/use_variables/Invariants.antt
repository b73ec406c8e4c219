use Rattle.std.proofs.Common.{◌≡◌, drop}
use Rattle.sync_rules.specs.Views.{slots_tree}
use Rattle.sync_exchange.specs.Exchange.{use_variables}
use Rattle.sync_exchange.specs.Works.{now_of}
use Rattle.sync_exchange.proofs.works.Work.use_variables.Given as goal

abbrev pub invariant-loop-slot : goal.invariant-loop-slot
invariant-loop-slot l =
    use_variables (slots_tree l.case.m.now.terms (drop l.slot-index l.slots)) (now_of l.case l.self)
    ≡ use_variables (slots_tree l.case.m.now.terms l.slots) (now_of l.case l.initial.self)
