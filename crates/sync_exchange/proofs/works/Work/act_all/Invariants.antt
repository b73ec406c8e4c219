use Rattle.std.proofs.Common.{◌≡◌, drop}
use Rattle.sync_machine.specs.Views.{steps_tree}
use Rattle.sync_entries.specs.Narrow.{is_narrow}
use Rattle.sync_exchange.specs.Exchange.{does_all}
use Rattle.sync_exchange.specs.Works.{now_of}
use Rattle.sync_exchange.proofs.works.Work.act_all.Given as goal

abbrev pub invariant-loop-step : goal.invariant-loop-step
invariant-loop-step l =
    does_all is_narrow l.case.outer.fields.now (steps_tree l.case.m.now.terms (drop l.step-index l.steps)) (now_of l.case l.self)
    ≡ does_all is_narrow l.case.outer.fields.now (steps_tree l.case.m.now.terms l.steps) (now_of l.case l.initial.self)
