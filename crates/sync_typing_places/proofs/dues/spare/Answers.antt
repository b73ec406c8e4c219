use Rattle.std.proofs.Common.{sym, subst}
use Rattle.sync_base.specs.Outcome.{Stops}
use Rattle.sync_base.specs.declared.stops.Stop.{Stop}
use Rattle.sync_thread.specs.Views.{scripts_tree}
use Rattle.sync_typing_places.specs.Places.{none_left}
use Rattle.sync_typing_places.proofs.Owing.{none_spare, one_spare}
use Rattle.sync_typing_places.proofs.dues.spare.Goals as goal

pub returns-in_default : goal.returns-in_default
returns-in_default c = λ s. none_spare s c.args.scripts.now.left.now c.in_default.ensures.cases

pub returns : goal.returns
returns c = λ s.
    subst (λ (x : Stop). Stops x (none_left (scripts_tree s c.args.scripts.now.left.now))) (sym c.refused.ensures)
    (one_spare s c.args.scripts.now.left.now c.in-Some.script.now _ c.in-Some.ensures.cases.0)
