use Rattle.std.proofs.Common.{ap, ◌∙◌}
use Rattle.sync_thread.specs.Views.{list_tree}
use Rattle.sync_typing.specs.Lists.{assigned_locals}
use Rattle.sync_typing_paths.proofs.locals.assigned_locals.Goals as goal

pub returns : goal.returns
returns c = λ s. c.in_ok-note_all.ensures s ∙ ap (assigned_locals (list_tree s c.args.list.now)) c.new-locals.ensures.empty
