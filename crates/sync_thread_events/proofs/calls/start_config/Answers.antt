use Rattle.std.proofs.Common.{◌≡◌, Err}
use Rattle.sync_thread.specs.Code.{erased_start}
use Rattle.sync_thread.specs.Control.{Broken}
use Rattle.sync_thread.specs.Views.{code_tree}
use Rattle.sync_thread_events.proofs.Called.{left_first, starts_well, stuck_so}
use Rattle.sync_thread_events.proofs.calls.start_config.Goals as goal

pub unreachable-requires : goal.unreachable-requires
unreachable-requires c =
    starts_well (code_tree c.args.code.now) c.requires (stuck_so (erased_start (code_tree c.args.code.now) ≡ Err Broken)
    c.in-Err-Stuck.field-0 c.in-Err-Stuck.field-0-is c.in-Err-Stuck.ensures.starts)

pub returns-in-Ok-clause-left : goal.returns-in-Ok-clause-left
returns-in-Ok-clause-left c = left_first c.args.code.now c.in-Ok.moment c.in-Ok.ensures.made c.in-Ok.ensures.starts
