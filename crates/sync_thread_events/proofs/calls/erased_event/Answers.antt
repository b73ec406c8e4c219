use Rattle.std.proofs.Common.{◌≡◌, Err}
use Rattle.sync_thread.specs.Code.{code_meaning}
use Rattle.sync_thread.specs.Control.{Broken, event}
use Rattle.sync_thread.specs.Views.{code_tree}
use Rattle.sync_thread_events.specs.Moments.{config_of}
use Rattle.sync_thread_events.proofs.Called.{goes_well, left_more, moved_so, stuck_so}
use Rattle.sync_thread_events.proofs.calls.erased_event.Goals as goal

pub unreachable-requires : goal.unreachable-requires
unreachable-requires c =
    goes_well c.args.code.now c.args.config.now c.args.t c.requires.fits c.requires.left
    (stuck_so (event (code_meaning (code_tree c.args.code.now)) c.args.t (config_of c.args.code.now c.args.config.now) ≡ Err Broken)
    c.in-Err-Stuck.field-0 c.in-Err-Stuck.field-0-is c.in-Err-Stuck.ensures.goes)

pub returns-in-Ok-clause-left : goal.returns-in-Ok-clause-left
returns-in-Ok-clause-left c =
    left_more c.args.code.now c.args.config.now c.event.new.self c.args.t c.requires.left c.in-Ok.ensures.stays c.in-Ok.ensures.goes

pub returns-in-Ok-clause-moved : goal.returns-in-Ok-clause-moved
returns-in-Ok-clause-moved c =
    moved_so c.args.code.now c.args.config.now c.args.t c.in-Ok.moved c.requires.left c.in-Ok.ensures.moved
