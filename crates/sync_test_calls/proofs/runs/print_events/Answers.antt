use Rattle.std.proofs.Common.{sym, subst}
use Rattle.sync_thread.specs.Code.{Fits}
use Rattle.sync_test_calls.proofs.Counting.{counting_fits}
use Rattle.sync_test_calls.proofs.runs.print_events.Goals as goal

pub start_config-requires : goal.start_config-requires
start_config-requires c = subst Fits (sym c.in-Ok.ensures) counting_fits
