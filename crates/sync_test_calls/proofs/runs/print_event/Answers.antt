use Rattle.std.proofs.Common.{sym, subst}
use Rattle.sync_thread.specs.Code.{Fits}
use Rattle.sync_test_calls.proofs.Counting.{counting_fits}
use Rattle.sync_test_calls.proofs.runs.print_event.Goals as goal

pub erased_event-requires-clause-fits : goal.erased_event-requires-clause-fits
erased_event-requires-clause-fits c = subst Fits (sym c.requires.code) counting_fits
