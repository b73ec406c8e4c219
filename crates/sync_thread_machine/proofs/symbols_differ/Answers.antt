use Rattle.sync_thread_machine.proofs.Apart.{symbols_differ}
use Rattle.sync_thread_machine.proofs.symbols_differ.Goals as goal

pub returns : goal.returns
returns c = symbols_differ
