use Rattle.sync_thread.specs.Views.{code_thread_tree}
use Rattle.sync_erase.specs.ErasedForm.{thread_text}
use Rattle.sync_erase.proofs.Lines.{FlatTo}
use Rattle.sync_erase.proofs.printing.threads.Given as goal

abbrev pub invariant-loop-thread : goal.invariant-loop-thread
invariant-loop-thread l = FlatTo (λ t. thread_text l.names (code_thread_tree t)) l.initial.out.items l.out.items l.thread-index l.threads
