use Rattle.sync_thread.specs.Views.{code_thread_tree}
use Rattle.sync_erase.specs.ErasedForm.{thread_text}
use Rattle.sync_erase.proofs.Lines.{flat_more, flat_all}
use Rattle.sync_erase.proofs.printing.threads.Goals as goal

pub loop-thread-preserved : goal.loop-thread-preserved
loop-thread-preserved c = flat_more (λ t. thread_text c.args.names.now (code_thread_tree t)) c.args.out.now.items c.loop-thread.out.items c.thread_lines.new.out.items c.loop-thread.thread-index c.args.threads.now c.thread-item.result
    c.loop-thread-test.true c.thread-item.is c.in_ok-thread_lines.ensures c.loop-thread.invariant

pub returns : goal.returns
returns c = flat_all (λ t. thread_text c.args.names.now (code_thread_tree t)) c.args.out.now.items c.loop-thread.out.items c.loop-thread.thread-index c.args.threads.now c.loop-thread-test.false c.loop-thread.invariant
