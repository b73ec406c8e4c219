use Rattle.sync_erase.proofs.Lines.{code_written}
use Rattle.sync_erase.proofs.printing.print_code.Goals as goal

pub returns : goal.returns
returns c = code_written c.args.names.now c.args.c.now c.as_slice.result.now c.as_slice-2.result.now c.new-out.result.items c.declarations.new.out.items c.threads.new.out.items c.final_lines.new.out.items
    c.new-out.ensures.items c.as_slice.ensures c.as_slice-2.ensures c.in_ok-declarations.ensures c.in_ok-threads.ensures c.in_ok-final_lines.ensures
