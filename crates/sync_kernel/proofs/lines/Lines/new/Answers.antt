use Rattle.std.proofs.Common.{rules}
use Rattle.sync_kernel.proofs.Keeping.{no_lines}
use Rattle.sync_kernel.proofs.lines.Lines.new.Goals as goal

pub returns : goal.returns
returns c = λ s. no_lines s (record { kept = c.new.result; nodes = 0 }) (λ l. search (rules, c.new.ensures.empty))
