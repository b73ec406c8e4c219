use Rattle.sync_kernel_facts.proofs.Truths.{cong_true, read_true, size_true, total_true}
use Rattle.sync_kernel_facts.proofs.laws.facts_are_true.Goals as goal

pub returns : goal.returns
returns c = record { cong = cong_true; read = read_true; size = size_true; total = total_true }
