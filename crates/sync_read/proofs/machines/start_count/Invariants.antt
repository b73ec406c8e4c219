use Rattle.std.proofs.Common.{◌≡◌, ◌≤◌, drop}
use Rattle.sync_read.specs.Resolving.{start_count}
use Rattle.sync_read.proofs.machines.start_count.Given as goal

abbrev pub invariant-loop-a : goal.invariant-loop-a
invariant-loop-a l = (start_count l.name l.n (drop l.a-index l.acts) ≡ start_count l.name 0 l.acts) × (l.n ≤ l.a-index)
