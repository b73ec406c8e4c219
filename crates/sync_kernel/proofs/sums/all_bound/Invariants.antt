use Rattle.std.proofs.Common.{◌≡◌, drop}
use Rattle.std.specs.List.{list_all}
use Rattle.sync_kernel.specs.declared.rows.Used.{Used}
use Rattle.sync_kernel.specs.Steps.{is_bound}
use Rattle.sync_kernel.proofs.sums.all_bound.Given as goal

abbrev pub invariant-loop-one : goal.invariant-loop-one
invariant-loop-one l = list_all (λ (u : Used). is_bound u.kind) l.used ≡ list_all (λ (u : Used). is_bound u.kind) (drop l.one-index l.used)
