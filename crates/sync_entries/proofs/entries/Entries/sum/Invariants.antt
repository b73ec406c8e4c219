use Rattle.std.proofs.Common.{◌≡◌, ℤ, ◌-◌, ◌^◌, pos, negsuc, ◌+ℤ◌, ◌-ℤ◌, ◌≤ℤ◌, length}
use Rattle.std.specs.List.{fold}
use Rattle.sync_entries.specs.Totals.{sum_in}
use Rattle.sync_entries.proofs.entries.Entries.sum.Given as goal

abbrev pub invariant-loop-value : goal.invariant-loop-value
invariant-loop-value l = record {
  sum : fold (λ (s n : ℤ). s +ℤ n) (sum_in l.total) l.value-iterator ≡ fold (λ (s n : ℤ). s +ℤ n) (pos 0) l.initial.value-iterator;
  above : negsuc (2 ^ 63 - 2) ≤ℤ (l.total.carries -ℤ pos (length l.value-iterator));
  below : (l.total.carries +ℤ pos (length l.value-iterator)) ≤ℤ pos (2 ^ 63 - 1);
}
