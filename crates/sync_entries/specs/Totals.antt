-- Sums that may leave signed 128 bits on the way.
use Rattle.std.specs.Prelude.{ℤ, pos, ◌+ℤ◌, ◌*ℤ◌, ◌^◌}
use Rattle.sync_entries.specs.declared.totals.Total.{Total}

-- the low number, and as many times 2^128 as there are carries
abbrev pub sum_in : Total → ℤ
sum_in t = t.low +ℤ (pos (2 ^ 128) *ℤ t.carries)
