-- One flag of 64.
use Rattle.std.proofs.Common.{◌≡◌, ℕ, ◌<◌, ◌*◌, ◌^◌, ◌%◌}
use Rattle.std.proofs.lemmas.Nat.{one_shl}

pub one_flag : (k : ℕ) → k < 64 → 1 * 2 ^ k % 2 ^ 64 ≡ 2 ^ k
one_flag k below = one_shl k 64 below
