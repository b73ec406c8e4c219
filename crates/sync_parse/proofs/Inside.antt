-- A block inside of a block is one at the level below.
use Rattle.std.proofs.Common.{◌≡◌, ℕ, zero, suc, ◌-◌, ◌<◌, refl, arith}
use Rattle.sync_parse.specs.Scripts.{nested, block_at}

pub nested_is : (left : ℕ) → 0 < left → nested left ≡ block_at (left - 1)
unfolding nested block_at
nested_is zero h = absurd (omega arith)
nested_is (suc below) h = let e : suc below - 1 ≡ below = omega arith in rw e refl
