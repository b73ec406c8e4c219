-- What stands in brackets is an expression at the level below.
use Rattle.std.proofs.Common.{◌≡◌, ℕ, zero, suc, ◌-◌, ◌<◌, refl, arith}
use Rattle.sync_parse_exprs.specs.Expressions.{implies, inside}

pub inside_is : (left : ℕ) → 0 < left → inside left ≡ implies (inside (left - 1)) (left - 1) 64
unfolding inside
inside_is zero h = absurd (omega arith)
inside_is (suc below) h = let e : suc below - 1 ≡ below = omega arith in rw e refl
