-- One number changed by another, and when no step of it leaves signed 128 bits.
use Rattle.std.specs.Prelude.{ℤ, ◌+ℤ◌, ◌-ℤ◌, ◌*ℤ◌, FitsSigned}
use Rattle.std.specs.Int.{w128}
use Rattle.sync_linear.specs.declared.changes.Change.{Change}
use Rattle.sync_linear.specs.declared.changes.Change.TheVariants.{Plus, Minus, Times}

abbrev pub changed : Change → ℤ → ℤ → ℤ
changed Plus x y = x +ℤ y
changed Minus x y = x -ℤ y
changed (Times c) x y = x +ℤ (c *ℤ y)

abbrev pub ChangeFits : Change → ℤ → ℤ → Type 0
ChangeFits Plus x y = FitsSigned w128 (x +ℤ y)
ChangeFits Minus x y = FitsSigned w128 (x -ℤ y)
ChangeFits (Times c) x y = FitsSigned w128 (c *ℤ y) × FitsSigned w128 (x +ℤ (c *ℤ y))
