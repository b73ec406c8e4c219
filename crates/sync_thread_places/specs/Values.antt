-- Operands and conditions in given locals.
use Rattle.std.specs.Prelude.{ℕ, Bool}
use Rattle.sync_thread.specs.declared.operands.Cond.{Cond}
use Rattle.sync_thread.specs.declared.operands.Opd.{Opd}
use Rattle.sync_thread.specs.declared.operands.Opd.TheVariants.{Number, Local}
use Rattle.sync_thread.specs.Code.{compares}

abbrev pub operand_in : (ℕ → ℕ) → Opd → ℕ
operand_in f (Number n) = n
operand_in f (Local x) = f x

abbrev pub is_met_in : (ℕ → ℕ) → Cond → Bool
is_met_in f c = compares c.rel (operand_in f c.left) (operand_in f c.right)
