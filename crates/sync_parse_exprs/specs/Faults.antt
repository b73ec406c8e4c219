-- How the answer of a reading function compares with what reading gives.
use Rattle.std.specs.Prelude.{◌≡◌, Result, Ok, Err}
use Rattle.sync_parse_exprs.specs.declared.faults.Fault.{Fault}
use Rattle.sync_parse_exprs.specs.declared.faults.Halt.{Halt}
use Rattle.sync_parse_exprs.specs.declared.faults.Halt.TheVariants as halt

-- a halt is for want of memory, or reading meets the same fault
abbrev pub Halts : {B : Type 0} → Halt → Result B Fault → Type 0
Halts halt.Memory wanted = Unit {0}
Halts (halt.Fault f) wanted = wanted ≡ Err f

-- unless memory was wanting, the answer, seen by view, is what reading gives
abbrev pub Reads : {A B : Type 0} → (A → B) → Result A Halt → Result B Fault → Type 0
Reads view (Ok x) wanted = wanted ≡ Ok (view x)
Reads view (Err h) wanted = Halts h wanted
