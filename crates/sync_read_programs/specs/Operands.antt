-- Operands, conditions, calculations, indices and scripts of a program, or the first rule of names that they break.
use Rattle.std.specs.Prelude.{ℕ, suc, ◌^◌, nat_lt, nat_eq, min, List, [], ◌∷◌, ◌++◌, Option, option_map, Result, Ok, if◌then◌else◌}
use Rattle.sync_base.specs.declared.stops.Refusal.{Refusal}
use Rattle.sync_base.specs.declared.stops.Rule.TheVariants.{N1, N5}
use Rattle.sync_base.specs.Outcome.{◌>>=◌}
use Rattle.sync_parse.specs.declared.scripts.RawScript.{RawScript}
use Rattle.sync_parse_exprs.specs.declared.raw_names.RawName.{RawName}
use Rattle.sync_parse_programs.specs.declared.operands.RawNumber.{RawNumber}
use Rattle.sync_parse_programs.specs.declared.operands.RawOperand.{RawOperand}
use Rattle.sync_parse_programs.specs.declared.operands.RawOperand.TheVariants as raw
use Rattle.sync_parse_programs.specs.declared.operands.RawRelation.{RawRelation}
use Rattle.sync_parse_programs.specs.declared.operands.RawRelation.TheVariants as relation
use Rattle.sync_parse_programs.specs.declared.operands.RawCondition.{RawCondition}
use Rattle.sync_parse_programs.specs.declared.operands.RawCalculation.{RawCalculation}
use Rattle.sync_parse_programs.specs.declared.operands.RawCalculation.TheVariants as calculation
use Rattle.sync_parse_programs.specs.declared.operands.RawIndex.{RawIndex}
use Rattle.sync_thread.specs.declared.operands.Opd.{Opd}
use Rattle.sync_thread.specs.declared.operands.Opd.TheVariants.{Number, Local}
use Rattle.sync_thread.specs.declared.operands.Rel.{Rel}
use Rattle.sync_thread.specs.declared.operands.Rel.TheVariants as rel
use Rattle.sync_thread.specs.declared.operands.Cond.{Cond}
use Rattle.sync_thread.specs.declared.operands.Calc.{Calc}
use Rattle.sync_thread.specs.declared.operands.Calc.TheVariants as calc
use Rattle.sync_thread.specs.Programs.{ScriptTree, IndexTree}
use Rattle.sync_read_names.specs.Scopes.{refuse, number_in, is_assigned}
use Rattle.sync_read.specs.Acts.{few_before}
use Rattle.sync_read.specs.Scripts.{script_in}
use Rattle.sync_read_programs.specs.declared.scopes.ProgramScope.{ProgramScope}

-- a number that is a place; what is above 4,294,967,295 is kept as that
abbrev pub place_of : ℕ → ℕ
place_of n = min n 4294967295

-- the number of the name of a token; a text has fewer names than bytes
abbrev pub token_name : RawName → ℕ
token_name n = number_in n.name

abbrev pub token_name_if : Option RawName → Option ℕ
token_name_if name = option_map token_name name

abbrev pub label_of : Option RawName → Option ℕ
label_of label = option_map (λ (n : RawName). n.name) label

-- a number of a word
abbrev pub word_number : RawNumber → Result ℕ Refusal
word_number n = if nat_lt n.number (2 ^ 64) then Ok n.number else refuse N5 n.line

-- a factor or a divisor, which is not 0
abbrev pub divisor : RawNumber → Result ℕ Refusal
divisor n = if nat_eq n.number 0 then refuse N5 n.line else word_number n

-- a local that is known here
abbrev pub local_in : ProgramScope → RawName → Result ℕ Refusal
local_in s n = if is_assigned s.scope n.name then Ok n.name else refuse N1 n.line

abbrev pub operand_in : ProgramScope → RawOperand → Result Opd Refusal
operand_in s (raw.Number n) = do
  v ← word_number n
  Ok (Number v)
operand_in s (raw.Local n) = do
  x ← local_in s n
  Ok (Local x)

abbrev pub two_operands : ProgramScope → RawOperand → RawOperand → Result (Opd × Opd) Refusal
two_operands s a b = do
  x ← operand_in s a
  y ← operand_in s b
  Ok (x, y)

abbrev pub operand_and_divisor : ProgramScope → RawOperand → RawNumber → Result (Opd × ℕ) Refusal
operand_and_divisor s a n = do
  x ← operand_in s a
  d ← divisor n
  Ok (x, d)

abbrev pub relation_of : RawRelation → Rel
relation_of relation.Equal = rel.Eq
relation_of relation.NotEqual = rel.Ne
relation_of relation.Below = rel.Lt
relation_of relation.AtMost = rel.Le

unfoldable pub condition_in : ProgramScope → RawCondition → Result Cond Refusal
condition_in s c = do
  p ← two_operands s c.left c.right
  Ok (record { left = p.0; rel = relation_of c.relation; right = p.1 })

unfoldable pub calculation_in : ProgramScope → RawCalculation → Result Calc Refusal
calculation_in s (calculation.Plain a) = do
  x ← operand_in s a
  Ok (calc.Plain x)
calculation_in s (calculation.Plus a b) = do
  p ← two_operands s a b
  Ok (calc.Plus p.0 p.1)
calculation_in s (calculation.Minus a b) = do
  p ← two_operands s a b
  Ok (calc.Minus p.0 p.1)
calculation_in s (calculation.Times a n) = do
  p ← operand_and_divisor s a n
  Ok (calc.Times p.0 p.1)
calculation_in s (calculation.Over a n) = do
  p ← operand_and_divisor s a n
  Ok (calc.Over p.0 p.1)
calculation_in s (calculation.Modulo a n) = do
  p ← operand_and_divisor s a n
  Ok (calc.Modulo p.0 p.1)

-- ---- scripts

-- one more script; a text has at most 65,536
abbrev pub counted : ProgramScope → ProgramScope
counted s = record s { scripts = suc s.scripts }

unfoldable pub one_script : ProgramScope → RawScript → Result (ScriptTree × ProgramScope) Refusal
one_script s x = do
  n ← few_before 65536 s.scripts x.line
  p ← script_in s.scope x
  Ok (record { plan = p.0; line = p.1 }, counted s)

unfoldable pub scripts_from : List ScriptTree → ProgramScope → List RawScript → Result (List ScriptTree × ProgramScope) Refusal
scripts_from held s [] = Ok (held, s)
scripts_from held s (x ∷ xs) = do
  y ← one_script s x
  scripts_from (held ++ y.0 ∷ []) y.1 xs

unfoldable pub index_in : ProgramScope → RawIndex → Result (IndexTree × ProgramScope) Refusal
index_in s i = do
  x ← operand_in s i.operand
  ss ← scripts_from [] s i.scripts
  Ok (record { operand = x; scripts = ss.0 }, ss.1)
