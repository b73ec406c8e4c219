-- Productions of operands, conditions, calculations and word operations.
use Rattle.std.specs.Prelude.{◌≡◌, List, refl, ◌⊎◌}
use Rattle.std.proofs.Common.{inl, inr}
use Rattle.sync_lex.specs.declared.signs.Sign.TheVariants as sign
use Rattle.sync_lex.specs.declared.terminals.Terminal.{Terminal}
use Rattle.sync_parse_exprs.specs.declared.raw_names.RawName.{RawName}
use Rattle.sync_parse_forms.specs.Codes.{at_sign, at_number, a_name, nothing, either, node}
use Rattle.sync_parse_programs.specs.Known.{Production, ◌∘◌, ◌▸◌, squares, scripts, numbered}
use Rattle.sync_parse_programs.specs.declared.operands.RawNumber.{RawNumber}
use Rattle.sync_parse_programs.specs.declared.operands.RawOperand.{RawOperand}
use Rattle.sync_parse_programs.specs.declared.operands.RawRelation.{RawRelation}
use Rattle.sync_parse_programs.specs.declared.operands.RawCondition.{RawCondition}
use Rattle.sync_parse_programs.specs.declared.operands.RawCalculation.{RawCalculation}
use Rattle.sync_parse_programs.specs.declared.operands.RawIndex.{RawIndex}
use Rattle.sync_parse_programs.specs.declared.operands.RawLoad.{RawLoad}
use Rattle.sync_parse_programs.specs.declared.operands.RawChange.{RawChange}
use Rattle.sync_parse_programs.specs.declared.operands.RawCas.{RawCas}
use Rattle.sync_parse_programs.specs.declared.operands.RawWordOperation.{RawWordOperation}
use Rattle.sync_parse_programs.specs.declared.operands.RawOperand.TheVariants as of
use Rattle.sync_parse_programs.specs.declared.operands.RawRelation.TheVariants as by
use Rattle.sync_parse_programs.specs.declared.operands.RawCalculation.TheVariants as calculation
use Rattle.sync_parse_programs.specs.declared.operands.RawWordOperation.TheVariants as operation

abbrev operand_made : List Terminal → RawNumber ⊎ RawName → RawOperand
operand_made ws (inl n) = of.Number n
operand_made ws (inr x) = of.Local x

abbrev operand_parts : RawOperand → RawNumber ⊎ RawName
operand_parts (of.Number n) = inl n
operand_parts (of.Local x) = inr x

abbrev operand_law : (ws : List Terminal) (x : RawNumber ⊎ RawName) → operand_parts (operand_made ws x) ≡ x
operand_law ws (inl n) = refl
operand_law ws (inr x) = refl

-- opd = NUMBER | NAME
unfoldable pub operand : Production RawOperand
operand = node operand_made operand_parts operand_law (either at_number numbered a_name)

abbrev Relations : Type 0
Relations = Unit {0} ⊎ (Unit {0} ⊎ (Unit {0} ⊎ Unit {0}))

abbrev relation_made : List Terminal → Relations → RawRelation
relation_made ws (inl u) = by.Equal
relation_made ws (inr (inl u)) = by.NotEqual
relation_made ws (inr (inr (inl u))) = by.Below
relation_made ws (inr (inr (inr u))) = by.AtMost

abbrev relation_parts : RawRelation → Relations
relation_parts by.Equal = inl tt
relation_parts by.NotEqual = inr (inl tt)
relation_parts by.Below = inr (inr (inl tt))
relation_parts by.AtMost = inr (inr (inr tt))

abbrev relation_law : (ws : List Terminal) (x : Relations) → relation_parts (relation_made ws x) ≡ x
relation_law ws (inl u) = refl
relation_law ws (inr (inl u)) = refl
relation_law ws (inr (inr (inl u))) = refl
relation_law ws (inr (inr (inr u))) = refl

-- "=" | "!=" | "<" | "<="
unfoldable pub relation : Production RawRelation
relation = node relation_made relation_parts relation_law
    (either (at_sign sign.Equal) (sign.Equal ▸ nothing)
    (either (at_sign sign.NotEqual) (sign.NotEqual ▸ nothing)
    (either (at_sign sign.Below) (sign.Below ▸ nothing)
    (sign.AtMost ▸ nothing))))

-- cond = opd ("="|"!="|"<"|"<=") opd
unfoldable pub condition : Production RawCondition
condition = node (λ ws x. record { left = x.0; relation = x.1.0; right = x.1.1 }) (λ t. (t.left, (t.relation, t.right))) (λ ws x. refl)
    (operand ∘ relation ∘ operand)

abbrev Seconds : Type 0
Seconds = RawOperand ⊎ (RawOperand ⊎ (RawNumber ⊎ (RawNumber ⊎ (RawNumber ⊎ Unit {0}))))

abbrev calculation_made : List Terminal → RawOperand × Seconds → RawCalculation
calculation_made ws (x, inl y) = calculation.Plus x y
calculation_made ws (x, inr (inl y)) = calculation.Minus x y
calculation_made ws (x, inr (inr (inl n))) = calculation.Times x n
calculation_made ws (x, inr (inr (inr (inl n)))) = calculation.Over x n
calculation_made ws (x, inr (inr (inr (inr (inl n))))) = calculation.Modulo x n
calculation_made ws (x, inr (inr (inr (inr (inr u))))) = calculation.Plain x

abbrev calculation_parts : RawCalculation → RawOperand × Seconds
calculation_parts (calculation.Plus x y) = (x, inl y)
calculation_parts (calculation.Minus x y) = (x, inr (inl y))
calculation_parts (calculation.Times x n) = (x, inr (inr (inl n)))
calculation_parts (calculation.Over x n) = (x, inr (inr (inr (inl n))))
calculation_parts (calculation.Modulo x n) = (x, inr (inr (inr (inr (inl n)))))
calculation_parts (calculation.Plain x) = (x, inr (inr (inr (inr (inr tt)))))

abbrev calculation_law : (ws : List Terminal) (x : RawOperand × Seconds) → calculation_parts (calculation_made ws x) ≡ x
calculation_law ws (x, inl y) = refl
calculation_law ws (x, inr (inl y)) = refl
calculation_law ws (x, inr (inr (inl n))) = refl
calculation_law ws (x, inr (inr (inr (inl n)))) = refl
calculation_law ws (x, inr (inr (inr (inr (inl n))))) = refl
calculation_law ws (x, inr (inr (inr (inr (inr u))))) = refl

-- opd [("+"|"-") opd | ("*"|"/"|"%") NUMBER]
unfoldable pub calculated : Production RawCalculation
calculated = node calculation_made calculation_parts calculation_law (operand ∘
    either (at_sign sign.Plus) (sign.Plus ▸ operand)
    (either (at_sign sign.Minus) (sign.Minus ▸ operand)
    (either (at_sign sign.Star) (sign.Star ▸ numbered)
    (either (at_sign sign.Slash) (sign.Slash ▸ numbered)
    (either (at_sign sign.Percent) (sign.Percent ▸ numbered) nothing)))))

-- idx = "[" opd {script} "]"
unfoldable pub index : Production RawIndex
index = node (λ ws x. record { operand = x.0; scripts = x.1 }) (λ t. (t.operand, t.scripts)) (λ ws x. refl) (squares (operand ∘ scripts))

-- NAME idx
unfoldable pub load : Production RawLoad
load = node (λ ws x. record { word = x.0; index = x.1 }) (λ t. (t.word, t.index)) (λ ws x. refl) (a_name ∘ index)

-- NAME idx opd
unfoldable pub change : Production RawChange
change = node (λ ws x. record { word = x.0; index = x.1.0; operand = x.1.1 }) (λ t. (t.word, (t.index, t.operand))) (λ ws x. refl) (a_name ∘ index ∘ operand)

-- NAME idx "=" opd
unfoldable pub stored : Production RawChange
stored = node (λ ws x. record { word = x.0; index = x.1.0; operand = x.1.1 }) (λ t. (t.word, (t.index, t.operand))) (λ ws x. refl) (a_name ∘ index ∘ sign.Equal ▸ operand)

-- NAME idx opd opd
unfoldable pub cas : Production RawCas
cas = node (λ ws x. record { word = x.0; index = x.1.0; expected = x.1.1.0; changed = x.1.1.1 }) (λ t. (t.word, (t.index, (t.expected, t.changed)))) (λ ws x. refl)
    (a_name ∘ index ∘ operand ∘ operand)

abbrev Operations : Type 0
Operations = RawLoad ⊎ (RawChange ⊎ (RawChange ⊎ (RawChange ⊎ RawCas)))

abbrev operation_made : List Terminal → Operations → RawWordOperation
operation_made ws (inl x) = operation.Load x
operation_made ws (inr (inl x)) = operation.Swap x
operation_made ws (inr (inr (inl x))) = operation.Add x
operation_made ws (inr (inr (inr (inl x)))) = operation.Sub x
operation_made ws (inr (inr (inr (inr x)))) = operation.Cas x

abbrev operation_parts : RawWordOperation → Operations
operation_parts (operation.Load x) = inl x
operation_parts (operation.Swap x) = inr (inl x)
operation_parts (operation.Add x) = inr (inr (inl x))
operation_parts (operation.Sub x) = inr (inr (inr (inl x)))
operation_parts (operation.Cas x) = inr (inr (inr (inr x)))

abbrev operation_law : (ws : List Terminal) (x : Operations) → operation_parts (operation_made ws x) ≡ x
operation_law ws (inl x) = refl
operation_law ws (inr (inl x)) = refl
operation_law ws (inr (inr (inl x))) = refl
operation_law ws (inr (inr (inr (inl x)))) = refl
operation_law ws (inr (inr (inr (inr x)))) = refl

-- "load" NAME idx | ("swap"|"add"|"sub") NAME idx opd | "cas" NAME idx opd opd
unfoldable pub word_operation : Production RawWordOperation
word_operation = node operation_made operation_parts operation_law
    (either (at_sign sign.Load) (sign.Load ▸ load)
    (either (at_sign sign.Swap) (sign.Swap ▸ change)
    (either (at_sign sign.Add) (sign.Add ▸ change)
    (either (at_sign sign.Sub) (sign.Sub ▸ change)
    (sign.Cas ▸ cas)))))
