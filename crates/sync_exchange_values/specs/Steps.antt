-- What a step of the walk over a term answers.
use Rattle.std.specs.Prelude.{◌≡◌, ℤ, ◌+ℤ◌, ◌-ℤ◌, ◌*ℤ◌, Bool, true, false, not, ◌&&◌, ◌||◌, int_le, int_lt, Result, Ok, Err}
use Rattle.std.specs.Ordering.{int_eq}
use Rattle.sync_terms.specs.Maps as maps
use Rattle.sync_exchange_values.specs.declared.stops.EvalStop.{EvalStop}
use Rattle.sync_exchange_values.specs.declared.stops.EvalStop.TheVariants.{Width, Memory}
use Rattle.sync_exchange_values.specs.declared.questions.Question.{Question}
use Rattle.sync_exchange_values.specs.declared.questions.Question.TheVariants.{Get, Has, Size, Sum}
use Rattle.sync_exchange_values.specs.declared.operators.Operator.{Operator}
use Rattle.sync_exchange_values.specs.declared.operators.Operator.TheVariants.{Plus, Minus, Times}
use Rattle.sync_exchange_values.specs.declared.operators.Relation.{Relation}
use Rattle.sync_exchange_values.specs.declared.operators.Relation.TheVariants.{Le, Lt, Eq}
use Rattle.sync_exchange_values.specs.declared.operators.Connective.{Connective}
use Rattle.sync_exchange_values.specs.declared.operators.Connective.TheVariants.{And, Or, Imp}

-- the value, where all fits; `Width` where something does not
abbrev pub Evaluates : {A : Type 0} → Result A EvalStop → A → Bool → Type 0
Evaluates (Ok x) value fits = (x ≡ value) × (fits ≡ true)
Evaluates (Err Width) value fits = fits ≡ false
Evaluates (Err Memory) value fits = Unit {0}

-- what is asked of a map
abbrev pub answer : Question → maps.Map → ℤ
answer (Get k) m = maps.get m k
answer (Has k) m = maps.has m k
answer Size m = maps.size m
answer Sum m = maps.sum m

abbrev pub operated : Operator → ℤ → ℤ → ℤ
operated Plus x y = x +ℤ y
operated Minus x y = x -ℤ y
operated Times x y = x *ℤ y

abbrev pub related : Relation → ℤ → ℤ → Bool
related Le x y = int_le x y
related Lt x y = int_lt x y
related Eq x y = int_eq x y

abbrev pub connected : Connective → Bool → Bool → Bool
connected And a b = a && b
connected Or a b = a || b
connected Imp a b = not a || b
