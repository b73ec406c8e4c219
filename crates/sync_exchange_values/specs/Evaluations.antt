-- What evaluations of terms and formulas answer, under what their symbols stand for.
use Rattle.std.specs.Prelude.{ℤ, Bool, ◌&&◌, Result}
use Rattle.sync_entries.specs.Narrow.{is_narrow}
use Rattle.sync_terms.specs.Maps as maps
use Rattle.sync_terms.specs.Trees.{Tree, Formula}
use Rattle.sync_terms.specs.Values.{Valuation, num, mapped, truth}
use Rattle.sync_exchange_values.specs.declared.questions.Question.{Question}
use Rattle.sync_exchange_values.specs.declared.stops.EvalStop.{EvalStop}
use Rattle.sync_exchange_values.specs.Fitting.{number_fits, map_fits, form_fits}
use Rattle.sync_exchange_values.specs.Steps.{Evaluates, answer}

-- the number, the map and the truth
abbrev pub EvaluatesNumber : Result ℤ EvalStop → Valuation → Tree → Type 0
EvaluatesNumber r v t = Evaluates r (num v t) (number_fits is_narrow v t)

abbrev pub EvaluatesMap : Result maps.Map EvalStop → Valuation → Tree → Type 0
EvaluatesMap r v t = Evaluates r (mapped v t) (map_fits is_narrow v t)

abbrev pub EvaluatesTruth : Result Bool EvalStop → Valuation → Formula → Type 0
EvaluatesTruth r v f = Evaluates r (truth v f) (form_fits is_narrow v f)

-- the answer of a map
abbrev pub EvaluatesAnswer : Result ℤ EvalStop → Valuation → Question → Tree → Type 0
EvaluatesAnswer r v question m = Evaluates r (answer question (mapped v m)) (map_fits is_narrow v m && is_narrow (answer question (mapped v m)))
