-- Where an operation begins: the fields' values, each as a term over the state before.
use Rattle.std.specs.Prelude.{ℕ, suc, List, [], ◌∷◌}
use Rattle.sync_terms.specs.Trees.{Tree, Name}
use Rattle.sync_machine.specs.declared.fields.Field.{Field}
use Rattle.sync_base.specs.declared.strategies.Strategy.{Strategy}
use Rattle.sync_base.specs.declared.strategies.OpMode.{OpMode}
use Rattle.sync_base.specs.declared.strategies.OpMode.TheVariants as mode
use Rattle.sync_machine.specs.States.{sort_of, blank}

-- the value of the field with number n before the first statement
abbrev pub first_value : OpMode → ℕ → Strategy → Tree
first_value mode.Init n k = blank (sort_of k)
first_value mode.Transition n k = Name n
first_value mode.Property n k = Name n

-- the values of fields that are numbered from n
unfoldable pub values_from : OpMode → ℕ → List Field → List Tree
values_from m n [] = []
values_from m n (f ∷ fs) = first_value m n f.strategy ∷ values_from m (suc n) fs
