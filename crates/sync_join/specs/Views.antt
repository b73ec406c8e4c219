-- What values, states and what is kept are as plain lists.
use Rattle.std.specs.Prelude.{map}
use Rattle.sync_machine.specs.States as states
use Rattle.sync_join.specs.declared.values.Value.{Value}
use Rattle.sync_join.specs.declared.values.Value.TheVariants as stored
use Rattle.sync_join.specs.declared.values.State.{State}
use Rattle.sync_join.specs.declared.tokens.Rest.{Rest}
use Rattle.sync_join.specs.Shards.{Kept}

abbrev pub value_tree : Value → states.Value
value_tree (stored.Number n) = states.Number n
value_tree (stored.Map m) = states.Mapped m

abbrev pub state_tree : State → states.State
state_tree s = map value_tree s.values

abbrev pub kept_of : Rest → Kept
kept_of r = record { records = map value_tree r.records; stored = r.stored }
