-- Which statements an operation may hold, and in which order.
use Rattle.std.specs.Prelude.{ℕ, Bool, true, false, not, ◌&&◌, ◌||◌, nat_eq, Option, Some, None, List, is_none}
use Rattle.std.specs.List.{list_all}
use Rattle.sync_base.specs.declared.strategies.OpMode.{OpMode}
use Rattle.sync_base.specs.declared.strategies.OpMode.TheVariants as mode
use Rattle.sync_machine.specs.Machines.{ActTree, StepTree}
use Rattle.sync_machine.specs.Machines as acts
use Rattle.sync_machine.specs.Statements.{field_of, changed_by}
use Rattle.sync_rules.specs.declared.kinds.OpKind.{OpKind}
use Rattle.sync_rules.specs.declared.kinds.OpKind.TheVariants as kinds
use Rattle.sync_rules.specs.Strategies.{kind_of}

-- an init holds first values, requires, additions and deposits
unfoldable pub may_start : ActTree → Bool
may_start (acts.Init f t) = true
may_start (acts.Require form) = true
may_start (acts.Add f p) = true
may_start (acts.Deposit f p) = true
may_start (acts.Assert form) = false
may_start (acts.Update f t) = false
may_start (acts.HaveVariable f) = false
may_start (acts.Remove f p) = false
may_start (acts.Have f p) = false
may_start (acts.Withdraw f p) = false
may_start (acts.Guard f p) = false

abbrev pub is_first_value : Option OpKind → Bool
is_first_value None = false
is_first_value (Some kinds.Init) = true
is_first_value (Some kinds.Update) = false
is_first_value (Some kinds.HaveVariable) = false
is_first_value (Some kinds.Add) = false
is_first_value (Some kinds.Remove) = false
is_first_value (Some kinds.Have) = false
is_first_value (Some kinds.Deposit) = false
is_first_value (Some kinds.Withdraw) = false
is_first_value (Some kinds.Guard) = false

-- a statement may stand in an operation of this mode; what a property holds is for the rule on changes
abbrev pub may_stand_in : OpMode → ActTree → Bool
may_stand_in mode.Init act = may_start act
may_stand_in mode.Transition act = not (is_first_value (kind_of act))
may_stand_in mode.Property act = true

abbrev pub is_removal : Option OpKind → Bool
is_removal None = false
is_removal (Some kinds.Init) = false
is_removal (Some kinds.Update) = false
is_removal (Some kinds.HaveVariable) = false
is_removal (Some kinds.Add) = false
is_removal (Some kinds.Remove) = true
is_removal (Some kinds.Have) = false
is_removal (Some kinds.Deposit) = false
is_removal (Some kinds.Withdraw) = true
is_removal (Some kinds.Guard) = false

abbrev pub is_read : Option OpKind → Bool
is_read None = false
is_read (Some kinds.Init) = false
is_read (Some kinds.Update) = false
is_read (Some kinds.HaveVariable) = false
is_read (Some kinds.Add) = false
is_read (Some kinds.Remove) = false
is_read (Some kinds.Have) = true
is_read (Some kinds.Deposit) = false
is_read (Some kinds.Withdraw) = false
is_read (Some kinds.Guard) = true

abbrev pub is_addition : Option OpKind → Bool
is_addition None = false
is_addition (Some kinds.Init) = false
is_addition (Some kinds.Update) = false
is_addition (Some kinds.HaveVariable) = false
is_addition (Some kinds.Add) = true
is_addition (Some kinds.Remove) = false
is_addition (Some kinds.Have) = false
is_addition (Some kinds.Deposit) = true
is_addition (Some kinds.Withdraw) = false
is_addition (Some kinds.Guard) = false

abbrev pub is_update : Option OpKind → Bool
is_update None = false
is_update (Some kinds.Init) = false
is_update (Some kinds.Update) = true
is_update (Some kinds.HaveVariable) = false
is_update (Some kinds.Add) = false
is_update (Some kinds.Remove) = false
is_update (Some kinds.Have) = false
is_update (Some kinds.Deposit) = false
is_update (Some kinds.Withdraw) = false
is_update (Some kinds.Guard) = false

abbrev pub are_one : Option ℕ → Option ℕ → Bool
are_one (Some f) (Some g) = nat_eq f g
are_one (Some f) None = false
are_one None g = false

-- two statements operate on one field
abbrev pub are_on_one_field : ActTree → ActTree → Bool
are_on_one_field a b = are_one (field_of a) (field_of b)

-- Of one field the removals stand before the reads, and both before the additions; the first value stands before the
-- additions too.
abbrev pub has_to_precede : Option OpKind → Option OpKind → Bool
has_to_precede a b = (is_removal a && (is_read b || is_addition b)) || ((is_read a || is_first_value a) && is_addition b)

-- a statement may stand behind an earlier one
abbrev pub may_follow : ActTree → ActTree → Bool
may_follow act earlier = not (are_on_one_field act earlier && has_to_precede (kind_of act) (kind_of earlier))

-- a statement does not update a field that an earlier one updates
abbrev pub is_no_second_update : ActTree → ActTree → Bool
is_no_second_update act earlier = not (are_on_one_field act earlier && (is_update (kind_of act) && is_update (kind_of earlier)))

abbrev pub is_in_order : List StepTree → ActTree → Bool
is_in_order earlier act = list_all (λ (e : StepTree). may_follow act e.act) earlier

abbrev pub is_only_update : List StepTree → ActTree → Bool
is_only_update earlier act = list_all (λ (e : StepTree). is_no_second_update act e.act) earlier

-- a property changes no field
abbrev pub keeps_still : OpMode → ActTree → Bool
keeps_still mode.Init act = true
keeps_still mode.Transition act = true
keeps_still mode.Property act = is_none (changed_by act)
