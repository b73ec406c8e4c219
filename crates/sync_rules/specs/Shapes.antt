-- Which operands fit a strategy.
use Rattle.std.specs.Prelude.{Bool, true, false, ◌&&◌, ◌||◌, is_none, is_some}
use Rattle.sync_terms.specs.Trees.{Tree, Lit, Name, Add, Sub, Scale, Get, Has, Size, Sum, Nil, Put, Del, Bump}
use Rattle.sync_base.specs.declared.strategies.Strategy.{Strategy}
use Rattle.sync_base.specs.declared.strategies.Strategy.TheVariants.{Variable, Constant, NotTokenized, Option as OptionField, Map, Set, Multiset, Count, PersistentOption, PersistentMap, PersistentSet, PersistentCount, StorageMap}
use Rattle.sync_machine.specs.Machines.{PlaceTree, ActTree}
use Rattle.sync_machine.specs.Machines as acts
use Rattle.sync_machine.specs.Statements.{binds}
use Rattle.sync_machine.specs.States.{Sort, Numbers, Maps, sort_of}

abbrev pub is_nil : Tree → Bool
is_nil Nil = true
is_nil (Lit n) = false
is_nil (Name x) = false
is_nil (Add a b) = false
is_nil (Sub a b) = false
is_nil (Scale n a) = false
is_nil (Get m k) = false
is_nil (Has m k) = false
is_nil (Size m) = false
is_nil (Sum m) = false
is_nil (Put m k v) = false
is_nil (Del m k) = false
is_nil (Bump m k n) = false

-- a number field starts with any number, and a map field empty
abbrev pub is_start : Sort → Tree → Bool
is_start Numbers t = true
is_start Maps t = is_nil t

-- the places `(v)`, `[k]` and `[k => v]`
abbrev pub has_value_alone : PlaceTree → Bool
has_value_alone p = is_none p.key && is_some p.value

abbrev pub has_key_alone : PlaceTree → Bool
has_key_alone p = is_some p.key && is_none p.value

abbrev pub has_both : PlaceTree → Bool
has_both p = is_some p.key && is_some p.value

-- a place is as the strategy's places are
unfoldable pub has_shape : Strategy → PlaceTree → Bool
has_shape OptionField p = has_value_alone p
has_shape Map p = has_both p
has_shape Set p = has_key_alone p
has_shape Multiset p = has_key_alone p
has_shape Count p = has_value_alone p
has_shape PersistentOption p = has_value_alone p
has_shape PersistentMap p = has_both p
has_shape PersistentSet p = has_key_alone p
has_shape PersistentCount p = has_value_alone p
has_shape StorageMap p = has_both p
has_shape Variable p = false
has_shape Constant p = false
has_shape NotTokenized p = false

-- a place may have a new name for the value that is there
abbrev pub may_bind : Strategy → Bool
may_bind OptionField = true
may_bind Map = true
may_bind PersistentOption = true
may_bind PersistentMap = true
may_bind StorageMap = true
may_bind Set = false
may_bind Multiset = false
may_bind Count = false
may_bind PersistentSet = false
may_bind PersistentCount = false
may_bind Variable = false
may_bind Constant = false
may_bind NotTokenized = false

-- the place of an addition or a deposit, and of what asks for a value that is there
abbrev pub fits_new : Strategy → PlaceTree → Bool
fits_new s p = has_shape s p && is_none (binds p)

abbrev pub fits_present : Strategy → PlaceTree → Bool
fits_present s p = has_shape s p && (may_bind s || is_none (binds p))

-- the operands of a statement are as its field's strategy wants them
unfoldable pub fits : Strategy → ActTree → Bool
fits s (acts.Init f t) = is_start (sort_of s) t
fits s (acts.Add f p) = fits_new s p
fits s (acts.Deposit f p) = fits_new s p
fits s (acts.Remove f p) = fits_present s p
fits s (acts.Have f p) = fits_present s p
fits s (acts.Withdraw f p) = fits_present s p
fits s (acts.Guard f p) = fits_present s p
fits s (acts.Require form) = true
fits s (acts.Assert form) = true
fits s (acts.Update f t) = true
fits s (acts.HaveVariable f) = true
