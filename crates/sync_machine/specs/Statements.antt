-- What a statement asks, promises and does to its field, strategy by strategy.
--
-- `cur` is the field's value after the earlier statements of the operation, as a term over the state before. All terms
-- of a statement read the state before. A statement's enabling condition is met by whoever takes the step; its safety
-- condition is proved by the author.
use Rattle.std.specs.Prelude.{ℕ, pos, Option, Some, None}
use Rattle.sync_terms.specs.Trees.{Tree, Lit, Name, Sub, Get, Has, Put, Del, Bump, Nil, Formula, Le, Eq, And, Or}
use Rattle.sync_terms.specs.Trees as trees
use Rattle.sync_base.specs.declared.strategies.Strategy.{Strategy}
use Rattle.sync_base.specs.declared.strategies.Strategy.TheVariants.{Variable, Constant, NotTokenized, Option as OptionField, Map, Set, Multiset, Count, PersistentOption, PersistentMap, PersistentSet, PersistentCount, StorageMap}
use Rattle.sync_machine.specs.Machines.{PatternTree, Bind, Term, PlaceTree, ActTree, Init, Require, Assert, Update, HaveVariable, Add, Remove, Have, Deposit, Withdraw, Guard}

abbrev pub zero : Tree
zero = Lit (pos 0)

abbrev pub one : Tree
one = Lit (pos 1)

abbrev pub or_zero : Option Tree → Tree
or_zero (Some key) = key
or_zero None = zero

-- the key of a place; 0 where the strategy has no keys
abbrev pub key_of : PlaceTree → Tree
key_of place = or_zero place.key

abbrev pub or_one : Option PatternTree → Tree
or_one (Some (Bind x)) = Name x
or_one (Some (Term t)) = t
or_one None = one

-- the value or the amount of a place: a term, or the name that it binds; 1 for an element of a set
abbrev pub value_of : PlaceTree → Tree
value_of place = or_one place.value

abbrev pub bound_in : Option PatternTree → Option ℕ
bound_in (Some (Bind x)) = Some x
bound_in (Some (Term t)) = None
bound_in None = None

-- the name that a place binds, if it binds one
abbrev pub binds : PlaceTree → Option ℕ
binds place = bound_in place.value

-- the key is there; it is free; it is there with this value
abbrev pub is_there : Tree → Tree → Formula
is_there cur k = Eq (Has cur k) one

abbrev pub is_free : Tree → Tree → Formula
is_free cur k = Eq (Has cur k) zero

abbrev pub is_there_with : Tree → Tree → Tree → Formula
is_there_with cur k v = And (is_there cur k) (Eq (Get cur k) v)

-- what a removal or a `have` asks of the field
unfoldable pub presence : Strategy → Tree → PlaceTree → Option Formula
presence OptionField cur p = Some (is_there_with cur (key_of p) (value_of p))
presence Map cur p = Some (is_there_with cur (key_of p) (value_of p))
presence Set cur p = Some (is_there cur (key_of p))
presence Multiset cur p = Some (Le one (Get cur (key_of p)))
presence Count cur p = Some (Le (value_of p) cur)
presence PersistentOption cur p = Some (is_there_with cur (key_of p) (value_of p))
presence PersistentMap cur p = Some (is_there_with cur (key_of p) (value_of p))
presence PersistentSet cur p = Some (is_there cur (key_of p))
presence PersistentCount cur p = Some (Le (value_of p) cur)
presence Variable cur p = None
presence Constant cur p = None
presence NotTokenized cur p = None
presence StorageMap cur p = None

-- an amount of a count is not negative
unfoldable pub amount_is_natural : Strategy → Tree → Option Formula
amount_is_natural Count n = Some (Le zero n)
amount_is_natural Variable n = None
amount_is_natural Constant n = None
amount_is_natural NotTokenized n = None
amount_is_natural OptionField n = None
amount_is_natural Map n = None
amount_is_natural Set n = None
amount_is_natural Multiset n = None
amount_is_natural PersistentOption n = None
amount_is_natural PersistentMap n = None
amount_is_natural PersistentSet n = None
amount_is_natural PersistentCount n = None
amount_is_natural StorageMap n = None

-- what an addition promises: its place is free, or what is there already agrees
unfoldable pub freshness : Strategy → Tree → PlaceTree → Option Formula
freshness OptionField cur p = Some (is_free cur (key_of p))
freshness Map cur p = Some (is_free cur (key_of p))
freshness Set cur p = Some (is_free cur (key_of p))
freshness Count cur p = Some (Le zero (value_of p))
freshness PersistentOption cur p = Some (Or (is_free cur (key_of p)) (Eq (Get cur (key_of p)) (value_of p)))
freshness PersistentMap cur p = Some (Or (is_free cur (key_of p)) (Eq (Get cur (key_of p)) (value_of p)))
freshness PersistentCount cur p = Some (Le cur (value_of p))
freshness Multiset cur p = None
freshness PersistentSet cur p = None
freshness Variable cur p = None
freshness Constant cur p = None
freshness NotTokenized cur p = None
freshness StorageMap cur p = None

-- what a withdrawal or a guard promises: the object is there, with the value that is asked for if one is
abbrev pub storage : Tree → PlaceTree → Formula
storage cur p = stored (binds p) where
  stored : Option ℕ → Formula
  stored (Some x) = is_there cur (key_of p)
  stored None = is_there_with cur (key_of p) (value_of p)

-- the enabling condition of a statement, if it has one
unfoldable pub enabling : Strategy → Tree → ActTree → Option Formula
enabling s cur (Require form) = Some form
enabling s cur (Remove f p) = presence s cur p
enabling s cur (Have f p) = presence s cur p
enabling s cur (Init f t) = None
enabling s cur (Assert form) = None
enabling s cur (Update f t) = None
enabling s cur (HaveVariable f) = None
enabling s cur (Add f p) = None
enabling s cur (Deposit f p) = None
enabling s cur (Withdraw f p) = None
enabling s cur (Guard f p) = None

-- the safety condition of a statement, if it has one
unfoldable pub safety : Strategy → Tree → ActTree → Option Formula
safety s cur (Init f t) = amount_is_natural s t
safety s cur (Assert form) = Some form
safety s cur (Add f p) = freshness s cur p
safety s cur (Remove f p) = amount_is_natural s (value_of p)
safety s cur (Have f p) = amount_is_natural s (value_of p)
safety s cur (Deposit f p) = Some (is_free cur (key_of p))
safety s cur (Withdraw f p) = Some (storage cur p)
safety s cur (Guard f p) = Some (storage cur p)
safety s cur (Require form) = None
safety s cur (Update f t) = None
safety s cur (HaveVariable f) = None

abbrev pub both : Option Formula → Option Formula → Option Formula
both (Some f) (Some g) = Some (And f g)
both (Some f) None = Some f
both None other = other

-- What is known behind a statement: its conditions, and the value of the name that it binds.
unfoldable pub condition : Strategy → Tree → ActTree → Option Formula
condition s cur (Withdraw f p) = Some (is_there_with cur (key_of p) (value_of p))
condition s cur (Guard f p) = Some (is_there_with cur (key_of p) (value_of p))
condition s cur (Init f t) = both (safety s cur (Init f t)) (enabling s cur (Init f t))
condition s cur (Require form) = both (safety s cur (Require form)) (enabling s cur (Require form))
condition s cur (Assert form) = both (safety s cur (Assert form)) (enabling s cur (Assert form))
condition s cur (Update f t) = both (safety s cur (Update f t)) (enabling s cur (Update f t))
condition s cur (HaveVariable f) = both (safety s cur (HaveVariable f)) (enabling s cur (HaveVariable f))
condition s cur (Add f p) = both (safety s cur (Add f p)) (enabling s cur (Add f p))
condition s cur (Remove f p) = both (safety s cur (Remove f p)) (enabling s cur (Remove f p))
condition s cur (Have f p) = both (safety s cur (Have f p)) (enabling s cur (Have f p))
condition s cur (Deposit f p) = both (safety s cur (Deposit f p)) (enabling s cur (Deposit f p))

-- the field's value after an addition
unfoldable pub added : Strategy → Tree → PlaceTree → Tree
added OptionField cur p = Put cur (key_of p) (value_of p)
added Map cur p = Put cur (key_of p) (value_of p)
added Set cur p = Put cur (key_of p) one
added Multiset cur p = Bump cur (key_of p) one
added Count cur p = trees.Add cur (value_of p)
added PersistentOption cur p = Put cur (key_of p) (value_of p)
added PersistentMap cur p = Put cur (key_of p) (value_of p)
added PersistentSet cur p = Put cur (key_of p) one
added PersistentCount cur p = value_of p
added Variable cur p = cur
added Constant cur p = cur
added NotTokenized cur p = cur
added StorageMap cur p = cur

-- the field's value after a removal
unfoldable pub removed : Strategy → Tree → PlaceTree → Tree
removed OptionField cur p = Del cur (key_of p)
removed Map cur p = Del cur (key_of p)
removed Set cur p = Del cur (key_of p)
removed Multiset cur p = Bump cur (key_of p) (Sub zero one)
removed Count cur p = Sub cur (value_of p)
removed PersistentOption cur p = cur
removed PersistentMap cur p = cur
removed PersistentSet cur p = cur
removed PersistentCount cur p = cur
removed Variable cur p = cur
removed Constant cur p = cur
removed NotTokenized cur p = cur
removed StorageMap cur p = cur

-- the field's value after a statement on it
unfoldable pub after : Strategy → Tree → ActTree → Tree
after s cur (Init f t) = t
after s cur (Update f t) = t
after s cur (Add f p) = added s cur p
after s cur (Remove f p) = removed s cur p
after s cur (Deposit f p) = Put cur (key_of p) (value_of p)
after s cur (Withdraw f p) = Del cur (key_of p)
after s cur (Require form) = cur
after s cur (Assert form) = cur
after s cur (HaveVariable f) = cur
after s cur (Have f p) = cur
after s cur (Guard f p) = cur

-- the field that a statement operates on, if it operates on one
unfoldable pub field_of : ActTree → Option ℕ
field_of (Init f t) = Some f
field_of (Update f t) = Some f
field_of (HaveVariable f) = Some f
field_of (Add f p) = Some f
field_of (Remove f p) = Some f
field_of (Have f p) = Some f
field_of (Deposit f p) = Some f
field_of (Withdraw f p) = Some f
field_of (Guard f p) = Some f
field_of (Require form) = None
field_of (Assert form) = None

-- the field that a statement changes, if it changes one
unfoldable pub changed_by : ActTree → Option ℕ
changed_by (Init f t) = Some f
changed_by (Update f t) = Some f
changed_by (Add f p) = Some f
changed_by (Remove f p) = Some f
changed_by (Deposit f p) = Some f
changed_by (Withdraw f p) = Some f
changed_by (HaveVariable f) = None
changed_by (Have f p) = None
changed_by (Guard f p) = None
changed_by (Require form) = None
changed_by (Assert form) = None
