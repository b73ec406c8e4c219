-- What a scope of the code knows, as the definitions of names have it.
use Rattle.std.specs.Prelude.{ℕ, List, ◌++◌, Bool, false, length, count_by, nat_eq, Option, Some, None}
use Rattle.std.specs.List.{list_all, range_with_len, AllByRecursion}
use Rattle.sync_terms.specs.Stored.{Stored}
use Rattle.sync_machine.specs.declared.fields.Field.{Field}
use Rattle.sync_machine.specs.declared.machine.Step.{Step}
use Rattle.sync_machine.specs.declared.machine.Act.{Act}
use Rattle.sync_machine.specs.declared.machine.Act.TheVariants as stored
use Rattle.sync_machine.specs.declared.scope.Scope.{Scope}
use Rattle.sync_machine.specs.Scope.{Known, knows}
use Rattle.sync_machine.specs.Views.{symbols_of, steps_tree, HasActIds}
use Rattle.sync_machine.specs.Naming.{bound_names}

-- the parameters, and the names that the earlier statements bind
abbrev pub names_in : Scope → List ℕ
names_in s = symbols_of s.params.now ++ bound_names (steps_tree s.terms.now s.earlier.now)

abbrev pub known_in : Scope → Known
known_in s = knows s.fields.now (names_in s)

-- there is a name, and it is this one
abbrev pub is_the : ℕ → Option ℕ → Bool
is_the x (Some y) = nat_eq x y
is_the x None = false

-- a stored statement initialises this field
abbrev pub starts : ℕ → Act → Bool
starts f (stored.Init g t) = nat_eq f g
starts f (stored.Require form) = false
starts f (stored.Assert form) = false
starts f (stored.Update g t) = false
starts f (stored.HaveVariable g) = false
starts f (stored.Add g p) = false
starts f (stored.Remove g p) = false
starts f (stored.Have g p) = false
starts f (stored.Deposit g p) = false
starts f (stored.Withdraw g p) = false
starts f (stored.Guard g p) = false

-- each field is initialised exactly once by stored statements
abbrev pub starts_each : List Field → List Step → Bool
starts_each fs steps = list_all (λ f. nat_eq (count_by (λ (s : Step). starts f s.act) steps) 1) (range_with_len 0 (length fs))

-- the ids of an operation's statements are ids of the store
abbrev pub HaveIds : Stored → List Step → Type 0
HaveIds s steps = AllByRecursion (λ (x : Step). HasActIds s x.act) steps
