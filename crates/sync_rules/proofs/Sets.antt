-- Marks of no field, and marks that are joined.
use Rattle.std.proofs.Common.{◌≡◌, ℕ, zero, suc, Bool, true, false, ◌||◌, List, [], ◌∷◌, refl}
use Rattle.sync_rules.specs.FieldSets.{has}

abbrev pub unmarked : ℕ → List Bool
unmarked zero = []
unmarked (suc n) = false ∷ unmarked n

pub has-unmarked : (n x : ℕ) → has (unmarked n) x ≡ false
has-unmarked zero x = refl
has-unmarked (suc n) zero = refl
has-unmarked (suc n) (suc x) = has-unmarked n x

pub or_assoc : (a b c : Bool) → ((a || b) || c) ≡ (a || (b || c))
or_assoc true b c = refl
or_assoc false b c = refl
