-- What inserting a node into a list of different nodes does.
use Rattle.std.specs.Prelude.{◌≡◌, ℕ, Bool, true, ◌⊎◌, List, [], ◌∷◌, ◌++◌, slice_get, Some}

-- the lists stay, or the node and its size go last
abbrev pub IsInserted : {N : Type 0} → List N → List ℕ → N → ℕ → List N → List ℕ → Type 0
IsInserted nodes sizes node size nodes' sizes' = ((nodes' ≡ nodes) × (sizes' ≡ sizes)) ⊎ ((nodes' ≡ nodes ++ node ∷ []) × (sizes' ≡ sizes ++ size ∷ []))

-- a node that is equal to this one stands at the place
abbrev pub IsAt : {N : Type 0} → (N → N → Bool) → N → List N → ℕ → Type 0
IsAt {N} eq node nodes place = (k : N) × (slice_get nodes place ≡ Some k) × (eq node k ≡ true)
