-- Terminals that are taken.
use Rattle.std.proofs.Common.{◌≡◌, ℕ, suc, ◌<◌, ◌≤◌, Bool, true, false, List, ◌∷◌, length, ap, arith}
use Rattle.sync_lex.specs.declared.terminals.Terminal.{Terminal}

pub one_shorter : (ts rest : List Terminal) (w : Terminal) → ts ≡ w ∷ rest → length rest < length ts
one_shorter ts rest w e = let size : length ts ≡ suc (length rest) = ap (λ (us : List Terminal). length us) e in omega (arith, size)

abbrev pub Shorter : Bool → ℕ → ℕ → Type 0
Shorter true a b = a < b
Shorter false a b = a ≤ b

abbrev pub Holds : Bool → Type 0
Holds true = Unit {0}
Holds false = ⊥
