-- The bounds of a thread's locals are so in a keep's environment.
use Rattle.std.proofs.Common.{arith, inl, inr}
use Rattle.std.proofs.lemmas.Bool.Decides.{nat_tests}
use Rattle.std.specs.List.{AllByRecursion}
use Rattle.std.specs.Prelude.{◌≡◌, ℕ, ◌^◌, ◌<◌, pos, true, int_le, List, [], ◌∷◌, Option, Some, None, unwrap_or, ◌⊎◌}
use Rattle.sync_terms.specs.Symbols.{name_symbol}
use Rattle.sync_terms.specs.Trees.{Tree, Name}
use Rattle.sync_terms.specs.Values.{Valuation, num, truth}
use Rattle.sync_typing.specs.Environments.{top}
use Rattle.sync_typing.specs.Keeps.{local_bounds}
use Rattle.sync_typing_laws.specs.Rests.{IsKnown}
use mathlib.Core.Path.{refl, ap, ◌∙◌}

-- a local stands for its own symbol, if for anything, and that is a word
pub record IsWord (w : Valuation) (terms : ℕ → Option Tree) (y : ℕ) : Type 0 where
  pub own : (terms (name_symbol y) ≡ None) ⊎ (terms (name_symbol y) ≡ Some (Name (name_symbol y)))
  pub number : ℕ
  pub is : w.number (name_symbol y) ≡ pos number
  pub fits : number < 2 ^ 64

own_term : (o : Option Tree) (y : ℕ) → (o ≡ None) ⊎ (o ≡ Some (Name (name_symbol y))) → unwrap_or o (Name (name_symbol y)) ≡ Name (name_symbol y)
own_term o y (inl none) = ap (λ z. unwrap_or z (Name (name_symbol y))) none
own_term o y (inr some) = ap (λ z. unwrap_or z (Name (name_symbol y))) some

low_is : (m : ℕ) → int_le (pos 0) (pos m) ≡ true
low_is m = grind (arith, nat_tests)

high_is : (m : ℕ) → m < 2 ^ 64 → int_le (pos m) top ≡ true
high_is m fits = grind (arith, nat_tests)

pub bounds_known : (w : Valuation) (terms : ℕ → Option Tree) (ls : List ℕ) → AllByRecursion (IsWord w terms) ls → AllByRecursion (IsKnown w) (local_bounds terms ls)
unfolding truth
bounds_known w terms [] all = tt
bounds_known w terms (y ∷ ls) all = ((refl, ap (λ z. int_le (pos 0) z) value ∙ low_is all.0.number), ((refl, ap (λ z. int_le z top) value ∙ high_is all.0.number all.0.fits), bounds_known w terms ls all.1)) where
  value : num w (unwrap_or (terms (name_symbol y)) (Name (name_symbol y))) ≡ pos all.0.number
  value = ap (num w) (own_term (terms (name_symbol y)) y all.0.own) ∙ all.0.is
