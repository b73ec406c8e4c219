-- Searching a list from its front for the first element that gives something.
use Rattle.std.proofs.Common.{◌≡◌, ℕ, ◌+◌, ◌<◌, List, map, length, get_or, drop, Option, None, sym, ap, ◌∙◌}
use Rattle.std.proofs.lemmas.List.{at_drop_more}
use Rattle.sync_base.specs.Outcome.{first}
use Rattle.sync_rules.specs.Slots.{earliest}

here : {A B C : Type 0} (g : B → Option C) (view : A → B) (xs : List A) (i : ℕ) (d : A) → i < length xs → earliest g (map view (drop i xs)) ≡ first (g (view (get_or xs i d))) (earliest g (map view (drop (i + 1) xs)))
here g view xs i d h = at_drop_more (λ ys. earliest g (map view ys)) xs i d h

pub earliest-more : {A B C : Type 0} (g : B → Option C) (view : A → B) (xs : List A) (i : ℕ) (d : A) (all : Option C) → i < length xs → g (view (get_or xs i d)) ≡ None → earliest g (map view (drop i xs)) ≡ all → earliest g (map view (drop (i + 1) xs)) ≡ all
earliest-more g view xs i d all h none inv =
    sym (here g view xs i d h ∙ ap (λ o. first o (earliest g (map view (drop (i + 1) xs)))) none) ∙ inv
