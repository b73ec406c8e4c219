-- Lists with one place set, and the largest of numbers.
use Rattle.std.proofs.Common.{◌≡◌, ℕ, zero, suc, ◌+◌, ◌<◌, ◌≤◌, List, [], ◌∷◌, ◌++◌, length, map, take, drop, max, set, get_or, slice_get, Option, Some, None, unwrap_or, refl, ap, sym, ◌∙◌, arith}
use Rattle.std.proofs.Math.Nat.{le-max_left, le-max_right}
use Rattle.sync_thread_places.specs.Places.{most}

-- behind the first d of a way that is longer, a mark stands before the rest
pub way_marked : {A : Type 0} (xs : List A) (d m : ℕ) (x : A) → d < length xs → d < m
    → drop d (take m (set xs d x)) ≡ x ∷ drop (suc d) (take m xs)
way_marked [] d m x within deep = absurd (omega arith)
way_marked (y ∷ ys) zero zero x within deep = absurd (omega arith)
way_marked (y ∷ ys) zero (suc m) x within deep = refl
way_marked (y ∷ ys) (suc d) zero x within deep = absurd (omega arith)
way_marked (y ∷ ys) (suc d) (suc m) x within deep = way_marked ys d m x (omega arith) (omega arith)

-- one of several numbers is at most the largest
pub most_of : {A : Type 0} (f : A → ℕ) (xs : List A) (i : ℕ) (x : A) → i < length xs → x ≡ get_or xs i x
    → f x ≤ most (map f xs)
most_of f [] i x within is = absurd (omega arith)
most_of f (y ∷ ys) zero x within is = let e : f x ≡ f y = ap f is in omega (arith, le-max_left (f y) (most (map f ys)))
most_of f (y ∷ ys) (suc i) x within is = omega (arith, most_of f ys i x (omega arith) is, le-max_right (f y) (most (map f ys)))

-- what was found by number
pub got : {A : Type 0} (xs : List A) (i : ℕ) (x : A) → i < length xs → x ≡ get_or xs i x → slice_get xs i ≡ Some x
got [] i x within is = absurd (omega arith)
got (y ∷ ys) zero x within is = ap Some (sym is)
got (y ∷ ys) (suc i) x within is = got ys i x (omega arith) is
