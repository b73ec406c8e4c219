-- Numbers and maps within signed 128 bits: the test, and the fact.
use Rattle.std.proofs.Common.{◌≡◌, ◌<◌, ◌^◌, ℤ, pos, negsuc, Bool, true, false, ◌&&◌, T, cond, Option, Some, None, unwrap_or, List, [], ◌∷◌, map, refl, sym, ap, subst, ◌∙◌, arith}
use Rattle.std.specs.Prelude.{FitsSigned}
use Rattle.std.specs.List.{list_all}
use Rattle.std.specs.Int.{w128}
use Rattle.std.specs.Ordering.{int_eq, int_cmp, is_lt, is_eq}
use Rattle.std.specs.declared.cmp.Ordering.{Ordering}
use Rattle.std.specs.declared.cmp.Ordering.TheVariants.{Less, Equal, Greater}
use Rattle.std.proofs.lemmas.Bool.Decides.{Decides-int_eq}
use Rattle.std.specs.FinMap.{find, is_sorted, entries_sorted, get-entries}
use Rattle.std.specs.FinMap.Entries.{below_all}
use Rattle.std.specs.FinMap as finmap
use Rattle.sync_terms.specs.Maps.{Map}
use Rattle.sync_entries.specs.Narrow.{HasNarrowValues}
use Rattle.sync_exchange_values.specs.Fitting.{values_fit}
use Rattle.sync_entries.specs.Narrow.{is_narrow}

pub narrow_of : (n : ℤ) → FitsSigned w128 n → is_narrow n ≡ true
narrow_of (pos n) f = let h : n < 2 ^ 127 = f.sfits in grind arith
narrow_of (negsuc n) f = let h : n < 2 ^ 127 = f.sfits in grind arith

pub fits_of : (n : ℤ) → is_narrow n ≡ true → FitsSigned w128 n
fits_of (pos n) e = let h : n < 2 ^ 127 = grind arith in record { sfits = h }
fits_of (negsuc n) e = let h : n < 2 ^ 127 = grind arith in record { sfits = h }

pub wide_of : (n : ℤ) → (FitsSigned w128 n → ⊥) → is_narrow n ≡ false
wide_of n w = elim (is_narrow n) as (λ b. is_narrow n ≡ b → b ≡ false) [ true ↦ λ e. absurd (w (fits_of n e)) | false ↦ λ e. refl ] refl

-- ---- conjunctions of tests

pub and_true : (f g : Bool) → f ≡ true → g ≡ true → (f && g) ≡ true
and_true f g e h = ap (λ b. b && g) e ∙ h

pub left_false : (f g : Bool) → f ≡ false → (f && g) ≡ false
left_false f g e = ap (λ b. b && g) e

pub right_false : (f g : Bool) → g ≡ false → (f && g) ≡ false
right_false true g e = e
right_false false g e = refl

first : (a b : Bool) → T (a && b) → T a
first true b p = tt
first false b p = p

second : (a b : Bool) → T (a && b) → T b
second true b p = p
second false b p = absurd p

-- ---- all values of a map

same_some : (v n : ℤ) → Some v ≡ Some n → v ≡ n
same_some v n e = ap (λ (o : Option ℤ). unwrap_or o v) e

no_value : (n : ℤ) → None ≡ Some n → ⊥
no_value n e = cc

not_equal : (o : Ordering) → T (is_lt o) → is_eq o ≡ false
not_equal Less h = refl
not_equal Equal h = absurd h
not_equal Greater h = absurd h

find_below : (q : ℤ) (es : List (ℤ × ℤ)) → T (below_all int_cmp q es) → find int_cmp q es ≡ None
find_below q [] h = refl
find_below q (e ∷ es) h =
    ap (λ b. cond b (Some e.1) (find int_cmp q es)) (not_equal (int_cmp q e.0) (first _ _ h)) ∙ find_below q es (second _ _ h)

find_first : (e : ℤ × ℤ) (es : List (ℤ × ℤ)) → find int_cmp e.0 (e ∷ es) ≡ Some e.1
find_first e es = ap (λ b. cond b (Some e.1) (find int_cmp e.0 es)) ((Decides-int_eq e.0 e.0).1 refl)

find_later : (q n : ℤ) (e : ℤ × ℤ) (es : List (ℤ × ℤ)) → T (below_all int_cmp e.0 es) → find int_cmp q es ≡ Some n → find int_cmp q (e ∷ es) ≡ Some n
find_later q n e es h f =
    elim (int_eq q e.0) as (λ b. int_eq q e.0 ≡ b → cond b (Some e.1) (find int_cmp q es) ≡ Some n) [
      | true ↦ λ t. absurd (no_value n (sym (find_below q es (subst (λ (k : ℤ). T (below_all int_cmp k es)) (sym ((Decides-int_eq q e.0).0 t)) h)) ∙ f))
      | false ↦ λ t. f
    ] refl

fits_list : (es : List (ℤ × ℤ)) → T (is_sorted int_cmp es) → ((q n : ℤ) → find int_cmp q es ≡ Some n → FitsSigned w128 n) → list_all is_narrow (map (λ e. e.1) es) ≡ true
fits_list [] s h = refl
fits_list (e ∷ es) s h =
    and_true _ _ (narrow_of e.1 (h e.0 e.1 (find_first e es)))
    (fits_list es (second _ _ s) (λ q n f. h q n (find_later q n e es (first _ _ s) f)))

wide_list : (es : List (ℤ × ℤ)) (q n : ℤ) → find int_cmp q es ≡ Some n → is_narrow n ≡ false → list_all is_narrow (map (λ e. e.1) es) ≡ false
wide_list [] q n f w = absurd (no_value n f)
wide_list (e ∷ es) q n f w =
    elim (int_eq q e.0) as (λ b. cond b (Some e.1) (find int_cmp q es) ≡ Some n → (is_narrow e.1 && list_all is_narrow (map (λ e. e.1) es)) ≡ false) [
      | true ↦ λ s. left_false _ _ (ap is_narrow (same_some e.1 n s) ∙ w)
      | false ↦ λ s. right_false _ _ (wide_list es q n s w)
    ] f

pub values_narrow : (m : Map) → HasNarrowValues m → values_fit is_narrow m ≡ true
values_narrow m h = fits_list (finmap.entries m) (entries_sorted m) (λ q n f. h q n (get-entries m q ∙ f))

-- a value that is not within them
pub values_wide : (m : Map) (k n : ℤ) → finmap.get m k ≡ Some n → is_narrow n ≡ false → values_fit is_narrow m ≡ false
values_wide m k n f w = wide_list (finmap.entries m) k n (sym (get-entries m k) ∙ f) w
