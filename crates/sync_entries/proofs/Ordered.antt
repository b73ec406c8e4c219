-- Entries in the order of their keys, as a finite map.
use Rattle.std.proofs.Common.{◌≡◌, ℤ, Bool, true, false, ◌&&◌, T, pos, ◌+ℤ◌, List, [], ◌∷◌, length, map, sym, ap, subst, ◌∙◌}
use Rattle.std.specs.Ordering.{int_cmp, is_lt}
use Rattle.std.specs.declared.cmp.Ordering.TheVariants.{Less}
use Rattle.std.specs.Cmp.{int_cmp_total}
use Rattle.std.specs.List.{AllByRecursion, fold}
use Rattle.std.specs.List.Sorted.{IsStrictlySortedBy}
use Rattle.std.specs.Map.{keys_of, values_of}
use Rattle.std.specs.FinMap.{from_sorted, get-from_sorted, get-from_entries, entries-from_sorted, is_sorted, len-entries}
use Rattle.std.specs.FinMap.Entries.{below_all}
use Rattle.std.specs.FinMap as finmap
use Rattle.sync_entries.specs.Narrow.{sum_of}
use Rattle.sync_entries.proofs.Maps.{same}
use Rattle.sync_entries.proofs.Lookups.{map_in}

both_true : (a b : Bool) → T a → T b → T (a && b)
both_true true b p q = q
both_true false b p q = p

below_of : (x : ℤ) (es : List (ℤ × ℤ)) → AllByRecursion (λ y. int_cmp x y ≡ Less) (keys_of es) → T (below_all int_cmp x es)
below_of x [] h = tt
below_of x (e ∷ es) h = both_true _ _ (subst (λ r. T (is_lt r)) (sym h.0) tt) (below_of x es h.1)

sorted_of : (es : List (ℤ × ℤ)) → IsStrictlySortedBy int_cmp (keys_of es) → T (is_sorted int_cmp es)
unfolding IsStrictlySortedBy
sorted_of [] h = tt
sorted_of (e ∷ es) h = both_true _ _ (below_of e.0 es h.0) (sorted_of es h.1)

-- the map has these entries
pub entries-map_in : (es : List (ℤ × ℤ)) → IsStrictlySortedBy int_cmp (keys_of es) → finmap.entries (map_in es) ≡ es
entries-map_in es h =
    let s = sorted_of es h in
    ap finmap.entries (same (map_in es) (from_sorted es) (λ q. get-from_entries int_cmp_total es q ∙ sym (get-from_sorted int_cmp es q s)))
    ∙ entries-from_sorted int_cmp es s

pub len-map_in : (es : List (ℤ × ℤ)) → IsStrictlySortedBy int_cmp (keys_of es) → finmap.len (map_in es) ≡ length es
len-map_in es h = len-entries (map_in es) ∙ ap length (entries-map_in es h)

pub sum-map_in : (es : List (ℤ × ℤ)) → IsStrictlySortedBy int_cmp (keys_of es)
    → sum_of (map_in es) ≡ fold (λ (sum n : ℤ). sum +ℤ n) (pos 0) (values_of es)
sum-map_in es h = ap (λ (fs : List (ℤ × ℤ)). fold (λ (sum n : ℤ). sum +ℤ n) (pos 0) (map (λ e. e.1) fs)) (entries-map_in es h)
