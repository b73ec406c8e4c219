-- A map as the code has it, a list of entries, and as a finite map.
use Rattle.std.proofs.Common.{◌≡◌, ℤ, cond, List, [], ◌∷◌, Some, None, refl, sym, ap, ◌∙◌}
use Rattle.std.specs.Ordering.{int_cmp, int_eq}
use Rattle.std.specs.Cmp.{int_cmp_total, int_eq_equiv}
use Rattle.std.specs.FinMap.{from_entries, find, get-from_entries, get-insert, get-remove}
use Rattle.std.specs.FinMap as finmap
use Rattle.std.specs.Map.{lookup}
use Rattle.sync_entries.specs.Narrow.{Map}
use Rattle.sync_entries.proofs.Maps.{same}

abbrev pub map_in : List (ℤ × ℤ) → Map
map_in es = from_entries es

find-lookup : (q : ℤ) (es : List (ℤ × ℤ)) → find int_cmp q es ≡ lookup (int_eq q) es
find-lookup q [] = refl
find-lookup q (e ∷ es) = ap (cond (int_eq q e.0) (Some e.1)) (find-lookup q es)

pub get-map_in : (es : List (ℤ × ℤ)) (q : ℤ) → finmap.get (map_in es) q ≡ lookup (int_eq q) es
get-map_in es q = get-from_entries int_cmp_total es q ∙ find-lookup q es

-- entries that have v at k, and else what they had
pub map_in-put : (es ns : List (ℤ × ℤ)) (k v : ℤ) → ((q : ℤ) → lookup (int_eq q) ns ≡ cond (int_eq k q) (Some v) (lookup (int_eq q) es)) → map_in ns ≡ finmap.insert (map_in es) k v
map_in-put es ns k v is = same _ _ (λ q.
    get-map_in ns q ∙ is q
    ∙ ap (λ o. cond (int_eq k q) (Some v) o) (sym (get-map_in es q))
    ∙ ap (λ b. cond b (Some v) (finmap.get (map_in es) q)) (int_eq_equiv.symm k q)
    ∙ sym (get-insert int_cmp_total (map_in es) k v q))

-- entries that have nothing at k, and else what they had
pub map_in-del : (es ns : List (ℤ × ℤ)) (k : ℤ) → ((q : ℤ) → lookup (int_eq q) ns ≡ cond (int_eq k q) None (lookup (int_eq q) es)) → map_in ns ≡ finmap.remove (map_in es) k
map_in-del es ns k is = same _ _ (λ q.
    get-map_in ns q ∙ is q
    ∙ ap (λ o. cond (int_eq k q) None o) (sym (get-map_in es q))
    ∙ ap (λ b. cond b None (finmap.get (map_in es) q)) (int_eq_equiv.symm k q)
    ∙ sym (get-remove int_cmp_total (map_in es) k q))
