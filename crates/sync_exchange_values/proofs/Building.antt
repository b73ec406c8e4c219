-- Maps that are built: what they are, and that their values fit.
use Rattle.std.proofs.Common.{◌≡◌, ℤ, pos, ◌+ℤ◌, ◌≤ℤ◌, ◌<ℤ◌, Bool, true, false, ◌&&◌, List, [], ◌∷◌, Some, Result, Ok, refl, sym, ap, subst, ◌∙◌, arith, if◌then◌else◌, int_lt}
use Rattle.std.specs.Prelude.{FitsSigned}
use Rattle.std.specs.Int.{w128}
use Rattle.std.specs.List.{fold}
use Rattle.std.proofs.lemmas.Bool.Decides.{Decides-int_eq}
use Rattle.std.proofs.lemmas.Int.{ints, by_lt_z}
use Rattle.std.specs.FinMap as finmap
use Rattle.sync_terms.specs.Maps.{Map, put, del, bump}
use Rattle.sync_terms.specs.Maps as maps
use Rattle.sync_entries.proofs.Maps.{get-put}
use Rattle.sync_entries.proofs.Narrowing.{narrow-put, narrow-del}
use Rattle.sync_exchange_values.specs.declared.stops.EvalStop.{EvalStop}
use Rattle.sync_exchange_values.specs.Fitting.{values_fit}
use Rattle.sync_entries.specs.Narrow.{HasNarrowValues, is_narrow, sum_of}
use Rattle.sync_exchange_values.specs.Steps.{Evaluates}
use Rattle.sync_exchange_values.proofs.Narrowness.{values_narrow, values_wide, wide_of, and_true}

above : (n : ℤ) → pos 0 <ℤ n → int_lt (pos 0) n ≡ true
above n h = grind (arith, ints)

not_above : (n : ℤ) → n ≤ℤ pos 0 → int_lt (pos 0) n ≡ false
not_above n h = grind (arith, ints)

bump_up : (m : Map) (k n : ℤ) → pos 0 <ℤ (maps.get m k +ℤ n) → bump m k n ≡ put m k (maps.get m k +ℤ n)
bump_up m k n h = ap (λ b. if b then put m k (maps.get m k +ℤ n) else del m k) (above (maps.get m k +ℤ n) h)

bump_out : (m : Map) (k n : ℤ) → (maps.get m k +ℤ n) ≤ℤ pos 0 → bump m k n ≡ del m k
bump_out m k n h = ap (λ b. if b then put m k (maps.get m k +ℤ n) else del m k) (not_above (maps.get m k +ℤ n) h)

-- a sum that does not fit has the sign of its second number
overflow_up : (a b : ℤ) → FitsSigned w128 a → FitsSigned w128 b → (FitsSigned w128 (a +ℤ b) → ⊥) → pos 0 <ℤ b → pos 0 <ℤ (a +ℤ b)
overflow_up a b f g w h = by_lt_z (pos 0) (a +ℤ b) (λ up. up) (λ down. absurd (w (omega (arith, ints))))

overflow_out : (a b : ℤ) → FitsSigned w128 a → FitsSigned w128 b → (FitsSigned w128 (a +ℤ b) → ⊥) → b ≤ℤ pos 0 → (a +ℤ b) ≤ℤ pos 0
overflow_out a b f g w h = by_lt_z (pos 0) (a +ℤ b) (λ up. absurd (w (omega (arith, ints)))) (λ down. down)

pub up_ok : (m r : Map) (k n : ℤ) → HasNarrowValues m → FitsSigned w128 (maps.get m k +ℤ n) → pos 0 <ℤ (maps.get m k +ℤ n) → r ≡ put m k (maps.get m k +ℤ n) → Evaluates (Ok r) (bump m k n) (values_fit is_narrow (bump m k n))
up_ok m r k n h fits up is =
    let b = bump_up m k n up in
    (is ∙ sym b, ap (values_fit is_narrow) b ∙ values_narrow _ (narrow-put m k (maps.get m k +ℤ n) h fits))

pub out_ok : (m r : Map) (k n : ℤ) → HasNarrowValues m → (maps.get m k +ℤ n) ≤ℤ pos 0 → r ≡ del m k → Evaluates (Ok r) (bump m k n) (values_fit is_narrow (bump m k n))
out_ok m r k n h out is =
    let b = bump_out m k n out in
    (is ∙ sym b, ap (values_fit is_narrow) b ∙ values_narrow _ (narrow-del m k h))

pub gone_ok : (m r : Map) (k n : ℤ) → HasNarrowValues m → FitsSigned w128 (maps.get m k) → FitsSigned w128 n → (FitsSigned w128 (maps.get m k +ℤ n) → ⊥) → n ≤ℤ pos 0 → r ≡ del m k → Evaluates (Ok r) (bump m k n) (values_fit is_narrow (bump m k n))
gone_ok m r k n h f g w low is = out_ok m r k n h (overflow_out (maps.get m k) n f g w low) is

pub up_wide : (m : Map) (k n : ℤ) → FitsSigned w128 (maps.get m k) → FitsSigned w128 n → (FitsSigned w128 (maps.get m k +ℤ n) → ⊥) → pos 0 <ℤ n → values_fit is_narrow (bump m k n) ≡ false
up_wide m k n f g w up =
    let v = maps.get m k +ℤ n in
    let here : finmap.get (put m k v) k ≡ Some v = get-put m k v k ∙ ap (λ b. if b then Some v else finmap.get m k) ((Decides-int_eq k k).1 refl) in
    ap (values_fit is_narrow) (bump_up m k n (overflow_up (maps.get m k) n f g w up)) ∙ values_wide (put m k v) k v here (wide_of v w)

pub put_ok : (c m r : Map) (l n k w : ℤ) (f g h : Bool) → (c ≡ m) × (f ≡ true) → (l ≡ k) × (g ≡ true) → (n ≡ w) × (h ≡ true) → r ≡ put c l n → Evaluates (Ok r) (put m k w) (f && g && h)
put_ok c m r l n k w f g h a b d is =
    (is ∙ ap (λ (q : Map). put q l n) a.0 ∙ ap (λ (q : ℤ). put m q n) b.0 ∙ ap (λ (q : ℤ). put m k q) d.0, and_true (f && g) h (and_true f g a.1 b.1) d.1)

pub del_ok : (c m r : Map) (l k : ℤ) (f g : Bool) → (c ≡ m) × (f ≡ true) → (l ≡ k) × (g ≡ true) → r ≡ del c l → Evaluates (Ok r) (del m k) (f && g)
del_ok c m r l k f g a b is = (is ∙ ap (λ (q : Map). del q l) a.0 ∙ ap (λ (q : ℤ). del m q) b.0, and_true f g a.1 b.1)

-- a bump of parts that have their values
pub bump_parts : (r : Result Map EvalStop) (c m : Map) (l n k w : ℤ) (f g h : Bool) → (c ≡ m) × (f ≡ true) → (l ≡ k) × (g ≡ true) → (n ≡ w) × (h ≡ true) → Evaluates r (bump c l n) (values_fit is_narrow (bump c l n)) → Evaluates r (bump m k w) (f && g && h && values_fit is_narrow (bump m k w))
bump_parts r c m l n k w f g h a b d e =
    let same : bump c l n ≡ bump m k w = ap (λ (q : Map). bump q l n) a.0 ∙ ap (λ (q : ℤ). bump m q n) b.0 ∙ ap (λ (q : ℤ). bump m k q) d.0 in
    subst (λ (p : Bool). Evaluates r (bump m k w) (p && values_fit is_narrow (bump m k w))) (sym (and_true (f && g) h (and_true f g a.1 b.1) d.1))
    (subst (λ (q : Map). Evaluates r q (values_fit is_narrow q)) same e)

-- ---- the sum of a map's values, added up from the front

added-from : (n : ℤ) (ns : List ℤ) → fold (λ (sum k : ℤ). sum +ℤ k) n ns ≡ n +ℤ maps.added_up ns
added-from n [] = omega (arith, ints)
added-from n (k ∷ ks) = let e = added-from (n +ℤ k) ks in omega (arith, ints)

pub sum-values : (m : Map) → sum_of m ≡ maps.sum m
sum-values m = let e = added-from (pos 0) (finmap.values m) in omega (arith, ints)
