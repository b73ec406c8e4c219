-- Records that are replaced.
use Rattle.std.proofs.Common.{◌≡◌, ℕ, pos, zero, suc, ◌+◌, ◌<◌, ◌≤◌, List, [], ◌∷◌, ◌++◌, length, map, take, get_or, slice_set, slice_index_or, Option, Some, None, refl, sym, ap, ◌∙◌, arith, length-append, length-set}
use Rattle.std.proofs.lemmas.List.{take_more}
use Rattle.sync_machine.specs.States.{Number}
use Rattle.sync_join.specs.declared.values.Value.{Value as StoredValue}
use Rattle.sync_join.specs.Views.{value_tree}
use Rattle.sync_exchange.specs.declared.changes.Recording.{Recording}
use Rattle.sync_exchange.specs.Works.{laid_over, recorded, changed, changed_at, value_in_list}
use Rattle.sync_exchange.proofs.Walks.{recorded-push}

-- a new element at a place of both
pub laid-set : {A : Type 0} (ns : List (Option A)) (vs : List A) (f : ℕ) (v : A) → length ns ≡ length vs → laid_over (slice_set ns f (Some v)) vs ≡ slice_set (laid_over ns vs) f v
laid-set [] [] f v h = refl
laid-set [] (w ∷ vs) f v h = absurd (omega arith)
laid-set (n ∷ ns) [] f v h = refl
laid-set (None ∷ ns) (w ∷ vs) zero v h = refl
laid-set (None ∷ ns) (w ∷ vs) (suc f) v h = ap (λ ws. w ∷ ws) (laid-set ns vs f v (omega arith))
laid-set (Some m ∷ ns) (w ∷ vs) zero v h = refl
laid-set (Some m ∷ ns) (w ∷ vs) (suc f) v h = ap (λ ws. m ∷ ws) (laid-set ns vs f v (omega arith))

pub laid-old : {A : Type 0} (ns : List (Option A)) (vs : List A) (f : ℕ) (d : A) (e : Option A) → f < length ns → get_or ns f e ≡ None → get_or (laid_over ns vs) f d ≡ get_or vs f d
laid-old [] vs f d e h k = absurd (omega arith)
laid-old (n ∷ ns) [] f d e h k = refl
laid-old (None ∷ ns) (w ∷ vs) zero d e h k = refl
laid-old (None ∷ ns) (w ∷ vs) (suc f) d e h k = laid-old ns vs f d e (omega arith) k
laid-old (Some m ∷ ns) (w ∷ vs) zero d e h k = absurd (cc)
laid-old (Some m ∷ ns) (w ∷ vs) (suc f) d e h k = laid-old ns vs f d e (omega arith) k

pub laid-new : {A : Type 0} (ns : List (Option A)) (vs : List A) (f : ℕ) (d v : A) (e : Option A) → f < length ns → f < length vs → get_or ns f e ≡ Some v → get_or (laid_over ns vs) f d ≡ v
laid-new [] vs f d v e h k is = absurd (omega arith)
laid-new (n ∷ ns) [] f d v e h k is = absurd (omega arith)
laid-new (None ∷ ns) (w ∷ vs) zero d v e h k is = absurd (cc)
laid-new (None ∷ ns) (w ∷ vs) (suc f) d v e h k is = laid-new ns vs f d v e (omega arith) (omega arith) is
laid-new (Some m ∷ ns) (w ∷ vs) zero d v e h k is = cc
laid-new (Some m ∷ ns) (w ∷ vs) (suc f) d v e h k is = laid-new ns vs f d v e (omega arith) (omega arith) is

pub laid-length : {A : Type 0} (ns : List (Option A)) (vs : List A) → length (laid_over ns vs) ≡ length vs
laid-length [] [] = refl
laid-length (n ∷ ns) [] = refl
laid-length [] (w ∷ vs) = refl
laid-length (None ∷ ns) (w ∷ vs) = ap suc (laid-length ns vs)
laid-length (Some m ∷ ns) (w ∷ vs) = ap suc (laid-length ns vs)

-- the last place first
pub laid-last-old : {A : Type 0} (ns : List (Option A)) (vs : List A) → laid_over (ns ++ None ∷ []) vs ≡ laid_over ns vs
laid-last-old [] [] = refl
laid-last-old (n ∷ ns) [] = refl
laid-last-old [] (w ∷ []) = refl
laid-last-old [] (w ∷ u ∷ vs) = refl
laid-last-old (None ∷ ns) (w ∷ vs) = ap (λ ws. w ∷ ws) (laid-last-old ns vs)
laid-last-old (Some m ∷ ns) (w ∷ vs) = ap (λ ws. m ∷ ws) (laid-last-old ns vs)

pub nothing-over : {A : Type 0} (vs : List A) → laid_over [] vs ≡ vs
nothing-over [] = refl
nothing-over (w ∷ vs) = refl

pub laid-last-new : {A : Type 0} (ns : List (Option A)) (vs : List A) (v : A) → laid_over (ns ++ Some v ∷ []) vs ≡ laid_over ns (slice_set vs (length ns) v)
laid-last-new [] [] v = refl
laid-last-new [] (w ∷ vs) v = ap (λ ws. v ∷ ws) (nothing-over vs)
laid-last-new (n ∷ ns) [] v = refl
laid-last-new (None ∷ ns) (w ∷ vs) v = ap (λ ws. w ∷ ws) (laid-last-new ns vs v)
laid-last-new (Some m ∷ ns) (w ∷ vs) v = ap (λ ws. m ∷ ws) (laid-last-new ns vs v)

pub map-set : {A B : Type 0} (g : A → B) (xs : List A) (i : ℕ) (x : A) → map g (slice_set xs i x) ≡ slice_set (map g xs) i (g x)
map-set g [] i x = refl
map-set g (y ∷ xs) zero x = refl
map-set g (y ∷ xs) (suc i) x = ap (λ ys. g y ∷ ys) (map-set g xs i x)

pub map-at : {A B : Type 0} (g : A → B) (xs : List A) (i : ℕ) (d : A) (e : B) → i < length xs → get_or (map g xs) i e ≡ g (get_or xs i d)
map-at g [] i d e h = absurd (omega arith)
map-at g (y ∷ xs) zero d e h = refl
map-at g (y ∷ xs) (suc i) d e h = map-at g xs i d e (omega arith)

pub set-far : {A : Type 0} (xs : List A) (i : ℕ) (x : A) → length xs ≤ i → slice_set xs i x ≡ xs
set-far [] i x h = refl
set-far (y ∷ xs) zero x h = absurd (omega arith)
set-far (y ∷ xs) (suc i) x h = ap (λ ys. y ∷ ys) (set-far xs i x (omega arith))

pub at-any : {A : Type 0} (xs : List A) (i : ℕ) (d e : A) → i < length xs → get_or xs i d ≡ get_or xs i e
at-any [] i d e h = absurd (omega arith)
at-any (x ∷ xs) zero d e h = refl
at-any (x ∷ xs) (suc i) d e h = at-any xs i d e (omega arith)

pub length-last : {A : Type 0} (xs : List A) (x : A) (n : ℕ) → length xs ≡ n → length (xs ++ x ∷ []) ≡ n + 1
length-last xs x n h = let e = length-append xs (x ∷ []) in omega arith

pub shorter : {A B : Type 0} (ns : List A) (vs : List B) (n : A) (left : List A) → left ≡ ns ++ n ∷ [] → length left ≤ length vs → length ns ≤ length vs
shorter ns vs n left e h = let k : length left ≡ length ns + 1 = ap length e ∙ length-last ns n (length ns) refl in omega arith

pub shorter-set : {A B : Type 0} (ns : List A) (vs ws : List B) (n : A) (i : ℕ) (v : B) (left : List A) → left ≡ ns ++ n ∷ [] → ws ≡ slice_set vs i v → length left ≤ length vs → length ns ≤ length ws
shorter-set ns vs ws n i v left e s h =
    let k : length left ≡ length ns + 1 = ap length e ∙ length-last ns n (length ns) refl in
    let l : length ws ≡ length vs = ap length s ∙ length-set vs i v in
    omega arith

-- ---- changes of records

map-length : {A B : Type 0} (g : A → B) (xs : List A) → length (map g xs) ≡ length xs
map-length g [] = refl
map-length g (x ∷ xs) = ap suc (map-length g xs)

module _ (cs : List Recording) (i : ℕ) (r : Recording) (p : r ≡ get_or cs i r) (ns : List (Option StoredValue)) (rs : List StoredValue) (h : i < length cs) (inv : map value_tree (laid_over ns rs) ≡ recorded (take i cs) (map value_tree rs)) where
  made-next : recorded (take (i + 1) cs) (map value_tree rs) ≡ changed_at r (map value_tree (laid_over ns rs))
  made-next =
      ap (λ ks. recorded ks (map value_tree rs)) (take_more cs i r h) ∙ recorded-push (take i cs) (get_or cs i r) (map value_tree rs)
      ∙ ap (λ q. changed_at q (recorded (take i cs) (map value_tree rs))) (sym p) ∙ ap (changed_at r) (sym inv)

  pub made-far : length rs ≤ r.field → map value_tree (laid_over ns rs) ≡ recorded (take (i + 1) cs) (map value_tree rs)
  made-far far =
      let m = map value_tree (laid_over ns rs) in
      let one = map-length value_tree (laid_over ns rs) in
      let two = laid-length ns rs in
      let long : length m ≤ r.field = omega arith in
      sym (made-next ∙ set-far m r.field (changed r.change (value_in_list m r.field)) long)

  pub made-near : (v old : StoredValue) → length ns ≡ length rs → r.field < length rs → old ≡ slice_index_or (laid_over ns rs) r.field v → value_tree v ≡ changed r.change (value_tree old)
      → map value_tree (laid_over (slice_set ns r.field (Some v)) rs) ≡ recorded (take (i + 1) cs) (map value_tree rs)
  made-near v old same near is made =
      let laid = laid_over ns rs in
      let m = map value_tree laid in
      let f = r.field in
      let two = laid-length ns rs in
      let within : f < length laid = omega arith in
      let was : value_tree old ≡ value_in_list m f = ap value_tree is ∙ sym (map-at value_tree laid f v (Number (pos 0)) within) in
      ap (map value_tree) (laid-set ns rs f v same) ∙ map-set value_tree laid f v
      ∙ ap (slice_set m f) (made ∙ ap (changed r.change) was)
      ∙ sym made-next
