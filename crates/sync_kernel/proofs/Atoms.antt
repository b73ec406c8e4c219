-- A term depends on its atoms alone: tests over the atoms that stand in it speak of all.
use Rattle.std.proofs.Common.{◌≡◌, inl, inr, ◌^◌, ℤ, pos, negsuc, ◌+ℤ◌, ◌-ℤ◌, ◌*ℤ◌, Bool, true, false, ◌&&◌, if◌then◌else◌, List, [], ◌∷◌, ◌++◌, refl, sym, ap, subst, ◌∙◌}
use Rattle.std.specs.Prelude.{FitsSigned}
use Rattle.std.specs.Int.{w128}
use Rattle.std.specs.Ordering.{int_eq}
use Rattle.std.specs.List.{AllByRecursion, list_all, list_any}
use Rattle.std.proofs.Math.IntN.{+ℤ_idl, +ℤ_idr}
use Rattle.std.proofs.lemmas.Bool.{and_parts, and_from, or_cases, or_left, or_right, or_parts, cases_Bool, cond-false, both_ways, ltb-true, lt-ltb}
use Rattle.std.proofs.lemmas.Bool.Decides.{Decides-int_eq}
use Rattle.sync_terms.specs.Trees.{Tree, Lit, Name, Add, Sub, Scale, Get, Has, Size, Sum, Nil, Put, Del, Bump}
use Rattle.sync_terms.specs.Values.{Valuation, num}
use Rattle.sync_linear.specs.Forms.{tree_eq, constant_of, weighed, one_at, coefficient_of, IsWithin, Narrow}
use Rattle.sync_linear.proofs.Ring.{times_zero, times_one}
use Rattle.sync_linear.proofs.Weighing.{plus, weighed_zero, value_is}
use Rattle.sync_linear.proofs.Trees.{same_tree, tree_is, cases_tree, one_here, none_there}
use Rattle.sync_kernel.specs.Rows.{atoms_of, fits, within, narrow, no_atom}

all_left : (P : Tree → Type 0) (ts bs : List Tree) → AllByRecursion P (ts ++ bs) → AllByRecursion P ts
all_left P [] bs h = tt
all_left P (a ∷ ts) bs h = (h.0, all_left P ts bs h.1)

all_right : (P : Tree → Type 0) (ts bs : List Tree) → AllByRecursion P (ts ++ bs) → AllByRecursion P bs
all_right P [] bs h = h
all_right P (a ∷ ts) bs h = all_right P ts bs h.1

-- two weights that agree on a term's atoms weigh it alike
agree : (w v : Tree → ℤ) (t : Tree) → AllByRecursion (λ x. w x ≡ v x) (atoms_of t) → weighed w t ≡ weighed v t
agree w v (Lit n) h = refl
agree w v (Name x) h = h.0
agree w v (Add a b) h =
    let p = agree w v a (all_left (λ x. w x ≡ v x) (atoms_of a) (atoms_of b) h) in
    let q = agree w v b (all_right (λ x. w x ≡ v x) (atoms_of a) (atoms_of b) h) in
    ap (λ (x : ℤ). x +ℤ weighed w b) p ∙ ap (λ (x : ℤ). weighed v a +ℤ x) q
agree w v (Sub a b) h =
    let p = agree w v a (all_left (λ x. w x ≡ v x) (atoms_of a) (atoms_of b) h) in
    let q = agree w v b (all_right (λ x. w x ≡ v x) (atoms_of a) (atoms_of b) h) in
    ap (λ (x : ℤ). x -ℤ weighed w b) p ∙ ap (λ (x : ℤ). weighed v a -ℤ x) q
agree w v (Scale n a) h = ap (λ (x : ℤ). n *ℤ x) (agree w v a h)
agree w v (Get m k) h = h.0
agree w v (Has m k) h = h.0
agree w v (Size m) h = h.0
agree w v (Sum m) h = h.0
agree w v Nil h = refl
agree w v (Put m k n) h = refl
agree w v (Del m k) h = refl
agree w v (Bump m k n) h = refl

-- ---- atoms in a list
abbrev pub member : Tree → List Tree → Bool
member x ts = list_any (λ a. tree_eq a x) ts

members : (ts bs : List Tree) → ((x : Tree) → member x ts ≡ true → member x bs ≡ true) → AllByRecursion (λ x. member x bs ≡ true) ts
members [] bs h = tt
members (a ∷ ts) bs h = (h a (or_left (tree_eq a a) (member a ts) (tree_is a)), members ts bs (λ x m. h x (or_right (tree_eq a x) (member x ts) m)))

-- a weight, 0 outside a list
limited : List Tree → (Tree → ℤ) → Tree → ℤ
limited [] w x = pos 0
limited (a ∷ ts) w x = limited ts w x +ℤ ((if member a ts then pos 0 else w a) *ℤ one_at a x)

outside : (ts : List Tree) (w : Tree → ℤ) (x : Tree) → member x ts ≡ false → limited ts w x ≡ pos 0
unfolding limited
outside [] w x h = refl
outside (a ∷ ts) w x h =
    let p = or_parts (tree_eq a x) (member x ts) h in
    let zero : one_at a x ≡ pos 0 = cond-false (tree_eq a x) (pos 1) (pos 0) p.0 in
    ap (λ (z : ℤ). z +ℤ ((if member a ts then pos 0 else w a) *ℤ one_at a x)) (outside ts w x p.1)
    ∙ ap (λ (z : ℤ). pos 0 +ℤ ((if member a ts then pos 0 else w a) *ℤ z)) zero ∙ ap (λ (z : ℤ). pos 0 +ℤ z) (times_zero (if member a ts then pos 0 else w a))

inside : (ts : List Tree) (w : Tree → ℤ) (x : Tree) → member x ts ≡ true → limited ts w x ≡ w x
unfolding limited
inside [] w x h = absurd (cc)
inside (a ∷ ts) w x h = elim (cases_tree a x) [
  | inl e ↦ (let here : one_at a x ≡ pos 1 = subst (λ (y : Tree). one_at a y ≡ pos 1) e (one_here a) in
      ap (λ (z : ℤ). limited ts w x +ℤ ((if member a ts then pos 0 else w a) *ℤ z)) here
      ∙ elim (cases_Bool (member a ts)) [
        | inl m ↦ ap (λ (b : Bool). limited ts w x +ℤ ((if b then pos 0 else w a) *ℤ pos 1)) m ∙ +ℤ_idr (limited ts w x) ∙ inside ts w x (subst (λ (y : Tree). member y ts ≡ true) e m)
        | inr m ↦ ap (λ (b : Bool). limited ts w x +ℤ ((if b then pos 0 else w a) *ℤ pos 1)) m
            ∙ ap (λ (z : ℤ). z +ℤ (w a *ℤ pos 1)) (outside ts w x (subst (λ (y : Tree). member y ts ≡ false) e m)) ∙ +ℤ_idl (w a *ℤ pos 1) ∙ times_one (w a) ∙ ap w e
      ])
  | inr ne ↦ (let zero = none_there a x ne in
      let m : member x ts ≡ true = elim (or_cases (tree_eq a x) (member x ts) h) [ inl e ↦ absurd (ne (same_tree a x e)) | inr m ↦ m ] in
      ap (λ (z : ℤ). limited ts w x +ℤ ((if member a ts then pos 0 else w a) *ℤ z)) zero
      ∙ ap (λ (z : ℤ). limited ts w x +ℤ z) (times_zero (if member a ts then pos 0 else w a)) ∙ +ℤ_idr (limited ts w x) ∙ inside ts w x m)
]

none_of : (ts : List Tree) (w : Tree → ℤ) (t : Tree) → AllByRecursion (λ a. coefficient_of a t ≡ pos 0) ts → weighed (limited ts w) t ≡ pos 0
unfolding limited
none_of [] w t h = weighed_zero t
none_of (a ∷ ts) w t h =
    plus (if member a ts then pos 0 else w a) (limited ts w) (one_at a) t
    ∙ ap (λ (z : ℤ). z +ℤ ((if member a ts then pos 0 else w a) *ℤ coefficient_of a t)) (none_of ts w t h.1)
    ∙ ap (λ (z : ℤ). pos 0 +ℤ ((if member a ts then pos 0 else w a) *ℤ z)) h.0
    ∙ ap (λ (z : ℤ). pos 0 +ℤ z) (times_zero (if member a ts then pos 0 else w a))

all_inside : (ts bs : List Tree) (w : Tree → ℤ) → AllByRecursion (λ x. member x bs ≡ true) ts → AllByRecursion (λ x. limited bs w x ≡ w x) ts
all_inside [] bs w h = tt
all_inside (a ∷ ts) bs w h = (inside bs w a h.0, all_inside ts bs w h.1)

-- where each coefficient of a term's atoms is 0, each weight gives 0
pub nothing_weighed : (t : Tree) (w : Tree → ℤ) → AllByRecursion (λ a. coefficient_of a t ≡ pos 0) (atoms_of t) → weighed w t ≡ pos 0
nothing_weighed t w h =
    sym (agree (limited (atoms_of t) w) w t (all_inside (atoms_of t) (atoms_of t) w (members (atoms_of t) (atoms_of t) (λ x m. m)))) ∙ none_of (atoms_of t) w t h

not_members : (a : Tree) (ts : List Tree) → member a ts ≡ false → AllByRecursion (λ x. one_at a x ≡ pos 0) ts
not_members a [] h = tt
not_members a (x ∷ xs) h =
    let p = or_parts (tree_eq x a) (member a xs) h in
    (none_there a x (λ e. both_ways (tree_eq x a) p.0 (subst (λ (y : Tree). tree_eq x y ≡ true) (sym e) (tree_is x))), not_members a xs p.1)

-- an atom that does not stand in a term has the coefficient 0
pub absent : (a t : Tree) → member a (atoms_of t) ≡ false → coefficient_of a t ≡ pos 0
absent a t h = agree (one_at a) (λ _. pos 0) t (not_members a (atoms_of t) h) ∙ weighed_zero t

-- a test over the atoms of a term, at any tree
at_member : (test : Tree → Bool) (a : Tree) (ts : List Tree) → list_all test ts ≡ true → member a ts ≡ true → test a ≡ true
at_member test a [] h m = absurd (cc)
at_member test a (x ∷ xs) h m =
    let p = and_parts (test x) (list_all test xs) h in
    elim (or_cases (tree_eq x a) (member a xs) m) [ inl e ↦ subst (λ (y : Tree). test y ≡ true) (same_tree x a e) p.0 | inr n ↦ at_member test a xs p.1 n ]

all_from : (test : Tree → Bool) (ts : List Tree) → ((a : Tree) → test a ≡ true) → list_all test ts ≡ true
all_from test [] h = refl
all_from test (a ∷ ts) h = and_from (test a) (list_all test ts) (h a) (all_from test ts h)

pub fits_is : (z : ℤ) → fits z ≡ true → FitsSigned w128 z
fits_is (pos n) h = record { sfits = ltb-true n (2 ^ 127) h }
fits_is (negsuc n) h = record { sfits = ltb-true n (2 ^ 127) h }

pub is_fits : (z : ℤ) → FitsSigned w128 z → fits z ≡ true
is_fits (pos n) h = lt-ltb n (2 ^ 127) h.sfits
is_fits (negsuc n) h = lt-ltb n (2 ^ 127) h.sfits

pub within_is : (t : Tree) → within t ≡ true → IsWithin t
within_is t h =
    let p = and_parts (fits (constant_of t)) (list_all (λ a. fits (coefficient_of a t)) (atoms_of t)) h in
    record {
      constant = fits_is (constant_of t) p.0;
      atoms = λ a. elim (cases_Bool (member a (atoms_of t))) [
        | inl m ↦ fits_is (coefficient_of a t) (at_member (λ x. fits (coefficient_of x t)) a (atoms_of t) p.1 m)
        | inr m ↦ fits_is (coefficient_of a t) (ap fits (absent a t m))
      ];
    }

pub is_within : (t : Tree) → IsWithin t → within t ≡ true
is_within t h =
    and_from (fits (constant_of t)) (list_all (λ a. fits (coefficient_of a t)) (atoms_of t)) (is_fits (constant_of t) h.constant)
    (all_from (λ a. fits (coefficient_of a t)) (atoms_of t) (λ a. is_fits (coefficient_of a t) (h.atoms a)))

pub narrow_is : (t : Tree) → narrow t ≡ true → Narrow t
narrow_is (Add a b) h = let p = and_parts (within (Add a b)) (narrow a && narrow b) h in let q = and_parts (narrow a) (narrow b) p.1 in (within_is (Add a b) p.0, narrow_is a q.0, narrow_is b q.1)
narrow_is (Sub a b) h = let p = and_parts (within (Sub a b)) (narrow a && narrow b) h in let q = and_parts (narrow a) (narrow b) p.1 in (within_is (Sub a b) p.0, narrow_is a q.0, narrow_is b q.1)
narrow_is (Scale n a) h = let p = and_parts (within (Scale n a)) (narrow a) h in (within_is (Scale n a) p.0, narrow_is a p.1)
narrow_is (Lit n) h = within_is (Lit n) h
narrow_is (Name x) h = tt
narrow_is (Get m k) h = tt
narrow_is (Has m k) h = tt
narrow_is (Size m) h = tt
narrow_is (Sum m) h = tt
narrow_is Nil h = tt
narrow_is (Put m k v) h = tt
narrow_is (Del m k) h = tt
narrow_is (Bump m k n) h = tt

pub is_narrow : (t : Tree) → Narrow t → narrow t ≡ true
is_narrow (Add a b) h = and_from (within (Add a b)) (narrow a && narrow b) (is_within (Add a b) h.0) (and_from (narrow a) (narrow b) (is_narrow a h.1) (is_narrow b h.2))
is_narrow (Sub a b) h = and_from (within (Sub a b)) (narrow a && narrow b) (is_within (Sub a b) h.0) (and_from (narrow a) (narrow b) (is_narrow a h.1) (is_narrow b h.2))
is_narrow (Scale n a) h = and_from (within (Scale n a)) (narrow a) (is_within (Scale n a) h.0) (is_narrow a h.1)
is_narrow (Lit n) h = is_within (Lit n) h
is_narrow (Name x) h = refl
is_narrow (Get m k) h = refl
is_narrow (Has m k) h = refl
is_narrow (Size m) h = refl
is_narrow (Sum m) h = refl
is_narrow Nil h = refl
is_narrow (Put m k v) h = refl
is_narrow (Del m k) h = refl
is_narrow (Bump m k n) h = refl

-- where no atom stays, each coefficient is 0, and the term is its constant
coefficients : (t : Tree) (ts : List Tree) → list_all (λ a. int_eq (coefficient_of a t) (pos 0)) ts ≡ true → AllByRecursion (λ a. coefficient_of a t ≡ pos 0) ts
coefficients t [] h = tt
coefficients t (a ∷ ts) h =
    let p = and_parts (int_eq (coefficient_of a t) (pos 0)) (list_all (λ a. int_eq (coefficient_of a t) (pos 0)) ts) h in
    ((Decides-int_eq (coefficient_of a t) (pos 0)).0 p.0, coefficients t ts p.1)

pub no_atom_is : (t : Tree) → no_atom t ≡ true → (w : Tree → ℤ) → weighed w t ≡ pos 0
no_atom_is t h w = nothing_weighed t w (coefficients t (atoms_of t) h)

pub is_no_atom : (t : Tree) → ((a : Tree) → coefficient_of a t ≡ pos 0) → no_atom t ≡ true
is_no_atom t h = all_from (λ a. int_eq (coefficient_of a t) (pos 0)) (atoms_of t) (λ a. (Decides-int_eq (coefficient_of a t) (pos 0)).1 (h a))

pub constant_value : (v : Valuation) (t : Tree) → no_atom t ≡ true → num v t ≡ constant_of t
constant_value v t h = value_is v t ∙ ap (λ (z : ℤ). constant_of t +ℤ z) (no_atom_is t h (num v)) ∙ +ℤ_idr (constant_of t)
