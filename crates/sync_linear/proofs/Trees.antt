-- Equality of trees by a test, and what the coefficients of a term tell.
use Rattle.std.proofs.Common.{◌≡◌, ◌≢◌, ◌⊎◌, inl, inr, ℤ, pos, true, false, ◌&&◌, refl, ap, subst, ◌∙◌}
use Rattle.std.specs.Ordering.{int_eq}
use Rattle.std.proofs.lemmas.Bool.{and_parts, and_from, eqb-true, eq-eqb, cond-true, cond-false, cases_Bool, both_ways, false_from_ne_true}
use Rattle.std.proofs.lemmas.Bool.Decides.{Decides-int_eq}
use Rattle.sync_terms.specs.Trees.{Tree, Lit, Name, Add, Sub, Scale, Get, Has, Size, Sum, Nil, Put, Del, Bump}
use Rattle.sync_linear.specs.Forms.{tree_eq, one_at}

both : (f : Tree → Tree → Tree) (a b c d : Tree) → a ≡ c → b ≡ d → f a b ≡ f c d
both f a b c d e g = ap (λ (x : Tree). f x b) e ∙ ap (f c) g

pub same_tree : (a b : Tree) → tree_eq a b ≡ true → a ≡ b
same_tree (Lit n) (Lit m) e = ap Lit ((Decides-int_eq n m).0 e)
same_tree (Name x) (Name y) e = ap Name (eqb-true x y e)
same_tree (Add a b) (Add c d) e = let p = and_parts (tree_eq a c) (tree_eq b d) e in both Add a b c d (same_tree a c p.0) (same_tree b d p.1)
same_tree (Sub a b) (Sub c d) e = let p = and_parts (tree_eq a c) (tree_eq b d) e in both Sub a b c d (same_tree a c p.0) (same_tree b d p.1)
same_tree (Scale n a) (Scale m b) e =
    let p = and_parts (int_eq n m) (tree_eq a b) e in
    ap (λ (x : ℤ). Scale x a) ((Decides-int_eq n m).0 p.0) ∙ ap (Scale m) (same_tree a b p.1)
same_tree (Get a b) (Get c d) e = let p = and_parts (tree_eq a c) (tree_eq b d) e in both Get a b c d (same_tree a c p.0) (same_tree b d p.1)
same_tree (Has a b) (Has c d) e = let p = and_parts (tree_eq a c) (tree_eq b d) e in both Has a b c d (same_tree a c p.0) (same_tree b d p.1)
same_tree (Size a) (Size b) e = ap Size (same_tree a b e)
same_tree (Sum a) (Sum b) e = ap Sum (same_tree a b e)
same_tree Nil Nil e = refl
same_tree (Put a b x) (Put c d y) e =
    let p = and_parts (tree_eq a c) (tree_eq b d && tree_eq x y) e in
    let q = and_parts (tree_eq b d) (tree_eq x y) p.1 in
    both (λ (s t : Tree). Put s t x) a b c d (same_tree a c p.0) (same_tree b d q.0) ∙ ap (Put c d) (same_tree x y q.1)
same_tree (Del a b) (Del c d) e = let p = and_parts (tree_eq a c) (tree_eq b d) e in both Del a b c d (same_tree a c p.0) (same_tree b d p.1)
same_tree (Bump a b x) (Bump c d y) e =
    let p = and_parts (tree_eq a c) (tree_eq b d && tree_eq x y) e in
    let q = and_parts (tree_eq b d) (tree_eq x y) p.1 in
    both (λ (s t : Tree). Bump s t x) a b c d (same_tree a c p.0) (same_tree b d q.0) ∙ ap (Bump c d) (same_tree x y q.1)
same_tree _ _ e = absurd (cc)

pub tree_is : (a : Tree) → tree_eq a a ≡ true
tree_is (Lit n) = (Decides-int_eq n n).1 refl
tree_is (Name x) = eq-eqb x x refl
tree_is (Add a b) = and_from (tree_eq a a) (tree_eq b b) (tree_is a) (tree_is b)
tree_is (Sub a b) = and_from (tree_eq a a) (tree_eq b b) (tree_is a) (tree_is b)
tree_is (Scale n a) = and_from (int_eq n n) (tree_eq a a) ((Decides-int_eq n n).1 refl) (tree_is a)
tree_is (Get a b) = and_from (tree_eq a a) (tree_eq b b) (tree_is a) (tree_is b)
tree_is (Has a b) = and_from (tree_eq a a) (tree_eq b b) (tree_is a) (tree_is b)
tree_is (Size a) = tree_is a
tree_is (Sum a) = tree_is a
tree_is Nil = refl
tree_is (Put a b c) = and_from (tree_eq a a) (tree_eq b b && tree_eq c c) (tree_is a) (and_from (tree_eq b b) (tree_eq c c) (tree_is b) (tree_is c))
tree_is (Del a b) = and_from (tree_eq a a) (tree_eq b b) (tree_is a) (tree_is b)
tree_is (Bump a b c) = and_from (tree_eq a a) (tree_eq b b && tree_eq c c) (tree_is a) (and_from (tree_eq b b) (tree_eq c c) (tree_is b) (tree_is c))

pub other_tree : (a b : Tree) → a ≢ b → tree_eq a b ≡ false
other_tree a b ne = false_from_ne_true (tree_eq a b) (λ e. ne (same_tree a b e))

pub one_here : (a : Tree) → one_at a a ≡ pos 1
one_here a = cond-true (tree_eq a a) (pos 1) (pos 0) (tree_is a)

pub none_there : (a b : Tree) → a ≢ b → one_at a b ≡ pos 0
none_there a b ne = cond-false (tree_eq a b) (pos 1) (pos 0) (other_tree a b ne)

differ : (a b : Tree) → tree_eq a b ≡ false → a ≡ b → ⊥
differ a b e s = both_ways (tree_eq a b) e (subst (λ (x : Tree). tree_eq a x ≡ true) s (tree_is a))

pub cases_tree : (a b : Tree) → (a ≡ b) ⊎ (a ≢ b)
cases_tree a b = elim (cases_Bool (tree_eq a b)) [ inl e ↦ inl (same_tree a b e) | inr e ↦ inr (differ a b e) ]
