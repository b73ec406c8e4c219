-- Terms that are alike: three signs are like one, and what is made of like terms is alike.
use Rattle.std.proofs.Common.{rules, ◌≡◌, ◌⊎◌, inl, inr, ℤ, pos, ◌+ℤ◌, ◌-ℤ◌, ◌*ℤ◌, Bool, true, false, cond, List, [], ◌∷◌, refl, sym, ap, subst, ◌∙◌, arith}
use Rattle.std.specs.Prelude.{FitsSigned}
use Rattle.std.specs.Int.{w128}
use Rattle.std.proofs.lemmas.Int.{ints}
use Rattle.sync_terms.specs.Trees.{Tree, Lit, Name, Add, Sub, Scale, Get, Has, Size, Sum, Nil, Put, Del, Bump}
use Rattle.sync_terms.specs.Stored.{Stored, tree}
use Rattle.sync_linear.specs.declared.terms.Rest.{Rest}
use Rattle.sync_linear.specs.declared.terms.Rest.TheVariants as rest
use Rattle.sync_linear.specs.Forms.{tree_eq, constant_of, weighed, one_at, coefficient_of, IsWithin, Narrow}
use Rattle.sync_linear.specs.Stores.{HasAtoms}
use Rattle.sync_linear.specs.Parts.{completed, wrapped, AreAlike}
use Rattle.sync_linear.proofs.Whole.{zero_fits}

pub alike-same : (s : Stored) {a b : Tree} → a ≡ b → AreAlike s a b
alike-same s {a} e = subst (λ (x : Tree). AreAlike s a x) e (record { constant = refl; atoms = λ x. refl; stored = λ h. h; narrow = λ h. h; wide = λ h. h })

pub alike-then : {s : Stored} {a b c : Tree} → AreAlike s a b → AreAlike s b c → AreAlike s a c
alike-then p q = record {
  constant = p.constant ∙ q.constant;
  atoms = λ x. p.atoms x ∙ q.atoms x;
  stored = λ h. q.stored (p.stored h);
  narrow = λ h. q.narrow (p.narrow h);
  wide = λ h. p.wide (q.wide h);
}

-- numbers of a term that are those of one within 128 bits
within-by : {a b : Tree} → constant_of a ≡ constant_of b → ((x : Tree) → coefficient_of x a ≡ coefficient_of x b) → IsWithin a → IsWithin b
within-by e f h = record { constant = subst (FitsSigned w128) e h.constant; atoms = λ x. subst (FitsSigned w128) (f x) (h.atoms x) }

within-back : {a b : Tree} → constant_of a ≡ constant_of b → ((x : Tree) → coefficient_of x a ≡ coefficient_of x b) → IsWithin b → IsWithin a
within-back e f h = record { constant = subst (FitsSigned w128) (sym e) h.constant; atoms = λ x. subst (FitsSigned w128) (sym (f x)) (h.atoms x) }

-- ---- what a rest makes of like terms

alike-taken : (s : Stored) (c a b : Tree) → AreAlike s a b → AreAlike s (Sub c a) (Sub c b)
alike-taken s c a b h =
    let e : constant_of c -ℤ constant_of a ≡ constant_of c -ℤ constant_of b = ap (λ (z : ℤ). constant_of c -ℤ z) h.constant in
    let f : (x : Tree) → coefficient_of x c -ℤ coefficient_of x a ≡ coefficient_of x c -ℤ coefficient_of x b =
    λ x. ap (λ (z : ℤ). coefficient_of x c -ℤ z) (h.atoms x) in
    record {
      constant = e;
      atoms = f;
      stored = λ i. (i.0, h.stored i.1);
      narrow = λ n. (within-by {a = Sub c a} {b = Sub c b} e f n.0, n.1, h.narrow n.2);
      wide = λ n. (within-back {a = Sub c a} {b = Sub c b} e f n.0, n.1, h.wide n.2);
    }

alike-completed : (s : Stored) (r : Rest) (a b : Tree) → AreAlike s a b → AreAlike s (completed s r a) (completed s r b)
alike-completed s (rest.Plus c) a b h =
    let e : constant_of a +ℤ constant_of (tree s c) ≡ constant_of b +ℤ constant_of (tree s c) = ap (λ (z : ℤ). z +ℤ constant_of (tree s c)) h.constant in
    let f : (x : Tree) → coefficient_of x a +ℤ coefficient_of x (tree s c) ≡ coefficient_of x b +ℤ coefficient_of x (tree s c) =
    λ x. ap (λ (z : ℤ). z +ℤ coefficient_of x (tree s c)) (h.atoms x) in
    record {
      constant = e;
      atoms = f;
      stored = λ i. (h.stored i.0, i.1);
      narrow = λ n. (within-by {a = Add a (tree s c)} {b = Add b (tree s c)} e f n.0, h.narrow n.1, n.2);
      wide = λ n. (within-back {a = Add a (tree s c)} {b = Add b (tree s c)} e f n.0, h.wide n.1, n.2);
    }
alike-completed s (rest.Minus c) a b h =
    let e : constant_of a -ℤ constant_of (tree s c) ≡ constant_of b -ℤ constant_of (tree s c) = ap (λ (z : ℤ). z -ℤ constant_of (tree s c)) h.constant in
    let f : (x : Tree) → coefficient_of x a -ℤ coefficient_of x (tree s c) ≡ coefficient_of x b -ℤ coefficient_of x (tree s c) =
    λ x. ap (λ (z : ℤ). z -ℤ coefficient_of x (tree s c)) (h.atoms x) in
    record {
      constant = e;
      atoms = f;
      stored = λ i. (h.stored i.0, i.1);
      narrow = λ n. (within-by {a = Sub a (tree s c)} {b = Sub b (tree s c)} e f n.0, h.narrow n.1, n.2);
      wide = λ n. (within-back {a = Sub a (tree s c)} {b = Sub b (tree s c)} e f n.0, h.wide n.1, n.2);
    }
alike-completed s (rest.Times k) a b h =
    let e : k *ℤ constant_of a ≡ k *ℤ constant_of b = ap (λ (z : ℤ). k *ℤ z) h.constant in
    let f : (x : Tree) → k *ℤ coefficient_of x a ≡ k *ℤ coefficient_of x b = λ x. ap (λ (z : ℤ). k *ℤ z) (h.atoms x) in
    record {
      constant = e;
      atoms = f;
      stored = h.stored;
      narrow = λ n. (within-by {a = Scale k a} {b = Scale k b} e f n.0, h.narrow n.1);
      wide = λ n. (within-back {a = Scale k a} {b = Scale k b} e f n.0, h.wide n.1);
    }
alike-completed s (rest.AddedTo c) a b h =
    let e : constant_of (tree s c) +ℤ constant_of a ≡ constant_of (tree s c) +ℤ constant_of b = ap (λ (z : ℤ). constant_of (tree s c) +ℤ z) h.constant in
    let f : (x : Tree) → coefficient_of x (tree s c) +ℤ coefficient_of x a ≡ coefficient_of x (tree s c) +ℤ coefficient_of x b =
    λ x. ap (λ (z : ℤ). coefficient_of x (tree s c) +ℤ z) (h.atoms x) in
    record {
      constant = e;
      atoms = f;
      stored = λ i. (i.0, h.stored i.1);
      narrow = λ n. (within-by {a = Add (tree s c) a} {b = Add (tree s c) b} e f n.0, n.1, h.narrow n.2);
      wide = λ n. (within-back {a = Add (tree s c) a} {b = Add (tree s c) b} e f n.0, n.1, h.wide n.2);
    }
alike-completed s (rest.TakenFrom c) a b h = alike-taken s (tree s c) a b h
alike-completed s rest.Opposite a b h = alike-taken s (Lit (pos 0)) a b h

pub alike-wrapped : (s : Stored) (rs : List Rest) (a b : Tree) → AreAlike s a b → AreAlike s (wrapped s rs a) (wrapped s rs b)
alike-wrapped s [] a b h = h
alike-wrapped s (r ∷ rs) a b h = alike-completed s r (wrapped s rs a) (wrapped s rs b) (alike-wrapped s rs a b h)

-- ---- three signs

twice : (x : ℤ) → x ≡ pos 0 -ℤ (pos 0 -ℤ x)
twice x = omega (arith, ints)

thrice : (x : ℤ) → pos 0 -ℤ x ≡ pos 0 -ℤ (pos 0 -ℤ (pos 0 -ℤ x))
thrice x = omega (arith, ints)

one_fits : FitsSigned w128 (pos 1)
one_fits = search rules

times_fits : (b : Bool) → FitsSigned w128 (cond b (pos 1) (pos 0))
times_fits true = one_fits
times_fits false = zero_fits

-- a narrow term is within 128 bits itself
narrow_within : (a : Tree) → Narrow a → IsWithin a
narrow_within (Add a b) h = h.0
narrow_within (Sub a b) h = h.0
narrow_within (Scale n a) h = h.0
narrow_within (Lit n) h = h
narrow_within (Name y) h = record { constant = zero_fits; atoms = λ x. times_fits (tree_eq x (Name y)) }
narrow_within (Get m k) h = record { constant = zero_fits; atoms = λ x. times_fits (tree_eq x (Get m k)) }
narrow_within (Has m k) h = record { constant = zero_fits; atoms = λ x. times_fits (tree_eq x (Has m k)) }
narrow_within (Size m) h = record { constant = zero_fits; atoms = λ x. times_fits (tree_eq x (Size m)) }
narrow_within (Sum m) h = record { constant = zero_fits; atoms = λ x. times_fits (tree_eq x (Sum m)) }
narrow_within Nil h = record { constant = zero_fits; atoms = λ x. zero_fits }
narrow_within (Put m k v) h = record { constant = zero_fits; atoms = λ x. zero_fits }
narrow_within (Del m k) h = record { constant = zero_fits; atoms = λ x. zero_fits }
narrow_within (Bump m k n) h = record { constant = zero_fits; atoms = λ x. zero_fits }

abbrev pub opposite : Tree → Tree
opposite a = Sub (Lit (pos 0)) a

pub signs-alike : (s : Stored) (a : Tree) → AreAlike s (opposite a) (opposite (opposite (opposite a)))
signs-alike s a = record {
  constant = thrice (constant_of a);
  atoms = λ x. thrice (coefficient_of x a);
  stored = λ h. (tt, (tt, (tt, h.1)));
  narrow = λ n. (
    within-by {a = opposite a} {b = opposite (opposite (opposite a))} (thrice (constant_of a)) (λ x. thrice (coefficient_of x a)) n.0,
    n.1,
    (within-by {a = a} {b = opposite (opposite a)} (twice (constant_of a)) (λ x. twice (coefficient_of x a)) (narrow_within a n.2), n.1, n),
  );
  wide = λ n. n.2.2;
}
