-- The value of a term depends only on what its known symbols stand for.
use Rattle.std.proofs.Common.{◌≡◌, ℕ, ℤ, Bool, true, false, ◌||◌, not, refl, ap, ◌∙◌, Some}
use Rattle.std.proofs.lemmas.Bool.{eq-eqb}
use Rattle.sync_base.proofs.Basics.{or_left, or_right}
use Rattle.sync_terms.specs.Trees.{Tree, Lit, Name, Add, Sub, Scale, Get, Has, Size, Sum, Nil, Put, Del, Bump, Formula, Le, Lt, Eq, Not, And, Or, Imp, replaced, replaced_in}
use Rattle.sync_terms.specs.Maps as maps
use Rattle.sync_terms.specs.Values.{Valuation, num, mapped, truth}
use Rattle.sync_machine.specs.States.{Numbers, Maps}
use Rattle.sync_machine.specs.Scope.{Known, IsNumber, IsMap, IsFormula}
use Rattle.sync_rules.specs.Obligations.{names, form_names}

-- two valuations agree on the known symbols among the named ones
pub record Agree (k : Known) (named : ℕ → Bool) (v w : Valuation) : Type 0 where
  pub number : (x : ℕ) → named x ≡ true → k x ≡ Some Numbers → v.number x ≡ w.number x
  pub mapping : (x : ℕ) → named x ≡ true → k x ≡ Some Maps → v.mapping x ≡ w.mapping x

pub Agree-part : {k : Known} {named part : ℕ → Bool} {v w : Valuation} → ((x : ℕ) → part x ≡ true → named x ≡ true) → Agree k named v w → Agree k part v w
Agree-part f a = record { number = λ x p. a.number x (f x p); mapping = λ x p. a.mapping x (f x p) }

Agree-left : {k : Known} {v w : Valuation} (p q : ℕ → Bool) → Agree k (λ x. p x || q x) v w → Agree k p v w
Agree-left p q a = Agree-part (λ x e. or_left (p x) (q x) e) a

Agree-right : {k : Known} {v w : Valuation} (p q : ℕ → Bool) → Agree k (λ x. p x || q x) v w → Agree k q v w
Agree-right p q a = Agree-part (λ x e. or_right (p x) (q x) e) a

pair : {m n : maps.Map} {x y : ℤ} → m ≡ n → x ≡ y → ◌≡◌ {A = maps.Map × ℤ} (m, x) (n, y)
pair p q = λ i. (p i, q i)

mutual
  unfolding names

  pub num-agree : (k : Known) (v w : Valuation) (t : Tree) → IsNumber k t → Agree k (λ x. names x t) v w → num v t ≡ num w t
  num-agree k v w (Lit n) s a = refl
  num-agree k v w (Name y) s a = a.number y (eq-eqb y y refl) s
  num-agree k v w (Add b c) s a =
      let p = num-agree k v w b s.0 (Agree-left (λ x. names x b) (λ x. names x c) a) in
      let q = num-agree k v w c s.1 (Agree-right (λ x. names x b) (λ x. names x c) a) in cc
  num-agree k v w (Sub b c) s a =
      let p = num-agree k v w b s.0 (Agree-left (λ x. names x b) (λ x. names x c) a) in
      let q = num-agree k v w c s.1 (Agree-right (λ x. names x b) (λ x. names x c) a) in cc
  num-agree k v w (Scale n b) s a = let p = num-agree k v w b s a in cc
  num-agree k v w (Get m i) s a =
      let p = mapped-agree k v w m s.0 (Agree-left (λ x. names x m) (λ x. names x i) a) in
      let q = num-agree k v w i s.1 (Agree-right (λ x. names x m) (λ x. names x i) a) in cc
  num-agree k v w (Has m i) s a =
      let p = mapped-agree k v w m s.0 (Agree-left (λ x. names x m) (λ x. names x i) a) in
      let q = num-agree k v w i s.1 (Agree-right (λ x. names x m) (λ x. names x i) a) in ap (λ (z : maps.Map × ℤ). maps.has z.0 z.1) (pair p q)
  num-agree k v w (Size m) s a = ap (λ (z : maps.Map). maps.size z) (mapped-agree k v w m s a)
  num-agree k v w (Sum m) s a = ap (λ (z : maps.Map). maps.sum z) (mapped-agree k v w m s a)
  num-agree k v w Nil s a = absurd s
  num-agree k v w (Put m i n) s a = absurd s
  num-agree k v w (Del m i) s a = absurd s
  num-agree k v w (Bump m i n) s a = absurd s

  pub mapped-agree : (k : Known) (v w : Valuation) (t : Tree) → IsMap k t → Agree k (λ x. names x t) v w → mapped v t ≡ mapped w t
  mapped-agree k v w (Name y) s a = a.mapping y (eq-eqb y y refl) s
  mapped-agree k v w Nil s a = refl
  mapped-agree k v w (Put m i n) s a =
      let left = Agree-left (λ x. names x m || names x i) (λ x. names x n) a in
      let p = mapped-agree k v w m s.0 (Agree-left (λ x. names x m) (λ x. names x i) left) in
      let q = num-agree k v w i s.1 (Agree-right (λ x. names x m) (λ x. names x i) left) in
      let r = num-agree k v w n s.2 (Agree-right (λ x. names x m || names x i) (λ x. names x n) a) in
      ap (λ (z : maps.Map × ℤ). maps.put z.0 z.1 (num v n)) (pair p q) ∙ ap (λ (z : ℤ). maps.put (mapped w m) (num w i) z) r
  mapped-agree k v w (Del m i) s a =
      let p = mapped-agree k v w m s.0 (Agree-left (λ x. names x m) (λ x. names x i) a) in
      let q = num-agree k v w i s.1 (Agree-right (λ x. names x m) (λ x. names x i) a) in ap (λ (z : maps.Map × ℤ). maps.del z.0 z.1) (pair p q)
  mapped-agree k v w (Bump m i n) s a =
      let left = Agree-left (λ x. names x m || names x i) (λ x. names x n) a in
      let p = mapped-agree k v w m s.0 (Agree-left (λ x. names x m) (λ x. names x i) left) in
      let q = num-agree k v w i s.1 (Agree-right (λ x. names x m) (λ x. names x i) left) in
      let r = num-agree k v w n s.2 (Agree-right (λ x. names x m || names x i) (λ x. names x n) a) in
      ap (λ (z : maps.Map × ℤ). maps.bump z.0 z.1 (num v n)) (pair p q) ∙ ap (λ (z : ℤ). maps.bump (mapped w m) (num w i) z) r
  mapped-agree k v w (Lit n) s a = absurd s
  mapped-agree k v w (Add b c) s a = absurd s
  mapped-agree k v w (Sub b c) s a = absurd s
  mapped-agree k v w (Scale n b) s a = absurd s
  mapped-agree k v w (Get m i) s a = absurd s
  mapped-agree k v w (Has m i) s a = absurd s
  mapped-agree k v w (Size m) s a = absurd s
  mapped-agree k v w (Sum m) s a = absurd s

pub truth-agree : (k : Known) (v w : Valuation) (f : Formula) → IsFormula k f → Agree k (λ x. form_names x f) v w → truth v f ≡ truth w f
unfolding truth form_names
truth-agree k v w (Le b c) s a =
    let p = num-agree k v w b s.0 (Agree-left (λ x. names x b) (λ x. names x c) a) in
    let q = num-agree k v w c s.1 (Agree-right (λ x. names x b) (λ x. names x c) a) in cc
truth-agree k v w (Lt b c) s a =
    let p = num-agree k v w b s.0 (Agree-left (λ x. names x b) (λ x. names x c) a) in
    let q = num-agree k v w c s.1 (Agree-right (λ x. names x b) (λ x. names x c) a) in cc
truth-agree k v w (Eq b c) s a =
    let p = num-agree k v w b s.0 (Agree-left (λ x. names x b) (λ x. names x c) a) in
    let q = num-agree k v w c s.1 (Agree-right (λ x. names x b) (λ x. names x c) a) in cc
truth-agree k v w (Not f) s a = ap not (truth-agree k v w f s a)
truth-agree k v w (And f g) s a =
    let p = truth-agree k v w f s.0 (Agree-left (λ x. form_names x f) (λ x. form_names x g) a) in
    let q = truth-agree k v w g s.1 (Agree-right (λ x. form_names x f) (λ x. form_names x g) a) in cc
truth-agree k v w (Or f g) s a =
    let p = truth-agree k v w f s.0 (Agree-left (λ x. form_names x f) (λ x. form_names x g) a) in
    let q = truth-agree k v w g s.1 (Agree-right (λ x. form_names x f) (λ x. form_names x g) a) in cc
truth-agree k v w (Imp f g) s a =
    let p = truth-agree k v w f s.0 (Agree-left (λ x. form_names x f) (λ x. form_names x g) a) in
    let q = truth-agree k v w g s.1 (Agree-right (λ x. form_names x f) (λ x. form_names x g) a) in cc

-- ---- replacing symbols is giving them the values of what replaces them

abbrev pub composed : (ℕ → Tree) → Valuation → Valuation
composed r v = record { number = λ x. num v (r x); mapping = λ x. mapped v (r x) }

mutual
  unfolding replaced

  pub num-replaced : (r : ℕ → Tree) (v : Valuation) (t : Tree) → num v (replaced r t) ≡ num (composed r v) t
  num-replaced r v (Lit n) = refl
  num-replaced r v (Name y) = refl
  num-replaced r v (Add b c) = let p = num-replaced r v b in let q = num-replaced r v c in cc
  num-replaced r v (Sub b c) = let p = num-replaced r v b in let q = num-replaced r v c in cc
  num-replaced r v (Scale n b) = let p = num-replaced r v b in cc
  num-replaced r v (Get m i) = ap (λ (z : maps.Map × ℤ). maps.get z.0 z.1) (pair (mapped-replaced r v m) (num-replaced r v i))
  num-replaced r v (Has m i) = ap (λ (z : maps.Map × ℤ). maps.has z.0 z.1) (pair (mapped-replaced r v m) (num-replaced r v i))
  num-replaced r v (Size m) = ap (λ (z : maps.Map). maps.size z) (mapped-replaced r v m)
  num-replaced r v (Sum m) = ap (λ (z : maps.Map). maps.sum z) (mapped-replaced r v m)
  num-replaced r v Nil = refl
  num-replaced r v (Put m i n) = refl
  num-replaced r v (Del m i) = refl
  num-replaced r v (Bump m i n) = refl

  pub mapped-replaced : (r : ℕ → Tree) (v : Valuation) (t : Tree) → mapped v (replaced r t) ≡ mapped (composed r v) t
  mapped-replaced r v (Name y) = refl
  mapped-replaced r v Nil = refl
  mapped-replaced r v (Put m i n) =
      ap (λ (z : maps.Map × ℤ). maps.put z.0 z.1 (num v (replaced r n))) (pair (mapped-replaced r v m) (num-replaced r v i))
      ∙ ap (λ (z : ℤ). maps.put (mapped (composed r v) m) (num (composed r v) i) z) (num-replaced r v n)
  mapped-replaced r v (Del m i) = ap (λ (z : maps.Map × ℤ). maps.del z.0 z.1) (pair (mapped-replaced r v m) (num-replaced r v i))
  mapped-replaced r v (Bump m i n) =
      ap (λ (z : maps.Map × ℤ). maps.bump z.0 z.1 (num v (replaced r n))) (pair (mapped-replaced r v m) (num-replaced r v i))
      ∙ ap (λ (z : ℤ). maps.bump (mapped (composed r v) m) (num (composed r v) i) z) (num-replaced r v n)
  mapped-replaced r v (Lit n) = refl
  mapped-replaced r v (Add b c) = refl
  mapped-replaced r v (Sub b c) = refl
  mapped-replaced r v (Scale n b) = refl
  mapped-replaced r v (Get m i) = refl
  mapped-replaced r v (Has m i) = refl
  mapped-replaced r v (Size m) = refl
  mapped-replaced r v (Sum m) = refl

pub truth-replaced : (r : ℕ → Tree) (v : Valuation) (f : Formula) → truth v (replaced_in r f) ≡ truth (composed r v) f
unfolding truth replaced_in
truth-replaced r v (Le b c) = let p = num-replaced r v b in let q = num-replaced r v c in cc
truth-replaced r v (Lt b c) = let p = num-replaced r v b in let q = num-replaced r v c in cc
truth-replaced r v (Eq b c) = let p = num-replaced r v b in let q = num-replaced r v c in cc
truth-replaced r v (Not f) = ap not (truth-replaced r v f)
truth-replaced r v (And f g) = let p = truth-replaced r v f in let q = truth-replaced r v g in cc
truth-replaced r v (Or f g) = let p = truth-replaced r v f in let q = truth-replaced r v g in cc
truth-replaced r v (Imp f g) = let p = truth-replaced r v f in let q = truth-replaced r v g in cc
