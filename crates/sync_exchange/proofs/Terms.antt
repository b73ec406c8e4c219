-- The value of a term depends only on what the symbols that it names stand for.
use Rattle.std.proofs.Common.{◌≡◌, ℕ, Bool, true, false, ◌&&◌, ◌||◌, not, refl, ap, ◌∙◌, Option, Some, None, is_some}
use Rattle.std.proofs.lemmas.Bool.{eq-eqb}
use Rattle.sync_base.specs.Outcome.{first}
use Rattle.sync_terms.specs.Trees.{Tree, Lit, Name, Add, Sub, Scale, Get, Has, Size, Sum, Nil, Put, Del, Bump, Formula, Le, Lt, Eq, Not, And, Or, Imp}
use Rattle.sync_terms.specs.Maps as maps
use Rattle.sync_terms.specs.Values.{Valuation, num, mapped, truth}
use Rattle.sync_machine.specs.States.{Sort, Numbers, Maps, Number, Mapped, value_in}
use Rattle.sync_machine.specs.Scope.{Known}
use Rattle.sync_machine.specs.Naming.{sort_fault, number_fault, map_fault, formula_fault, value_fault}
use Rattle.sync_machine.proofs.Checks.{first_both}
use Rattle.sync_rules.specs.Obligations.{names, form_names}
use Rattle.sync_rules.specs.Locality.{names_only, form_names_only}

-- ---- tests

pub and_left : (a b : Bool) → (a && b) ≡ true → a ≡ true
and_left true b e = refl
and_left false b e = absurd (cc)

pub and_right : (a b : Bool) → (a && b) ≡ true → b ≡ true
and_right true b e = e
and_right false b e = absurd (cc)

pub and_both : (a b : Bool) → a ≡ true → b ≡ true → (a && b) ≡ true
and_both true b p q = q
and_both false b p q = absurd (cc)

pub and_three : (a b c : Bool) → (a && b && c) ≡ true → (a ≡ true) × (b ≡ true) × (c ≡ true)
and_three true true c e = (refl, refl, e)
and_three true false c e = absurd (cc)
and_three false b c e = absurd (cc)

pub or_left : (a b : Bool) → a ≡ true → (a || b) ≡ true
or_left true b e = refl
or_left false b e = absurd (cc)

pub or_right : (a b : Bool) → b ≡ true → (a || b) ≡ true
or_right true b e = refl
or_right false b e = e

or_first : (a b c : Bool) → a ≡ true → (a || b || c) ≡ true
or_first true b c e = refl
or_first false b c e = absurd (cc)

or_second : (a b c : Bool) → b ≡ true → (a || b || c) ≡ true
or_second true b c e = refl
or_second false true c e = refl
or_second false false c e = absurd (cc)

or_third : (a b c : Bool) → c ≡ true → (a || b || c) ≡ true
or_third true b c e = refl
or_third false true c e = refl
or_third false false c e = e

-- ---- agreement

-- two valuations are the same at each symbol of a kind
pub record Same (q : ℕ → Bool) (v w : Valuation) : Type 0 where
  pub number : (x : ℕ) → q x ≡ true → v.number x ≡ w.number x
  pub mapping : (x : ℕ) → q x ≡ true → v.mapping x ≡ w.mapping x

module _ (q : ℕ → Bool) (v w : Valuation) (a : Same q v w) where
  mutual
    unfolding names_only

    pub num-same : (t : Tree) → names_only q t ≡ true → num v t ≡ num w t
    num-same (Lit n) e = refl
    num-same (Name x) e = a.number x e
    num-same (Add b c) e =
        let x = num-same b (and_left _ _ e) in
        let y = num-same c (and_right (names_only q b) _ e) in cc
    num-same (Sub b c) e =
        let x = num-same b (and_left _ _ e) in
        let y = num-same c (and_right (names_only q b) _ e) in cc
    num-same (Scale n b) e = let x = num-same b e in cc
    num-same (Get m k) e =
        let x = mapped-same m (and_left _ _ e) in
        let y = num-same k (and_right (names_only q m) _ e) in cc
    num-same (Has m k) e =
        let x = mapped-same m (and_left _ _ e) in
        let y = num-same k (and_right (names_only q m) _ e) in
        ap (λ z. maps.has z (num v k)) x ∙ ap (λ z. maps.has (mapped w m) z) y
    num-same (Size m) e = ap (λ (z : maps.Map). maps.size z) (mapped-same m e)
    num-same (Sum m) e = ap (λ (z : maps.Map). maps.sum z) (mapped-same m e)
    num-same Nil e = refl
    num-same (Put m k n) e = refl
    num-same (Del m k) e = refl
    num-same (Bump m k n) e = refl

    pub mapped-same : (t : Tree) → names_only q t ≡ true → mapped v t ≡ mapped w t
    mapped-same (Name x) e = a.mapping x e
    mapped-same Nil e = refl
    mapped-same (Put m k n) e =
        let x = mapped-same m (and_three (names_only q m) _ _ e).0 in
        let y = num-same k (and_three (names_only q m) (names_only q k) _ e).1 in
        let z = num-same n (and_three (names_only q m) (names_only q k) _ e).2 in
        ap (λ i. maps.put i (num v k) (num v n)) x ∙ ap (λ i. maps.put (mapped w m) i (num v n)) y ∙ ap (λ i. maps.put (mapped w m) (num w k) i) z
    mapped-same (Del m k) e =
        let x = mapped-same m (and_left _ _ e) in
        let y = num-same k (and_right (names_only q m) _ e) in
        ap (λ i. maps.del i (num v k)) x ∙ ap (λ i. maps.del (mapped w m) i) y
    mapped-same (Bump m k n) e =
        let x = mapped-same m (and_three (names_only q m) _ _ e).0 in
        let y = num-same k (and_three (names_only q m) (names_only q k) _ e).1 in
        let z = num-same n (and_three (names_only q m) (names_only q k) _ e).2 in
        ap (λ i. maps.bump i (num v k) (num v n)) x ∙ ap (λ i. maps.bump (mapped w m) i (num v n)) y ∙ ap (λ i. maps.bump (mapped w m) (num w k) i) z
    mapped-same (Lit n) e = refl
    mapped-same (Add b c) e = refl
    mapped-same (Sub b c) e = refl
    mapped-same (Scale n b) e = refl
    mapped-same (Get m k) e = refl
    mapped-same (Has m k) e = refl
    mapped-same (Size m) e = refl
    mapped-same (Sum m) e = refl

  pub truth-same : (f : Formula) → form_names_only q f ≡ true → truth v f ≡ truth w f
  unfolding truth form_names_only
  truth-same (Le b c) e =
      let x = num-same b (and_left _ _ e) in
      let y = num-same c (and_right (names_only q b) _ e) in cc
  truth-same (Lt b c) e =
      let x = num-same b (and_left _ _ e) in
      let y = num-same c (and_right (names_only q b) _ e) in cc
  truth-same (Eq b c) e =
      let x = num-same b (and_left _ _ e) in
      let y = num-same c (and_right (names_only q b) _ e) in cc
  truth-same (Not f) e = ap not (truth-same f e)
  truth-same (And f g) e =
      let x = truth-same f (and_left _ _ e) in
      let y = truth-same g (and_right (form_names_only q f) _ e) in cc
  truth-same (Or f g) e =
      let x = truth-same f (and_left _ _ e) in
      let y = truth-same g (and_right (form_names_only q f) _ e) in cc
  truth-same (Imp f g) e =
      let x = truth-same f (and_left _ _ e) in
      let y = truth-same g (and_right (form_names_only q f) _ e) in cc

  pub value-same : (s : Sort) (t : Tree) → names_only q t ≡ true → value_in v s t ≡ value_in w s t
  value-same Numbers t e = ap Number (num-same t e)
  value-same Maps t e = ap Mapped (mapped-same t e)

-- ---- which symbols a term names

-- a term whose symbols are all p and, as far as it names them, q
module _ (p q : ℕ → Bool) where
  pub only-more : (t : Tree) → ((x : ℕ) → names x t ≡ true → p x ≡ true → q x ≡ true) → names_only p t ≡ true → names_only q t ≡ true
  unfolding names_only names
  only-more (Lit n) h e = refl
  only-more (Name x) h e = h x (eq-eqb x x refl) e
  only-more (Add a b) h e = and_both _ _ (only-more a (λ x n. h x (or_left _ _ n)) (and_left _ _ e)) (only-more b (λ x n. h x (or_right (names x a) _ n)) (and_right (names_only p a) _ e))
  only-more (Sub a b) h e = and_both _ _ (only-more a (λ x n. h x (or_left _ _ n)) (and_left _ _ e)) (only-more b (λ x n. h x (or_right (names x a) _ n)) (and_right (names_only p a) _ e))
  only-more (Scale n a) h e = only-more a h e
  only-more (Get a b) h e = and_both _ _ (only-more a (λ x n. h x (or_left _ _ n)) (and_left _ _ e)) (only-more b (λ x n. h x (or_right (names x a) _ n)) (and_right (names_only p a) _ e))
  only-more (Has a b) h e = and_both _ _ (only-more a (λ x n. h x (or_left _ _ n)) (and_left _ _ e)) (only-more b (λ x n. h x (or_right (names x a) _ n)) (and_right (names_only p a) _ e))
  only-more (Size a) h e = only-more a h e
  only-more (Sum a) h e = only-more a h e
  only-more Nil h e = refl
  only-more (Put a b c) h e =
      let three = and_three (names_only p a) (names_only p b) (names_only p c) e in
      let x = only-more a (λ x n. h x (or_first (names x a) (names x b) (names x c) n)) three.0 in
      let y = only-more b (λ x n. h x (or_second (names x a) (names x b) (names x c) n)) three.1 in
      let z = only-more c (λ x n. h x (or_third (names x a) (names x b) (names x c) n)) three.2 in
      rw (x, y, z) refl
  only-more (Del a b) h e = and_both _ _ (only-more a (λ x n. h x (or_left _ _ n)) (and_left _ _ e)) (only-more b (λ x n. h x (or_right (names x a) _ n)) (and_right (names_only p a) _ e))
  only-more (Bump a b c) h e =
      let three = and_three (names_only p a) (names_only p b) (names_only p c) e in
      let x = only-more a (λ x n. h x (or_first (names x a) (names x b) (names x c) n)) three.0 in
      let y = only-more b (λ x n. h x (or_second (names x a) (names x b) (names x c) n)) three.1 in
      let z = only-more c (λ x n. h x (or_third (names x a) (names x b) (names x c) n)) three.2 in
      rw (x, y, z) refl

  pub form-only-more : (f : Formula) → ((x : ℕ) → form_names x f ≡ true → p x ≡ true → q x ≡ true) → form_names_only p f ≡ true → form_names_only q f ≡ true
  unfolding form_names_only form_names
  form-only-more (Le a b) h e = and_both _ _ (only-more a (λ x n. h x (or_left _ _ n)) (and_left _ _ e)) (only-more b (λ x n. h x (or_right (names x a) _ n)) (and_right (names_only p a) _ e))
  form-only-more (Lt a b) h e = and_both _ _ (only-more a (λ x n. h x (or_left _ _ n)) (and_left _ _ e)) (only-more b (λ x n. h x (or_right (names x a) _ n)) (and_right (names_only p a) _ e))
  form-only-more (Eq a b) h e = and_both _ _ (only-more a (λ x n. h x (or_left _ _ n)) (and_left _ _ e)) (only-more b (λ x n. h x (or_right (names x a) _ n)) (and_right (names_only p a) _ e))
  form-only-more (Not f) h e = form-only-more f h e
  form-only-more (And f g) h e = and_both _ _ (form-only-more f (λ x n. h x (or_left _ _ n)) (and_left _ _ e)) (form-only-more g (λ x n. h x (or_right (form_names x f) _ n)) (and_right (form_names_only p f) _ e))
  form-only-more (Or f g) h e = and_both _ _ (form-only-more f (λ x n. h x (or_left _ _ n)) (and_left _ _ e)) (form-only-more g (λ x n. h x (or_right (form_names x f) _ n)) (and_right (form_names_only p f) _ e))
  form-only-more (Imp f g) h e = and_both _ _ (form-only-more f (λ x n. h x (or_left _ _ n)) (and_left _ _ e)) (form-only-more g (λ x n. h x (or_right (form_names x f) _ n)) (and_right (form_names_only p f) _ e))

-- what two tests pass passes both
module _ (p q : ℕ → Bool) where
  pub only-both : (t : Tree) → names_only p t ≡ true → names_only q t ≡ true → names_only (λ x. p x && q x) t ≡ true
  unfolding names_only
  only-both (Lit n) d e = refl
  only-both (Name x) d e = and_both (p x) (q x) d e
  only-both (Add a b) d e = and_both _ _ (only-both a (and_left _ _ d) (and_left _ _ e)) (only-both b (and_right (names_only p a) _ d) (and_right (names_only q a) _ e))
  only-both (Sub a b) d e = and_both _ _ (only-both a (and_left _ _ d) (and_left _ _ e)) (only-both b (and_right (names_only p a) _ d) (and_right (names_only q a) _ e))
  only-both (Scale n a) d e = only-both a d e
  only-both (Get a b) d e = and_both _ _ (only-both a (and_left _ _ d) (and_left _ _ e)) (only-both b (and_right (names_only p a) _ d) (and_right (names_only q a) _ e))
  only-both (Has a b) d e = and_both _ _ (only-both a (and_left _ _ d) (and_left _ _ e)) (only-both b (and_right (names_only p a) _ d) (and_right (names_only q a) _ e))
  only-both (Size a) d e = only-both a d e
  only-both (Sum a) d e = only-both a d e
  only-both Nil d e = refl
  only-both (Put a b c) d e =
      let three = and_three (names_only p a) (names_only p b) (names_only p c) d in
      let others = and_three (names_only q a) (names_only q b) (names_only q c) e in
      let x = only-both a three.0 others.0 in
      let y = only-both b three.1 others.1 in
      let z = only-both c three.2 others.2 in
      rw (x, y, z) refl
  only-both (Del a b) d e = and_both _ _ (only-both a (and_left _ _ d) (and_left _ _ e)) (only-both b (and_right (names_only p a) _ d) (and_right (names_only q a) _ e))
  only-both (Bump a b c) d e =
      let three = and_three (names_only p a) (names_only p b) (names_only p c) d in
      let others = and_three (names_only q a) (names_only q b) (names_only q c) e in
      let x = only-both a three.0 others.0 in
      let y = only-both b three.1 others.1 in
      let z = only-both c three.2 others.2 in
      rw (x, y, z) refl

  pub form-only-both : (f : Formula) → form_names_only p f ≡ true → form_names_only q f ≡ true → form_names_only (λ x. p x && q x) f ≡ true
  unfolding form_names_only
  form-only-both (Le a b) d e = and_both _ _ (only-both a (and_left _ _ d) (and_left _ _ e)) (only-both b (and_right (names_only p a) _ d) (and_right (names_only q a) _ e))
  form-only-both (Lt a b) d e = and_both _ _ (only-both a (and_left _ _ d) (and_left _ _ e)) (only-both b (and_right (names_only p a) _ d) (and_right (names_only q a) _ e))
  form-only-both (Eq a b) d e = and_both _ _ (only-both a (and_left _ _ d) (and_left _ _ e)) (only-both b (and_right (names_only p a) _ d) (and_right (names_only q a) _ e))
  form-only-both (Not f) d e = form-only-both f d e
  form-only-both (And f g) d e = and_both _ _ (form-only-both f (and_left _ _ d) (and_left _ _ e)) (form-only-both g (and_right (form_names_only p f) _ d) (and_right (form_names_only q f) _ e))
  form-only-both (Or f g) d e = and_both _ _ (form-only-both f (and_left _ _ d) (and_left _ _ e)) (form-only-both g (and_right (form_names_only p f) _ d) (and_right (form_names_only q f) _ e))
  form-only-both (Imp f g) d e = and_both _ _ (form-only-both f (and_left _ _ d) (and_left _ _ e)) (form-only-both g (and_right (form_names_only p f) _ d) (and_right (form_names_only q f) _ e))

-- ---- a term without a fault names known symbols alone

name_known : (wanted : Sort) (found : Option Sort) → sort_fault wanted found ≡ None → is_some found ≡ true
name_known wanted None e = absurd (cc)
name_known wanted (Some s) e = refl

module _ (k : Known) where
  mutual
    unfolding number_fault names_only

    pub number-known : (t : Tree) → number_fault k t ≡ None → names_only (λ x. is_some (k x)) t ≡ true
    number-known (Lit n) e = refl
    number-known (Name x) e = name_known Numbers (k x) e
    number-known (Add a b) e = let p = first_both (number_fault k a) (number_fault k b) e in and_both _ _ (number-known a p.0) (number-known b p.1)
    number-known (Sub a b) e = let p = first_both (number_fault k a) (number_fault k b) e in and_both _ _ (number-known a p.0) (number-known b p.1)
    number-known (Scale n a) e = number-known a e
    number-known (Get m i) e = let p = first_both (map_fault k m) (number_fault k i) e in and_both _ _ (map-known m p.0) (number-known i p.1)
    number-known (Has m i) e = let p = first_both (map_fault k m) (number_fault k i) e in and_both _ _ (map-known m p.0) (number-known i p.1)
    number-known (Size m) e = map-known m e
    number-known (Sum m) e = map-known m e
    number-known Nil e = refl
    number-known (Put m i v) e = absurd (cc)
    number-known (Del m i) e = absurd (cc)
    number-known (Bump m i n) e = absurd (cc)

    pub map-known : (t : Tree) → map_fault k t ≡ None → names_only (λ x. is_some (k x)) t ≡ true
    map-known (Name x) e = name_known Maps (k x) e
    map-known Nil e = refl
    map-known (Put m i v) e =
        let p = first_both (map_fault k m) (first (number_fault k i) (number_fault k v)) e in
        let q = first_both (number_fault k i) (number_fault k v) p.1 in
        let x = map-known m p.0 in
        let y = number-known i q.0 in
        let z = number-known v q.1 in
        rw (x, y, z) refl
    map-known (Del m i) e = let p = first_both (map_fault k m) (number_fault k i) e in and_both _ _ (map-known m p.0) (number-known i p.1)
    map-known (Bump m i v) e =
        let p = first_both (map_fault k m) (first (number_fault k i) (number_fault k v)) e in
        let q = first_both (number_fault k i) (number_fault k v) p.1 in
        let x = map-known m p.0 in
        let y = number-known i q.0 in
        let z = number-known v q.1 in
        rw (x, y, z) refl
    map-known (Add a b) e = absurd (cc)
    map-known (Sub a b) e = absurd (cc)
    map-known (Lit n) e = refl
    map-known (Scale n a) e = absurd (cc)
    map-known (Get m i) e = absurd (cc)
    map-known (Has m i) e = absurd (cc)
    map-known (Size m) e = absurd (cc)
    map-known (Sum m) e = absurd (cc)

  pub formula-known : (f : Formula) → formula_fault k f ≡ None → form_names_only (λ x. is_some (k x)) f ≡ true
  unfolding formula_fault form_names_only
  formula-known (Le a b) e = let p = first_both (number_fault k a) (number_fault k b) e in and_both _ _ (number-known a p.0) (number-known b p.1)
  formula-known (Lt a b) e = let p = first_both (number_fault k a) (number_fault k b) e in and_both _ _ (number-known a p.0) (number-known b p.1)
  formula-known (Eq a b) e = let p = first_both (number_fault k a) (number_fault k b) e in and_both _ _ (number-known a p.0) (number-known b p.1)
  formula-known (Not f) e = formula-known f e
  formula-known (And f g) e = let p = first_both (formula_fault k f) (formula_fault k g) e in and_both _ _ (formula-known f p.0) (formula-known g p.1)
  formula-known (Or f g) e = let p = first_both (formula_fault k f) (formula_fault k g) e in and_both _ _ (formula-known f p.0) (formula-known g p.1)
  formula-known (Imp f g) e = let p = first_both (formula_fault k f) (formula_fault k g) e in and_both _ _ (formula-known f p.0) (formula-known g p.1)

  pub value-known : (s : Sort) (t : Tree) → value_fault k s t ≡ None → names_only (λ x. is_some (k x)) t ≡ true
  value-known Numbers t e = number-known t e
  value-known Maps t e = map-known t e
