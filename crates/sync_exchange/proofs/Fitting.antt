-- Whether a term's values are within a bound depends only on what the symbols that it names stand for.
use Rattle.std.proofs.Common.{◌≡◌, ℕ, ℤ, Bool, true, ◌&&◌, refl, ap, ◌∙◌, Option, Some, None}
use Rattle.std.specs.Ordering.{int_eq}
use Rattle.sync_terms.specs.Trees.{Tree, Lit, Name, Add, Sub, Scale, Get, Has, Size, Sum, Nil, Put, Del, Bump, Formula, Le, Lt, Eq, Not, And, Or, Imp}
use Rattle.sync_terms.specs.Values.{Valuation, num}
use Rattle.sync_machine.specs.Machines.{PatternTree, Bind, Term, PlaceTree}
use Rattle.sync_machine.specs.Statements.{or_zero}
use Rattle.sync_machine.specs.States.{Sort, Numbers, Maps}
use Rattle.sync_rules.specs.Locality.{names_only, form_names_only, key_names_only, pattern_names_only, place_names_only}
use Rattle.sync_exchange_values.specs.Fitting.{values_fit, number_fits, map_fits, form_fits}
use Rattle.sync_exchange.specs.Exchange.{Exchanging, term_fits, place_fits, is_asked, key_at}
use Rattle.sync_exchange.proofs.Terms.{Same, num-same, mapped-same, and_left, and_right, and_three}

pub two : (a b c d : Bool) → a ≡ b → c ≡ d → (a && c) ≡ (b && d)
two a b c d p q = ap (λ z. z && c) p ∙ ap (λ z. b && z) q

three : (a b c d e f : Bool) → a ≡ b → c ≡ d → e ≡ f → (a && c && e) ≡ (b && d && f)
three a b c d e f p q r = ap (λ z. z && c && e) p ∙ ap (λ z. b && z && e) q ∙ ap (λ z. b && d && z) r

four : (a b c d e f g h : Bool) → a ≡ b → c ≡ d → e ≡ f → g ≡ h → (a && c && e && g) ≡ (b && d && f && h)
four a b c d e f g h p q r s = ap (λ z. z && c && e && g) p ∙ ap (λ z. b && z && e && g) q ∙ ap (λ z. b && d && z && g) r ∙ ap (λ z. b && d && f && z) s

module _ (fits : ℤ → Bool) (q : ℕ → Bool) (v w : Valuation) (a : Same q v w) where
  mutual
    unfolding number_fits names_only

    pub number_fits-same : (t : Tree) → names_only q t ≡ true → number_fits fits v t ≡ number_fits fits w t
    number_fits-same (Lit n) e = refl
    number_fits-same (Name x) e = ap fits (a.number x e)
    number_fits-same (Add b c) e = three _ _ _ _ _ _ (number_fits-same b (and_left _ _ e)) (number_fits-same c (and_right (names_only q b) _ e)) (ap fits (num-same q v w a (Add b c) e))
    number_fits-same (Sub b c) e = three _ _ _ _ _ _ (number_fits-same b (and_left _ _ e)) (number_fits-same c (and_right (names_only q b) _ e)) (ap fits (num-same q v w a (Sub b c) e))
    number_fits-same (Scale n b) e = three _ _ _ _ _ _ refl (number_fits-same b e) (ap fits (num-same q v w a (Scale n b) e))
    number_fits-same (Get m k) e = three _ _ _ _ _ _ (map_fits-same m (and_left _ _ e)) (number_fits-same k (and_right (names_only q m) _ e)) (ap fits (num-same q v w a (Get m k) e))
    number_fits-same (Has m k) e = three _ _ _ _ _ _ (map_fits-same m (and_left _ _ e)) (number_fits-same k (and_right (names_only q m) _ e)) (ap fits (num-same q v w a (Has m k) e))
    number_fits-same (Size m) e = two _ _ _ _ (map_fits-same m e) (ap fits (num-same q v w a (Size m) e))
    number_fits-same (Sum m) e = two _ _ _ _ (map_fits-same m e) (ap fits (num-same q v w a (Sum m) e))
    number_fits-same Nil e = refl
    number_fits-same (Put m k n) e = refl
    number_fits-same (Del m k) e = refl
    number_fits-same (Bump m k n) e = refl

    pub map_fits-same : (t : Tree) → names_only q t ≡ true → map_fits fits v t ≡ map_fits fits w t
    map_fits-same (Name x) e = ap (values_fit fits) (a.mapping x e)
    map_fits-same Nil e = refl
    map_fits-same (Put m k n) e =
        let p = and_three (names_only q m) (names_only q k) (names_only q n) e in
        three _ _ _ _ _ _ (map_fits-same m p.0) (number_fits-same k p.1) (number_fits-same n p.2)
    map_fits-same (Del m k) e = two _ _ _ _ (map_fits-same m (and_left _ _ e)) (number_fits-same k (and_right (names_only q m) _ e))
    map_fits-same (Bump m k n) e =
        let p = and_three (names_only q m) (names_only q k) (names_only q n) e in
        four _ _ _ _ _ _ _ _ (map_fits-same m p.0) (number_fits-same k p.1) (number_fits-same n p.2) (ap (values_fit fits) (mapped-same q v w a (Bump m k n) e))
    map_fits-same (Lit n) e = refl
    map_fits-same (Add b c) e = refl
    map_fits-same (Sub b c) e = refl
    map_fits-same (Scale n b) e = refl
    map_fits-same (Get m k) e = refl
    map_fits-same (Has m k) e = refl
    map_fits-same (Size m) e = refl
    map_fits-same (Sum m) e = refl

  pub form_fits-same : (f : Formula) → form_names_only q f ≡ true → form_fits fits v f ≡ form_fits fits w f
  unfolding form_fits form_names_only
  form_fits-same (Le b c) e = two _ _ _ _ (number_fits-same b (and_left _ _ e)) (number_fits-same c (and_right (names_only q b) _ e))
  form_fits-same (Lt b c) e = two _ _ _ _ (number_fits-same b (and_left _ _ e)) (number_fits-same c (and_right (names_only q b) _ e))
  form_fits-same (Eq b c) e = two _ _ _ _ (number_fits-same b (and_left _ _ e)) (number_fits-same c (and_right (names_only q b) _ e))
  form_fits-same (Not f) e = form_fits-same f e
  form_fits-same (And f g) e = two _ _ _ _ (form_fits-same f (and_left _ _ e)) (form_fits-same g (and_right (form_names_only q f) _ e))
  form_fits-same (Or f g) e = two _ _ _ _ (form_fits-same f (and_left _ _ e)) (form_fits-same g (and_right (form_names_only q f) _ e))
  form_fits-same (Imp f g) e = two _ _ _ _ (form_fits-same f (and_left _ _ e)) (form_fits-same g (and_right (form_names_only q f) _ e))

  key_fits-same : (o : Option Tree) → key_names_only q o ≡ true → number_fits fits v (or_zero o) ≡ number_fits fits w (or_zero o)
  unfolding number_fits
  key_fits-same None e = refl
  key_fits-same (Some t) e = number_fits-same t e

-- ---- places

module _ (fits : ℤ → Bool) (q : ℕ → Bool) (x y : Exchanging) (a : Same q x.names y.names) where
  fits-cases : (key : Option Tree) (o : Option PatternTree) → key_names_only q key ≡ true → pattern_names_only q o ≡ true
      → place_fits fits (record { key = key; value = o }) x ≡ place_fits fits (record { key = key; value = o }) y
  unfolding number_fits
  fits-cases key None d e = two _ _ _ _ (key_fits-same fits q x.names y.names a key d) refl
  fits-cases key (Some (Bind z)) d e = two _ _ _ _ (key_fits-same fits q x.names y.names a key d) refl
  fits-cases key (Some (Term t)) d e = two _ _ _ _ (key_fits-same fits q x.names y.names a key d) (number_fits-same fits q x.names y.names a t e)

  pub place_fits-same : (p : PlaceTree) → place_names_only q p ≡ true → place_fits fits p x ≡ place_fits fits p y
  place_fits-same p e = fits-cases p.key p.value (and_left _ _ e) (and_right (key_names_only q p.key) _ e)

  asked-cases : (key : Option Tree) (o : Option PatternTree) (n : ℤ) → pattern_names_only q o ≡ true → is_asked (record { key = key; value = o }) n x ≡ is_asked (record { key = key; value = o }) n y
  asked-cases key None n e = refl
  asked-cases key (Some (Bind z)) n e = refl
  asked-cases key (Some (Term t)) n e = ap (λ k. int_eq k n) (num-same q x.names y.names a t e)

  pub is_asked-same : (p : PlaceTree) (n : ℤ) → place_names_only q p ≡ true → is_asked p n x ≡ is_asked p n y
  is_asked-same p n e = asked-cases p.key p.value n (and_right (key_names_only q p.key) _ e)

  key-cases : (o : Option Tree) → key_names_only q o ≡ true → num x.names (or_zero o) ≡ num y.names (or_zero o)
  key-cases None e = refl
  key-cases (Some t) e = num-same q x.names y.names a t e

  pub key_at-same : (p : PlaceTree) → place_names_only q p ≡ true → key_at p x ≡ key_at p y
  key_at-same p e = key-cases p.key (and_left _ _ e)

  pub term_fits-same : (s : Sort) (t : Tree) → names_only q t ≡ true → term_fits fits s t x ≡ term_fits fits s t y
  term_fits-same Numbers t e = number_fits-same fits q x.names y.names a t e
  term_fits-same Maps t e = map_fits-same fits q x.names y.names a t e
