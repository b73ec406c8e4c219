-- Terms with their symbols replaced: what they stand for, and what they name.
use Rattle.std.specs.Prelude.{◌≡◌, ℕ, Bool, true, not, Option, Some, None, nat_lt}
use Rattle.std.proofs.lemmas.Bool.{ltb-true}
use Rattle.sync_base.specs.Outcome.{first}
use Rattle.sync_terms.specs.Trees.{Tree, Lit, Name, Add, Sub, Scale, Get, Has, Size, Sum, Nil, Put, Del, Bump, Formula, Le, Lt, Eq, Not, And, Or, Imp, replaced, replaced_in}
use Rattle.sync_terms.specs.Values.{Valuation, num, mapped, truth}
use Rattle.sync_machine.proofs.Checks.{first_both}
use Rattle.sync_machine.specs.Naming.{sort_fault, number_fault, map_fault, formula_fault}
use Rattle.sync_machine.specs.Scope.{Known}
use Rattle.sync_machine.specs.States.{Sort, Numbers, Maps}
use Rattle.sync_rules.specs.Locality.{names_only, form_names_only}
use Rattle.sync_exchange.proofs.Terms.{Same, num-same, truth-same, only-more, form-only-more, and_left, and_right, and_both, and_three}
use Rattle.sync_typing_laws.specs.Rests.{AgreeBelow}
use Rattle.sync_terms.specs.Maps as maps
use mathlib.Core.Path.{refl, sym, ap, ◌∙◌}

-- ---- a term over numbers alone, its symbols replaced by what they stand for

module _ (k : Known) (alone : (x : ℕ) → k x ≡ Some Maps → ⊥) (s : ℕ → Tree) (w u : Valuation) (same : (x : ℕ) → k x ≡ Some Numbers → num w (s x) ≡ u.number x) where
  named_number : (x : ℕ) (o : Option Sort) → k x ≡ o → sort_fault Numbers o ≡ None → num w (s x) ≡ u.number x
  named_number x None is e = absurd (cc)
  named_number x (Some Numbers) is e = same x is
  named_number x (Some Maps) is e = absurd (alone x is)

  named_map : (x : ℕ) (o : Option Sort) → k x ≡ o → sort_fault Maps o ≡ None → mapped w (s x) ≡ u.mapping x
  named_map x None is e = absurd (cc)
  named_map x (Some Numbers) is e = absurd (cc)
  named_map x (Some Maps) is e = absurd (alone x is)

  mutual
    unfolding number_fault replaced

    pub read_num : (t : Tree) → number_fault k t ≡ None → num w (replaced s t) ≡ num u t
    read_num (Lit n) e = refl
    read_num (Name x) e = named_number x (k x) refl e
    read_num (Add a b) e = let p = first_both (number_fault k a) (number_fault k b) e in let x = read_num a p.0 in let y = read_num b p.1 in cc
    read_num (Sub a b) e = let p = first_both (number_fault k a) (number_fault k b) e in let x = read_num a p.0 in let y = read_num b p.1 in cc
    read_num (Scale n a) e = let x = read_num a e in cc
    read_num (Get m i) e = let p = first_both (map_fault k m) (number_fault k i) e in let x = read_map m p.0 in let y = read_num i p.1 in
        ap (λ z. maps.get z (num w (replaced s i))) x ∙ ap (λ z. maps.get (mapped u m) z) y
    read_num (Has m i) e = let p = first_both (map_fault k m) (number_fault k i) e in let x = read_map m p.0 in let y = read_num i p.1 in
        ap (λ z. maps.has z (num w (replaced s i))) x ∙ ap (λ z. maps.has (mapped u m) z) y
    read_num (Size m) e = ap (λ (z : maps.Map). maps.size z) (read_map m e)
    read_num (Sum m) e = ap (λ (z : maps.Map). maps.sum z) (read_map m e)
    read_num Nil e = refl
    read_num (Put m i v) e = absurd (cc)
    read_num (Del m i) e = absurd (cc)
    read_num (Bump m i n) e = absurd (cc)

    pub read_map : (t : Tree) → map_fault k t ≡ None → mapped w (replaced s t) ≡ mapped u t
    read_map (Name x) e = named_map x (k x) refl e
    read_map Nil e = refl
    read_map (Put m i v) e =
        let p = first_both (map_fault k m) (first (number_fault k i) (number_fault k v)) e in
        let q = first_both (number_fault k i) (number_fault k v) p.1 in
        let x = read_map m p.0 in let y = read_num i q.0 in let z = read_num v q.1 in
        ap (λ j. maps.put j (num w (replaced s i)) (num w (replaced s v))) x ∙ ap (λ j. maps.put (mapped u m) j (num w (replaced s v))) y ∙ ap (λ j. maps.put (mapped u m) (num u i) j) z
    read_map (Del m i) e = let p = first_both (map_fault k m) (number_fault k i) e in let x = read_map m p.0 in let y = read_num i p.1 in
        ap (λ j. maps.del j (num w (replaced s i))) x ∙ ap (λ j. maps.del (mapped u m) j) y
    read_map (Bump m i v) e =
        let p = first_both (map_fault k m) (first (number_fault k i) (number_fault k v)) e in
        let q = first_both (number_fault k i) (number_fault k v) p.1 in
        let x = read_map m p.0 in let y = read_num i q.0 in let z = read_num v q.1 in
        ap (λ j. maps.bump j (num w (replaced s i)) (num w (replaced s v))) x ∙ ap (λ j. maps.bump (mapped u m) j (num w (replaced s v))) y ∙ ap (λ j. maps.bump (mapped u m) (num u i) j) z
    read_map (Add a b) e = absurd (cc)
    read_map (Sub a b) e = absurd (cc)
    read_map (Lit n) e = absurd (cc)
    read_map (Scale n a) e = absurd (cc)
    read_map (Get m i) e = absurd (cc)
    read_map (Has m i) e = absurd (cc)
    read_map (Size m) e = absurd (cc)
    read_map (Sum m) e = absurd (cc)

  pub read_truth : (f : Formula) → formula_fault k f ≡ None → truth w (replaced_in s f) ≡ truth u f
  unfolding formula_fault truth replaced_in
  read_truth (Le a b) e = let p = first_both (number_fault k a) (number_fault k b) e in let x = read_num a p.0 in let y = read_num b p.1 in cc
  read_truth (Lt a b) e = let p = first_both (number_fault k a) (number_fault k b) e in let x = read_num a p.0 in let y = read_num b p.1 in cc
  read_truth (Eq a b) e = let p = first_both (number_fault k a) (number_fault k b) e in let x = read_num a p.0 in let y = read_num b p.1 in cc
  read_truth (Not f) e = ap not (read_truth f e)
  read_truth (And f g) e = let p = first_both (formula_fault k f) (formula_fault k g) e in let x = read_truth f p.0 in let y = read_truth g p.1 in cc
  read_truth (Or f g) e = let p = first_both (formula_fault k f) (formula_fault k g) e in let x = read_truth f p.0 in let y = read_truth g p.1 in cc
  read_truth (Imp f g) e = let p = first_both (formula_fault k f) (formula_fault k g) e in let x = read_truth f p.0 in let y = read_truth g p.1 in cc

-- ---- what a term with its symbols replaced names

module _ (q p : ℕ → Bool) (s : ℕ → Tree) (only : (x : ℕ) → q x ≡ true → names_only p (s x) ≡ true) where
  pub replaced_names : (t : Tree) → names_only q t ≡ true → names_only p (replaced s t) ≡ true
  unfolding names_only replaced
  replaced_names (Lit n) e = refl
  replaced_names (Name x) e = only x e
  replaced_names (Add a b) e = and_both _ _ (replaced_names a (and_left _ _ e)) (replaced_names b (and_right (names_only q a) _ e))
  replaced_names (Sub a b) e = and_both _ _ (replaced_names a (and_left _ _ e)) (replaced_names b (and_right (names_only q a) _ e))
  replaced_names (Scale n a) e = replaced_names a e
  replaced_names (Get a b) e = and_both _ _ (replaced_names a (and_left _ _ e)) (replaced_names b (and_right (names_only q a) _ e))
  replaced_names (Has a b) e = and_both _ _ (replaced_names a (and_left _ _ e)) (replaced_names b (and_right (names_only q a) _ e))
  replaced_names (Size a) e = replaced_names a e
  replaced_names (Sum a) e = replaced_names a e
  replaced_names Nil e = refl
  replaced_names (Put a b c) e =
      let x = replaced_names a (and_three (names_only q a) _ _ e).0 in
      let y = replaced_names b (and_three (names_only q a) (names_only q b) _ e).1 in
      let z = replaced_names c (and_three (names_only q a) (names_only q b) _ e).2 in rw (x, y, z) refl
  replaced_names (Del a b) e = and_both _ _ (replaced_names a (and_left _ _ e)) (replaced_names b (and_right (names_only q a) _ e))
  replaced_names (Bump a b c) e =
      let x = replaced_names a (and_three (names_only q a) _ _ e).0 in
      let y = replaced_names b (and_three (names_only q a) (names_only q b) _ e).1 in
      let z = replaced_names c (and_three (names_only q a) (names_only q b) _ e).2 in rw (x, y, z) refl

  pub replaced_form_names : (f : Formula) → form_names_only q f ≡ true → form_names_only p (replaced_in s f) ≡ true
  unfolding form_names_only replaced_in
  replaced_form_names (Le a b) e = and_both _ _ (replaced_names a (and_left _ _ e)) (replaced_names b (and_right (names_only q a) _ e))
  replaced_form_names (Lt a b) e = and_both _ _ (replaced_names a (and_left _ _ e)) (replaced_names b (and_right (names_only q a) _ e))
  replaced_form_names (Eq a b) e = and_both _ _ (replaced_names a (and_left _ _ e)) (replaced_names b (and_right (names_only q a) _ e))
  replaced_form_names (Not f) e = replaced_form_names f e
  replaced_form_names (And f g) e = and_both _ _ (replaced_form_names f (and_left _ _ e)) (replaced_form_names g (and_right (form_names_only q f) _ e))
  replaced_form_names (Or f g) e = and_both _ _ (replaced_form_names f (and_left _ _ e)) (replaced_form_names g (and_right (form_names_only q f) _ e))
  replaced_form_names (Imp f g) e = and_both _ _ (replaced_form_names f (and_left _ _ e)) (replaced_form_names g (and_right (form_names_only q f) _ e))

-- ---- symbols below a bound

pub same_below : (n : ℕ) (v w : Valuation) → AgreeBelow n v w → Same (λ y. nat_lt y n) v w
same_below n v w a = record { number = λ y e. a.numbers y (ltb-true y n e); mapping = λ y e. a.maps y (ltb-true y n e) }

pub num_below : (n : ℕ) (v w : Valuation) → AgreeBelow n v w → (t : Tree) → names_only (λ y. nat_lt y n) t ≡ true → num w t ≡ num v t
num_below n v w a t e = sym (num-same (λ y. nat_lt y n) v w (same_below n v w a) t e)

pub truth_below : (n : ℕ) (v w : Valuation) → AgreeBelow n v w → (f : Formula) → form_names_only (λ y. nat_lt y n) f ≡ true → truth w f ≡ truth v f
truth_below n v w a f e = sym (truth-same (λ y. nat_lt y n) v w (same_below n v w a) f e)

pub names_more : (p q : ℕ → Bool) → ((x : ℕ) → p x ≡ true → q x ≡ true) → (t : Tree) → names_only p t ≡ true → names_only q t ≡ true
names_more p q more t e = only-more p q t (λ x _ f. more x f) e

pub form_names_more : (p q : ℕ → Bool) → ((x : ℕ) → p x ≡ true → q x ≡ true) → (f : Formula) → form_names_only p f ≡ true → form_names_only q f ≡ true
form_names_more p q more f e = form-only-more p q f (λ x _ g. more x g) e
