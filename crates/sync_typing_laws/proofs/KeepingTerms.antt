-- Terms that name numbers alone: two valuations that agree on what they name give them the same value.
use Rattle.std.specs.Prelude.{◌≡◌, ℕ, ◌+ℤ◌, ◌*ℤ◌, ◌-ℤ◌, Bool, true, false, not, ◌&&◌, Option, Some, None}
use mathlib.Core.Path.{refl, sym, ap, subst, ◌∙◌}
use Rattle.sync_base.specs.Outcome.{first}
use Rattle.sync_base.specs.declared.stops.Rule.TheVariants.{N1, N6}
use Rattle.sync_terms.specs.Trees.{Tree, Lit, Name, Add, Sub, Scale, Get, Has, Size, Sum, Nil, Put, Del, Bump, Formula, Le, Lt, Eq, Not, And, Or, Imp}
use Rattle.sync_terms.specs.Values.{Valuation, num, mapped, truth}
use Rattle.sync_machine.specs.Naming.{sort_fault, number_fault, map_fault, formula_fault}
use Rattle.sync_machine.specs.Scope.{Known}
use Rattle.sync_machine.specs.States.{Sort, Numbers, Maps}
use Rattle.sync_rules.specs.Locality.{names_only, form_names_only}
use Rattle.sync_terms.specs.Maps as maps

pub and_first : (a b : Bool) → (a && b) ≡ true → a ≡ true
and_first true b is = refl
and_first false b is = is

pub and_second : (a b : Bool) → (a && b) ≡ true → b ≡ true
and_second true b is = is
and_second false b is = let no : false ≡ true = is in cc

pub and_both : (a b : Bool) → a ≡ true → b ≡ true → (a && b) ≡ true
and_both a b one two = subst (λ z. (z && b) ≡ true) (sym one) two

-- ---- terms that name numbers alone

-- nothing is known as a map
abbrev pub NumbersOnly : Known → Type 0
NumbersOnly k = (y : ℕ) → k y ≡ Some Maps → ⊥

-- two valuations say the same number of each symbol that is known and passes
abbrev pub Same : Known → (ℕ → Bool) → Valuation → Valuation → Type 0
Same k p v w = (y : ℕ) → k y ≡ Some Numbers → p y ≡ true → v.number y ≡ w.number y

pub known_number : (o : Option Sort) → sort_fault Numbers o ≡ None → o ≡ Some Numbers
known_number (Some Numbers) is = refl
known_number (Some Maps) is = let no : Some N6 ≡ None = is in cc
known_number None is = let no : Some N1 ≡ None = is in cc

known_map : (o : Option Sort) → sort_fault Maps o ≡ None → o ≡ Some Maps
known_map (Some Maps) is = refl
known_map (Some Numbers) is = let no : Some N6 ≡ None = is in cc
known_map None is = let no : Some N1 ≡ None = is in cc

none_first : {A : Type 0} (a b : Option A) → first a b ≡ None → a ≡ None
none_first None b is = refl
none_first (Some x) b is = is

none_second : {A : Type 0} (a b : Option A) → first a b ≡ None → b ≡ None
none_second None b is = is
none_second (Some x) b is = let no : Some x ≡ None = is in cc

mutual
  unfolding number_fault map_fault names_only

  pub same_num : (k : Known) (p : ℕ → Bool) (v w : Valuation) → NumbersOnly k → Same k p v w → (t : Tree) → number_fault k t ≡ None → names_only p t ≡ true → num v t ≡ num w t
  same_num k p v w numbers same (Lit n) good named = refl
  same_num k p v w numbers same (Name y) good named = same y (known_number (k y) good) named
  same_num k p v w numbers same (Add a b) good named =
      ap (λ z. z +ℤ num v b) (same_num k p v w numbers same a (none_first (number_fault k a) (number_fault k b) good) (and_first (names_only p a) (names_only p b) named))
      ∙ ap (λ z. num w a +ℤ z) (same_num k p v w numbers same b (none_second (number_fault k a) (number_fault k b) good) (and_second (names_only p a) (names_only p b) named))
  same_num k p v w numbers same (Sub a b) good named =
      ap (λ z. z -ℤ num v b) (same_num k p v w numbers same a (none_first (number_fault k a) (number_fault k b) good) (and_first (names_only p a) (names_only p b) named))
      ∙ ap (λ z. num w a -ℤ z) (same_num k p v w numbers same b (none_second (number_fault k a) (number_fault k b) good) (and_second (names_only p a) (names_only p b) named))
  same_num k p v w numbers same (Scale n a) good named = ap (λ z. n *ℤ z) (same_num k p v w numbers same a good named)
  same_num k p v w numbers same (Get m i) good named =
      ap (λ z. maps.get z (num v i)) (same_map k p v w numbers same m (none_first (map_fault k m) (number_fault k i) good) (and_first (names_only p m) (names_only p i) named))
      ∙ ap (λ z. maps.get (mapped w m) z) (same_num k p v w numbers same i (none_second (map_fault k m) (number_fault k i) good) (and_second (names_only p m) (names_only p i) named))
  same_num k p v w numbers same (Has m i) good named =
      ap (λ z. maps.has z (num v i)) (same_map k p v w numbers same m (none_first (map_fault k m) (number_fault k i) good) (and_first (names_only p m) (names_only p i) named))
      ∙ ap (λ z. maps.has (mapped w m) z) (same_num k p v w numbers same i (none_second (map_fault k m) (number_fault k i) good) (and_second (names_only p m) (names_only p i) named))
  same_num k p v w numbers same (Size m) good named = ap (λ z. maps.size z) (same_map k p v w numbers same m good named)
  same_num k p v w numbers same (Sum m) good named = ap (λ z. maps.sum z) (same_map k p v w numbers same m good named)
  same_num k p v w numbers same Nil good named = refl
  same_num k p v w numbers same (Put m i x) good named = refl
  same_num k p v w numbers same (Del m i) good named = refl
  same_num k p v w numbers same (Bump m i n) good named = refl

  pub same_map : (k : Known) (p : ℕ → Bool) (v w : Valuation) → NumbersOnly k → Same k p v w → (t : Tree) → map_fault k t ≡ None → names_only p t ≡ true → mapped v t ≡ mapped w t
  same_map k p v w numbers same (Name y) good named = absurd (numbers y (known_map (k y) good))
  same_map k p v w numbers same Nil good named = refl
  same_map k p v w numbers same (Put m i x) good named =
      let front : (names_only p m && names_only p i) ≡ true = and_first (names_only p m && names_only p i) (names_only p x) named in
      let rest : first (number_fault k i) (number_fault k x) ≡ None = none_second (map_fault k m) (first (number_fault k i) (number_fault k x)) good in
      ap (λ z. maps.put z (num v i) (num v x)) (same_map k p v w numbers same m (none_first (map_fault k m) (first (number_fault k i) (number_fault k x)) good) (and_first (names_only p m) (names_only p i) front))
      ∙ ap (λ z. maps.put (mapped w m) z (num v x)) (same_num k p v w numbers same i (none_first (number_fault k i) (number_fault k x) rest) (and_second (names_only p m) (names_only p i) front))
      ∙ ap (λ z. maps.put (mapped w m) (num w i) z) (same_num k p v w numbers same x (none_second (number_fault k i) (number_fault k x) rest) (and_second (names_only p m && names_only p i) (names_only p x) named))
  same_map k p v w numbers same (Del m i) good named =
      ap (λ z. maps.del z (num v i)) (same_map k p v w numbers same m (none_first (map_fault k m) (number_fault k i) good) (and_first (names_only p m) (names_only p i) named))
      ∙ ap (λ z. maps.del (mapped w m) z) (same_num k p v w numbers same i (none_second (map_fault k m) (number_fault k i) good) (and_second (names_only p m) (names_only p i) named))
  same_map k p v w numbers same (Bump m i x) good named =
      let front : (names_only p m && names_only p i) ≡ true = and_first (names_only p m && names_only p i) (names_only p x) named in
      let rest : first (number_fault k i) (number_fault k x) ≡ None = none_second (map_fault k m) (first (number_fault k i) (number_fault k x)) good in
      ap (λ z. maps.bump z (num v i) (num v x)) (same_map k p v w numbers same m (none_first (map_fault k m) (first (number_fault k i) (number_fault k x)) good) (and_first (names_only p m) (names_only p i) front))
      ∙ ap (λ z. maps.bump (mapped w m) z (num v x)) (same_num k p v w numbers same i (none_first (number_fault k i) (number_fault k x) rest) (and_second (names_only p m) (names_only p i) front))
      ∙ ap (λ z. maps.bump (mapped w m) (num w i) z) (same_num k p v w numbers same x (none_second (number_fault k i) (number_fault k x) rest) (and_second (names_only p m && names_only p i) (names_only p x) named))
  same_map k p v w numbers same (Lit n) good named = refl
  same_map k p v w numbers same (Add a b) good named = refl
  same_map k p v w numbers same (Sub a b) good named = refl
  same_map k p v w numbers same (Scale n a) good named = refl
  same_map k p v w numbers same (Get m i) good named = refl
  same_map k p v w numbers same (Has m i) good named = refl
  same_map k p v w numbers same (Size m) good named = refl
  same_map k p v w numbers same (Sum m) good named = refl

pub same_truth : (k : Known) (p : ℕ → Bool) (v w : Valuation) → NumbersOnly k → Same k p v w → (f : Formula) → formula_fault k f ≡ None → form_names_only p f ≡ true → truth v f ≡ truth w f
unfolding formula_fault form_names_only truth
same_truth k p v w numbers same (Le a b) good named =
    let one : num v a ≡ num w a = same_num k p v w numbers same a (none_first (number_fault k a) (number_fault k b) good) (and_first (names_only p a) (names_only p b) named) in
    let two : num v b ≡ num w b = same_num k p v w numbers same b (none_second (number_fault k a) (number_fault k b) good) (and_second (names_only p a) (names_only p b) named) in cc
same_truth k p v w numbers same (Lt a b) good named =
    let one : num v a ≡ num w a = same_num k p v w numbers same a (none_first (number_fault k a) (number_fault k b) good) (and_first (names_only p a) (names_only p b) named) in
    let two : num v b ≡ num w b = same_num k p v w numbers same b (none_second (number_fault k a) (number_fault k b) good) (and_second (names_only p a) (names_only p b) named) in cc
same_truth k p v w numbers same (Eq a b) good named =
    let one : num v a ≡ num w a = same_num k p v w numbers same a (none_first (number_fault k a) (number_fault k b) good) (and_first (names_only p a) (names_only p b) named) in
    let two : num v b ≡ num w b = same_num k p v w numbers same b (none_second (number_fault k a) (number_fault k b) good) (and_second (names_only p a) (names_only p b) named) in cc
same_truth k p v w numbers same (Not f) good named = ap not (same_truth k p v w numbers same f good named)
same_truth k p v w numbers same (And f g) good named =
    let one : truth v f ≡ truth w f = same_truth k p v w numbers same f (none_first (formula_fault k f) (formula_fault k g) good) (and_first (form_names_only p f) (form_names_only p g) named) in
    let two : truth v g ≡ truth w g = same_truth k p v w numbers same g (none_second (formula_fault k f) (formula_fault k g) good) (and_second (form_names_only p f) (form_names_only p g) named) in cc
same_truth k p v w numbers same (Or f g) good named =
    let one : truth v f ≡ truth w f = same_truth k p v w numbers same f (none_first (formula_fault k f) (formula_fault k g) good) (and_first (form_names_only p f) (form_names_only p g) named) in
    let two : truth v g ≡ truth w g = same_truth k p v w numbers same g (none_second (formula_fault k f) (formula_fault k g) good) (and_second (form_names_only p f) (form_names_only p g) named) in cc
same_truth k p v w numbers same (Imp f g) good named =
    let one : truth v f ≡ truth w f = same_truth k p v w numbers same f (none_first (formula_fault k f) (formula_fault k g) good) (and_first (form_names_only p f) (form_names_only p g) named) in
    let two : truth v g ≡ truth w g = same_truth k p v w numbers same g (none_second (formula_fault k f) (formula_fault k g) good) (and_second (form_names_only p f) (form_names_only p g) named) in cc
