-- Amounts that are not negative, and how often an element is there: where the whole fits, each part does.
use Rattle.std.proofs.Common.{◌≡◌, ℕ, ℤ, pos, ◌+ℤ◌, ◌≤ℤ◌, Bool, true, false, List, [], ◌∷◌, ◌++◌, Option, Some, None, unwrap_or, inl, inr, ◌⊎◌, refl, sym, ap, subst, ◌∙◌, arith, if◌then◌else◌}
use Rattle.std.specs.Prelude.{FitsSigned}
use Rattle.std.specs.Int.{w128}
use Rattle.std.specs.List.{AllByRecursion}
use Rattle.std.proofs.lemmas.Int.{ints}
use Rattle.std.specs.Ordering.{int_eq}
use Rattle.std.specs.FinMap as finmap
use Rattle.sync_terms.specs.Maps as maps
use Rattle.sync_entries.specs.Narrow.{is_narrow, HasNarrowValues}
use Rattle.sync_machine.specs.declared.fields.Field.{Field}
use Rattle.sync_base.specs.declared.strategies.Strategy.{Strategy}
use Rattle.sync_base.specs.declared.strategies.Strategy.TheVariants.{Count, Multiset}
use Rattle.sync_machine.specs.States.{Value, Number, Mapped, strategy_at}
use Rattle.sync_exchange_values.specs.Fitting.{values_fit}
use Rattle.sync_exchange_values.proofs.Narrowness.{narrow_of, fits_of, values_narrow, values_wide}
use Rattle.sync_join.specs.declared.tokens.Token.{Token}
use Rattle.sync_join.specs.Shards.{Kept, AreSoundShards}
use Rattle.sync_join.specs.Join.{tokens_of, counts_of, sum_of, record_at, value_at, joined}
use Rattle.sync_join.proofs.Maps.{value-nil, value-bump}
use Rattle.sync_join.proofs.Bags.{counts_natural}
use Rattle.sync_join.proofs.Through.{append-nothing}
use Rattle.sync_join.specs.Widths.{SumsFit, AreNarrow}
use Rattle.sync_exchange.proofs.Making.{amounts-of}
use Rattle.sync_exchange.proofs.Storing.{tokens_of-append}
use Rattle.sync_exchange.proofs.Strategies.{some_is}
use Rattle.sync_exchange_laws.specs.Widths.{WidthsAgree, IsWithin, ArePartsWithin, PartsAgree}

abbrev AreNatural : List Token → Type 0
AreNatural ts = AllByRecursion (λ (t : Token). pos 0 ≤ℤ t.value) ts

natural-sum : (ts : List Token) → AreNatural ts → pos 0 ≤ℤ sum_of ts
natural-sum [] h = omega (arith, ints)
natural-sum (t ∷ ts) h = let rest = natural-sum ts h.1 in let one = h.0 in omega (arith, ints, rest, one)

parts-fit : (n : ℤ) (ts : List Token) → pos 0 ≤ℤ n → AreNatural ts → FitsSigned w128 (n +ℤ sum_of ts) → SumsFit n ts
parts-fit n [] low h fits = tt
parts-fit n (t ∷ ts) low h fits =
    let rest = natural-sum ts h.1 in
    let one = h.0 in
    let here : FitsSigned w128 (n +ℤ t.value) = omega (arith, ints, rest, one, low, fits) in
    let same : (n +ℤ (t.value +ℤ sum_of ts)) ≡ ((n +ℤ t.value) +ℤ sum_of ts) = omega (arith, ints) in
    (here, parts-fit (n +ℤ t.value) ts (omega (arith, ints, one, low)) h.1 (subst (FitsSigned w128) same fits))

whole-fits : (n : ℤ) (ts : List Token) → FitsSigned w128 n → SumsFit n ts → FitsSigned w128 (n +ℤ sum_of ts)
whole-fits n [] fits h = let same : n ≡ n +ℤ pos 0 = omega (arith, ints) in subst (FitsSigned w128) same fits
whole-fits n (t ∷ ts) fits h =
    let same : ((n +ℤ t.value) +ℤ sum_of ts) ≡ (n +ℤ (t.value +ℤ sum_of ts)) = omega (arith, ints) in
    subst (FitsSigned w128) same (whole-fits (n +ℤ t.value) ts h.0 h.1)

from-zero : (n : ℤ) → pos 0 +ℤ n ≡ n
from-zero n = omega (arith, ints)

pub widths-agree : WidthsAgree
widths-agree fs bag kept sound = (to, back) where
  to : AreNarrow fs bag → (f : ℕ) → strategy_at fs f ≡ Count → FitsSigned w128 (sum_of (tokens_of f bag))
  to narrow f is = subst (FitsSigned w128) (from-zero (sum_of (tokens_of f bag))) (whole-fits (pos 0) (tokens_of f bag) (omega (arith, ints)) (narrow f is))

  back : ((f : ℕ) → strategy_at fs f ≡ Count → FitsSigned w128 (sum_of (tokens_of f bag))) → AreNarrow fs bag
  back fits f is =
      parts-fit (pos 0) (tokens_of f bag) (omega (arith, ints)) (amounts-of fs f bag sound.natural is)
      (subst (FitsSigned w128) (sym (from-zero (sum_of (tokens_of f bag)))) (fits f is))

-- ---- what a front makes is not above what the whole makes

front-sum : (xs ys : List Token) → AreNatural (xs ++ ys) → sum_of xs ≤ℤ sum_of (xs ++ ys)
front-sum [] ys h = natural-sum ys h
front-sum (x ∷ xs) ys h = let rest = front-sum xs ys h.1 in omega (arith, ints, rest)

front-natural : (xs ys : List Token) → AreNatural (xs ++ ys) → AreNatural xs
front-natural [] ys h = tt
front-natural (x ∷ xs) ys h = (h.0, front-natural xs ys h.1)

abbrev raised : Bool → ℤ → ℤ → ℤ
raised b i n = if b then i +ℤ pos 1 else n

more-cases : (b : Bool) (i j n m : ℤ) → i ≤ℤ j → n ≤ℤ m → raised b i n ≤ℤ raised b j m
more-cases true i j n m h k = omega (arith, ints, h)
more-cases false i j n m h k = k

front-counts : (xs ys : List Token) (q : ℤ) → maps.get (counts_of xs) q ≤ℤ maps.get (counts_of (xs ++ ys)) q
front-counts [] ys q = let low = counts_natural ys q in let none = value-nil q in omega (arith, ints, low, none)
front-counts (x ∷ xs) ys q =
    let one = value-bump (counts_of xs) x.key q (counts_natural xs x.key) in
    let all = value-bump (counts_of (xs ++ ys)) x.key q (counts_natural (xs ++ ys) x.key) in
    subst (λ (n : ℤ). n ≤ℤ maps.get (counts_of (x ∷ (xs ++ ys))) q) (sym one)
    (subst (λ (n : ℤ). raised (int_eq q x.key) (maps.get (counts_of xs) x.key) (maps.get (counts_of xs) q) ≤ℤ n)
    (sym all)
    (more-cases (int_eq q x.key) (maps.get (counts_of xs) x.key) (maps.get (counts_of (xs ++ ys)) x.key)
    (maps.get (counts_of xs) q) (maps.get (counts_of (xs ++ ys)) q) (front-counts xs ys x.key) (front-counts xs ys q)))

below-fits : (n m : ℤ) → pos 0 ≤ℤ n → n ≤ℤ m → FitsSigned w128 m → FitsSigned w128 n
below-fits n m low le fits = omega (arith, ints, low, le, fits)

-- a map whose values fit
has-narrow : (m : maps.Map) → values_fit is_narrow m ≡ true → HasNarrowValues m
has-narrow m e k n at = cases (is_narrow n) refl where
  cases : (b : Bool) → is_narrow n ≡ b → FitsSigned w128 n
  cases true is = fits_of n is
  cases false is = absurd (let no = sym e ∙ values_wide m k n at is in cc)

value-fits : (m : maps.Map) (k : ℤ) → HasNarrowValues m → FitsSigned w128 (maps.get m k)
value-fits m k h = cases (finmap.get m k) refl where
  cases : (o : Option ℤ) → finmap.get m k ≡ o → FitsSigned w128 (maps.get m k)
  cases (Some n) e = subst (FitsSigned w128) (ap (λ (p : Option ℤ). unwrap_or p (pos 0)) (sym e)) (h k n e)
  cases None e = subst (FitsSigned w128) (ap (λ (p : Option ℤ). unwrap_or p (pos 0)) (sym e)) (omega (arith, ints))

module _ (fs : List Field) (kept : Kept) (f : ℕ) where
  abbrev made : Strategy → List Token → Option Value
  made s bag = joined s (tokens_of f bag) (record_at kept f) (tokens_of f kept.stored)

  -- the value that tokens make, by the field's strategy
  pub value-is : (s : Strategy) (bag : List Token) (u w : Value) → strategy_at fs f ≡ s → made s bag ≡ Some u
      → value_at fs bag kept f ≡ Some w → u ≡ w
  value-is s bag u w is e at = some_is u w (sym e ∙ ap (λ (t : Strategy). made t bag) (sym is) ∙ at)

  count-parts : (xs ys : List Token) (u w : Value) → strategy_at fs f ≡ Count → AreSoundShards fs (xs ++ ys) kept
      → value_at fs xs kept f ≡ Some u → value_at fs (xs ++ ys) kept f ≡ Some w → IsWithin w → IsWithin u
  count-parts xs ys u w is sound part whole within =
      let all = tokens_of-append f xs ys in
      let natural = subst AreNatural all (amounts-of fs f (xs ++ ys) sound.natural is) in
      let front = tokens_of f xs in
      let sum = sum_of (tokens_of f (xs ++ ys)) in
      let fits =
      fits_of sum (subst IsWithin (sym (value-is Count (xs ++ ys) (Number sum) w is refl whole)) within) in
      subst IsWithin (value-is Count xs (Number (sum_of front)) u is refl part)
      (narrow_of (sum_of front)
      (below-fits _ _ (natural-sum front (front-natural front (tokens_of f ys) natural))
      (front-sum front (tokens_of f ys) natural) (subst (λ (ts : List Token). FitsSigned w128 (sum_of ts)) all fits)))

  multiset-parts : (xs ys : List Token) (u w : Value) → strategy_at fs f ≡ Multiset → value_at fs xs kept f ≡ Some u
      → value_at fs (xs ++ ys) kept f ≡ Some w → IsWithin w → IsWithin u
  multiset-parts xs ys u w is part whole within =
      let all = tokens_of-append f xs ys in
      let front = tokens_of f xs in
      let back = tokens_of f ys in
      let counts = counts_of front in
      let made_of_all = counts_of (tokens_of f (xs ++ ys)) in
      let fits = has-narrow (counts_of (front ++ back))
      (subst (λ (ts : List Token). values_fit is_narrow (counts_of ts) ≡ true) all
      (subst IsWithin (sym (value-is Multiset (xs ++ ys) (Mapped made_of_all) w is refl whole)) within)) in
      subst IsWithin (value-is Multiset xs (Mapped counts) u is refl part)
      (values_narrow counts (λ k n at.
      let here : maps.get counts k ≡ n = ap (λ (o : Option ℤ). unwrap_or o (pos 0)) at in
      subst (FitsSigned w128) here
      (below-fits (maps.get counts k) _ (counts_natural front k) (front-counts front back k)
      (value-fits (counts_of (front ++ back)) k fits))))

pub parts-agree : PartsAgree
parts-agree fs bag kept sound f kind w whole = (to, back kind) where
  to : ArePartsWithin fs bag kept f → IsWithin w
  to parts = parts bag [] (append-nothing bag) w whole

  back : (strategy_at fs f ≡ Count) ⊎ (strategy_at fs f ≡ Multiset) → IsWithin w → ArePartsWithin fs bag kept f
  back (inl is) within xs ys e u part =
      count-parts fs kept f xs ys u w is (subst (λ (ts : List Token). AreSoundShards fs ts kept) (sym e) sound) part
      (ap (λ (ts : List Token). value_at fs ts kept f) e ∙ whole) within
  back (inr is) within xs ys e u part =
      multiset-parts fs kept f xs ys u w is part (ap (λ (ts : List Token). value_at fs ts kept f) e ∙ whole) within
