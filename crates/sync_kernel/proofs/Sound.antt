-- Where `same` or `sum` closes a branch, no valuation makes all its facts true.
use Rattle.std.proofs.Common.{◌≡◌, ◌≢◌, inl, inr, ◌≤◌, ℤ, pos, negsuc, ◌+ℤ◌, ◌-ℤ◌, ◌*ℤ◌, Bool, true, false, ◌&&◌, ◌||◌, if◌then◌else◌, List, [], ◌∷◌, ◌++◌, Option, Some, None, Ok, Err, refl, sym, ap, subst, ◌∙◌, arith}
use Rattle.std.specs.Prelude.{not, int_le, int_lt, ◌≤ℤ◌, ◌<ℤ◌}
use Rattle.std.specs.Ordering.{int_eq}
use Rattle.std.specs.List.{AllByRecursion, list_all}
use Rattle.std.proofs.Math.Nat.{mul-le-mul_left}
use Rattle.std.proofs.lemmas.Int.{ints}
use borrow.Author.Differences.{up, down}
use Rattle.std.proofs.lemmas.Bool.{and_parts, and_from, or_cases, cases_Bool, cond-true, cond-false}
use Rattle.std.proofs.lemmas.Bool.Decides.{Decides-int_eq}
use Rattle.sync_base.specs.declared.stops.Rule.{Rule}
use Rattle.sync_base.specs.declared.stops.Rule.TheVariants.{K5, K6, K7}
use Rattle.sync_base.specs.Outcome.{first}
use Rattle.sync_terms.specs.declared.scripts.HypName.{HypName}
use Rattle.sync_terms.specs.declared.scripts.Part.{Part}
use Rattle.sync_terms.specs.Trees.{Tree, Lit, Add, Scale, Formula, Le, Lt, Eq, Not, And, Or, Imp, neg}
use Rattle.sync_terms.specs.Values.{Valuation, num, truth, Holds}
use Rattle.sync_linear.specs.Forms.{constant_of}
use Rattle.sync_linear.proofs.Ring.{times_zero}
use Rattle.sync_kernel.specs.declared.rows.Kind.{Kind}
use Rattle.sync_kernel.specs.declared.rows.Kind.TheVariants.{AtMostZero, Zero, NotZero}
use Rattle.sync_kernel.specs.declared.rows.Used.{Used}
use Rattle.sync_kernel_facts.specs.Facts.{Fact, same_name, newest, is_plain}
use Rattle.sync_kernel.specs.Rows.{Row, row_of, row_of_not, narrow, no_atom, is_false}
use Rattle.sync_kernel.specs.Steps.{is_false_row, usable, is_turned, fits_in, Next, with_row, with_part, is_bound, is_equation, apart_first, one_apart, closes, go_on, added, sum_fault}
use Rattle.sync_kernel.proofs.Atoms.{constant_value}

-- what a line says of its value
abbrev Says : Kind → ℤ → Type 0
Says AtMostZero z = z ≤ℤ pos 0
Says Zero z = z ≡ pos 0
Says NotZero z = z ≢ pos 0

abbrev SaysRow : Valuation → Option Row → Type 0
SaysRow v None = Unit {0}
SaysRow v (Some r) = Says r.kind (num v r.line)

not_le : (a b : ℤ) → not (int_le a b) ≡ true → ((b -ℤ a) +ℤ pos 1) ≤ℤ pos 0
not_le a b h = grind (arith, ints)

not_lt : (a b : ℤ) → not (int_lt a b) ≡ true → (b -ℤ a) ≤ℤ pos 0
not_lt a b h = grind (arith, ints)

is_le : (a b : ℤ) → int_le a b ≡ true → (a -ℤ b) ≤ℤ pos 0
is_le a b h = grind (arith, ints)

is_lt : (a b : ℤ) → int_lt a b ≡ true → ((a -ℤ b) +ℤ pos 1) ≤ℤ pos 0
is_lt a b h = grind (arith, ints)

is_eq : (a b : ℤ) → int_eq a b ≡ true → a -ℤ b ≡ pos 0
is_eq a b h = let e = (Decides-int_eq a b).0 h in omega (arith, ints, e)

pub not_true : (b : Bool) → not b ≡ true → b ≡ true → ⊥
not_true true h e = absurd (cc)
not_true false h e = absurd (cc)

not_eq : (a b : ℤ) → not (int_eq a b) ≡ true → a -ℤ b ≢ pos 0
not_eq a b h e = let same : a ≡ b = omega (arith, ints, e) in not_true (int_eq a b) h ((Decides-int_eq a b).1 same)

says_not : (v : Valuation) (f : Formula) → not (truth v f) ≡ true → SaysRow v (row_of_not f)
unfolding truth
says_not v (Le t u) h = not_le (num v t) (num v u) h
says_not v (Lt t u) h = not_lt (num v t) (num v u) h
says_not v (Eq t u) h = not_eq (num v t) (num v u) h
says_not v (Not f) h = tt
says_not v (And f g) h = tt
says_not v (Or f g) h = tt
says_not v (Imp f g) h = tt

says : (v : Valuation) (f : Formula) → truth v f ≡ true → SaysRow v (row_of f)
unfolding truth
says v (Le t u) h = is_le (num v t) (num v u) h
says v (Lt t u) h = is_lt (num v t) (num v u) h
says v (Eq t u) h = is_eq (num v t) (num v u) h
says v (Not f) h = says_not v f h
says v (And f g) h = tt
says v (Or f g) h = tt
says v (Imp f g) h = tt

says_some : (v : Valuation) (o : Option Row) (r : Row) → o ≡ Some r → SaysRow v o → Says r.kind (num v r.line)
says_some v o r e h = let k : SaysRow v (Some r) = subst (SaysRow v) e h in k

-- ---- what is known of a sum by the lines that were used
record Known (used : List Used) (z : ℤ) : Type 0 where
  bounded : list_all (λ (u : Used). is_bound u.kind) used ≡ true → z ≤ℤ pos 0
  equal : list_all (λ (u : Used). is_equation u.kind) used ≡ true → z ≡ pos 0
  apart : one_apart used ≡ true → z ≢ pos 0

all_last : (test : Used → Bool) (us : List Used) (u : Used) → list_all test (us ++ u ∷ []) ≡ true → (list_all test us ≡ true) × (test u ≡ true)
all_last test [] u h = (refl, (and_parts (test u) true h).0)
all_last test (x ∷ xs) u h =
    let p = and_parts (test x) (list_all test (xs ++ u ∷ [])) h in
    let q = all_last test xs u p.1 in
    (and_from (test x) (list_all test xs) p.0 q.0, q.1)

abbrev ApartLast : Kind → ℤ → List Used → Type 0
ApartLast AtMostZero n us = ⊥
ApartLast Zero n us = one_apart us ≡ true
ApartLast NotZero n us = (n ≡ pos 1) × (list_all (λ (u : Used). is_equation u.kind) us ≡ true)

apart_alone : (k : Kind) (n : ℤ) → apart_first k n true false ≡ true → ApartLast k n []
apart_alone AtMostZero n h = cc
apart_alone Zero n h = h
apart_alone NotZero n h = ((Decides-int_eq n (pos 1)).0 (and_parts (int_eq n (pos 1)) true h).0, refl)

apart_one : (k : Kind) (n : ℤ) (us : List Used) (m : ℤ) → int_eq m (pos 1) ≡ true → list_all (λ (u : Used). is_equation u.kind) us ≡ true → is_equation k ≡ true
    → ApartLast k n (record { times = m; kind = NotZero } ∷ us)
apart_one AtMostZero n us m e a h = cc
apart_one Zero n us m e a h = and_from (int_eq m (pos 1)) (list_all (λ (u : Used). is_equation u.kind) us) e a
apart_one NotZero n us m e a h = absurd (cc)

apart_more : (k : Kind) (n m : ℤ) (us : List Used) → ApartLast k n us → ApartLast k n (record { times = m; kind = Zero } ∷ us)
apart_more AtMostZero n m us h = h
apart_more Zero n m us h = h
apart_more NotZero n m us h = h

apart_step : (j : Kind) (m : ℤ) (us : List Used) (k : Kind) (n : ℤ) → (one_apart (us ++ record { times = n; kind = k } ∷ []) ≡ true → ApartLast k n us)
    → apart_first j m (list_all (λ (v : Used). is_equation v.kind) (us ++ record { times = n; kind = k } ∷ [])) (one_apart (us ++ record { times = n; kind = k } ∷ [])) ≡ true
    → ApartLast k n (record { times = m; kind = j } ∷ us)
apart_step AtMostZero m us k n ih h = absurd (cc)
apart_step Zero m us k n ih h = apart_more k n m us (ih h)
apart_step NotZero m us k n ih h =
    let p = and_parts (int_eq m (pos 1)) (list_all (λ (v : Used). is_equation v.kind) (us ++ record { times = n; kind = k } ∷ [])) h in
    let q = all_last (λ (v : Used). is_equation v.kind) us (record { times = n; kind = k }) p.1 in
    apart_one k n us m p.0 q.0 q.1

apart_last : (us : List Used) (k : Kind) (n : ℤ) → one_apart (us ++ record { times = n; kind = k } ∷ []) ≡ true → ApartLast k n us
apart_last [] k n h = apart_alone k n h
apart_last (u ∷ us) k n h = apart_step u.kind u.times us k n (apart_last us k n) h

-- a number that is not negative, times one that is at most 0
times_bound : (n y : ℤ) → int_lt n (pos 0) ≡ false → y ≤ℤ pos 0 → (n *ℤ y) ≤ℤ pos 0
times_bound (pos n) y h b = let le : up y ≤ down y = omega (arith, ints) in omega (arith, ints, mul-le-mul_left n le)
times_bound (negsuc n) y h b = absurd (cc)

plus_bound : (z a : ℤ) → z ≤ℤ pos 0 → a ≤ℤ pos 0 → (z +ℤ a) ≤ℤ pos 0
plus_bound z a h k = omega (arith, ints)

unchanged : (z : ℤ) → z +ℤ pos 0 ≡ z
unchanged z = omega (arith, ints)

plus_nothing : (n z y : ℤ) → y ≡ pos 0 → z +ℤ (n *ℤ y) ≡ z
plus_nothing n z y e = ap (λ (x : ℤ). z +ℤ (n *ℤ x)) e ∙ ap (λ (x : ℤ). z +ℤ x) (times_zero n) ∙ unchanged z

zero_bound : (z : ℤ) → z ≡ pos 0 → z ≤ℤ pos 0
zero_bound z e = omega (arith, ints)

plus_once : (n z y : ℤ) → n ≡ pos 1 → z ≡ pos 0 → y ≢ pos 0 → z +ℤ (n *ℤ y) ≢ pos 0
plus_once n z y e f ne h =
    let one : z +ℤ (n *ℤ y) ≡ z +ℤ (pos 1 *ℤ y) = ap (λ (x : ℤ). z +ℤ (x *ℤ y)) e in
    let y_zero : y ≡ pos 0 = omega (arith, ints, one, f, h) in
    ne y_zero

differ : false ≡ true → ⊥
differ h = cc

not_above : (z c : ℤ) → z ≤ℤ pos 0 → z ≡ c → int_lt (pos 0) c ≡ true → ⊥
not_above z c b e h = let lt : pos 0 <ℤ c = grind (arith, ints) in omega (arith, ints, b, e, lt)

known_more : (used : List Used) (z : ℤ) (k : Kind) (n y : ℤ) → Known used z → Says k y → is_turned k n ≡ false → Known (used ++ record { times = n; kind = k } ∷ []) (z +ℤ (n *ℤ y))
known_more used z AtMostZero n y h s t = record {
  bounded = λ b. plus_bound z (n *ℤ y) (h.bounded (all_last (λ (u : Used). is_bound u.kind) used (record { times = n; kind = AtMostZero }) b).0) (times_bound n y t s);
  equal = λ e. absurd (differ (all_last (λ (u : Used). is_equation u.kind) used (record { times = n; kind = AtMostZero }) e).1);
  apart = λ a. absurd (apart_last used AtMostZero n a);
}
known_more used z Zero n y h s t =
    let e = plus_nothing n z y s in
    record {
      bounded = λ b. subst (λ (x : ℤ). x ≤ℤ pos 0) (sym e) (h.bounded (all_last (λ (u : Used). is_bound u.kind) used (record { times = n; kind = Zero }) b).0);
      equal = λ q. e ∙ h.equal (all_last (λ (u : Used). is_equation u.kind) used (record { times = n; kind = Zero }) q).0;
      apart = λ a zero. h.apart (apart_last used Zero n a) (sym e ∙ zero);
    }
known_more used z NotZero n y h s t = record {
  bounded = λ b. absurd (differ (all_last (λ (u : Used). is_bound u.kind) used (record { times = n; kind = NotZero }) b).1);
  equal = λ e. absurd (differ (all_last (λ (u : Used). is_equation u.kind) used (record { times = n; kind = NotZero }) e).1);
  apart = λ a. plus_once n z y (apart_last used NotZero n a).0 (h.equal (apart_last used NotZero n a).1) s;
}

not_closed : (used : List Used) (z c : ℤ) → Known used z → z ≡ c
    → ((int_lt (pos 0) c && list_all (λ (u : Used). is_bound u.kind) used) || (int_eq c (pos 0) && one_apart used)) ≡ true → ⊥
not_closed used z c h e t = elim (or_cases (int_lt (pos 0) c && list_all (λ (u : Used). is_bound u.kind) used) (int_eq c (pos 0) && one_apart used) t) [
  | inl a ↦ (let p = and_parts (int_lt (pos 0) c) (list_all (λ (u : Used). is_bound u.kind) used) a in
      not_above z c (h.bounded p.1) e p.0)
  | inr b ↦ (let p = and_parts (int_eq c (pos 0)) (one_apart used) b in
      h.apart p.1 (e ∙ (Decides-int_eq c (pos 0)).0 p.0))
]

none_if : (b : Bool) (k : Rule) → (if b then None else Some k) ≡ None → b ≡ true
none_if true k h = refl
none_if false k h = absurd (cc)

-- ---- facts that hold
abbrev pub AllHold : Valuation → List Fact → Type 0
AllHold v fs = AllByRecursion (λ (f : Fact). is_plain f ≡ true → Holds v f.form) fs

head_is : (v : Valuation) (g f : Fact) (b : Bool) → (is_plain g ≡ true → Holds v g.form) → (if b then Some g else None) ≡ Some f → is_plain f ≡ true → Holds v f.form
head_is v g f true h e p = let same : g ≡ f = cc in (subst (λ (x : Fact). is_plain x ≡ true → Holds v x.form) same h) p
head_is v g f false h e p = absurd (cc)

newest_step : (v : Valuation) (name : HypName) (g f : Fact) (o : Option Fact) → (is_plain g ≡ true → Holds v g.form) → (o ≡ Some f → Holds v f.form) → is_plain f ≡ true
    → first o (if same_name g.name name then Some g else None) ≡ Some f → Holds v f.form
newest_step v name g f None h k p e = head_is v g f (same_name g.name name) h e p
newest_step v name g f (Some x) h k p e = k e

newest_holds : (v : Valuation) (name : HypName) (fs : List Fact) → AllHold v fs → (f : Fact) → newest name fs ≡ Some f → is_plain f ≡ true → Holds v f.form
newest_holds v name [] h f e p = absurd (cc)
newest_holds v name (g ∷ gs) h f e p = newest_step v name g f (newest name gs) h.0 (λ q. newest_holds v name gs h.1 f q p) p e

-- ---- `sum`
module _ (v : Valuation) (fs : List Fact) (hold : AllHold v fs) where
  abbrev Refutes : (Next → Option Rule) → Tree → Part → Type 0
  Refutes rest sum p =
      (r : Row) → Says r.kind (num v r.line) → is_turned r.kind p.times ≡ false
      → rest (record { sum = Add sum (Scale p.times r.line); used = record { times = p.times; kind = r.kind } }) ≡ None → ⊥

  fits_step : (rest : Next → Option Rule) (n : Next) (b : Bool) → go_on (if b then Ok n else Err K7) rest ≡ None → rest n ≡ None
  fits_step rest n true h = h
  fits_step rest n false h = absurd (cc)

  turned_step : (rest : Next → Option Rule) (n : Next) (b c : Bool) → go_on (if b then Err K6 else (if c then Ok n else Err K7)) rest ≡ None → (b ≡ false) × (rest n ≡ None)
  turned_step rest n true c h = absurd (cc)
  turned_step rest n false c h = (refl, fits_step rest n c h)

  row_step : (rest : Next → Option Rule) (sum : Tree) (p : Part) (o : Option Row) → SaysRow v o → Refutes rest sum p → go_on (with_row o sum p) rest ≡ None → ⊥
  row_step rest sum p None s k h = absurd (cc)
  row_step rest sum p (Some r) s k h =
      let n : Next = record { sum = Add sum (Scale p.times r.line); used = record { times = p.times; kind = r.kind } } in
      let q = turned_step rest n (is_turned r.kind p.times) (fits_in sum p.times r.line) h in
      k r s q.0 q.1

  usable_says : (f : Fact) → (is_plain f ≡ true → Holds v f.form) → SaysRow v (usable f)
  usable_says f h = elim (cases_Bool (is_plain f)) [
    | inl e ↦ subst (SaysRow v) (sym (cond-true (is_plain f) (row_of f.form) None e)) (says v f.form (h e))
    | inr e ↦ subst (SaysRow v) (sym (cond-false (is_plain f) (row_of f.form) None e)) tt
  ]

  part_step : (rest : Next → Option Rule) (sum : Tree) (p : Part) (o : Option Fact) → ((f : Fact) → o ≡ Some f → is_plain f ≡ true → Holds v f.form)
      → Refutes rest sum p → go_on (with_part o sum p) rest ≡ None → ⊥
  part_step rest sum p None n k h = absurd (cc)
  part_step rest sum p (Some f) n k h = row_step rest sum p (usable f) (usable_says f (n f refl)) k h

  added_refutes : (parts : List Part) (sum : Tree) (used : List Used) → Known used (num v sum) → added fs sum used parts ≡ None → ⊥
  added_refutes [] sum used known h =
      let t = none_if (closes used sum) K5 h in
      let p = and_parts (no_atom sum) ((int_lt (pos 0) (constant_of sum) && list_all (λ (u : Used). is_bound u.kind) used) || (int_eq (constant_of sum) (pos 0) && one_apart used)) t in
      not_closed used (num v sum) (constant_of sum) known (constant_value v sum p.0) p.1
  added_refutes (p ∷ ps) sum used known h =
      part_step (λ (n : Next). added fs n.sum (used ++ n.used ∷ []) ps) sum p (newest p.hyp fs) (newest_holds v p.hyp fs hold)
      (λ r s t k. added_refutes ps (Add sum (Scale p.times r.line)) (used ++ record { times = p.times; kind = r.kind } ∷ []) (known_more used (num v sum) r.kind p.times (num v r.line) known s t) k) h

  pub sum_refutes : (parts : List Part) → sum_fault fs parts ≡ None → ⊥
  sum_refutes parts h = added_refutes parts (Lit (pos 0)) [] (record { bounded = λ _. zero_bound (pos 0) refl; equal = λ _. refl; apart = λ e. absurd (differ e) }) h

-- ---- negation
not_not : (b : Bool) → not (not b) ≡ b
not_not true = refl
not_not false = refl

pub truth_neg : (v : Valuation) (f : Formula) → truth v (neg f) ≡ not (truth v f)
unfolding truth
truth_neg v (Le a b) = refl
truth_neg v (Lt a b) = refl
truth_neg v (Eq a b) = refl
truth_neg v (Not f) = sym (not_not (truth v f))
truth_neg v (And f g) = refl
truth_neg v (Or f g) = refl
truth_neg v (Imp f g) = refl

-- ---- false lines
kind_refutes : (k : Kind) (z : ℤ) → Says k z → is_false k z ≡ true → ⊥
kind_refutes AtMostZero z s h = not_above z z s refl h
kind_refutes Zero z s h = not_true (int_eq z (pos 0)) h ((Decides-int_eq z (pos 0)).1 s)
kind_refutes NotZero z s h = s ((Decides-int_eq z (pos 0)).0 h)

row_refutes : (v : Valuation) (o : Option Row) → SaysRow v o → is_false_row o ≡ true → ⊥
row_refutes v None s h = absurd (cc)
row_refutes v (Some r) s h =
    let p = and_parts (narrow r.line) (no_atom r.line && is_false r.kind (constant_of r.line)) h in
    let q = and_parts (no_atom r.line) (is_false r.kind (constant_of r.line)) p.1 in
    kind_refutes r.kind (constant_of r.line) (subst (λ (z : ℤ). Says r.kind z) (constant_value v r.line q.0) s) q.1

pub false_row_refutes : (v : Valuation) (f : Formula) → truth v f ≡ true → is_false_row (row_of f) ≡ true → ⊥
false_row_refutes v f t h = row_refutes v (row_of f) (says v f t) h
