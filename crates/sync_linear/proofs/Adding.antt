-- Atoms changed one after the other: what holds between the turns.
use Rattle.std.proofs.Common.{◌≡◌, ◌≢◌, ◌⊎◌, inl, inr, ℕ, ℤ, pos, true, false, nat_eq, if◌then◌else◌, [], ◌∷◌, Some, unwrap_or, All, refl, sym, ap, subst, ◌∙◌, arith}
use Rattle.std.specs.Ordering.{nat_cmp}
use Rattle.std.specs.BTreeMap.{is_at}
use Rattle.std.specs.Map.{lookup, keys_of}
use Rattle.std.specs.List.{AllByRecursion}
use Rattle.std.specs.List.Sorted.{IsStrictlySortedBy}
use Rattle.std.proofs.lemmas.Bool.{cases_eq, cond-true, cond-false, eq-eqb, ne_eqb}
use Rattle.std.proofs.lemmas.Bool.Decides.{nat_tests}
use Rattle.std.proofs.lemmas.Int.{ints}
use Rattle.std.proofs.lemmas.List.Elements.{recursion_from_All}
use Rattle.std.specs.declared.cmp.Ordering.TheVariants.{Less}
use Rattle.sync_linear.specs.declared.changes.Change.{Change}
use Rattle.sync_linear.specs.declared.changes.Change.TheVariants.{Plus, Minus, Times}
use Rattle.sync_linear.specs.Changes.{changed, ChangeFits}
use Rattle.sync_linear.specs.Lines.{Atoms, times, HasNoZero}
use Rattle.sync_linear.proofs.Ring.{times_zero}

pub at_here : (q : ℕ) → is_at (nat_cmp q) q ≡ true
at_here q = grind (arith, nat_tests)

pub at_apart : (q k : ℕ) → q ≢ k → is_at (nat_cmp q) k ≡ false
at_apart q k h = grind (arith, nat_tests)

pub times_here : (q : ℕ) (n : ℤ) (rest : Atoms) → times ((q, n) ∷ rest) q ≡ n
times_here q n rest = ap (λ (o : _). unwrap_or o (pos 0)) (cond-true (is_at (nat_cmp q) q) (Some n) (lookup (is_at (nat_cmp q)) rest) (at_here q))

pub times_apart : (q k : ℕ) (n : ℤ) (rest : Atoms) → q ≢ k → times ((k, n) ∷ rest) q ≡ times rest q
times_apart q k n rest h = ap (λ (o : _). unwrap_or o (pos 0)) (cond-false (is_at (nat_cmp q) k) (Some n) (lookup (is_at (nat_cmp q)) rest) (at_apart q k h))

-- what a number becomes where nothing changes it
pub changed_by_none : (how : Change) (x : ℤ) → changed how x (pos 0) ≡ x
changed_by_none Plus x = omega (arith, ints)
changed_by_none Minus x = omega (arith, ints)
changed_by_none (Times c) x = omega (arith, ints, times_zero c)

abbrev Waits : Atoms → Atoms → Atoms → Atoms → ℕ → Type 0
Waits start now by rest q = (times rest q ≡ times by q) × (times now q ≡ times start q)

abbrev IsDone : Change → Atoms → Atoms → Atoms → Atoms → ℕ → Type 0
IsDone how start now by rest q =
    (times rest q ≡ pos 0) × (times now q ≡ changed how (times start q) (times by q)) × ChangeFits how (times start q) (times by q)

-- each atom still waits for its change, or it is done
pub record Sums (how : Change) (start now by rest : Atoms) : Type 0 where
  pub each : (q : ℕ) → Waits start now by rest q ⊎ IsDone how start now by rest q
  pub ascends : IsStrictlySortedBy nat_cmp (keys_of rest)
  pub no_zero : AllByRecursion (λ (e : ℕ × ℤ). e.1 ≢ pos 0) rest

nonzero_entries : (es all : Atoms) → HasNoZero all → AllByRecursion (λ (e : ℕ × ℤ). lookup (is_at (nat_cmp e.0)) all ≡ Some e.1) es → AllByRecursion (λ (e : ℕ × ℤ). e.1 ≢ pos 0) es
nonzero_entries [] all h f = tt
nonzero_entries (e ∷ es) all h f = (λ z. h e.0 (f.0 ∙ ap Some z), nonzero_entries es all h f.1)

pub begins : (how : Change) (start by : Atoms) → HasNoZero by → IsStrictlySortedBy nat_cmp (keys_of by) → All (λ (e : ℕ × ℤ). lookup (is_at (nat_cmp e.0)) by ≡ Some e.1) by → Sums how start start by by
begins how start by h o f = record {
  each = λ q. inl (refl, refl);
  ascends = o;
  no_zero = nonzero_entries by by h (recursion_from_All (λ (e : ℕ × ℤ). lookup (is_at (nat_cmp e.0)) by ≡ Some e.1) by f);
}

less_apart : (k q : ℕ) → nat_cmp k q ≡ Less → k ≢ q
less_apart k q h e = grind (arith, nat_tests)

-- no later entry has the first one's key
none_later : (k : ℕ) (es : Atoms) → AllByRecursion (λ y. nat_cmp k y ≡ Less) (keys_of es) → times es k ≡ pos 0
none_later k [] h = refl
none_later k (e ∷ es) h =
    let ne : k ≢ e.0 = λ s. less_apart k e.0 h.0 s in
    times_apart k e.0 e.1 es ne ∙ none_later k es h.1

step_at : (how : Change) (start now new by rest : Atoms) (k : ℕ) (n : ℤ) → Sums how start now by ((k, n) ∷ rest) → ChangeFits how (times now k) n
    → times new k ≡ changed how (times now k) n → Waits start new by rest k ⊎ IsDone how start new by rest k
unfolding IsStrictlySortedBy
step_at how start now new by rest k n s fits e =
    let none : times rest k ≡ pos 0 = none_later k rest s.ascends.0 in
    elim (s.each k) [
      | inl w ↦ (let was : n ≡ times by k = sym (times_here k n rest) ∙ w.0 in
          let f1 = subst (λ (y : ℤ). ChangeFits how (times now k) y) was fits in
          let f2 = subst (λ (x : ℤ). ChangeFits how x (times by k)) w.1 f1 in
          inr (none, e ∙ ap (changed how (times now k)) was ∙ ap (λ (x : ℤ). changed how x (times by k)) w.1, f2))
      | inr d ↦ absurd (s.no_zero.0 (sym (times_here k n rest) ∙ d.0))
    ]

step_apart : (how : Change) (start now new by rest : Atoms) (k q : ℕ) (n : ℤ) → Sums how start now by ((k, n) ∷ rest) → q ≢ k
    → times new q ≡ times now q → Waits start new by rest q ⊎ IsDone how start new by rest q
step_apart how start now new by rest k q n s ne e =
    let stays = times_apart q k n rest ne in
    elim (s.each q) [
      | inl w ↦ inl (sym stays ∙ w.0, e ∙ w.1)
      | inr d ↦ inr (sym stays ∙ d.0, e ∙ d.1, d.2)
    ]

pub goes_on : (how : Change) (start now new by rest : Atoms) (k : ℕ) (n : ℤ) → Sums how start now by ((k, n) ∷ rest) → ChangeFits how (times now k) n
    → ((q : ℕ) → times new q ≡ (if nat_eq k q then changed how (times now q) n else times now q)) → Sums how start new by rest
unfolding IsStrictlySortedBy
goes_on how start now new by rest k n s fits others = record {
  each = λ q. elim (cases_eq k q) [
    | inl e ↦ subst (λ (x : ℕ). Waits start new by rest x ⊎ IsDone how start new by rest x) e
        (step_at how start now new by rest k n s fits (others k ∙ cond-true (nat_eq k k) (changed how (times now k) n) (times now k) (eq-eqb k k refl)))
    | inr ne ↦ step_apart how start now new by rest k q n s (λ e. ne (sym e)) (others q ∙ cond-false (nat_eq k q) (changed how (times now q) n) (times now q) (ne_eqb k q ne))
  ];
  ascends = s.ascends.1;
  no_zero = s.no_zero.1;
}

pub ends : (how : Change) (start now by : Atoms) → Sums how start now by [] → (q : ℕ) → times now q ≡ changed how (times start q) (times by q)
ends how start now by s q = elim (s.each q) [
  | inl w ↦ w.1 ∙ sym (changed_by_none how (times start q)) ∙ ap (changed how (times start q)) w.0
  | inr d ↦ d.1
]

pub all_fit : (how : Change) (start now by : Atoms) → Sums how start now by [] → (q : ℕ) → times by q ≢ pos 0 → ChangeFits how (times start q) (times by q)
all_fit how start now by s q ne = elim (s.each q) [ inl w ↦ absurd (ne (sym w.0)) | inr d ↦ d.2 ]

pub one_leaves : (how : Change) (start now by rest : Atoms) (k : ℕ) (n : ℤ) → Sums how start now by ((k, n) ∷ rest) → (ChangeFits how (times now k) n → ⊥)
    → ((q : ℕ) → ChangeFits how (times start q) (times by q)) → ⊥
one_leaves how start now by rest k n s leaves fits = elim (s.each k) [
  | inl w ↦ (let was : times by k ≡ n = sym w.0 ∙ times_here k n rest in
      let f1 = subst (λ (y : ℤ). ChangeFits how (times start k) y) was (fits k) in
      leaves (subst (λ (x : ℤ). ChangeFits how x n) (sym w.1) f1))
  | inr d ↦ s.no_zero.0 (sym (times_here k n rest) ∙ d.0)
]
