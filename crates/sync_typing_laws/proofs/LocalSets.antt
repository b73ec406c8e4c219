-- `x = ..`: the calculation, its `wrap`, and what is told of both.
use Rattle.std.proofs.Common.{arith}
use Rattle.std.specs.Prelude.{◌≡◌, ℕ, zero, suc, pos, ◌+ℤ◌, ◌-ℤ◌, ◌*ℤ◌, ◌<◌, ◌≤◌, ◌+◌, ◌-◌, ◌*◌, ◌/◌, ◌%◌, ◌^◌, Bool, true, false, if◌then◌else◌, nat_lt, int_le, List, [], Some, Ok}
use Rattle.std.specs.Ordering.{int_eq}
use Rattle.std.proofs.Math.Nat.{div-add-mod, mul-le-mul_left, mod-lt, mul_comm, mul-suc, mod-eq_of_lt, add-mod_left, div-lt_iff_lt-mul, div-le_self}
use Rattle.std.proofs.lemmas.Int.{ints}
use Rattle.std.proofs.lemmas.Bool.{and_from, ltb-true, ltb-false}
use Rattle.std.proofs.lemmas.Bool.Decides.{Decides-int_eq}
use Rattle.sync_terms.specs.Trees.{Tree, Lit, Add, Sub, Scale, Le, Eq, And}
use Rattle.sync_terms.specs.Values.{Valuation, num, truth, Holds}
use Rattle.sync_linear.proofs.Ring.{times_zero, times_one}
use Rattle.sync_rules.specs.Locality.{names_only, form_names_only}
use Rattle.sync_thread.specs.Code.{operand_value, calculated}
use Rattle.sync_thread.specs.declared.operands.Calc.{Calc}
use Rattle.sync_thread.specs.declared.operands.Calc.TheVariants.{Plus, Minus, Times, Over, Modulo}
use Rattle.sync_thread.specs.declared.operands.Opd.{Opd}
use Rattle.sync_thread_machine.specs.MachineWithProgram.{MachineWithProgram}
use Rattle.sync_thread_meaning.specs.Meaning.{World, calc_wrap}
use Rattle.sync_typing.specs.Environments.{Env}
use Rattle.sync_typing.specs.Lists.{assigned_locals}
use Rattle.sync_typing.specs.Locals.{operand, calc_fact, greatest_wrap}
use Rattle.sync_typing.specs.Names.{operand_is_named}
use Rattle.sync_typing_laws.proofs.LocalRows.{operand_fits}
use Rattle.sync_typing_laws.specs.Rests.{IsTidy}
use Rattle.sync_typing_laws.specs.Ruling.{body_at}
use mathlib.Core.Path.{refl, sym, ap, subst, ◌∙◌}

-- ---- numbers

-- so many times round
turned : (m c q r : ℕ) → m * q + r ≡ c → pos r ≡ pos c -ℤ (pos m *ℤ pos q)
turned m c q r h = omega (arith, ints, h)

parted : (m c q r : ℕ) → m * q + r ≡ c → pos c ≡ (pos m *ℤ pos q) +ℤ pos r
parted m c q r h = omega (arith, ints, h)

m64 : ℕ
m64 = 2 ^ 64

sum_round : (m a b : ℕ) → pos ((a + b) % m) ≡ (pos a +ℤ pos b) -ℤ (pos m *ℤ pos ((a + b) / m))
sum_round m a b = turned m (a + b) ((a + b) / m) ((a + b) % m) (div-add-mod (a + b) m)

times_pos : (a n : ℕ) → pos (a * n) ≡ pos n *ℤ pos a
times_pos a n = ap pos (mul_comm a n)

times_round : (m a n : ℕ) → pos ((a * n) % m) ≡ (pos n *ℤ pos a) -ℤ (pos m *ℤ pos ((a * n) / m))
times_round m a n = subst (λ c. pos ((a * n) % m) ≡ c -ℤ (pos m *ℤ pos ((a * n) / m))) (times_pos a n) (turned m (a * n) ((a * n) / m) ((a * n) % m) (div-add-mod (a * n) m))

less_round : (m a b : ℕ) → a < b → b < m → (a + (m - b)) % m ≡ a + (m - b)
less_round m a b lt fits = mod-eq_of_lt (omega (arith, lt, fits))

more_round : (m a b : ℕ) → b ≤ a → a < m → (a + (m - b)) % m ≡ a - b
more_round m a b le fits =
    let e : m + (a - b) ≡ a + (m - b) = omega (arith, le, fits) in
    subst (λ c. c % m ≡ a - b) e (add-mod_left m (a - b) ∙ mod-eq_of_lt (omega (arith, le, fits)))

less_value : (m a b : ℕ) → a < b → b < m → pos (a + (m - b)) ≡ (pos a -ℤ pos b) +ℤ (pos m *ℤ pos 1)
less_value m a b lt fits = let k = times_one (pos m) in omega (arith, ints, lt, fits, k)

more_value : (m a b : ℕ) → b ≤ a → pos (a - b) ≡ (pos a -ℤ pos b) +ℤ (pos m *ℤ pos 0)
more_value m a b le = let k = times_zero (pos m) in omega (arith, ints, le, k)

pub le_pos : (a b : ℕ) → a ≤ b → int_le (pos a) (pos b) ≡ true
le_pos a b le = grind (arith, ints)

sum_within : (m a b : ℕ) → 0 < m → a < m → b < m → (a + b) / m ≤ 1
sum_within m a b some fa fb = let k = (div-lt_iff_lt-mul {k = m} {x = a + b} {y = 2} some).1 (omega (arith, fa, fb)) in omega (arith, k)

times_less : (m a n : ℕ) → a < m → 0 < n → a * n < n * m
times_less m a n fa some = let k = mul-le-mul_left {m = suc a} {n = m} n fa in let e : n * suc a ≡ n * a + n = mul-suc n a in let c = mul_comm a n in omega (arith, k, e, c, some)

times_within : (m a n : ℕ) → 0 < m → a < m → 0 < n → (a * n) / m ≤ n - 1
times_within m a n some fa has = let k = (div-lt_iff_lt-mul {k = m} {x = a * n} {y = n} some).1 (times_less m a n fa has) in omega (arith, k, has)

-- ---- what a calculation makes

pub record IsCalculated (x : MachineWithProgram) (t : ℕ) (s : World) (e : Env) (c : Calc) : Type 0 where
  pub wrap : ℕ
  pub value : ℕ
  pub result : calculated (operand_value s.memory t) c ≡ Ok value
  pub leaves : calc_wrap (operand_value s.memory t) c ≡ Some (pos wrap)
  pub fits : value < 2 ^ 64
  pub within : int_le (pos wrap) (greatest_wrap c) ≡ true
  pub holds : (w : Valuation) (a b : Tree) → ((o : Opd) → operand_is_named (assigned_locals (body_at x t) []) o ≡ true → num w (operand e o) ≡ pos (operand_value s.memory t o)) → num w a ≡ pos value → num w b ≡ pos wrap → Holds w (calc_fact e c a b)
  pub used : (p : ℕ → Bool) (a b : Tree) → ((o : Opd) → operand_is_named (assigned_locals (body_at x t) []) o ≡ true → names_only p (operand e o) ≡ true) → names_only p a ≡ true → names_only p b ≡ true → form_names_only p (calc_fact e c a b) ≡ true

eq_holds : (w : Valuation) (a b : Tree) → num w a ≡ num w b → Holds w (Eq a b)
unfolding truth
eq_holds w a b e = (Decides-int_eq (num w a) (num w b)).1 e

module _ (x : MachineWithProgram) (t : ℕ) (s : World) (e : Env) (tidy : IsTidy x s) where
  abbrev pub ls : List ℕ
  ls = assigned_locals (body_at x t) []

  abbrev pub val : Opd → ℕ
  val o = operand_value s.memory t o

  pub plus_is : (a b : Opd) → operand_is_named ls a ≡ true → operand_is_named ls b ≡ true → IsCalculated x t s e (Plus a b)
  unfolding names_only form_names_only
  plus_is a b na nb = record {
    wrap = (val a + val b) / 2 ^ 64;
    value = (val a + val b) % 2 ^ 64;
    result = refl;
    leaves = refl;
    fits = mod-lt (val a + val b) (omega arith);
    within = le_pos ((val a + val b) / 2 ^ 64) 1 (sum_within (2 ^ 64) (val a) (val b) (omega arith) (operand_fits x t s tidy ls a na) (operand_fits x t s tidy ls b nb));
    holds = λ w n m has en em. eq_holds w n _ (let ea = has a na in let eb = has b nb in let k = sum_round (2 ^ 64) (val a) (val b) in cc);
    used = λ p n m has un um. used_sum p n m (operand e a) (operand e b) un um (has a na) (has b nb);
  } where
    used_sum : (p : ℕ → Bool) (n m l r : Tree) → names_only p n ≡ true → names_only p m ≡ true → names_only p l ≡ true → names_only p r ≡ true → form_names_only p (Eq n (Sub (Add l r) (Scale (pos (2 ^ 64)) m))) ≡ true
    used_sum p n m l r un um ul ur = and_from (names_only p n) _ un (and_from _ (names_only p m) (and_from (names_only p l) (names_only p r) ul ur) um)

  pub minus_is : (a b : Opd) → operand_is_named ls a ≡ true → operand_is_named ls b ≡ true → IsCalculated x t s e (Minus a b)
  unfolding names_only form_names_only
  minus_is a b na nb = by (nat_lt (val a) (val b)) refl where
    used_difference : (p : ℕ → Bool) (n m l r : Tree) → names_only p n ≡ true → names_only p m ≡ true → names_only p l ≡ true → names_only p r ≡ true → form_names_only p (Eq n (Add (Sub l r) (Scale (pos (2 ^ 64)) m))) ≡ true
    used_difference p n m l r un um ul ur = and_from (names_only p n) _ un (and_from _ (names_only p m) (and_from (names_only p l) (names_only p r) ul ur) um)

    fa : val a < 2 ^ 64
    fa = operand_fits x t s tidy ls a na

    fb : val b < 2 ^ 64
    fb = operand_fits x t s tidy ls b nb

    with_wrap_of : (q : ℕ) → (if nat_lt (val a) (val b) then pos 1 else pos 0) ≡ pos q → q ≤ 1 → pos ((val a + (2 ^ 64 - val b)) % 2 ^ 64) ≡ (pos (val a) -ℤ pos (val b)) +ℤ (pos (2 ^ 64) *ℤ pos q) → IsCalculated x t s e (Minus a b)
    with_wrap_of q is small k = record {
      wrap = q;
      value = (val a + (2 ^ 64 - val b)) % 2 ^ 64;
      result = refl;
      leaves = ap Some is;
      fits = mod-lt (val a + (2 ^ 64 - val b)) (omega arith);
      within = le_pos q 1 small;
      holds = λ w n m has en em. eq_holds w n _ (let ea = has a na in let eb = has b nb in cc);
      used = λ p n m has un um. used_difference p n m (operand e a) (operand e b) un um (has a na) (has b nb);
    }

    by : (c : Bool) → nat_lt (val a) (val b) ≡ c → IsCalculated x t s e (Minus a b)
    by true k = with_wrap_of 1 (ap (λ c. if c then pos 1 else pos 0) k) (omega arith) (let lt = ltb-true (val a) (val b) k in ap pos (less_round (2 ^ 64) (val a) (val b) lt fb) ∙ less_value (2 ^ 64) (val a) (val b) lt fb)
    by false k = with_wrap_of 0 (ap (λ c. if c then pos 1 else pos 0) k) (omega arith) (let le = ltb-false (val a) (val b) k in ap pos (more_round (2 ^ 64) (val a) (val b) le fa) ∙ more_value (2 ^ 64) (val a) (val b) le)

  pub times_is : (a : Opd) (n : ℕ) → operand_is_named ls a ≡ true → 0 < n → IsCalculated x t s e (Times a n)
  unfolding names_only form_names_only
  times_is a n na some = record {
    wrap = (val a * n) / 2 ^ 64;
    value = (val a * n) % 2 ^ 64;
    result = refl;
    leaves = refl;
    fits = mod-lt (val a * n) (omega arith);
    within = le_pos ((val a * n) / 2 ^ 64) (n - 1) (times_within (2 ^ 64) (val a) n (omega arith) (operand_fits x t s tidy ls a na) some);
    holds = λ w u m has en em. eq_holds w u _ (let ea = has a na in let k = times_round (2 ^ 64) (val a) n in cc);
    used = λ p u m has un um. used_product p u m (operand e a) un um (has a na);
  } where
    used_product : (p : ℕ → Bool) (u m l : Tree) → names_only p u ≡ true → names_only p m ≡ true → names_only p l ≡ true → form_names_only p (Eq u (Sub (Scale (pos n) l) (Scale (pos (2 ^ 64)) m))) ≡ true
    used_product p u m l un um ul = and_from (names_only p u) _ un (and_from (names_only p l) (names_only p m) ul um)

  pub over_is : (a : Opd) (n : ℕ) → operand_is_named ls a ≡ true → 0 < n → IsCalculated x t s e (Over a n)
  unfolding names_only form_names_only
  over_is a zero na some = absurd (omega (arith, some))
  over_is a (suc n) na some = record {
    wrap = val a % suc n;
    value = val a / suc n;
    result = refl;
    leaves = refl;
    fits = (let k = div-le_self (val a) (suc n) in let f = operand_fits x t s tidy ls a na in omega (arith, k, f));
    within = le_pos (val a % suc n) (suc n - 1) (let k = mod-lt (val a) {m = suc n} some in omega (arith, k));
    holds = λ w u m has en em. eq_holds w (operand e a) _ (let ea = has a na in let k = parted (suc n) (val a) (val a / suc n) (val a % suc n) (div-add-mod (val a) (suc n)) in cc);
    used = λ p u m has un um. used_parts p u m (operand e a) un um (has a na);
  } where
    used_parts : (p : ℕ → Bool) (u m l : Tree) → names_only p u ≡ true → names_only p m ≡ true → names_only p l ≡ true → form_names_only p (Eq l (Add (Scale (pos (suc n)) u) m)) ≡ true
    used_parts p u m l un um ul = and_from (names_only p l) _ ul (and_from (names_only p u) (names_only p m) un um)

  pub modulo_is : (a : Opd) (n : ℕ) → operand_is_named ls a ≡ true → 0 < n → n < 2 ^ 64 → IsCalculated x t s e (Modulo a n)
  unfolding names_only form_names_only truth
  modulo_is a zero na some small = absurd (omega (arith, some))
  modulo_is a (suc n) na some small = record {
    wrap = val a / suc n;
    value = val a % suc n;
    result = refl;
    leaves = refl;
    fits = (let k = mod-lt (val a) {m = suc n} some in omega (arith, k, small));
    within = le_pos (val a / suc n) (2 ^ 64 - 1) (let k = div-le_self (val a) (suc n) in let f = operand_fits x t s tidy ls a na in omega (arith, k, f));
    holds = λ w u m has en em. both w u m (has a na) en em;
    used = λ p u m has un um. used_parts p u m (operand e a) un um (has a na);
  } where
    both : (w : Valuation) (u m : Tree) → num w (operand e a) ≡ pos (val a) → num w u ≡ pos (val a % suc n) → num w m ≡ pos (val a / suc n) → Holds w (calc_fact e (Modulo a (suc n)) u m)
    both w u m ea en em =
        let k = parted (suc n) (val a) (val a / suc n) (val a % suc n) (div-add-mod (val a) (suc n)) in
        let less = mod-lt (val a) {m = suc n} some in
        let back : pos n ≡ pos (suc n) -ℤ pos 1 = omega (arith, ints) in
        let one : num w (operand e a) ≡ (pos (suc n) *ℤ num w m) +ℤ num w u = cc in
        and_from (int_eq (num w (operand e a)) ((pos (suc n) *ℤ num w m) +ℤ num w u)) _ ((Decides-int_eq (num w (operand e a)) ((pos (suc n) *ℤ num w m) +ℤ num w u)).1 one)
        (subst (λ d. int_le d (pos (suc n) -ℤ pos 1) ≡ true) (sym en) (subst (λ d. int_le (pos (val a % suc n)) d ≡ true) back (le_pos (val a % suc n) n (omega (arith, less)))))

    used_parts : (p : ℕ → Bool) (u m l : Tree) → names_only p u ≡ true → names_only p m ≡ true → names_only p l ≡ true → form_names_only p (And (Eq l (Add (Scale (pos (suc n)) m) u)) (Le u (Sub (Lit (pos (suc n))) (Lit (pos 1))))) ≡ true
    used_parts p u m l un um ul = and_from _ _ (and_from (names_only p l) _ ul (and_from (names_only p m) (names_only p u) um un)) (and_from (names_only p u) true un refl)
