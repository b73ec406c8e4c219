-- What a run has come to is the report of a whole schedule.
use Rattle.std.proofs.Common.{◌≡◌, ◌≢◌, ◌⊎◌, nat_eq, inl, inr, ℕ, zero, suc, ◌+◌, ◌<◌, ◌≤◌, Bool, true, false, List, [], ◌∷◌, length, map, get_or, slice_index, Ok, refl, sym, ap, ◌∙◌, subst, arith}
use Rattle.std.specs.List.{range_with_len}
use Rattle.std.proofs.lemmas.Bool.Decides.{eqb_tells}
use Rattle.sync_base.specs.Outcome.{◌>>=◌}
use Rattle.sync_thread.specs.Control.{waits_at, events}
use Rattle.sync_thread.specs.Code.{CodeTree, code_meaning, ErasedConfig, erased_start}
use Rattle.sync_thread.specs.Reports.{steps_in}
use Rattle.sync_run.specs.Turns.{LeadsTo, HasMade, IsInLast, IsRun}

-- a list is what is at its numbers
listed : (xs : List ℕ) (f : ℕ → ℕ) (a : ℕ) → ((i : ℕ) → i < length xs → get_or xs i 0 ≡ f (a + i))
    → xs ≡ map f (range_with_len a (length xs))
listed [] f a is = refl
listed (x ∷ xs) f a is =
    let first : x ≡ f a = is zero (omega arith) ∙ ap f (let e : a + 0 ≡ a = omega arith in e) in
    let rest : xs ≡ map f (range_with_len (a + 1) (length xs)) = listed xs f (a + 1)
    (λ i within. is (suc i) (omega (arith, within)) ∙ ap f (let e : a + suc i ≡ (a + 1) + i = omega arith in e)) in
    ap (λ y. y ∷ xs) first ∙ ap (λ ys. f a ∷ ys) rest

-- a bound of what is at the numbers of a list is one everywhere
all_most : (xs : List ℕ) (n : ℕ) → ((i : ℕ) → i < length xs → get_or xs i 0 ≤ n) → (i : ℕ) → get_or xs i 0 ≤ n
all_most [] n most i = omega arith
all_most (x ∷ xs) n most zero = most zero (omega arith)
all_most (x ∷ xs) n most (suc i) = all_most xs n (λ j inside. most (suc j) (omega (arith, inside))) i

-- whoever still waits has used the budget
used : (budget t n : ℕ) (c : ErasedConfig) (steps : List ℕ) → slice_index steps t ≡ n → HasMade budget t c steps
    → (waits_at t c.places ≡ false) ⊎ (n ≡ budget)
used budget t n c steps is made = by (waits_at t c.places) refl where
  by : (b : Bool) → waits_at t c.places ≡ b → (waits_at t c.places ≡ false) ⊎ (n ≡ budget)
  by false rests = inl rests
  by true waits = inr (omega (arith, is, made.most, made.all waits))

pub whole_run : (x : CodeTree) (budget : ℕ) (start now : ErasedConfig) (steps : List ℕ) → erased_start x ≡ Ok start
    → LeadsTo x start now steps → IsInLast x budget budget now steps → IsRun x budget steps now
whole_run x budget start now steps starts led all = record {
  sigma = led.sigma;
  whole = record {
    start = start;
    starts = starts;
    moves = led.moves;
    end = now;
    leaves = ap (λ q. q >>= events (code_meaning x) led.sigma) starts ∙ led.leaves;
    within = within;
    used = λ t among. used budget t (steps_in led.sigma t) now steps (led.counts t) (all.threads t among);
    last = used budget (length x.threads) (steps_in led.sigma (length x.threads)) now steps
        (led.counts (length x.threads)) all.last;
  };
  ends = refl;
  counts = listed steps (steps_in led.sigma) 0 (λ i inside. led.counts i ∙ ap (steps_in led.sigma) (let e : i ≡ 0 + i = omega arith in e))
      ∙ ap (λ n. map (steps_in led.sigma) (range_with_len 0 n)) all.count;
} where
  within : (t : ℕ) → steps_in led.sigma t ≤ budget
  within t = omega (arith, led.counts t, all_most steps budget (λ u inside. one u inside (eqb_tells u (length x.threads))) t) where
    one : (u : ℕ) → u < length steps
        → ((nat_eq u (length x.threads) ≡ true) × (u ≡ length x.threads)) ⊎ ((nat_eq u (length x.threads) ≡ false) × (u ≢ length x.threads))
        → get_or steps u 0 ≤ budget
    one u inside (inl (is, same)) = subst (λ v. get_or steps v 0 ≤ budget) (sym same) all.last.most
    one u inside (inr (isnt, other)) = (all.threads u (omega (arith, inside, other, all.count))).most
