-- What code does respects that a thread's locals are the same, and what its step finds.
use Rattle.std.proofs.Common.{◌≡◌, ℕ, zero, suc, ◌<◌, ◌*◌, ◌/◌, ◌%◌, ◌^◌, List, [], ◌∷◌, length, slice_set}
use Rattle.std.proofs.Common.{slice_index_or}
use Rattle.std.proofs.Common.{Option, Some, None, Result, Ok, Err, refl, sym, ap, ap₂, subst, ◌∙◌, arith}
use Rattle.sync_base.specs.Outcome.{◌>>=◌}
use Rattle.sync_thread.specs.declared.operands.CodeDecl.{CodeDecl}
use Rattle.sync_thread.specs.declared.operands.Opd.{Opd}
use Rattle.sync_thread.specs.declared.operands.Opd.TheVariants.{Number, Local}
use Rattle.sync_thread.specs.declared.operands.Calc.{Calc}
use Rattle.sync_thread.specs.declared.operands.Calc.TheVariants.{Plain, Plus, Minus, Times, Over as Divided, Modulo}
use Rattle.sync_thread.specs.Arrays.{words_named, cells_named}
use Rattle.sync_thread.specs.Control.{Halt, run, step, On}
use Rattle.sync_thread.specs.Code.{CodeSet, CodeShared, Read, Write, Peek, Operate, Print, code_language, Memory}
use Rattle.sync_thread.specs.Code.{locals_of}
use Rattle.sync_thread.specs.Code.{operand_value, assigned, setting, set_if, number_in, word_number, cell_number}
use Rattle.sync_thread.specs.Code.{word_at}
use Rattle.sync_thread.specs.Code.{cell_at, compares, sum_of, difference_of, unless_zero, calculated, effect_of}
use Rattle.sync_thread.specs.Code.{code_local, code_step, code_statements}
use Rattle.sync_thread.specs.Alone.{AreAlike, SameLocals, at_number, finds, StepsAreAlone}
use Rattle.sync_thread.proofs.Likeness.{Respects, from_like, run_like, unwind_like}

index_set : {X : Type 0} (xs : List X) (i : ℕ) (y d : X) → i < length xs → slice_index_or (slice_set xs i y) i d ≡ y
index_set [] i y d less = absurd (omega (arith, less))
index_set (x ∷ xs) zero y d less = refl
index_set (x ∷ xs) (suc i) y d less = index_set xs i y d (omega (arith, less))

length_set : {X : Type 0} (xs : List X) (i : ℕ) (x : X) → length (slice_set xs i x) ≡ length xs
length_set [] i x = refl
length_set (y ∷ xs) zero x = refl
length_set (y ∷ xs) (suc i) x = ap suc (length_set xs i x)

set_alike : (t x n : ℕ) (m z : Memory) → SameLocals t m z → SameLocals t (setting t x n m) (setting t x n z)
set_alike t x n m z like = record {
  room = subst (λ k. t < k) (sym (length_set m.locals t (assigned x n (locals_of m t)))) like.room;
  space = subst (λ k. t < k) (sym (length_set z.locals t (assigned x n (locals_of z t)))) like.space;
  same = index_set m.locals t (assigned x n (locals_of m t)) (λ y. 0) like.room ∙ ap (assigned x n) like.same
      ∙ sym (index_set z.locals t (assigned x n (locals_of z t)) (λ y. 0) like.space);
}

set_if_alike : (t : ℕ) (x : Option ℕ) (n : ℕ) (m z : Memory) → SameLocals t m z
    → SameLocals t (set_if t x n m) (set_if t x n z)
set_if_alike t (Some x) n m z like = set_alike t x n m z like
set_if_alike t None n m z like = like

value_same : (t : ℕ) (m z : Memory) → SameLocals t m z → (o : Opd) → operand_value m t o ≡ operand_value z t o
value_same t m z like (Number n) = refl
value_same t m z like (Local x) = ap (λ f. f x) like.same

abbrev fine : ℕ → Result ℕ Halt
fine n = Ok n

calculated_same : (f h : Opd → ℕ) → ((o : Opd) → f o ≡ h o) → (c : Calc) → calculated f c ≡ calculated h c
calculated_same f h e (Plain a) = ap fine (e a)
calculated_same f h e (Plus a b) = ap₂ (λ n k. fine (sum_of n k)) (e a) (e b)
calculated_same f h e (Minus a b) = ap₂ (λ n k. fine (difference_of n k)) (e a) (e b)
calculated_same f h e (Times a n) = ap (λ k. fine ((k * n) % 2 ^ 64)) (e a)
calculated_same f h e (Divided a n) = ap (λ k. unless_zero n (k / n)) (e a)
calculated_same f h e (Modulo a n) = ap (λ k. unless_zero n (k % n)) (e a)

alike_then : {A : Type 0} (R : Memory → Memory → Type 0) (r q : Result A Halt) (f h : A → Result Memory Halt) → r ≡ q
    → ((a : A) → r ≡ Ok a → AreAlike R (f a) (h a)) → AreAlike R (r >>= f) (q >>= h)
alike_then R (Ok a) q f h same on = subst (λ p. AreAlike R (f a) (p >>= h)) same (on a refl)
alike_then R (Err e) q f h same on = subst (λ p. AreAlike R (Err e) (p >>= h)) same refl

local_alike : (t : ℕ) (l : CodeSet) (m z : Memory) → SameLocals t m z
    → AreAlike (SameLocals t) (code_local t l m) (code_local t l z)
local_alike t l m z like =
    alike_then (SameLocals t) (calculated (operand_value m t) l.calc) (calculated (operand_value z t) l.calc)
    (λ n. Ok (setting t l.local n m)) (λ n. Ok (setting t l.local n z))
    (calculated_same (operand_value m t) (operand_value z t) (value_same t m z like) l.calc)
    (λ n is. set_alike t l.local n m z like)

respects : (ds : List CodeDecl) (t : ℕ) → Respects {g = code_language} (SameLocals t) (code_statements ds t)
respects ds t = record {
  local = λ l s z like. local_alike t l s z like;
  test = λ c s z like. ap₂ (compares c.rel) (value_same t s z like c.left) (value_same t s z like c.right);
  save = λ s z like. refl;
  keep = λ k j v s z like. like;
  falls = λ v s z like. like;
}

-- ---- steps

cell_same : (ds : List CodeDecl) (t : ℕ) (m z : Memory) → SameLocals t m z → (c : ℕ) (i : Opd)
    → cell_number ds t m c i ≡ cell_number ds t z c i
cell_same ds t m z like c i = ap (number_in (cells_named c ds)) (value_same t m z like i)

word_same : (ds : List CodeDecl) (t : ℕ) (m z : Memory) → SameLocals t m z → (w : ℕ) (i : Opd)
    → word_number ds t m w i ≡ word_number ds t z w i
word_same ds t m z like w i = ap (number_in (words_named w ds)) (value_same t m z like i)

-- the same is found under a number
found_same : (f h : ℕ → ℕ) (r q : Result ℕ Halt) (k : ℕ) → r ≡ q → at_number f r ≡ at_number h q → r ≡ Ok k → f k ≡ h k
found_same f h r q k same finds is = sym (ap (at_number f) is) ∙ finds ∙ ap (at_number h) (sym same ∙ is)

read_alike : (ds : List CodeDecl) (t x c : ℕ) (i : Opd) (m z : Memory) → SameLocals t m z
    → at_number (cell_at m) (cell_number ds t m c i) ≡ at_number (cell_at z) (cell_number ds t z c i)
    → AreAlike (SameLocals t) (cell_number ds t m c i >>= (λ k. Ok (setting t x (cell_at m k) m)))
    (cell_number ds t z c i >>= (λ k. Ok (setting t x (cell_at z k) z)))
read_alike ds t x c i m z like found =
    alike_then (SameLocals t) (cell_number ds t m c i) (cell_number ds t z c i)
    (λ k. Ok (setting t x (cell_at m k) m)) (λ k. Ok (setting t x (cell_at z k) z)) (cell_same ds t m z like c i)
    (λ k is. subst (λ n. SameLocals t (setting t x (cell_at m k) m) (setting t x n z))
    (found_same (cell_at m) (cell_at z) (cell_number ds t m c i) (cell_number ds t z c i) k
    (cell_same ds t m z like c i)
    found is) (set_alike t x (cell_at m k) m z like))

step_alike : (ds : List CodeDecl) (t : ℕ) (a : CodeShared) (m z : Memory) → SameLocals t m z
    → finds ds t a m ≡ finds ds t a z → AreAlike (SameLocals t) (code_step ds t a m) (code_step ds t a z)
step_alike ds t (Read x c i) m z like found = read_alike ds t x c i m z like found
step_alike ds t (Peek x c i) m z like found = read_alike ds t x c i m z like found
step_alike ds t (Write c i o) m z like found =
    alike_then (SameLocals t) (cell_number ds t m c i) (cell_number ds t z c i)
    (λ k. Ok (record m { cells = slice_set m.cells k (operand_value m t o) }))
    (λ k. Ok (record z { cells = slice_set z.cells k (operand_value z t o) })) (cell_same ds t m z like c i)
    (λ k is. record { room = like.room; space = like.space; same = like.same })
step_alike ds t (Operate x op w i) m z like found =
    alike_then (SameLocals t) (word_number ds t m w i) (word_number ds t z w i)
    (λ k. Ok (set_if t x (word_at m k)
    (record m { words = slice_set m.words k (effect_of (operand_value m t) op (word_at m k)) })))
    (λ k. Ok (set_if t x (word_at z k)
    (record z { words = slice_set z.words k (effect_of (operand_value z t) op (word_at z k)) })))
    (word_same ds t m z like w i)
    (λ k is.
    let one : Memory = record m { words = slice_set m.words k (effect_of (operand_value m t) op (word_at m k)) } in
    let two : Memory = record z { words = slice_set z.words k (effect_of (operand_value z t) op (word_at z k)) } in
    subst (λ n. SameLocals t (set_if t x (word_at m k) one) (set_if t x n two))
    (found_same (word_at m) (word_at z) (word_number ds t m w i) (word_number ds t z w i) k
    (word_same ds t m z like w i)
    found is)
    (set_if_alike t x (word_at m k) one two (record { room = like.room; space = like.space; same = like.same })))
step_alike ds t (Print l o) m z like found = record { room = like.room; space = like.space; same = like.same }

pub steps_are_alone : StepsAreAlone
steps_are_alone ds t m z like = record {
  list = λ ss. run_like {g = code_language} (SameLocals t) (code_statements ds t) (respects ds t) ss m z like;
  step = λ a line rest frames found. unwind_like {g = code_language} (SameLocals t) (code_statements ds t)
      (respects ds t)
      frames (step (code_statements ds t) (On a line rest) m) (step (code_statements ds t) (On a line rest) z)
      (from_like {g = code_language} (SameLocals t) (code_step ds t a m) (code_step ds t a z)
      (run (code_statements ds t) rest) (step_alike ds t a m z like found)
      (run_like {g = code_language} (SameLocals t) (code_statements ds t) (respects ds t) rest));
}
