-- How often threads are given and words sealed.
use Rattle.std.proofs.Common.{◌≡◌, ℕ, zero, suc, Bool, true, false, ◌&&◌, ◌||◌, if◌then◌else◌, List, [], ◌∷◌, map, nat_eq, ◌<◌, ◌≤◌, ◌-◌, ◌+◌, length, drop, get_or, Option, Some, refl, sym, ap, ◌∙◌, arith}
use Rattle.std.specs.List.{list_all, range_with_len}
use Rattle.std.proofs.lemmas.Bool.{eqb-true, eq-eqb}
use Rattle.sync_terms.specs.Stored.{Stored}
use Rattle.sync_thread.specs.Arrays.{words_in}
use Rattle.std.proofs.Math.Dec.{eqb-suc-suc, eqb-suc-zero}
use Rattle.std.proofs.Math.ListN.{drop_of_length-le}
use Rattle.std.proofs.lemmas.List.{at_drop_more}
use Rattle.sync_thread.specs.declared.program.Decl.{Decl}
use Rattle.sync_thread.specs.declared.program.Thread.{Thread}
use Rattle.sync_thread.specs.Programs.{ProofStepTree, ProofTree, Let, Exchange, Split, Merge, Copy, Move, Assert, Open, Case, Close, Still, Seal, Give, DeclTree, ThreadTree, WordTree}
use Rattle.sync_thread.specs.Views.{decl_tree, thread_tree}
use Rattle.sync_typing.specs.Typing.{count_of, gives_thread, is_sealed, seals as seals_here}
use Rattle.sync_typing_paths.specs.declared.deeds.Deed.{Deed}
use Rattle.sync_typing_paths.specs.declared.deeds.Times.{Times}
use Rattle.sync_typing_paths.specs.declared.deeds.Times.TheVariants.{More}
use Rattle.sync_typing_paths.specs.Deeds.{gives, is_deed, is_free, is_once, is_sealed_in, later, seals, times_of}

-- ---- all statements

count_same : (p q : ProofStepTree → Bool) (xs : List ProofStepTree) → ((x : ProofStepTree) → p x ≡ q x)
    → count_of p xs ≡ count_of q xs
count_same p q [] same = refl
count_same p q (x ∷ xs) same =
    let here = same x in let rest = count_same p q xs same in λ i. if here i then suc (rest i) else rest i

and_true : (b : Bool) → (b && true) ≡ b
and_true true = refl
and_true false = refl

turned : (m n : ℕ) → nat_eq m n ≡ nat_eq n m
turned m n = by (nat_eq m n) (nat_eq n m) refl refl
  where
    by : (a b : Bool) → nat_eq m n ≡ a → nat_eq n m ≡ b → a ≡ b
    by true true e f = refl
    by false false e f = refl
    by true false e f = sym (eq-eqb n m (sym (eqb-true m n e))) ∙ f
    by false true e f = sym (sym (eq-eqb m n (sym (eqb-true n m f))) ∙ e)

gives_it : (n line : ℕ) (x : ProofTree)
    → is_deed (gives n) (record { what = x; line = line }) ≡ gives_thread n (record { what = x; line = line })
gives_it n line (Let m t) = refl
gives_it n line (Exchange d) = refl
gives_it n line (Split m a b t ss) = refl
gives_it n line (Merge a b c) = refl
gives_it n line (Copy a b) = refl
gives_it n line (Move t m) = refl
gives_it n line (Assert f l ss) = refl
gives_it n line (Open ns ts l) = refl
gives_it n line (Case f) = refl
gives_it n line (Close c) = refl
gives_it n line (Still ss) = refl
gives_it n line (Seal w i c) = refl
gives_it n line (Give m args ss) = and_true (nat_eq m n) ∙ turned m n

seals_it : (n i line : ℕ) (x : ProofTree)
    → is_deed (seals n i) (record { what = x; line = line }) ≡ seals_here n i (record { what = x; line = line })
seals_it n i line (Let m t) = refl
seals_it n i line (Exchange d) = refl
seals_it n i line (Split m a b t ss) = refl
seals_it n i line (Merge a b c) = refl
seals_it n i line (Copy a b) = refl
seals_it n i line (Move t m) = refl
seals_it n i line (Assert f l ss) = refl
seals_it n i line (Open ns ts l) = refl
seals_it n i line (Case f) = refl
seals_it n i line (Close c) = refl
seals_it n i line (Still ss) = refl
seals_it n i line (Seal w j c) = let p = turned w n in let q = turned j i in λ k. p k && q k
seals_it n i line (Give m args ss) = refl

more_stays : (n : ℕ) → later (Some More) n ≡ Some More
more_stays zero = refl
more_stays (suc n) = more_stays n

once_is : (n : ℕ) → is_once (times_of n) ≡ nat_eq n 1
once_is zero = refl
once_is (suc zero) = refl
once_is (suc (suc n)) = ap is_once (more_stays n) ∙ sym (eqb-suc-suc (suc n) zero ∙ eqb-suc-zero n)

-- what was counted of each deed
abbrev pub Counted : (Deed → Option Times) → List ProofStepTree → Type 0
Counted times ss = (d : Deed) → times d ≡ times_of (count_of (is_deed d) ss)

given_once : (times : Deed → Option Times) (ss : List ProofStepTree) → Counted times ss → (n : ℕ)
    → is_once (times (gives n)) ≡ nat_eq (count_of (gives_thread n) ss) 1
given_once times ss counted n =
    ap is_once (counted (gives n)) ∙ once_is (count_of (is_deed (gives n)) ss)
    ∙ ap (λ k. nat_eq k 1) (count_same (is_deed (gives n)) (gives_thread n) ss (λ x. gives_it n x.line x.what))

sealed_once : (times : Deed → Option Times) (ss : List ProofStepTree) → Counted times ss → (n i : ℕ)
    → is_once (times (seals n i)) ≡ nat_eq (count_of (seals_here n i) ss) 1
sealed_once times ss counted n i =
    ap is_once (counted (seals n i)) ∙ once_is (count_of (is_deed (seals n i)) ss)
    ∙ ap (λ k. nat_eq k 1) (count_same (is_deed (seals n i)) (seals_here n i) ss (λ x. seals_it n i x.line x.what))

-- ---- all threads and words

pub all_given : (times : Deed → Option Times) (ss : List ProofStepTree) → Counted times ss → (s : Stored)
    (ts : List Thread)
    → list_all (λ n. is_once (times (gives n))) (map (λ (t : Thread). t.name) ts)
    ≡ list_all (λ (t : ThreadTree). nat_eq (count_of (gives_thread t.name) ss) 1) (map (thread_tree s) ts)
all_given times ss counted s [] = refl
all_given times ss counted s (t ∷ ts) =
    let here = given_once times ss counted t.name in let rest = all_given times ss counted s ts in λ i. here i && rest i

all_same : {A : Type 0} (p q : A → Bool) (xs : List A) → ((x : A) → p x ≡ q x) → list_all p xs ≡ list_all q xs
all_same p q xs same i = list_all (λ x. same x i) xs

pub all_sealed : (times : Deed → Option Times) (ss : List ProofStepTree) → Counted times ss → (ws : List WordTree)
    → list_all (is_sealed_in times) ws ≡ list_all (is_sealed ss) ws
all_sealed times ss counted ws = all_same (is_sealed_in times) (is_sealed ss) ws one
  where
    one : (w : WordTree) → is_sealed_in times w ≡ is_sealed ss w
    one w =
        ap (λ b. is_free w || b)
        (all_same (λ i. is_once (times (seals w.name i))) (λ i. nat_eq (count_of (seals_here w.name i) ss) 1) (range_with_len 0 w.len) (λ i. sealed_once times ss counted w.name i))

-- numbers of a range, from one on
pub all_front : (p : ℕ → Bool) (at len : ℕ) → at < len
    → list_all p (range_with_len at (len - at)) ≡ (p at && list_all p (range_with_len (at + 1) (len - (at + 1))))
all_front p at len h =
    let e : len - at ≡ suc (len - (at + 1)) = omega (arith, h) in ap (λ n. list_all p (range_with_len at n)) e

pub all_more : (p : ℕ → Bool) (at len : ℕ) (all : Bool) → at < len → p at ≡ true
    → list_all p (range_with_len at (len - at)) ≡ all → list_all p (range_with_len (at + 1) (len - (at + 1))) ≡ all
all_more p at len all h passes so_far =
    sym (all_front p at len h ∙ ap (λ b. b && list_all p (range_with_len (at + 1) (len - (at + 1)))) passes) ∙ so_far

-- ---- declarations, from one on

module _ (times : Deed → Option Times) (s : Stored) (xs : List Decl) (i : ℕ) where
  -- whether the words from one on are sealed
  abbrev from : List Decl → Bool
  from ys = list_all (is_sealed_in times) (words_in (map (decl_tree s) ys))

  abbrev Says : Decl → Bool → Type 0
  Says x b = (ds : List DeclTree) → list_all (is_sealed_in times) (words_in (decl_tree s x ∷ ds)) ≡ (b && list_all (is_sealed_in times) (words_in ds))

  front : (x : Decl) (b : Bool) → i < length xs → x ≡ get_or xs i x → Says x b
      → from (drop i xs) ≡ (b && from (drop (i + 1) xs))
  front x b within is says =
      at_drop_more from xs i x within ∙ ap (λ (y : Decl). from (y ∷ drop (i + 1) xs)) (sym is)
      ∙ says (map (decl_tree s) (drop (i + 1) xs))

  pub sealed_more : (x : Decl) (b all : Bool) → i < length xs → x ≡ get_or xs i x → Says x b → b ≡ true
      → from (drop i xs) ≡ all → from (drop (i + 1) xs) ≡ all
  sealed_more x b all within is says passes so_far =
      sym (front x b within is says ∙ ap (λ c. c && from (drop (i + 1) xs)) passes) ∙ so_far

  pub sealed_not : (x : Decl) (b all : Bool) → i < length xs → x ≡ get_or xs i x → Says x b → b ≡ false
      → from (drop i xs) ≡ all → false ≡ all
  sealed_not x b all within is says fails so_far =
      sym (front x b within is says ∙ ap (λ c. c && from (drop (i + 1) xs)) fails) ∙ so_far

  pub sealed_end : (all : Bool) → length xs ≤ i → from (drop i xs) ≡ all → true ≡ all
  sealed_end all past so_far = sym (ap from (drop_of_length-le xs past)) ∙ so_far

-- one or the other of a choice is both
pub both_then : (a b r : Bool) → a ≡ true → r ≡ b → r ≡ (a && b)
both_then a b r passes is = is ∙ sym (ap (λ c. c && b) passes)

pub both_else : (a b r : Bool) → a ≡ false → r ≡ false → r ≡ (a && b)
both_else a b r fails is = is ∙ sym (ap (λ c. c && b) fails)
