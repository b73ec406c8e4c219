-- Two permissions of one cell are two contents: they cannot both be there.
use Rattle.std.proofs.Common.{arith, inl, inr}
use Rattle.std.specs.Ordering.{int_eq}
use Rattle.std.specs.Prelude.{◌≡◌, ℕ, zero, suc, ◌+◌, ◌≤◌, ℤ, pos, Bool, true, false, ◌&&◌, if◌then◌else◌, nat_eq, List, [], ◌∷◌, ◌++◌, length, map, filter, flat_map, slice_index_or, Some, ◌⊎◌}
use Rattle.sync_exchange.specs.Exchange.{held_as, tokens_in}
use Rattle.sync_exchange.specs.declared.hands.Held.{Held}
use Rattle.sync_join.specs.Shards.{perm}
use Rattle.sync_join.specs.declared.tokens.Token.{Token}
use Rattle.sync_thread_meaning.specs.Meaning.{permits_cell}
use Rattle.sync_thread_meaning.specs.Shares.{Shares, all_shards, beside, hand_of}
use Rattle.sync_thread_meaning.specs.Sound.{contents_of}
use mathlib.Core.Path.{refl, sym, ap, subst, ◌∙◌}

-- so many permissions of a cell are among the tokens
abbrev pub count : ℕ → List Token → ℕ
count k [] = 0
count k (t ∷ ts) = if nat_eq t.field perm && int_eq t.key (pos k) then suc (count k ts) else count k ts

pub count_append : (k : ℕ) (xs ys : List Token) → count k (xs ++ ys) ≡ count k xs + count k ys
count_append k [] ys = omega arith
count_append k (t ∷ xs) ys = by (nat_eq t.field perm && int_eq t.key (pos k)) (count_append k xs ys) where
  by : (b : Bool) → count k (xs ++ ys) ≡ count k xs + count k ys → (if b then suc (count k (xs ++ ys)) else count k (xs ++ ys)) ≡ (if b then suc (count k xs) else count k xs) + count k ys
  by true later = omega (arith, later)
  by false later = later

-- a hand that holds one has one
pub one_held : (k n : ℕ) (hs : List Held) → permits_cell k (held_as n hs) ≡ true → 1 ≤ count k (tokens_in hs)
unfolding held_as
one_held k n [] is = absurd (let no : false ≡ true = is in cc)
one_held k n (h ∷ hs) is = by (nat_eq n h.name) is (one_held k n hs) where
  more : (b : Bool) → 1 ≤ count k (tokens_in hs) → 1 ≤ (if b then suc (count k (tokens_in hs)) else count k (tokens_in hs))
  more true later = omega arith
  more false later = later

  by : (b : Bool) → permits_cell k (if b then Some h.token else held_as n hs) ≡ true → (permits_cell k (held_as n hs) ≡ true → 1 ≤ count k (tokens_in hs))
      → 1 ≤ (if nat_eq h.token.field perm && int_eq h.token.key (pos k) then suc (count k (tokens_in hs)) else count k (tokens_in hs))
  by true here later = subst (λ b. 1 ≤ (if b then suc (count k (tokens_in hs)) else count k (tokens_in hs))) (sym here) (omega arith)
  by false there later = more (nat_eq h.token.field perm && int_eq h.token.key (pos k)) (later there)

one_hand : (k : ℕ) (hands : List (List Held)) (t : ℕ) → 1 ≤ count k (tokens_in (slice_index_or hands t [])) → 1 ≤ count k (flat_map tokens_in hands)
one_hand k [] t is = is
one_hand k (h ∷ hands) zero is = let both = count_append k (tokens_in h) (flat_map tokens_in hands) in omega (arith, both, is)
one_hand k (h ∷ hands) (suc t) is = let both = count_append k (tokens_in h) (flat_map tokens_in hands) in let later = one_hand k hands t is in omega (arith, both, later)

two_hands : (k : ℕ) (hands : List (List Held)) (t u : ℕ) → (t ≡ u → ⊥) → 1 ≤ count k (tokens_in (slice_index_or hands t [])) → 1 ≤ count k (tokens_in (slice_index_or hands u [])) → 2 ≤ count k (flat_map tokens_in hands)
two_hands k [] t u other one two = absurd (let no : 1 ≤ 0 = one in omega (arith, no))
two_hands k (h ∷ hands) zero zero other one two = absurd (other refl)
two_hands k (h ∷ hands) zero (suc u) other one two = let both = count_append k (tokens_in h) (flat_map tokens_in hands) in let later = one_hand k hands u two in omega (arith, both, one, later)
two_hands k (h ∷ hands) (suc t) zero other one two = let both = count_append k (tokens_in h) (flat_map tokens_in hands) in let later = one_hand k hands t one in omega (arith, both, two, later)
two_hands k (h ∷ hands) (suc t) (suc u) other one two = let both = count_append k (tokens_in h) (flat_map tokens_in hands) in let later = two_hands k hands t u (λ same. other (ap suc same)) one two in omega (arith, both, later)

-- ---- contents

content_count : (k : ℕ) (xs : List Token) (stored : List Token)
    → length (map (λ (t : Token). t.value) (filter (λ (t : Token). int_eq t.key (pos k)) (filter (λ (t : Token). nat_eq t.field perm) xs ++ stored))) ≡ count k xs + length (filter (λ (t : Token). int_eq t.key (pos k)) stored)
content_count k [] stored = (let many = values (filter (λ (t : Token). int_eq t.key (pos k)) stored) in omega (arith, many)) where
  values : (xs : List Token) → length (map (λ (t : Token). t.value) xs) ≡ length xs
  values [] = refl
  values (x ∷ xs) = ap suc (values xs)
content_count k (x ∷ xs) stored = by (nat_eq x.field perm) (content_count k xs stored) where
  kept : List Token
  kept = filter (λ (t : Token). nat_eq t.field perm) xs ++ stored

  has : (b : Bool) → length (map (λ (t : Token). t.value) (filter (λ (t : Token). int_eq t.key (pos k)) kept)) ≡ count k xs + length (filter (λ (t : Token). int_eq t.key (pos k)) stored)
      → length (map (λ (t : Token). t.value) (if b then x ∷ filter (λ (t : Token). int_eq t.key (pos k)) kept else filter (λ (t : Token). int_eq t.key (pos k)) kept)) ≡ (if b then suc (count k xs) else count k xs) + length (filter (λ (t : Token). int_eq t.key (pos k)) stored)
  has true later = omega (arith, later)
  has false later = later

  by : (a : Bool) → length (map (λ (t : Token). t.value) (filter (λ (t : Token). int_eq t.key (pos k)) kept)) ≡ count k xs + length (filter (λ (t : Token). int_eq t.key (pos k)) stored)
      → length (map (λ (t : Token). t.value) (filter (λ (t : Token). int_eq t.key (pos k)) ((if a then x ∷ filter (λ (t : Token). nat_eq t.field perm) xs else filter (λ (t : Token). nat_eq t.field perm) xs) ++ stored)))
      ≡ (if a && int_eq x.key (pos k) then suc (count k xs) else count k xs) + length (filter (λ (t : Token). int_eq t.key (pos k)) stored)
  by true later = has (int_eq x.key (pos k)) later
  by false later = later

-- a permission in a hand and another, in another hand or stored, are two contents
pub two_contents : (k t : ℕ) (g : Shares) (c : ℤ) → contents_of k (all_shards g) g.kept ≡ c ∷ [] → 1 ≤ count k (tokens_in (hand_of g t))
    → ((u : ℕ) × (t ≡ u → ⊥) × (1 ≤ count k (tokens_in (hand_of g u)))) ⊎ (1 ≤ length (filter (λ (u : Token). int_eq u.key (pos k)) g.kept.stored)) → ⊥
two_contents k t g c is one other = by other where
  many : count k (all_shards g) + length (filter (λ (u : Token). int_eq u.key (pos k)) g.kept.stored) ≡ 1
  many = sym (content_count k (all_shards g) g.kept.stored) ∙ ap length is

  hands : count k (all_shards g) ≡ count k (flat_map tokens_in g.hands) + count k (beside g)
  hands = count_append k (flat_map tokens_in g.hands) (beside g)

  by : ((u : ℕ) × (t ≡ u → ⊥) × (1 ≤ count k (tokens_in (hand_of g u)))) ⊎ (1 ≤ length (filter (λ (u : Token). int_eq u.key (pos k)) g.kept.stored)) → ⊥
  by (inl it) = let two = two_hands k g.hands t it.0 it.1 one it.2 in omega (arith, many, hands, two)
  by (inr stored) = let first = one_hand k g.hands t one in omega (arith, many, hands, first, stored)
