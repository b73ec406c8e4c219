-- The final block takes all hands, and the bag is the same list.
use Rattle.std.proofs.Common.{◌≡◌, ℕ, zero, suc, ◌<◌, List, [], ◌∷◌, ◌++◌, length, flat_map, get_or, refl, sym, ap, ◌∙◌}
use Rattle.std.proofs.Common.{arith, append_assoc}
use Rattle.std.proofs.lemmas.List.{map-append}
use Rattle.sync_exchange.specs.declared.hands.Held.{Held}
use Rattle.sync_exchange.specs.Exchange.{tokens_in}
use Rattle.sync_thread_meaning.specs.Shares.{beside}
use Rattle.sync_thread_meaning.specs.Meaning.{gathered}
use Rattle.sync_thread_meaning.specs.Laws.{FinalTakesAll}

append_nil : {A : Type 0} (ts : List A) → ts ++ [] ≡ ts
append_nil [] = refl
append_nil (t ∷ ts) = ap (λ us. t ∷ us) (append_nil ts)

tokens_two : (a b : List Held) → tokens_in (a ++ b) ≡ tokens_in a ++ tokens_in b
tokens_two a b = map-append (λ (h : Held). h.token) a b

pub gathered_bag : (hs : List (List Held)) (all : List Held)
    → flat_map tokens_in (gathered hs all) ≡ tokens_in all ++ flat_map tokens_in hs
gathered_bag [] all = refl
gathered_bag (h ∷ []) all =
    append_nil (tokens_in (all ++ h)) ∙ tokens_two all h
    ∙ ap (λ ts. tokens_in all ++ ts) (sym (append_nil (tokens_in h)))
gathered_bag (h ∷ i ∷ hs) all =
    gathered_bag (i ∷ hs) (all ++ h) ∙ ap (λ ts. ts ++ flat_map tokens_in (i ∷ hs)) (tokens_two all h)
    ∙ append_assoc (tokens_in all) (tokens_in h) (flat_map tokens_in (i ∷ hs))

-- all hands, one behind the other
abbrev joined : List (List Held) → List Held
joined hs = flat_map (λ (h : List Held). h) hs

gathered_last : (hs : List (List Held)) (all : List Held) (n : ℕ) → length hs ≡ suc n
    → get_or (gathered hs all) n [] ≡ all ++ joined hs
gathered_last [] all n many = absurd (omega (arith, many))
gathered_last (h ∷ []) all zero many = ap (λ ts. all ++ ts) (sym (append_nil h))
gathered_last (h ∷ []) all (suc n) many = absurd (omega (arith, many))
gathered_last (h ∷ i ∷ hs) all zero many = absurd (omega (arith, many))
gathered_last (h ∷ i ∷ hs) all (suc n) many =
    gathered_last (i ∷ hs) (all ++ h) n (omega (arith, many)) ∙ append_assoc all h (joined (i ∷ hs))

gathered_others : (hs : List (List Held)) (all : List Held) (n t : ℕ) → length hs ≡ suc n → t < n
    → get_or (gathered hs all) t [] ≡ []
gathered_others [] all n t many less = absurd (omega (arith, many))
gathered_others (h ∷ []) all n t many less = absurd (omega (arith, many, less))
gathered_others (h ∷ i ∷ hs) all n zero many less = refl
gathered_others (h ∷ i ∷ hs) all zero (suc t) many less = absurd (omega (arith, less))
gathered_others (h ∷ i ∷ hs) all (suc n) (suc t) many less =
    gathered_others (i ∷ hs) (all ++ h) n t (omega (arith, many)) (omega (arith, less))

pub final_takes_all : FinalTakesAll
final_takes_all x s = record {
  all = ap (λ ts. ts ++ beside s.shares) (gathered_bag s.shares.hands []);
  taken = λ many. gathered_last s.shares.hands [] (length x.program.threads) many;
  left = λ many t less. gathered_others s.shares.hands [] (length x.program.threads) t many less;
}
