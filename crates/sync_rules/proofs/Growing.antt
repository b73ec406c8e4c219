-- How the list of slots grows, field by field and statement by statement.
use Rattle.std.proofs.Common.{◌≡◌, ℕ, zero, suc, ◌+◌, List, [], ◌∷◌, ◌++◌, Option, Some, None, filter_map, refl, sym, ap, ◌∙◌, arith, append_assoc}
use Rattle.std.specs.List.{range_with_len, AllByRecursion, cons_option}
use Rattle.std.proofs.lemmas.List.Elements.{filter_map-append}
use Rattle.sync_rules.specs.Slots.{SlotTree}

pub append-nothing : {X : Type 0} (xs : List X) → xs ++ [] ≡ xs
append-nothing [] = refl
append-nothing (x ∷ xs) = ap (λ ys. x ∷ ys) (append-nothing xs)

range_from : (a n : ℕ) → range_with_len a (suc n) ≡ range_with_len a n ++ (a + n) ∷ []
range_from a zero = ap (λ k. k ∷ []) (omega arith)
range_from a (suc n) =
    let e : a + 1 + n ≡ a + suc n = omega arith in
    ap (λ ks. a ∷ ks) (range_from (a + 1) n) ∙ ap (λ k. a ∷ (range_with_len (a + 1) n ++ k ∷ [])) e

pub range_more : (n : ℕ) → range_with_len 0 (n + 1) ≡ range_with_len 0 n ++ n ∷ []
range_more n =
    let one : n + 1 ≡ suc n = omega arith in
    let nought : 0 + n ≡ n = omega arith in
    ap (range_with_len 0) one ∙ range_from 0 n ∙ ap (λ k. range_with_len 0 n ++ k ∷ []) nought

-- what an element gives alone
abbrev pub listed : Option SlotTree → List SlotTree
listed (Some x) = x ∷ []
listed None = []

alone-cases : (o : Option SlotTree) → cons_option o [] ≡ listed o
alone-cases (Some x) = refl
alone-cases None = refl

push-slots : {X : Type 0} (g : X → Option SlotTree) (start : List SlotTree) (xs : List X) (x : X) → start ++ filter_map g (xs ++ x ∷ []) ≡ (start ++ filter_map g xs) ++ listed (g x)
push-slots g start xs x =
    ap (λ ys. start ++ ys) (filter_map-append g xs (x ∷ []) ∙ ap (λ ys. filter_map g xs ++ ys) (alone-cases (g x)))
    ∙ sym (append_assoc start (filter_map g xs) (listed (g x)))

-- an element with a slot, which is added
pub grown : {X : Type 0} (g : X → Option SlotTree) (done start : List SlotTree) (xs : List X) (x : X) (slot : SlotTree) → done ≡ start ++ filter_map g xs → g x ≡ Some slot → done ++ slot ∷ [] ≡ start ++ filter_map g (xs ++ x ∷ [])
grown g done start xs x slot inv is =
    ap (λ ys. ys ++ slot ∷ []) inv
    ∙ sym (push-slots g start xs x ∙ ap (λ o. (start ++ filter_map g xs) ++ listed o) is)

-- an element without one
pub kept : {X : Type 0} (g : X → Option SlotTree) (done start : List SlotTree) (xs : List X) (x : X) → done ≡ start ++ filter_map g xs → g x ≡ None → done ≡ start ++ filter_map g (xs ++ x ∷ [])
kept g done start xs x inv is =
    inv ∙ sym (push-slots g start xs x ∙ ap (λ o. (start ++ filter_map g xs) ++ listed o) is ∙ append-nothing (start ++ filter_map g xs))

-- all of a list that has one more
pub all-push : {X : Type 0} (P : X → Type 0) (xs : List X) (x : X) → AllByRecursion P xs → P x → AllByRecursion P (xs ++ x ∷ [])
all-push P [] x h p = (p, tt)
all-push P (y ∷ xs) x h p = (h.0, all-push P xs x h.1 p)
