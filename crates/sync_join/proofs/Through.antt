-- A field's tokens, one after another through a bag, and what they make together so far.
use Rattle.std.proofs.Common.{◌≡◌, ℕ, zero, suc, FitsSigned, ◌+◌, ◌<◌, ◌≤◌, ℤ, pos, ◌+ℤ◌, ◌≤ℤ◌, Bool, true, false, not, ◌&&◌, ◌||◌, List, [], ◌∷◌, ◌++◌, length, take, drop, get_or, Option, Some, None, is_some, refl, sym, ap, subst, ◌∙◌, arith, cond, nat_eq, if◌then◌else◌}
use Rattle.std.specs.List.{list_all}
use Rattle.std.specs.Ordering.{int_eq}
use Rattle.std.specs.FinMap as finmap
use Rattle.std.proofs.lemmas.List.{at_drop_more, at_drop_all, take_more, take_all, take-append-drop}
use Rattle.std.proofs.lemmas.List.Elements.{filter-append}
use Rattle.std.proofs.lemmas.Int.{ints}
use Rattle.std.proofs.lemmas.Bool.Decides.{nat_tests}
use Rattle.std.specs.Int.{w128}
use Rattle.sync_terms.specs.Maps.{Map, put}
use Rattle.sync_terms.specs.Maps as maps
use Rattle.sync_join.specs.declared.tokens.Token.{Token}
use Rattle.sync_join.specs.Join.{tokens_of, only_value, as_map, counts_of, sum_of}
use Rattle.sync_join.specs.Widths.{SumsFit}
use Rattle.sync_join.proofs.Maps.{bump-put, value-nil, value-bump}
use Rattle.sync_join.proofs.Bags.{unless, with_token, as_map-cons, as_map-front, counts_natural, counts_of-front}

pub append-nothing : {X : Type 0} (xs : List X) → xs ++ [] ≡ xs
append-nothing [] = refl
append-nothing (x ∷ xs) = ap (λ ys. x ∷ ys) (append-nothing xs)

-- a test by cases that is known
pub cond-true : {X : Type 0} (b : Bool) (x y : X) → b ≡ true → cond b x y ≡ x
cond-true true x y e = refl
cond-true false x y e = absurd (cc)

pub cond-false : {X : Type 0} (b : Bool) (x y : X) → b ≡ false → cond b x y ≡ y
cond-false true x y e = absurd (cc)
cond-false false x y e = refl

pub is_same : (a b : ℕ) → a ≡ b → nat_eq a b ≡ true
is_same a b h = grind (arith, nat_tests)

pub is_other : (a b : ℕ) → (a ≡ b → ⊥) → nat_eq a b ≡ false
is_other a b h = grind (arith, nat_tests)

-- ---- from a place on

pub own-drop : (f i : ℕ) (xs : List Token) (d : Token) → i < length xs → nat_eq (get_or xs i d).field f ≡ true → tokens_of f (drop i xs) ≡ get_or xs i d ∷ tokens_of f (drop (i + 1) xs)
own-drop f i xs d h e = at_drop_more (tokens_of f) xs i d h ∙ cond-true (nat_eq (get_or xs i d).field f) (get_or xs i d ∷ tokens_of f (drop (i + 1) xs)) (tokens_of f (drop (i + 1) xs)) e

pub other-drop : (f i : ℕ) (xs : List Token) (d : Token) → i < length xs → nat_eq (get_or xs i d).field f ≡ false → tokens_of f (drop i xs) ≡ tokens_of f (drop (i + 1) xs)
other-drop f i xs d h e = at_drop_more (tokens_of f) xs i d h ∙ cond-false (nat_eq (get_or xs i d).field f) (get_or xs i d ∷ tokens_of f (drop (i + 1) xs)) (tokens_of f (drop (i + 1) xs)) e

pub none-drop : (f i : ℕ) (xs : List Token) → length xs ≤ i → tokens_of f (drop i xs) ≡ []
none-drop f i xs h = at_drop_all (tokens_of f) xs i h

-- ---- up to a place

pub own-take : (f i : ℕ) (xs : List Token) (d : Token) → i < length xs → nat_eq (get_or xs i d).field f ≡ true → tokens_of f (take (i + 1) xs) ≡ tokens_of f (take i xs) ++ get_or xs i d ∷ []
own-take f i xs d h e =
    ap (tokens_of f) (take_more xs i d h) ∙ filter-append (λ (t : Token). nat_eq t.field f) (take i xs) (get_or xs i d ∷ [])
    ∙ ap (λ ts. tokens_of f (take i xs) ++ ts) (cond-true (nat_eq (get_or xs i d).field f) (get_or xs i d ∷ []) [] e)

pub other-take : (f i : ℕ) (xs : List Token) (d : Token) → i < length xs → nat_eq (get_or xs i d).field f ≡ false → tokens_of f (take (i + 1) xs) ≡ tokens_of f (take i xs)
other-take f i xs d h e =
    ap (tokens_of f) (take_more xs i d h) ∙ filter-append (λ (t : Token). nat_eq t.field f) (take i xs) (get_or xs i d ∷ [])
    ∙ ap (λ ts. tokens_of f (take i xs) ++ ts) (cond-false (nat_eq (get_or xs i d).field f) (get_or xs i d ∷ []) [] e)
    ∙ append-nothing (tokens_of f (take i xs))

pub all-take : (f i : ℕ) (xs : List Token) → length xs ≤ i → tokens_of f (take i xs) ≡ tokens_of f xs
all-take f i xs h = ap (tokens_of f) (take_all i xs h)

-- ---- one value

-- the value of the one token, where one may have been found already
abbrev pub only_behind : Option ℤ → List Token → Option ℤ
only_behind None ts = only_value ts
only_behind (Some v) [] = Some v
only_behind (Some v) (t ∷ ts) = None

pub only-found : (t : Token) (ts : List Token) → only_value (t ∷ ts) ≡ only_behind (Some t.value) ts
only-found t [] = refl
only-found t (u ∷ ts) = refl

pub only-last : (found : Option ℤ) → only_behind found [] ≡ found
only-last None = refl
only-last (Some v) = refl

-- ---- maps

pub as_map-push : (ts : List Token) (t : Token) → as_map (ts ++ t ∷ []) ≡ with_token t (as_map ts)
as_map-push ts t = as_map-front ts t [] ∙ ap (λ us. as_map (t ∷ us)) (append-nothing ts) ∙ as_map-cons t ts

-- a first part that is no map makes the whole none
pub as_map-none : (ts us : List Token) → as_map ts ≡ None → as_map (ts ++ us) ≡ None
as_map-none ts [] e = ap as_map (append-nothing ts) ∙ e
as_map-none ts (u ∷ us) e = as_map-front ts u us ∙ as_map-cons u (ts ++ us) ∙ ap (with_token u) (as_map-none ts us e)

-- one more token of the field, whose key is free
pub map-more : (f i : ℕ) (xs : List Token) (d : Token) (m : Map) → i < length xs → nat_eq (get_or xs i d).field f ≡ true → as_map (tokens_of f (take i xs)) ≡ Some m → is_some (finmap.get m (get_or xs i d).key) ≡ false → as_map (tokens_of f (take (i + 1) xs)) ≡ Some (put m (get_or xs i d).key (get_or xs i d).value)
map-more f i xs d m h own inv free =
    ap as_map (own-take f i xs d h own) ∙ as_map-push (tokens_of f (take i xs)) (get_or xs i d) ∙ ap (with_token (get_or xs i d)) inv
    ∙ ap (λ b. unless b (put m (get_or xs i d).key (get_or xs i d).value)) free

-- one more token of the field, whose key is there already
pub map-twice : (f i : ℕ) (xs : List Token) (d : Token) (m : Map) → i < length xs → nat_eq (get_or xs i d).field f ≡ true → as_map (tokens_of f (take i xs)) ≡ Some m → is_some (finmap.get m (get_or xs i d).key) ≡ true → as_map (tokens_of f xs) ≡ None
map-twice f i xs d m h own inv there =
    let here : as_map (tokens_of f (take (i + 1) xs)) ≡ None =
    ap as_map (own-take f i xs d h own) ∙ as_map-push (tokens_of f (take i xs)) (get_or xs i d) ∙ ap (with_token (get_or xs i d)) inv
    ∙ ap (λ b. unless b (put m (get_or xs i d).key (get_or xs i d).value)) there in
    ap (λ ts. as_map (tokens_of f ts)) (sym (take-append-drop (i + 1) xs))
    ∙ ap as_map (filter-append (λ (t : Token). nat_eq t.field f) (take (i + 1) xs) (drop (i + 1) xs))
    ∙ as_map-none (tokens_of f (take (i + 1) xs)) (tokens_of f (drop (i + 1) xs)) here

-- ---- counts

pub counts-push : (ts : List Token) (t : Token) → counts_of (ts ++ t ∷ []) ≡ put (counts_of ts) t.key (maps.get (counts_of ts) t.key +ℤ pos 1)
counts-push ts t =
    counts_of-front ts t [] ∙ ap (λ us. counts_of (t ∷ us)) (append-nothing ts)
    ∙ bump-put (counts_of ts) t.key (counts_natural ts t.key)

either_bounded : (b : Bool) (x y : ℤ) (n : ℕ) → x ≤ℤ pos n → y ≤ℤ pos n → (if b then x +ℤ pos 1 else y) ≤ℤ pos (suc n)
either_bounded true x y n h k = omega (arith, ints)
either_bounded false x y n h k = omega (arith, ints)

-- no key has more tokens than there are
pub counts_bounded : (ts : List Token) (q : ℤ) → maps.get (counts_of ts) q ≤ℤ pos (length ts)
counts_bounded [] q = value-nil q
counts_bounded (t ∷ ts) q =
    subst (λ (n : ℤ). n ≤ℤ pos (suc (length ts))) (sym (value-bump (counts_of ts) t.key q (counts_natural ts t.key)))
    (either_bounded (int_eq q t.key) (maps.get (counts_of ts) t.key) (maps.get (counts_of ts) q) (length ts) (counts_bounded ts t.key) (counts_bounded ts q))

few-cases : (b : Bool) (t : Token) (ts : List Token) (i : ℕ) → length ts ≤ i → length (cond b (t ∷ ts) ts) ≤ suc i
few-cases true t ts i h = omega arith
few-cases false t ts i h = omega arith

tokens-few : (f i : ℕ) (xs : List Token) → length (tokens_of f (take i xs)) ≤ i
tokens-few f zero xs = omega arith
tokens-few f (suc i) [] = omega arith
tokens-few f (suc i) (x ∷ xs) = few-cases (nat_eq x.field f) x (tokens_of f (take i xs)) i (tokens-few f i xs)

no_more : (n : ℤ) (a b : ℕ) → n ≤ℤ pos a → a ≤ b → n ≤ℤ pos b
no_more n a b h k = omega (arith, ints)

-- how often a key stands up to a place: not below 0, and not above the place
pub counted-within : (f i : ℕ) (xs : List Token) (m : Map) (k n : ℤ) → counts_of (tokens_of f (take i xs)) ≡ m → n ≡ maps.get m k → (pos 0 ≤ℤ n) × (n ≤ℤ pos i)
counted-within f i xs m k n inv is =
    let ts = tokens_of f (take i xs) in
    let e : maps.get (counts_of ts) k ≡ n = ap (λ (w : Map). maps.get w k) inv ∙ sym is in (
      subst (λ (x : ℤ). pos 0 ≤ℤ x) e (counts_natural ts k),
      subst (λ (x : ℤ). x ≤ℤ pos i) e (no_more (maps.get (counts_of ts) k) (length ts) i (counts_bounded ts k) (tokens-few f i xs)),
    )

-- one more token of the field
pub counts-more : (f i : ℕ) (xs : List Token) (d : Token) (m new : Map) (k n v : ℤ) → i < length xs → nat_eq (get_or xs i d).field f ≡ true → counts_of (tokens_of f (take i xs)) ≡ m → k ≡ (get_or xs i d).key → n ≡ maps.get m k → v ≡ n +ℤ pos 1 → new ≡ put m k v → counts_of (tokens_of f (take (i + 1) xs)) ≡ new
counts-more f i xs d m new k n v h own inv key now one is =
    let t = get_or xs i d in
    ap counts_of (own-take f i xs d h own) ∙ counts-push (tokens_of f (take i xs)) t
    ∙ ap (λ (w : Map). put w t.key (maps.get w t.key +ℤ pos 1)) inv
    ∙ ap (λ (q : ℤ). put m q (maps.get m q +ℤ pos 1)) (sym key)
    ∙ ap (λ (q : ℤ). put m k q) (ap (λ (q : ℤ). q +ℤ pos 1) (sym now) ∙ sym one)
    ∙ sym is

-- ---- sums

together : (a b c : ℤ) → (a +ℤ b) +ℤ c ≡ a +ℤ (b +ℤ c)
together a b c = omega (arith, ints)

pub sum-own : (f i : ℕ) (xs : List Token) (d : Token) (old new all : ℤ) → i < length xs → nat_eq (get_or xs i d).field f ≡ true → new ≡ old +ℤ (get_or xs i d).value → old +ℤ sum_of (tokens_of f (drop i xs)) ≡ all → new +ℤ sum_of (tokens_of f (drop (i + 1) xs)) ≡ all
sum-own f i xs d old new all h own is inv =
    ap (λ (n : ℤ). n +ℤ sum_of (tokens_of f (drop (i + 1) xs))) is
    ∙ together old (get_or xs i d).value (sum_of (tokens_of f (drop (i + 1) xs)))
    ∙ ap (λ ts. old +ℤ sum_of ts) (sym (own-drop f i xs d h own)) ∙ inv

pub fits-own : (f i : ℕ) (xs : List Token) (d : Token) (old new : ℤ) → i < length xs → nat_eq (get_or xs i d).field f ≡ true → new ≡ old +ℤ (get_or xs i d).value → FitsSigned w128 (old +ℤ (get_or xs i d).value) → SumsFit new (tokens_of f (drop (i + 1) xs)) → SumsFit old (tokens_of f (drop i xs))
fits-own f i xs d old new h own is fit later =
    subst (λ (ts : List Token). SumsFit old ts) (sym (own-drop f i xs d h own))
    (fit, subst (λ (n : ℤ). SumsFit n (tokens_of f (drop (i + 1) xs))) is later)

pub later-own : (f i : ℕ) (xs : List Token) (d : Token) (old new : ℤ) → i < length xs → nat_eq (get_or xs i d).field f ≡ true → new ≡ old +ℤ (get_or xs i d).value → SumsFit old (tokens_of f (drop i xs)) → SumsFit new (tokens_of f (drop (i + 1) xs))
later-own f i xs d old new h own is fits =
    subst (λ (n : ℤ). SumsFit n (tokens_of f (drop (i + 1) xs))) (sym is)
    (second old (get_or xs i d) (tokens_of f (drop (i + 1) xs)) (subst (λ (ts : List Token). SumsFit old ts) (own-drop f i xs d h own) fits)) where
      second : (n : ℤ) (t : Token) (ts : List Token) → SumsFit n (t ∷ ts) → SumsFit (n +ℤ t.value) ts
      second n t ts h = h.1

-- ---- tests

or-cases : (b p rest : Bool) (t : Token) (q : Token → Bool) (ts : List Token) → p ≡ q t → rest ≡ list_all q ts → ((not b || p) && rest) ≡ list_all q (cond b (t ∷ ts) ts)
or-cases true p rest t q ts e h = ap (λ c. c && rest) e ∙ ap (λ c. q t && c) h
or-cases false p rest t q ts e h = h

-- a test of a field's tokens passes over the others
pub all-own : (q : Token → Bool) (f : ℕ) (ts : List Token) → list_all (λ (t : Token). not (nat_eq t.field f) || q t) ts ≡ list_all q (tokens_of f ts)
all-own q f [] = refl
all-own q f (t ∷ ts) = or-cases (nat_eq t.field f) (q t) _ t q (tokens_of f ts) refl (all-own q f ts)
