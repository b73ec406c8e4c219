-- Stored objects: what is found by its key, and what an object that comes or goes makes of the map.
use Rattle.std.proofs.Common.{◌≡◌, ℕ, ℤ, Bool, true, false, not, ◌&&◌, ◌||◌, List, [], ◌∷◌, ◌++◌, Option, Some, None, refl, sym, ap, ◌∙◌, cond, if◌then◌else◌, nat_eq}
use Rattle.std.specs.List.{filter}
use Rattle.std.specs.Ordering.{int_eq, int_cmp}
use Rattle.std.specs.Cmp.{int_cmp_total}
use Rattle.std.specs.FinMap.{get-remove, get-empty}
use Rattle.std.specs.FinMap as finmap
use Rattle.std.proofs.lemmas.Bool.{eqb-true, eq-eqb}
use Rattle.std.proofs.lemmas.Bool.Decides.{Decides-int_eq}
use Rattle.std.proofs.lemmas.List.Elements.{filter-append}
use Rattle.sync_terms.specs.Maps as maps
use Rattle.sync_join.specs.declared.tokens.Token.{Token}
use Rattle.sync_join.proofs.Through.{append-nothing}
use Rattle.sync_join.specs.Join.{tokens_of, has_key, are_apart, map_of, as_map}
use Rattle.sync_entries.proofs.Maps.{get-put, same}
use Rattle.sync_join.proofs.Maps.{equal}
use Rattle.sync_join.proofs.Bags.{as_map-front}
use Rattle.sync_join.proofs.Leaving.{as_map-in}
use Rattle.sync_exchange.specs.Exchange.{stored_at, withdrawn, token_of}
use Rattle.sync_exchange.proofs.Terms.{and_left, and_right}
use Rattle.sync_exchange.proofs.Strategies.{some_is}

-- the value at a key
unfoldable pub object_at : ℤ → List Token → Option ℤ
object_at k [] = None
object_at k (u ∷ us) = if int_eq k u.key then Some u.value else object_at k us

abbrev pub others_than : ℤ → List Token → List Token
others_than k us = filter (λ (u : Token). not (int_eq k u.key)) us

pub object-map_of : (k : ℤ) (us : List Token) → finmap.get (map_of us) k ≡ object_at k us
unfolding object_at
object-map_of k [] = get-empty int_cmp k
object-map_of k (u ∷ us) = get-put (map_of us) u.key u.value k ∙ ap (λ o. if int_eq k u.key then Some u.value else o) (object-map_of k us)

pub nat_eq-turned : (a b : ℕ) → nat_eq a b ≡ nat_eq b a
nat_eq-turned a b = cases (nat_eq a b) (nat_eq b a) refl refl where
  cases : (c d : Bool) → nat_eq a b ≡ c → nat_eq b a ≡ d → c ≡ d
  cases true true e h = refl
  cases false false e h = refl
  cases true false e h = let k = eq-eqb b a (sym (eqb-true a b e)) in absurd (cc)
  cases false true e h = let k = eq-eqb a b (sym (eqb-true b a h)) in absurd (cc)

stored-cons : (f : ℕ) (k : ℤ) (b c : Bool) (t : Token) (ts : List Token) → b ≡ c → stored_at f k ts ≡ object_at k (tokens_of f ts)
    → (if b && int_eq k t.key then Some t.value else stored_at f k ts) ≡ object_at k (cond c (t ∷ tokens_of f ts) (tokens_of f ts))
unfolding object_at
stored-cons f k true true t ts e h = ap (λ o. if int_eq k t.key then Some t.value else o) h
stored-cons f k false false t ts e h = h
stored-cons f k true false t ts e h = absurd (cc)
stored-cons f k false true t ts e h = absurd (cc)

pub stored-object : (f : ℕ) (k : ℤ) (ts : List Token) → stored_at f k ts ≡ object_at k (tokens_of f ts)
unfolding stored_at object_at
stored-object f k [] = refl
stored-object f k (t ∷ ts) = stored-cons f k (nat_eq f t.field) (nat_eq t.field f) t ts (nat_eq-turned f t.field) (stored-object f k ts)

-- ---- what is left

gone-cons : (f : ℕ) (k : ℤ) (b c a : Bool) (t : Token) (ts ws : List Token) → b ≡ c → tokens_of f ws ≡ others_than k (tokens_of f ts) → nat_eq t.field f ≡ c → int_eq k t.key ≡ a
    → tokens_of f (cond (not (b && a)) (t ∷ ws) ws) ≡ others_than k (cond c (t ∷ tokens_of f ts) (tokens_of f ts))
gone-cons f k true true true t ts ws e h p q = rw q h
gone-cons f k true true false t ts ws e h p q = rw (p, q) (ap (λ us. t ∷ us) h)
gone-cons f k false false a t ts ws e h p q = rw p h
gone-cons f k true false a t ts ws e h p q = absurd (cc)
gone-cons f k false true a t ts ws e h p q = absurd (cc)

pub withdrawn-own : (f : ℕ) (k : ℤ) (ts : List Token) → tokens_of f (withdrawn f k ts) ≡ others_than k (tokens_of f ts)
withdrawn-own f k [] = refl
withdrawn-own f k (t ∷ ts) = gone-cons f k (nat_eq f t.field) (nat_eq t.field f) (int_eq k t.key) t ts (withdrawn f k ts) (nat_eq-turned f t.field) (withdrawn-own f k ts) refl refl

other-cons : (f g : ℕ) (b a : Bool) (t : Token) (ts ws : List Token) → nat_eq f t.field ≡ b → nat_eq g f ≡ false → tokens_of g ws ≡ tokens_of g ts
    → tokens_of g (cond (not (b && a)) (t ∷ ws) ws) ≡ tokens_of g (t ∷ ts)
other-cons f g true true t ts ws p r h =
    let here : f ≡ t.field = eqb-true f t.field p in
    let apart : nat_eq t.field g ≡ false = ap (λ n. nat_eq n g) (sym here) ∙ nat_eq-turned f g ∙ r in rw apart h
other-cons f g true false t ts ws p r h = ap (λ us. cond (nat_eq t.field g) (t ∷ us) us) h
other-cons f g false a t ts ws p r h = ap (λ us. cond (nat_eq t.field g) (t ∷ us) us) h

pub withdrawn-other : (f g : ℕ) (k : ℤ) (ts : List Token) → nat_eq g f ≡ false → tokens_of g (withdrawn f k ts) ≡ tokens_of g ts
withdrawn-other f g k [] r = refl
withdrawn-other f g k (t ∷ ts) r = other-cons f g (nat_eq f t.field) (int_eq k t.key) t ts (withdrawn f k ts) refl r (withdrawn-other f g k ts r)

without-cases : (k q : ℤ) (a b c : Bool) (u : Token) (us ws : List Token) → int_eq k u.key ≡ a → int_eq q k ≡ b → int_eq q u.key ≡ c
    → object_at q ws ≡ (if b then None else object_at q us)
    → object_at q (cond (not a) (u ∷ ws) ws) ≡ (if b then None else (if c then Some u.value else object_at q us))
unfolding object_at
without-cases k q true true c u us ws x y z h = h
without-cases k q true false false u us ws x y z h = h
without-cases k q true false true u us ws x y z h =
    let e : int_eq q k ≡ true = (Decides-int_eq q k).1 (equal q u.key z ∙ sym (equal k u.key x)) in absurd (cc)
without-cases k q false true true u us ws x y z h =
    let e : int_eq k u.key ≡ true = (Decides-int_eq k u.key).1 (sym (equal q k y) ∙ equal q u.key z) in absurd (cc)
without-cases k q false true false u us ws x y z h = rw z h
without-cases k q false false true u us ws x y z h = rw z refl
without-cases k q false false false u us ws x y z h = rw z h

either-none : (b : Bool) (o : Option ℤ) → o ≡ (if b then o else o)
either-none true o = refl
either-none false o = refl

object-others : (k q : ℤ) (us : List Token) → object_at q (others_than k us) ≡ (if int_eq q k then None else object_at q us)
unfolding object_at
object-others k q [] = either-none (int_eq q k) None
object-others k q (u ∷ us) = without-cases k q (int_eq k u.key) (int_eq q k) (int_eq q u.key) u us (others_than k us) refl refl refl (object-others k q us)

pub map_of-others : (k : ℤ) (us : List Token) → map_of (others_than k us) ≡ maps.del (map_of us) k
map_of-others k us = same _ _ (λ q.
    object-map_of q (others_than k us) ∙ object-others k q us
    ∙ ap (λ o. if int_eq q k then None else o) (sym (object-map_of q us))
    ∙ sym (get-remove int_cmp_total (map_of us) k q))

key-cases : (q k : ℤ) (a b : Bool) (u : Token) (ws us : List Token) → (b || has_key q us) ≡ false → (has_key q us ≡ false → has_key q ws ≡ false) → int_eq q u.key ≡ b
    → has_key q (cond (not a) (u ∷ ws) ws) ≡ false
key-cases q k a true u ws us e h z = absurd (cc)
key-cases q k true false u ws us e h z = h e
key-cases q k false false u ws us e h z = rw z (h e)

has_key-others : (k q : ℤ) (us : List Token) → has_key q us ≡ false → has_key q (others_than k us) ≡ false
has_key-others k q [] e = refl
has_key-others k q (u ∷ us) e = key-cases q k (int_eq k u.key) (int_eq q u.key) u (others_than k us) us e (has_key-others k q us) refl

pub not-true : (b : Bool) → not b ≡ true → b ≡ false
not-true true e = absurd (cc)
not-true false e = refl

apart-cases : (a : Bool) (u : Token) (ws : List Token) → has_key u.key ws ≡ false → are_apart ws ≡ true → are_apart (cond (not a) (u ∷ ws) ws) ≡ true
apart-cases true u ws free e = e
apart-cases false u ws free e = rw free e

pub apart-others : (k : ℤ) (us : List Token) → are_apart us ≡ true → are_apart (others_than k us) ≡ true
apart-others k [] e = refl
apart-others k (u ∷ us) e =
    apart-cases (int_eq k u.key) u (others_than k us) (has_key-others k u.key us (not-true (has_key u.key us) (and_left _ _ e)))
    (apart-others k us (and_right (not (has_key u.key us)) _ e))

as_map-cases : (b : Bool) (n m : maps.Map) → (if b then Some n else None) ≡ Some m → (b ≡ true) × (n ≡ m)
as_map-cases true n m e = (refl, some_is n m e)
as_map-cases false n m e = absurd (cc)

pub as_map-parts : (us : List Token) (m : maps.Map) → as_map us ≡ Some m → (are_apart us ≡ true) × (map_of us ≡ m)
as_map-parts us m e = as_map-cases (are_apart us) (map_of us) m e

as_map-whole : (us : List Token) → are_apart us ≡ true → as_map us ≡ Some (map_of us)
as_map-whole us e = rw e refl

-- ---- the three statements

pub seen-object : (f : ℕ) (k n : ℤ) (ts : List Token) (m : maps.Map) → stored_at f k ts ≡ Some n → as_map (tokens_of f ts) ≡ Some m → finmap.get m k ≡ Some n
seen-object f k n ts m e is =
    ap (λ w. finmap.get w k) (sym (as_map-parts (tokens_of f ts) m is).1) ∙ object-map_of k (tokens_of f ts) ∙ sym (stored-object f k ts) ∙ e

pub withdrawn-object : (f : ℕ) (k : ℤ) (ts : List Token) (m : maps.Map) → as_map (tokens_of f ts) ≡ Some m → as_map (tokens_of f (withdrawn f k ts)) ≡ Some (maps.del m k)
withdrawn-object f k ts m is =
    let parts = as_map-parts (tokens_of f ts) m is in
    ap as_map (withdrawn-own f k ts) ∙ as_map-whole (others_than k (tokens_of f ts)) (apart-others k (tokens_of f ts) parts.0)
    ∙ ap Some (map_of-others k (tokens_of f ts) ∙ ap (λ w. maps.del w k) parts.1)

own-last : (b : Bool) (t : Token) → b ≡ true → cond b (t ∷ []) [] ≡ t ∷ []
own-last true t e = refl
own-last false t e = absurd (cc)

none-last : (b : Bool) (t : Token) → b ≡ false → cond b (t ∷ []) [] ≡ []
none-last true t e = absurd (cc)
none-last false t e = refl

pub tokens_of-append : (f : ℕ) (xs ys : List Token) → tokens_of f (xs ++ ys) ≡ tokens_of f xs ++ tokens_of f ys
tokens_of-append f xs ys = filter-append (λ (t : Token). nat_eq t.field f) xs ys

pub deposited-object : (f : ℕ) (k n : ℤ) (ts : List Token) (m : maps.Map) → as_map (tokens_of f ts) ≡ Some m → finmap.get m k ≡ None
    → as_map (tokens_of f (ts ++ token_of f k n ∷ [])) ≡ Some (maps.put m k n)
deposited-object f k n ts m is free =
    let us = tokens_of f ts in
    ap as_map (tokens_of-append f ts (token_of f k n ∷ []) ∙ ap (λ ws. us ++ ws) (own-last (nat_eq f f) (token_of f k n) (eq-eqb f f refl)))
    ∙ as_map-front us (token_of f k n) [] ∙ ap (λ ws. as_map (token_of f k n ∷ ws)) (append-nothing us)
    ∙ as_map-in (token_of f k n) us m is free

pub deposited-other : (f g : ℕ) (k n : ℤ) (ts : List Token) → nat_eq g f ≡ false → tokens_of g (ts ++ token_of f k n ∷ []) ≡ tokens_of g ts
deposited-other f g k n ts r =
    tokens_of-append g ts (token_of f k n ∷ []) ∙ ap (λ ws. tokens_of g ts ++ ws) (none-last (nat_eq f g) (token_of f k n) (nat_eq-turned f g ∙ r))
    ∙ append-nothing (tokens_of g ts)
