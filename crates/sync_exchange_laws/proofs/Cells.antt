-- How often contents of cells are there, token by token.
use Rattle.std.proofs.Common.{◌≡◌, ℕ, suc, ◌+◌, ◌<◌, ◌≤◌, ℤ, Bool, true, false, ◌&&◌, ◌||◌, not, List, [], ◌∷◌, ◌++◌, Some, refl, sym, ap, ◌∙◌, arith, if◌then◌else◌, nat_eq, cond}
use Rattle.std.specs.Ordering.{int_eq}
use Rattle.std.proofs.lemmas.Bool.{eqb-true, eq-eqb}
use Rattle.sync_join.specs.declared.tokens.Token.{Token}
use Rattle.sync_join.specs.Shards.{perm, is_same_token, often}
use Rattle.sync_join.specs.Join.{tokens_of, has_key, are_apart}
use Rattle.sync_join.proofs.Maps.{equal}
use Rattle.sync_join.proofs.Rearranged.{often-append}
use Rattle.sync_exchange.specs.Exchange.{permission, is_at_place, stored_at, withdrawn}
use Rattle.sync_exchange.proofs.Tokens.{IsPart}
use Rattle.sync_exchange_laws.specs.Permissions.{is_content, stored_often}

-- 1 for true
abbrev pub one_if : Bool → ℕ
one_if b = if b then 1 else 0

often-cons-if : (b : Bool) (n : ℕ) → (if b then suc n else n) ≡ one_if b + n
often-cons-if true n = omega arith
often-cons-if false n = omega arith

pub often-cons : (u t : Token) (ts : List Token) → often u (t ∷ ts) ≡ one_if (is_same_token u t) + often u ts
often-cons u t ts = often-cons-if (is_same_token u t) (often u ts)

-- a token and the others
pub often-part : (u t : Token) (whole rest : List Token) → IsPart t whole rest → often u whole ≡ one_if (is_same_token u t) + often u rest
often-part u t whole rest part =
    let a = ap (often u) part.whole_is ∙ often-append u part.before (t ∷ part.behind) in
    let b = often-cons u t part.behind in
    let c = ap (often u) part.rest_is ∙ often-append u part.before part.behind in
    omega (arith, a, b, c)

and-false : (a b : Bool) → a ≡ false → (a && b) ≡ false
and-false a b e = ap (λ c. c && b) e

not-equal : (a b : ℕ) → (a ≡ b → ⊥) → nat_eq a b ≡ false
not-equal a b h = cases (nat_eq a b) refl where
  cases : (c : Bool) → nat_eq a b ≡ c → c ≡ false
  cases true e = absurd (h (eqb-true a b e))
  cases false e = refl

-- a token of a declared field is no permission
pub no-permission : (k n : ℤ) (t : Token) (f many : ℕ) → t.field ≡ f → f < many → many ≤ 32 → is_same_token (permission k n) t ≡ false
no-permission k n t f many is lt few =
    and-false (nat_eq perm t.field) (int_eq k t.key && int_eq n t.value) (not-equal perm t.field (λ e. omega (arith, e, is, lt, few)))

-- a permission is the same as another of its cell with its content
pub own-permission : (k n : ℤ) (t : Token) → t.field ≡ perm → is_same_token (permission k n) t ≡ is_content k n t
own-permission k n t is = ap (λ b. b && (int_eq k t.key && int_eq n t.value)) (eq-eqb perm t.field (sym is))

-- ---- stored objects

pub stored-last : (k n : ℤ) (ts : List Token) (u : Token) → stored_often k n (ts ++ u ∷ []) ≡ one_if (is_content k n u) + stored_often k n ts
stored-last k n [] u = omega arith
stored-last k n (t ∷ ts) u = let e = stored-last k n ts u in omega (arith, e)

and-true : (a b : Bool) → (a && b) ≡ true → (a ≡ true) × (b ≡ true)
and-true true b e = (refl, e)
and-true false b e = absurd cc

not-true : (b : Bool) → not b ≡ true → b ≡ false
not-true true e = absurd cc
not-true false e = refl

turned : (a b : ℕ) → nat_eq a b ≡ nat_eq b a
turned a b = cases (nat_eq a b) refl where
  cases : (c : Bool) → nat_eq a b ≡ c → c ≡ nat_eq b a
  cases true e = sym (eq-eqb b a (sym (eqb-true a b e)))
  cases false e = sym (not-equal b a (λ is. let t = eq-eqb a b (sym is) in absurd (cc)))

-- an object that no other of its field has the key of
alone-cases : (f : ℕ) (k : ℤ) (t : Token) (ts : List Token) (own same : Bool) → nat_eq t.field f ≡ own → int_eq k t.key ≡ same
    → has_key k (cond own (t ∷ tokens_of f ts) (tokens_of f ts)) ≡ false → (has_key k (tokens_of f ts) ≡ false → withdrawn f k ts ≡ ts) → withdrawn f k (t ∷ ts) ≡ t ∷ ts
alone-cases f k t ts true true is at h later = absurd (let g : (true || has_key k (tokens_of f ts)) ≡ false = ap (λ b. b || has_key k (tokens_of f ts)) (sym at) ∙ h in cc)
alone-cases f k t ts true false is at h later =
    let out : is_at_place f k t ≡ false = ap (λ b. b && int_eq k t.key) (turned f t.field ∙ is) ∙ at in
    ap (λ b. cond (not b) (t ∷ withdrawn f k ts) (withdrawn f k ts)) out ∙ ap (λ us. t ∷ us) (later (ap (λ b. b || has_key k (tokens_of f ts)) (sym at) ∙ h))
alone-cases f k t ts false same is at h later =
    let out : is_at_place f k t ≡ false = ap (λ b. b && int_eq k t.key) (turned f t.field ∙ is) in
    ap (λ b. cond (not b) (t ∷ withdrawn f k ts) (withdrawn f k ts)) out ∙ ap (λ us. t ∷ us) (later h)

alone : (f : ℕ) (k : ℤ) (ts : List Token) → has_key k (tokens_of f ts) ≡ false → withdrawn f k ts ≡ ts
alone f k [] e = refl
alone f k (t ∷ ts) e = alone-cases f k t ts (nat_eq t.field f) (int_eq k t.key) refl refl e (λ h. alone f k ts h)

-- the objects of a field behind its first have keys that differ too
later-apart : (f : ℕ) (t : Token) (ts : List Token) (own : Bool) → nat_eq t.field f ≡ own → are_apart (cond own (t ∷ tokens_of f ts) (tokens_of f ts)) ≡ true → are_apart (tokens_of f ts) ≡ true
later-apart f t ts true is h = (and-true (not (has_key t.key (tokens_of f ts))) (are_apart (tokens_of f ts)) h).1
later-apart f t ts false is h = h

out-cases : (c d : ℤ) (f : ℕ) (k n : ℤ) (t : Token) (ts : List Token) (b : Bool) → is_at_place f k t ≡ b → (if b then Some t.value else stored_at f k ts) ≡ Some n
    → are_apart (tokens_of f (t ∷ ts)) ≡ true
    → (stored_at f k ts ≡ Some n → stored_often c d ts ≡ one_if (is_content c d (permission k n)) + stored_often c d (withdrawn f k ts))
    → stored_often c d (t ∷ ts) ≡ one_if (is_content c d (permission k n)) + stored_often c d (withdrawn f k (t ∷ ts))
out-cases c d f k n t ts true at h apart later =
    let p = and-true (nat_eq f t.field) (int_eq k t.key) at in
    let field : nat_eq t.field f ≡ true = turned t.field f ∙ p.0 in
    let key : k ≡ t.key = equal k t.key p.1 in
    let value : t.value ≡ n = cc in
    let own : are_apart (t ∷ tokens_of f ts) ≡ true = sym (ap (λ b. are_apart (cond b (t ∷ tokens_of f ts) (tokens_of f ts))) field) ∙ apart in
    let once = (and-true (not (has_key t.key (tokens_of f ts))) (are_apart (tokens_of f ts)) own).0 in
    let rest : withdrawn f k ts ≡ ts = alone f k ts (ap (λ j. has_key j (tokens_of f ts)) key ∙ not-true (has_key t.key (tokens_of f ts)) once) in
    let gone : withdrawn f k (t ∷ ts) ≡ ts = ap (λ b. cond (not b) (t ∷ withdrawn f k ts) (withdrawn f k ts)) at ∙ rest in
    ap (λ j. one_if (int_eq c j && int_eq d t.value) + stored_often c d ts) (sym key)
    ∙ ap (λ j. one_if (int_eq c k && int_eq d j) + stored_often c d ts) value
    ∙ ap (λ us. one_if (is_content c d (permission k n)) + stored_often c d us) (sym gone)
out-cases c d f k n t ts false at h apart later =
    let e1 = later h in
    let stays : withdrawn f k (t ∷ ts) ≡ t ∷ withdrawn f k ts = ap (λ b. cond (not b) (t ∷ withdrawn f k ts) (withdrawn f k ts)) at in
    let e2 = ap (stored_often c d) stays in
    omega (arith, e1, e2)

-- the object that is withdrawn is one, and no other goes with it
pub stored-out : (c d : ℤ) (f : ℕ) (k n : ℤ) (ts : List Token) → are_apart (tokens_of f ts) ≡ true → stored_at f k ts ≡ Some n
    → stored_often c d ts ≡ one_if (is_content c d (permission k n)) + stored_often c d (withdrawn f k ts)
unfolding stored_at
stored-out c d f k n [] apart e = absurd cc
stored-out c d f k n (t ∷ ts) apart e =
    out-cases c d f k n t ts (is_at_place f k t) refl e apart (λ h. stored-out c d f k n ts (later-apart f t ts (nat_eq t.field f) refl apart) h)
