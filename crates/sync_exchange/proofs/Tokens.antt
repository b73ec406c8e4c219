-- Tokens under names: one that is found by its name, and what is left or changed.
use Rattle.std.proofs.Common.{◌≡◌, ℕ, ◌+◌, ◌≤◌, ℤ, Bool, true, false, not, List, [], ◌∷◌, ◌++◌, map, Some, unwrap_or, refl, sym, ap, ◌∙◌, arith, cond, if◌then◌else◌, nat_eq, append_assoc}
use Rattle.std.proofs.lemmas.Bool.{eqb-true, eq-eqb}
use Rattle.std.proofs.lemmas.List.{map-append}
use Rattle.sync_join.specs.declared.tokens.Token.{Token}
use Rattle.sync_join.proofs.Through.{append-nothing}
use Rattle.sync_exchange.specs.declared.hands.Held.{Held}
use Rattle.sync_exchange.specs.Exchange.{held_as, without, revalued, tokens_in}

-- how often a name stands in a list
unfoldable pub occurs : ℕ → List ℕ → ℕ
occurs x [] = 0
occurs x (y ∷ ys) = (if nat_eq x y then 1 else 0) + occurs x ys

abbrev pub names_in : List Held → List ℕ
names_in hs = map (λ (h : Held). h.name) hs

pub occurs-append : (x : ℕ) (ys zs : List ℕ) → occurs x (ys ++ zs) ≡ occurs x ys + occurs x zs
unfolding occurs
occurs-append x [] zs = omega arith
occurs-append x (y ∷ ys) zs = let e = occurs-append x ys zs in omega (arith, e)

pub names_in-append : (xs ys : List Held) → names_in (xs ++ ys) ≡ names_in xs ++ names_in ys
names_in-append xs ys = map-append (λ (h : Held). h.name) xs ys

pub tokens_in-append : (xs ys : List Held) → tokens_in (xs ++ ys) ≡ tokens_in xs ++ tokens_in ys
tokens_in-append xs ys = map-append (λ (h : Held). h.token) xs ys

-- how often a name is held
abbrev pub holds : ℕ → List Held → ℕ
holds x hs = occurs x (names_in hs)

pub holds-append : (x : ℕ) (xs ys : List Held) → holds x (xs ++ ys) ≡ holds x xs + holds x ys
holds-append x xs ys = ap (occurs x) (names_in-append xs ys) ∙ occurs-append x (names_in xs) (names_in ys)

abbrev pub under : ℕ → Token → Held
under name t = record { name = name; token = t }

-- the one token of a name, with those before it and behind it
pub record IsFound (name : ℕ) (t : Token) (hs : List Held) : Type 0 where
  pub before : List Held
  pub behind : List Held
  pub is : hs ≡ before ++ under name t ∷ behind
  pub none_before : holds name before ≡ 0
  pub none_behind : holds name behind ≡ 0

same_some : {X : Type 0} (x y : X) → Some x ≡ Some y → x ≡ y
same_some x y e = ap (λ o. unwrap_or o x) e

same_held : (h : Held) (name : ℕ) (t : Token) → name ≡ h.name → h.token ≡ t → h ≡ under name t
same_held h name t p q = ap (λ n. under n h.token) (sym p) ∙ ap (under name) q

occurs-other : (x y : ℕ) (ys : List ℕ) → nat_eq x y ≡ false → occurs x ys ≡ 0 → occurs x (y ∷ ys) ≡ 0
unfolding occurs
occurs-other x y ys p q = other (nat_eq x y) p where
  other : (b : Bool) → b ≡ false → (if b then 1 else 0) + occurs x ys ≡ 0
  other true e = absurd (cc)
  other false e = omega (arith, q)

found-cons : (name : ℕ) (t : Token) (h : Held) (hs : List Held) (b : Bool) → nat_eq name h.name ≡ b
    → (if b then Some h.token else held_as name hs) ≡ Some t → (if b then 1 else 0) + holds name hs ≤ 1
    → (held_as name hs ≡ Some t → holds name hs ≤ 1 → IsFound name t hs) → IsFound name t (h ∷ hs)
unfolding occurs
found-cons name t h hs true here e few later = record {
  before = [];
  behind = hs;
  is = ap (λ g. g ∷ hs) (same_held h name t (eqb-true name h.name here) (same_some h.token t e));
  none_before = refl;
  none_behind = omega arith;
}
found-cons name t h hs false here e few later =
    let found = later e (omega arith) in
    record {
      before = h ∷ found.before;
      behind = found.behind;
      is = ap (λ gs. h ∷ gs) found.is;
      none_before = occurs-other name h.name (names_in found.before) here found.none_before;
      none_behind = found.none_behind;
    }

pub found : (name : ℕ) (t : Token) (hs : List Held) → held_as name hs ≡ Some t → holds name hs ≤ 1 → IsFound name t hs
unfolding held_as occurs
found name t [] e few = absurd (cc)
found name t (h ∷ hs) e few = found-cons name t h hs (nat_eq name h.name) refl e few (λ d k. found name t hs d k)

-- ---- what is left without it

filter-kept : (b : Bool) (h : Held) (hs : List Held) → b ≡ false → cond (not b) (h ∷ hs) hs ≡ h ∷ hs
filter-kept true h hs e = absurd (cc)
filter-kept false h hs e = refl

pub no_name : (name : ℕ) (h : Held) (hs : List Held) → holds name (h ∷ hs) ≡ 0 → (nat_eq name h.name ≡ false) × (holds name hs ≡ 0)
unfolding occurs
no_name name h hs e = cases (nat_eq name h.name) e where
  cases : (b : Bool) → (if b then 1 else 0) + holds name hs ≡ 0 → (b ≡ false) × (holds name hs ≡ 0)
  cases true e = absurd (omega arith)
  cases false e = (refl, omega arith)

pub without-none : (name : ℕ) (hs : List Held) → holds name hs ≡ 0 → without name hs ≡ hs
without-none name [] e = refl
without-none name (h ∷ hs) e =
    let other = no_name name h hs e in
    ap (λ gs. cond (not (nat_eq name h.name)) (h ∷ gs) gs) (without-none name hs other.1) ∙ filter-kept (nat_eq name h.name) h hs other.0

-- the changed token of a name
abbrev pub with_number : ℤ → Token → Token
with_number n t = record { field = t.field; key = t.key; value = n }

filter-gone : (b : Bool) (h : Held) (hs : List Held) → b ≡ true → cond (not b) (h ∷ hs) hs ≡ hs
filter-gone true h hs e = refl
filter-gone false h hs e = absurd (cc)

without-split : (name : ℕ) (t : Token) (before behind : List Held) → holds name before ≡ 0 → holds name behind ≡ 0
    → without name (before ++ under name t ∷ behind) ≡ before ++ behind
without-split name t [] behind p q = filter-gone (nat_eq name name) (under name t) (without name behind) (eq-eqb name name refl) ∙ without-none name behind q
without-split name t (h ∷ before) behind p q =
    let other = no_name name h before p in
    ap (λ gs. cond (not (nat_eq name h.name)) (h ∷ gs) gs) (without-split name t before behind other.1 q)
    ∙ filter-kept (nat_eq name h.name) h (before ++ behind) other.0

changed : ℕ → ℤ → Bool → Held → Held
changed name n b h = if b then record { name = h.name; token = with_number n h.token } else h

revalued-cons : (name : ℕ) (n : ℤ) (b : Bool) (h : Held) (hs gs : List Held) → nat_eq name h.name ≡ b → revalued name n hs ≡ gs → revalued name n (h ∷ hs) ≡ changed name n b h ∷ gs
unfolding changed
revalued-cons name n b h hs gs e r = ap (λ c. (if c then record { name = h.name; token = with_number n h.token } else h) ∷ revalued name n hs) e ∙ ap (λ ks. changed name n b h ∷ ks) r

pub revalued-none : (name : ℕ) (n : ℤ) (hs : List Held) → holds name hs ≡ 0 → revalued name n hs ≡ hs
unfolding changed
revalued-none name n [] e = refl
revalued-none name n (h ∷ hs) e =
    let other = no_name name h hs e in
    revalued-cons name n false h hs hs other.0 (revalued-none name n hs other.1)

revalued-split : (name : ℕ) (n : ℤ) (t : Token) (before behind : List Held) → holds name before ≡ 0 → holds name behind ≡ 0
    → revalued name n (before ++ under name t ∷ behind) ≡ before ++ under name (with_number n t) ∷ behind
unfolding changed
revalued-split name n t [] behind p q = revalued-cons name n true (under name t) behind behind (eq-eqb name name refl) (revalued-none name n behind q)
revalued-split name n t (h ∷ before) behind p q =
    let other = no_name name h before p in
    revalued-cons name n false h (before ++ under name t ∷ behind) _ other.0 (revalued-split name n t before behind other.1 q)

-- ---- one token of a bag, and the others

pub record IsPart (t : Token) (whole rest : List Token) : Type 0 where
  pub before : List Token
  pub behind : List Token
  pub whole_is : whole ≡ before ++ t ∷ behind
  pub rest_is : rest ≡ before ++ behind

tokens-one : (before behind entered : List Held) (h : Held) (others : List Token)
    → tokens_in ((before ++ h ∷ behind) ++ entered) ++ others ≡ tokens_in before ++ h.token ∷ (tokens_in (behind ++ entered) ++ others)
tokens-one [] behind entered h others = refl
tokens-one (g ∷ before) behind entered h others = ap (λ ts. g.token ∷ ts) (tokens-one before behind entered h others)

tokens-none : (before behind entered : List Held) (others : List Token)
    → tokens_in ((before ++ behind) ++ entered) ++ others ≡ tokens_in before ++ (tokens_in (behind ++ entered) ++ others)
tokens-none [] behind entered others = refl
tokens-none (g ∷ before) behind entered others = ap (λ ts. g.token ∷ ts) (tokens-none before behind entered others)

few-left : (name : ℕ) (xs ys : List Held) → holds name (xs ++ ys) ≤ 1 → holds name xs ≤ 1
few-left name xs ys few = let e = holds-append name xs ys in omega (arith, e)

-- a token that is taken out of the hand
pub taken-part : (name : ℕ) (t : Token) (hand entered : List Held) (others : List Token) → held_as name hand ≡ Some t → holds name (hand ++ entered) ≤ 1
    → IsPart t (tokens_in (hand ++ entered) ++ others) (tokens_in (without name hand ++ entered) ++ others)
taken-part name t hand entered others e few =
    let f = found name t hand e (few-left name hand entered few) in
    record {
      before = tokens_in f.before;
      behind = tokens_in (f.behind ++ entered) ++ others;
      whole_is = ap (λ hs. tokens_in (hs ++ entered) ++ others) f.is ∙ tokens-one f.before f.behind entered (under name t) others;
      rest_is = ap (λ hs. tokens_in (hs ++ entered) ++ others) (ap (without name) f.is ∙ without-split name t f.before f.behind f.none_before f.none_behind) ∙ tokens-none f.before f.behind entered others;
    }

-- a token that changes its value
pub record IsRevalued (t : Token) (n : ℤ) (old new : List Token) : Type 0 where
  pub rest : List Token
  pub was : IsPart t old rest
  pub is : IsPart (with_number n t) new rest

pub revalued-part : (name : ℕ) (n : ℤ) (t : Token) (hand entered : List Held) (others : List Token) → held_as name (hand ++ entered) ≡ Some t → holds name (hand ++ entered) ≤ 1
    → IsRevalued t n (tokens_in (hand ++ entered) ++ others) (tokens_in (revalued name n hand ++ revalued name n entered) ++ others)
revalued-part name n t hand entered others e few =
    let f = found name t (hand ++ entered) e few in
    let one = λ (h : Held). ap (λ hs. tokens_in hs ++ others) (sym (append-nothing (f.before ++ h ∷ f.behind))) ∙ tokens-one f.before f.behind [] h others in
    let rest = tokens_in f.before ++ (tokens_in (f.behind ++ []) ++ others) in
    record {
      rest = rest;
      was = record {
        before = tokens_in f.before;
        behind = tokens_in (f.behind ++ []) ++ others;
        whole_is = ap (λ hs. tokens_in hs ++ others) f.is ∙ one (under name t);
        rest_is = refl;
      };
      is = record {
        before = tokens_in f.before;
        behind = tokens_in (f.behind ++ []) ++ others;
        whole_is = ap (λ hs. tokens_in hs ++ others) (sym (map-append _ hand entered) ∙ ap (revalued name n) f.is ∙ revalued-split name n t f.before f.behind f.none_before f.none_behind) ∙ one (under name (with_number n t));
        rest_is = refl;
      };
    }

-- a token that is given
pub given-part : (name : ℕ) (t : Token) (hand entered : List Held) (others : List Token)
    → IsPart t (tokens_in (hand ++ (entered ++ under name t ∷ [])) ++ others) (tokens_in (hand ++ entered) ++ others)
given-part name t hand entered others = record {
  before = tokens_in (hand ++ entered);
  behind = others;
  whole_is = ap (λ hs. tokens_in hs ++ others) (sym (append_assoc hand entered (under name t ∷ []))) ∙ last (hand ++ entered);
  rest_is = refl;
} where
  last : (hs : List Held) → tokens_in (hs ++ under name t ∷ []) ++ others ≡ tokens_in hs ++ t ∷ others
  last [] = refl
  last (g ∷ hs) = ap (λ ts. g.token ∷ ts) (last hs)

-- ---- names behind a change

fewer : (b : Bool) (x : ℕ) (h : Held) (hs gs : List Held) → holds x gs ≤ holds x hs → holds x (cond b (h ∷ gs) gs) ≤ holds x (h ∷ hs)
unfolding occurs
fewer true x h hs gs e = omega arith
fewer false x h hs gs e = omega arith

pub holds-without : (x name : ℕ) (hs : List Held) → holds x (without name hs) ≤ holds x hs
unfolding occurs
holds-without x name [] = omega arith
holds-without x name (h ∷ hs) = fewer (not (nat_eq name h.name)) x h hs (without name hs) (holds-without x name hs)

changed-name : (name : ℕ) (n : ℤ) (b : Bool) (h : Held) → (changed name n b h).name ≡ h.name
unfolding changed
changed-name name n true h = refl
changed-name name n false h = refl

pub names_in-revalued : (name : ℕ) (n : ℤ) (hs : List Held) → names_in (revalued name n hs) ≡ names_in hs
unfolding changed
names_in-revalued name n [] = refl
names_in-revalued name n (h ∷ hs) = ap (λ x. x ∷ names_in (revalued name n hs)) (changed-name name n (nat_eq name h.name) h) ∙ ap (λ xs. h.name ∷ xs) (names_in-revalued name n hs)

-- ---- what a name finds behind a change

held-more : (name : ℕ) (b : Bool) (h : Held) (xs ys : List Held) (t : Token) → (if b then Some h.token else held_as name xs) ≡ Some t
    → (held_as name xs ≡ Some t → held_as name (xs ++ ys) ≡ Some t) → (if b then Some h.token else held_as name (xs ++ ys)) ≡ Some t
held-more name true h xs ys t e later = e
held-more name false h xs ys t e later = later e

pub held_as-more : (name : ℕ) (xs ys : List Held) (t : Token) → held_as name xs ≡ Some t → held_as name (xs ++ ys) ≡ Some t
unfolding held_as
held_as-more name [] ys t e = absurd (cc)
held_as-more name (h ∷ xs) ys t e = held-more name (nat_eq name h.name) h xs ys t e (held_as-more name xs ys t)

passed-by : (name gone : ℕ) (a b : Bool) (h : Held) (hs ks entered : List Held) → nat_eq name h.name ≡ a → nat_eq gone h.name ≡ b → nat_eq name gone ≡ false
    → held_as name (hs ++ entered) ≡ held_as name (ks ++ entered) → held_as name (cond (not b) (h ∷ hs) hs ++ entered) ≡ (if a then Some h.token else held_as name (ks ++ entered))
unfolding held_as
passed-by name gone true true h hs ks entered p q r e =
    let x : name ≡ h.name = eqb-true name h.name p in
    let y : gone ≡ h.name = eqb-true gone h.name q in
    let z : nat_eq name gone ≡ true = eq-eqb name gone (x ∙ sym y) in absurd (cc)
passed-by name gone false true h hs ks entered p q r e = e
passed-by name gone true false h hs ks entered p q r e = rw p refl
passed-by name gone false false h hs ks entered p q r e = rw p e

pub held_as-without : (name gone : ℕ) (hand entered : List Held) → nat_eq name gone ≡ false
    → held_as name (without gone hand ++ entered) ≡ held_as name (hand ++ entered)
unfolding held_as
held_as-without name gone [] entered r = refl
held_as-without name gone (h ∷ hand) entered r =
    passed-by name gone (nat_eq name h.name) (nat_eq gone h.name) h (without gone hand) hand entered refl refl r (held_as-without name gone hand entered r)

-- a token that has been changed has its field still
abbrev pub HoldsStill : ℕ → ℕ → ℤ → List Held → Token → Type 0
HoldsStill name other n hs t = (u : Token) × (held_as name (revalued other n hs) ≡ Some u) × (u.field ≡ t.field)

still-cons : (name other : ℕ) (n : ℤ) (h : Held) (hs : List Held) (t : Token) (a b : Bool) → nat_eq name h.name ≡ a → (if a then Some h.token else held_as name hs) ≡ Some t
    → (held_as name hs ≡ Some t → HoldsStill name other n hs t)
    → (u : Token) × (held_as name (changed other n b h ∷ revalued other n hs) ≡ Some u) × (u.field ≡ t.field)
unfolding held_as changed
still-cons name other n h hs t true true p e later = (with_number n h.token, rw p refl, ap (λ (u : Token). u.field) (same_some h.token t e))
still-cons name other n h hs t true false p e later = (h.token, rw p refl, ap (λ (u : Token). u.field) (same_some h.token t e))
still-cons name other n h hs t false true p e later = let l = later e in (l.0, rw p l.1, l.2)
still-cons name other n h hs t false false p e later = let l = later e in (l.0, rw p l.1, l.2)

pub held_as-revalued : (name other : ℕ) (n : ℤ) (hs : List Held) (t : Token) → held_as name hs ≡ Some t → HoldsStill name other n hs t
unfolding held_as changed
held_as-revalued name other n [] t e = absurd (cc)
held_as-revalued name other n (h ∷ hs) t e = still-cons name other n h hs t (nat_eq name h.name) (nat_eq other h.name) refl e (held_as-revalued name other n hs t)

last-cases : (name : ℕ) (b : Bool) (h : Held) (hs ks : List Held) (t : Token) → b ≡ false → held_as name hs ≡ Some t → (if b then Some h.token else held_as name hs) ≡ Some t
last-cases name true h hs ks t e found = absurd (cc)
last-cases name false h hs ks t e found = found

-- a new name finds its token
pub held_as-last : (name : ℕ) (hs : List Held) (t : Token) → holds name hs ≡ 0 → held_as name (hs ++ under name t ∷ []) ≡ Some t
unfolding held_as
held_as-last name [] t e = let own : nat_eq name name ≡ true = eq-eqb name name refl in rw own refl
held_as-last name (h ∷ hs) t e =
    let other = no_name name h hs e in
    last-cases name (nat_eq name h.name) h (hs ++ under name t ∷ []) hs t other.0 (held_as-last name hs t other.1)
