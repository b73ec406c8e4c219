-- The stack of a branch: the places of the newest facts, by their names, while facts come and go.
use Rattle.std.proofs.Common.{rules, ◌≡◌, ◌⊎◌, inl, inr, ℕ, zero, suc, ◌+◌, ◌-◌, ◌<◌, ◌≤◌, Bool, true, false, cond, if◌then◌else◌, List, [], ◌∷◌, ◌++◌, length, take, get_or, Option, Some, None, Result, Ok, Err, refl, sym, ap, subst, ◌∙◌, arith}
use Rattle.std.specs.Prelude.{option_map, OnOk, OnErr, IsOk, is_ok}
use Rattle.std.proofs.lemmas.Bool.{cases_lt, cond-true, cond-false, eqb-true, eq-eqb}
use Rattle.std.proofs.lemmas.List.{map_push, length-map, length_push, get_or_append_left, get_or_push, take-append-le, take_all}
use Rattle.sync_base.specs.Outcome.{first}
use Rattle.sync_terms.specs.declared.scripts.HypName.{HypName}
use Rattle.sync_terms.specs.declared.scripts.HypName.TheVariants.{Label, Denied, At, Low, High}
use Rattle.sync_terms.specs.Stored.{Stored}
use Rattle.sync_kernel_facts.specs.declared.branches.Said.{Said}
use Rattle.sync_kernel_facts.specs.declared.branches.Held.{Held}
use Rattle.sync_kernel_facts.specs.Facts.{Fact, same_name, newest}
use Rattle.sync_kernel_facts.specs.Branches.{said_fact, facts_in, IsSaid, AreSaid, newest_said, place_from, said_size, capped, equal_names}
use Rattle.sync_kernel_facts.specs.Stacks.{saids, IsStack}
use Rattle.sync_kernel_facts.proofs.Names.{names_equal}

-- ---- names

name_is : (a b : HypName) → same_name a b ≡ true → a ≡ b
name_is (Label m) (Label n) h = ap Label (eqb-true m n h)
name_is Denied Denied h = refl
name_is (At m) (At n) h = ap At (eqb-true m n h)
name_is (Low m) (Low n) h = ap Low (eqb-true m n h)
name_is (High m) (High n) h = ap High (eqb-true m n h)
name_is _ _ h = absurd (cc)

-- ---- the newest of a name

pub first_if : {A : Type 0} (b : Bool) (x : A) (o p : Option A) → first (if b then Some x else o) p ≡ (if b then Some x else first o p)
first_if true x o p = refl
first_if false x o p = refl

pub place_push : (n : ℕ) (name : HypName) (xs : List Said) (x : Said) → place_from n name (xs ++ x ∷ []) ≡ (if same_name x.name name then Some (n + length xs) else place_from n name xs)
place_push n name [] x = ap (λ (m : ℕ). if same_name x.name name then Some m else None) (omega arith)
place_push n name (y ∷ ys) x =
    ap (λ (o : Option ℕ). first o (if same_name y.name name then Some n else None)) (place_push (suc n) name ys x)
    ∙ first_if (same_name x.name name) (suc n + length ys) (place_from (suc n) name ys) (if same_name y.name name then Some n else None)
    ∙ ap (λ (m : ℕ). if same_name x.name name then Some m else first (place_from (suc n) name ys) (if same_name y.name name then Some n else None)) (omega arith)

-- the place of the newest, and the newest itself
pub record IsPlace (name : HypName) (n : ℕ) (xs : List Said) (p : ℕ) : Type 0 where
  pub low : n ≤ p
  pub high : p < n + length xs
  pub there : (d : Said) → newest_said name xs ≡ Some (get_or xs (p - n) d)

abbrev pub Places : HypName → ℕ → List Said → Option ℕ → Type 0
Places name n xs None = newest_said name xs ≡ None
Places name n xs (Some p) = IsPlace name n xs p

later : (name : HypName) (n : ℕ) (x : Said) (xs : List Said) (p : ℕ) → IsPlace name (suc n) xs p → IsPlace name n (x ∷ xs) p
later name n x xs p h =
    let low : suc n ≤ p = h.low in
    let high : p < suc n + length xs = h.high in
    record {
      low = omega (arith, low);
      high = omega (arith, high);
      there = λ d. (let at : get_or (x ∷ xs) (p - n) d ≡ get_or xs (p - suc n) d = ap (λ (i : ℕ). get_or (x ∷ xs) i d) (let e : p - n ≡ suc (p - suc n) = omega (arith, low) in e) in
          ap (λ (o : Option Said). first o (if same_name x.name name then Some x else None)) (h.there d) ∙ ap Some (sym at));
    }

here : (name : HypName) (n : ℕ) (x : Said) (xs : List Said) (b : Bool) → same_name x.name name ≡ b → newest_said name xs ≡ None → Places name n (x ∷ xs) (if b then Some n else None)
here name n x xs true e none = record {
  low = omega arith;
  high = omega arith;
  there = λ d. ap (λ (o : Option Said). first o (if same_name x.name name then Some x else None)) none ∙ cond-true (same_name x.name name) (Some x) None e
      ∙ ap Some (sym (ap (λ (i : ℕ). get_or (x ∷ xs) i d) (let z : n - n ≡ 0 = omega arith in z)));
}
here name n x xs false e none =
    ap (λ (o : Option Said). first o (if same_name x.name name then Some x else None)) none ∙ cond-false (same_name x.name name) (Some x) None e

place_step : (name : HypName) (n : ℕ) (x : Said) (xs : List Said) (o : Option ℕ) → Places name (suc n) xs o → Places name n (x ∷ xs) (first o (if same_name x.name name then Some n else None))
place_step name n x xs (Some p) h = later name n x xs p h
place_step name n x xs None h = here name n x xs (same_name x.name name) refl h

pub places : (name : HypName) (n : ℕ) (xs : List Said) → Places name n xs (place_from n name xs)
places name n [] = refl
places name n (x ∷ xs) = place_step name n x xs (place_from (suc n) name xs) (places name (suc n) xs)

pub found_place : (name : HypName) (xs : List Said) (p : ℕ) → place_from 0 name xs ≡ Some p → (p < length xs) × ((d : Said) → newest_said name xs ≡ Some (get_or xs p d))
found_place name xs p e =
    let h : IsPlace name 0 xs p = subst (Places name 0 xs) e (places name 0 xs) in
    let high : p < 0 + length xs = h.high in
    (omega (arith, high), λ d. h.there d ∙ ap (λ (i : ℕ). Some (get_or xs i d)) (let z : p - 0 ≡ p = omega arith in z))

pub no_place : (name : HypName) (xs : List Said) → place_from 0 name xs ≡ None → newest_said name xs ≡ None
no_place name xs e = let h : Places name 0 xs None = subst (Places name 0 xs) e (places name 0 xs) in h

map_if : (s : Stored) (b : Bool) (x : Said) → option_map (said_fact s) (if b then Some x else None) ≡ (if b then Some (said_fact s x) else None)
map_if s true x = refl
map_if s false x = refl

map_first : (s : Stored) (o p : Option Said) → option_map (said_fact s) (first o p) ≡ first (option_map (said_fact s) o) (option_map (said_fact s) p)
map_first s (Some x) p = refl
map_first s None p = refl

-- the newest fact is that of what was said last
pub newest_in : (s : Stored) (name : HypName) (xs : List Said) → newest name (facts_in s xs) ≡ option_map (said_fact s) (newest_said name xs)
newest_in s name [] = refl
newest_in s name (x ∷ xs) =
    ap (λ (o : Option Fact). first o (if same_name x.name name then Some (said_fact s x) else None)) (newest_in s name xs)
    ∙ ap (first (option_map (said_fact s) (newest_said name xs))) (sym (map_if s (same_name x.name name) x))
    ∙ sym (map_first s (newest_said name xs) (if same_name x.name name then Some x else None))

-- ---- a fact goes on the stack, and comes off

-- the place of each name, with one fact more
pub places_push : (xs : List Said) (x : Said) (old new : HypName → Option ℕ) → ((n : HypName) → old n ≡ place_from 0 n xs) → ((n : HypName) → new n ≡ cond (equal_names x.name n) (Some (length xs)) (old n))
    → (n : HypName) → new n ≡ place_from 0 n (xs ++ x ∷ [])
places_push xs x old new was is n =
    is n ∙ ap (λ (b : Bool). cond b (Some (length xs)) (old n)) (names_equal x.name n) ∙ ap (cond (same_name x.name n) (Some (length xs))) (was n)
    ∙ sym (place_push 0 n xs x ∙ ap (λ (m : ℕ). if same_name x.name n then Some m else place_from 0 n xs) (let z : 0 + length xs ≡ length xs = omega arith in z))

-- and without the last
pub places_pop : (xs : List Said) (x : Said) (old new : HypName → Option ℕ) → ((n : HypName) → old n ≡ place_from 0 n (xs ++ x ∷ [])) → ((n : HypName) → new n ≡ cond (equal_names x.name n) (place_from 0 x.name xs) (old n))
    → (n : HypName) → new n ≡ place_from 0 n xs
places_pop xs x old new was is n = is n ∙ ap (λ (b : Bool). cond b (place_from 0 x.name xs) (old n)) (names_equal x.name n) ∙ by (same_name x.name n) refl
  where
    by : (b : Bool) → same_name x.name n ≡ b → cond b (place_from 0 x.name xs) (old n) ≡ place_from 0 n xs
    by true e = ap (λ (m : HypName). place_from 0 m xs) (name_is x.name n e)
    by false e = was n ∙ place_push 0 n xs x ∙ cond-false (same_name x.name n) (Some (0 + length xs)) (place_from 0 n xs) e

pub saids_push : (hs : List Held) (h : Held) → saids (hs ++ h ∷ []) ≡ saids hs ++ h.said ∷ []
saids_push hs h = map_push (λ (x : Held). x.said) hs h

said_size-push : (xs : List Said) (x : Said) → said_size (xs ++ x ∷ []) ≡ said_size xs + x.size
said_size-push [] x = omega arith
said_size-push (y ∷ ys) x = ap (λ (n : ℕ). y.size + n) (said_size-push ys x) ∙ omega arith

capped_more : (a b : ℕ) → capped (capped a + b) ≡ capped (a + b)
capped_more a b = omega arith

-- what is kept of the fact at a place
record IsHeldAt (hs : List Held) (h : Held) (i : ℕ) : Type 0 where
  hides : h.hides ≡ place_from 0 h.said.name (take i (saids hs))
  total : h.total ≡ capped (said_size (take (i + 1) (saids hs)))

held_at : (hs : List Held) → IsStack hs → (i : ℕ) (d : Held) → i < length hs → IsHeldAt hs (get_or hs i d) i
held_at hs k i d lt = record { hides = k.hides i d lt; total = k.totals i d lt }

stack_from : (hs : List Held) → ((i : ℕ) (d : Held) → i < length hs → IsHeldAt hs (get_or hs i d) i) → IsStack hs
stack_from hs f = record { hides = λ i d lt. (f i d lt).hides; totals = λ i d lt. (f i d lt).total }

-- the first places of a longer stack
longer : (hs : List Held) (h x : Held) (i : ℕ) → i < length hs → IsHeldAt hs x i → IsHeldAt (hs ++ h ∷ []) x i
longer hs h x i lt k =
    let len : length (saids hs) ≡ length hs = length-map hs (λ (y : Held). y.said) in
    let at : (n : ℕ) → n ≤ length hs → take n (saids (hs ++ h ∷ [])) ≡ take n (saids hs) =
    λ n le. ap (take n) (saids_push hs h) ∙ take-append-le n (saids hs) (h.said ∷ []) (omega (arith, len, le)) in
    record {
      hides = k.hides ∙ ap (place_from 0 x.said.name) (sym (at i (omega (arith, lt))));
      total = k.total ∙ ap (λ (xs : List Said). capped (said_size xs)) (sym (at (i + 1) (omega (arith, lt))));
    }

shorter : (hs : List Held) (h x : Held) (i : ℕ) → i < length hs → IsHeldAt (hs ++ h ∷ []) x i → IsHeldAt hs x i
shorter hs h x i lt k =
    let len : length (saids hs) ≡ length hs = length-map hs (λ (y : Held). y.said) in
    let at : (n : ℕ) → n ≤ length hs → take n (saids (hs ++ h ∷ [])) ≡ take n (saids hs) =
    λ n le. ap (take n) (saids_push hs h) ∙ take-append-le n (saids hs) (h.said ∷ []) (omega (arith, len, le)) in
    record {
      hides = k.hides ∙ ap (place_from 0 x.said.name) (at i (omega (arith, lt)));
      total = k.total ∙ ap (λ (xs : List Said). capped (said_size xs)) (at (i + 1) (omega (arith, lt)));
    }

pub stack_push : (hs : List Held) (h : Held) → IsStack hs → h.hides ≡ place_from 0 h.said.name (saids hs) → h.total ≡ capped (capped (said_size (saids hs)) + h.said.size) → IsStack (hs ++ h ∷ [])
stack_push hs h k hides total = stack_from (hs ++ h ∷ []) (λ i d lt. at i d lt (cases_lt i (length hs)))
  where
    at : (i : ℕ) (d : Held) → i < length (hs ++ h ∷ []) → (i < length hs) ⊎ (length hs ≤ i) → IsHeldAt (hs ++ h ∷ []) (get_or (hs ++ h ∷ []) i d) i
    at i d lt (inl less) = subst (λ (x : Held). IsHeldAt (hs ++ h ∷ []) x i) (sym (get_or_append_left hs (h ∷ []) d i less)) (longer hs h (get_or hs i d) i less (held_at hs k i d less))
    at i d lt (inr le) =
        let last : length hs ≡ i = omega (arith, length_push hs h, lt, le) in
        let len : length (saids hs) ≡ i = length-map hs (λ (y : Held). y.said) ∙ last in
        subst (λ (x : Held). IsHeldAt (hs ++ h ∷ []) x i) (sym (get_or_push hs h d i last)) (record {
          hides = hides ∙ ap (place_from 0 h.said.name) (sym (ap (take i) (saids_push hs h) ∙ take-append-le i (saids hs) (h.said ∷ []) (omega (arith, len)) ∙ take_all i (saids hs) (omega (arith, len))));
          total = total ∙ capped_more (said_size (saids hs)) h.said.size ∙ ap capped (sym (said_size-push (saids hs) h.said))
              ∙ ap (λ (xs : List Said). capped (said_size xs)) (sym (ap (take (i + 1)) (saids_push hs h) ∙ take_all (i + 1) (saids hs ++ h.said ∷ []) (omega (arith, length_push (saids hs) h.said, len))));
        })

pub stack_pop : (hs : List Held) (h : Held) → IsStack (hs ++ h ∷ []) → IsStack hs
stack_pop hs h k = stack_from hs (λ i d lt.
    shorter hs h (get_or hs i d) i lt
    (subst (λ (x : Held). IsHeldAt (hs ++ h ∷ []) x i) (get_or_append_left hs (h ∷ []) d i lt) (held_at (hs ++ h ∷ []) k i d (omega (arith, length_push hs h, lt)))))

-- what the last fact of a stack hides, and all nodes
last_held : (hs : List Held) (h : Held) → IsStack (hs ++ h ∷ []) → IsHeldAt (hs ++ h ∷ []) h (length hs)
last_held hs h k = subst (λ (x : Held). IsHeldAt (hs ++ h ∷ []) x (length hs)) (get_or_push hs h h (length hs) refl) (held_at (hs ++ h ∷ []) k (length hs) h (omega (arith, length_push hs h)))

pub last_hides : (hs : List Held) (h : Held) → IsStack (hs ++ h ∷ []) → h.hides ≡ place_from 0 h.said.name (saids hs)
last_hides hs h k =
    let len : length (saids hs) ≡ length hs = length-map hs (λ (y : Held). y.said) in
    (last_held hs h k).hides ∙ ap (place_from 0 h.said.name) (ap (take (length hs)) (saids_push hs h) ∙ take-append-le (length hs) (saids hs) (h.said ∷ []) (omega (arith, len)) ∙ take_all (length hs) (saids hs) (omega (arith, len)))

-- ---- what the code knows of a stack

name_same : (a : HypName) → same_name a a ≡ true
name_same (Label m) = eq-eqb m m refl
name_same Denied = refl
name_same (At m) = eq-eqb m m refl
name_same (Low m) = eq-eqb m m refl
name_same (High m) = eq-eqb m m refl

some_not_none : (n : ℕ) → ◌≡◌ {A = Option ℕ} (Some n) None → ⊥
some_not_none n e = cc

-- the name of the last fact has a place
pub last_place : (xs : List Said) (x : Said) → place_from 0 x.name (xs ++ x ∷ []) ≡ None → ⊥
last_place xs x e =
    some_not_none (0 + length xs) (sym (cond-true (same_name x.name x.name) (Some (0 + length xs)) (place_from 0 x.name xs) (name_same x.name)) ∙ sym (place_push 0 x.name xs x) ∙ e)

pub is_ok_from : {A E : Type 0} (r : Result A E) (P : Type 0) → OnErr r P → (P → ⊥) → IsOk r
is_ok_from (Ok x) P h f = search rules
is_ok_from (Err e) P h f = absurd (f h)

pub on_ok : {A E : Type 0} (r : Result A E) (a : A) (P : Type 0) → r ≡ Ok a → OnOk r P → P
on_ok (Ok x) a P e h = h
on_ok (Err x) a P e h = absurd (cc)

pub after_push : {A E : Type 0} (r : Result (Unit {0}) E) (u : Unit {0}) (new old was : List A) (h : A) → r ≡ Ok u → new ≡ (if is_ok r then old ++ h ∷ [] else old) → old ≡ was → new ≡ was ++ h ∷ []
after_push (Ok x) u new old was h e f g = f ∙ ap (λ (hs : List _). hs ++ h ∷ []) g
after_push (Err x) u new old was h e f g = absurd (cc)

-- the fact at a place
pub said_at : (s : Stored) (hs : List Held) (i : ℕ) (d : Held) → AreSaid s (saids hs) → i < length hs → IsSaid s (get_or hs i d).said
said_at s [] i d h lt = absurd (omega (arith, lt))
said_at s (x ∷ xs) zero d h lt = h.0
said_at s (x ∷ xs) (suc i) d h lt = said_at s xs i d h.1 (omega (arith, lt))
