-- What is at hand when names and tokens come and go.
use Rattle.std.proofs.Common.{◌≡◌, ℕ, suc, ◌-◌, ◌+◌, ◌*◌, ◌%◌, ◌/◌, ◌<◌, ◌≤◌, Bool, true, false, ◌||◌, ◌&&◌, nat_eq, nat_lt, if◌then◌else◌, List, [], ◌∷◌, ◌++◌, length, Option, Some, None, option_map, refl, sym, ap, ◌∙◌, subst, arith}
use Rattle.std.specs.Prelude.{slice_get, unwrap_or, is_some}
use Rattle.std.proofs.lemmas.Bool.{eqb-true, eq-eqb, le-ltb, lt-ltb, ltb-false, ltb-true}
use Rattle.std.proofs.lemmas.List.{get_or_append_left, length_push}
use Rattle.std.proofs.Math.Dec.{eqb-suc-zero}
use Rattle.std.proofs.Math.Seq.{get_or-append_seam}
use Rattle.std.proofs.lemmas.Option.{slice_get-get_or, same_Some}
use Rattle.sync_terms.specs.declared.nodes.TermId.{TermId}
use Rattle.sync_terms.specs.Stored.{Stored, tree, IsTerm}
use Rattle.sync_terms.specs.Trees.{Tree, Name}
use Rattle.sync_thread.specs.Arrays.{name_limit}
use Rattle.sync_thread_machine.specs.ProgramSymbols.{first_fresh, held_of}
use Rattle.sync_base.specs.Outcome.{first}
use Rattle.sync_typing.specs.Environments.{Env, TokenTree, held_value, is_at_hand, said, stands, token_named}
use Rattle.sync_typing.specs.Keeps.{renewed}
use Rattle.sync_typing_ledgers.specs.declared.ledgers.Place.{Place}
use Rattle.sync_typing_ledgers.specs.Entries.{Kept, found_at, newest}
use Rattle.sync_typing_reading.specs.declared.sayings.Saying.{Saying}
use Rattle.sync_typing_reading.specs.declared.sayings.Saying.TheVariants as says
use Rattle.sync_typing_reading.specs.Sayings.{said_in, said_tree, stands_in, tree_in, AreSaidOf}
use Rattle.sync_typing_places.specs.declared.hands.Token.{Token}
use Rattle.sync_typing_places.specs.declared.hands.Hand.{Hand}
use Rattle.sync_typing_places.specs.Hands.{held_said, is_at_hand_in, is_said, placed, token_at, token_in, token_tree, value_of, with_name, with_said, with_token, Holds, IsHandOf, IsWhole, MayName}
use Rattle.sync_typing_places.proofs.Saying.{of_if, tree_more, raised, saying_of, said_more, below_all, tree_renewed, held_renewed, term_renewed}

-- ---- symbols

pub turned : (m n : ℕ) → nat_eq m n ≡ nat_eq n m
turned m n = by (nat_eq m n) (nat_eq n m) refl refl
  where
    by : (a b : Bool) → nat_eq m n ≡ a → nat_eq n m ≡ b → a ≡ b
    by true true e f = refl
    by false false e f = refl
    by true false e f = sym (eq-eqb n m (sym (eqb-true m n e))) ∙ f
    by false true e f = sym (sym (eq-eqb m n (sym (eqb-true n m f))) ∙ e)

not_same : (m n : ℕ) → (m ≡ n → ⊥) → nat_eq m n ≡ false
not_same m n other = by (nat_eq m n) refl
  where
    by : (b : Bool) → nat_eq m n ≡ b → nat_eq m n ≡ false
    by true e = absurd (other (eqb-true m n e))
    by false e = e

-- the symbol of a token below the limit of names
pub held_named : (n : ℕ) → n < name_limit → token_named (held_of n) ≡ Some n
held_named n small =
    let k : n < 1048576 = small in
    let a : nat_lt 63 (suc (suc (64 + 4 * n))) ≡ true = lt-ltb 63 (suc (suc (64 + 4 * n))) (omega arith) in
    let b : nat_lt (suc (suc (64 + 4 * n))) first_fresh ≡ true = lt-ltb (suc (suc (64 + 4 * n))) 4194368 (omega (arith, k)) in
    let c : nat_eq (suc (suc (64 + 4 * n)) % 4) 2 ≡ true = eq-eqb (suc (suc (64 + 4 * n)) % 4) 2 (omega arith) in
    let d : (suc (suc (64 + 4 * n)) - 66) / 4 ≡ n = omega arith in
    (λ i. if a i && (b i && c i) then Some ((suc (suc (64 + 4 * n)) - 66) / 4) else None) ∙ ap (λ (m : ℕ). Some m) d

-- what a token's symbol is
pub record IsHeld (x n : ℕ) : Type 0 where
  pub far : 63 < x
  pub two : x % 4 ≡ 2
  pub symbol : x ≡ held_of n
  pub small : n < name_limit

named_is : (x n : ℕ) (a b c : Bool) → nat_lt 63 x ≡ a → nat_lt x first_fresh ≡ b → nat_eq (x % 4) 2 ≡ c
    → (if a && (b && c) then Some ((x - 66) / 4) else None) ≡ Some n → IsHeld x n
named_is x n true true true e f g is =
    let far : 63 < x = ltb-true 63 x e in
    let below : x < 4194368 = ltb-true x 4194368 f in
    let two : x % 4 ≡ 2 = eqb-true (x % 4) 2 g in
    let number : (x - 66) / 4 ≡ n = same_Some ((x - 66) / 4) n is in
    record {
      far = far;
      two = two;
      symbol = (let it : x ≡ suc (suc (64 + 4 * n)) = omega (arith, far, two, number) in it);
      small = (let it : n < 1048576 = omega (arith, far, two, number, below) in it);
    }
named_is x n true true false e f g is = absurd (cc)
named_is x n true false c e f g is = absurd (cc)
named_is x n false b c e f g is = absurd (cc)

pub is_held : (x n : ℕ) → token_named x ≡ Some n → IsHeld x n
is_held x n is = named_is x n (nat_lt 63 x) (nat_lt x first_fresh) (nat_eq (x % 4) 2) refl refl refl is

-- a symbol like that of a token is one, or is new
unnamed : (y : ℕ) → token_named y ≡ None → nat_lt y 64 ≡ false → nat_eq (y % 4) 2 ≡ true → first_fresh ≤ y
unnamed y none far two = by (nat_lt y first_fresh) refl
  where
    by : (b : Bool) → nat_lt y first_fresh ≡ b → first_fresh ≤ y
    by true e =
        let a : nat_lt 63 y ≡ true = lt-ltb 63 y (let f : 64 ≤ y = ltb-false y 64 far in omega (arith, f)) in absurd (cc)
    by false e = ltb-false y first_fresh e

-- ---- a name

-- a hand with the same tokens has the same at hand
same_token : (s : Stored) (h new : Hand) → new.places ≡ h.places → new.tokens.items ≡ h.tokens.items → (n : ℕ)
    → token_in s new n ≡ token_in s h n
same_token s h new places tokens n i =
    option_map (token_tree s) (placed (tokens i) (option_map (found_at (places i).floor) (newest n (places i).entries)))

module _ (s : Stored) (h new : Hand) (terms : ℕ → Option Tree) (hand : ℕ → Option TokenTree) (whole : IsWhole h) (holds : Holds s h terms hand) where
  pub holds_named : (x : ℕ) (t : TermId) → MayName x → new.names ≡ with_said h.names x (Some t)
      → new.places ≡ h.places → new.tokens.items ≡ h.tokens.items → Holds s new (with_name x (tree s t) terms) hand
  holds_named x t may named places tokens = record {
    names = λ y none. ap (λ (k : Kept). tree_in s k y) named ∙ tree_more s h.names x (Some t) whole.names y
        ∙ (let a = turned x y in let b = holds.names y none in λ i. if a i then Some (tree s t) else b i);
    held = λ y n is. ap (λ (k : Kept). tree_in s k y) named ∙ tree_more s h.names x (Some t) whole.names y
        ∙ ap (λ (b : Bool). if b then Some (tree s t) else tree_in s h.names y) (not_same x y (other y n is)) ∙ holds.held y n is;
    no_token = λ y n is. ap (λ (b : Bool). if b then Some (tree s t) else terms y) (turned y x ∙ not_same x y (other y n is)) ∙ holds.no_token y n is;
    few = λ y far. ap (λ (b : Bool). if b then Some (tree s t) else terms y) (not_same y x (new_one y far)) ∙ holds.few y far;
    at_hand = λ n. same_token s h new places tokens n ∙ holds.at_hand n;
  }
    where
      other : (y n : ℕ) → token_named y ≡ Some n → x ≡ y → ⊥
      other y n is e = let f : token_named x ≡ None = may.no_token in let g : token_named x ≡ Some n = ap token_named e ∙ is in cc

      new_one : (y : ℕ) → first_fresh ≤ y → y ≡ x → ⊥
      new_one y far e = let f : x < 4194368 = may.few in let g : 4194368 ≤ y = far in absurd (omega (arith, e, f, g))

-- ---- a token comes or goes

-- the tokens and a place's value, where a token comes or goes
abbrev pub items_with : List Token → Option Token → List Token
items_with ts None = ts
items_with ts (Some t) = ts ++ t ∷ []

abbrev pub place_of : List Token → Option Token → ℕ
place_of ts None = 0
place_of ts (Some t) = suc (length ts)

seen_token : (ts : List Token) (t : Option Token)
    → placed (items_with ts t) (Some (record { value = place_of ts t; is_below = false })) ≡ t
seen_token ts None = refl
seen_token ts (Some t) =
    let n : suc (length ts) - 1 ≡ length ts = omega arith in
    let within : length ts < length (ts ++ t ∷ []) = (let e = length_push ts t in omega (arith, e)) in
    ap (λ (z : Bool). if z || false then None else slice_get (ts ++ t ∷ []) (suc (length ts) - 1)) (eqb-suc-zero (length ts))
    ∙ ap (λ m. slice_get (ts ++ t ∷ []) m) n
    ∙ slice_get-get_or (ts ++ t ∷ []) (length ts) t within ∙ ap (λ (u : Token). Some u) (get_or-append_seam ts t [] t)

kept_at : (ts : List Token) (t : Token) (n : ℕ) → n < length ts → slice_get (ts ++ t ∷ []) n ≡ slice_get ts n
kept_at ts t n within =
    let more : n < length (ts ++ t ∷ []) = (let e = length_push ts t in omega (arith, e, within)) in
    slice_get-get_or (ts ++ t ∷ []) n t more ∙ ap (λ (u : Token). Some u) (get_or_append_left ts (t ∷ []) t n within)
    ∙ sym (slice_get-get_or ts n t within)

-- the other tokens stay
kept_placed : (ts : List Token) (t : Option Token) (floor : ℕ) (o : Option Place)
    → ((p : Place) → o ≡ Some p → p.value ≤ length ts)
    → placed (items_with ts t) (option_map (found_at floor) o) ≡ placed ts (option_map (found_at floor) o)
kept_placed ts None floor o fits = refl
kept_placed ts (Some t) floor None fits = refl
kept_placed ts (Some t) floor (Some p) fits = by (nat_eq p.value 0) (nat_lt p.at floor) refl
  where
    by : (z b : Bool) → nat_eq p.value 0 ≡ z
        → (if z || b then None else slice_get (ts ++ t ∷ []) (p.value - 1)) ≡ (if z || b then None else slice_get ts (p.value - 1))
    by true b e = refl
    by false true e = refl
    by false false e =
        kept_at ts t (p.value - 1)
        (let some : p.value ≡ 0 → ⊥ = (λ f. let g : nat_eq p.value 0 ≡ true = eq-eqb p.value 0 f in let no : true ≡ false = sym g ∙ e in cc) in
        let most : p.value ≤ length ts = fits p refl in omega (arith, some, most))

abbrev new_place : Hand → Option Token → Place
new_place h t = record { at = length h.places.entries; value = place_of h.tokens.items t }

-- the tokens at hand behind a token that comes or goes
token_then : (h : Hand) (n : ℕ) (t : Option Token) (m : ℕ) → IsWhole h
    → placed (items_with h.tokens.items t) (option_map (found_at h.places.floor) (if nat_eq n m then Some (new_place h t) else newest m h.places.entries))
    ≡ (if nat_eq m n then t else token_at h m)
token_then h n t m whole =
    of_if (λ (o : Option Place). placed (items_with h.tokens.items t) (option_map (found_at h.places.floor) o)) (nat_eq n m) (Some (new_place h t)) (newest m h.places.entries)
    ∙ (let a = turned n m in
    let b : placed (items_with h.tokens.items t) (Some (found_at h.places.floor (new_place h t))) ≡ t =
    ap (λ (c : Bool). placed (items_with h.tokens.items t) (Some (record { value = place_of h.tokens.items t; is_below = c })))
    (le-ltb (length h.places.entries) h.places.floor whole.places) ∙ seen_token h.tokens.items t in
    let c = kept_placed h.tokens.items t h.places.floor (newest m h.places.entries) (λ p e. whole.placed m p e) in
    λ i. if a i then b i else c i)

none_renewed : (terms : ℕ → Option Tree) (y : ℕ) → terms y ≡ None → renewed terms y ≡ None
none_renewed terms y none =
    ap (λ (t : Option Tree). if nat_lt y 64 then t else option_map (λ (u : Tree). Name y) t) none ∙ either (nat_lt y 64)
  where
    either : (b : Bool) → ◌≡◌ {A = Option Tree} (if b then None else None) None
    either true = refl
    either false = refl

gone_below : (z : Bool) (ts : List Token) (v : ℕ) → (if z || true then None else slice_get ts (v - 1)) ≡ None
gone_below true ts v = refl
gone_below false ts v = refl

-- below the floor no token is at hand
none_below : (ts : List Token) (k : Kept) (n : ℕ) (o : Option Place) → newest n k.entries ≡ o
    → placed ts (option_map (found_at (length k.entries)) (newest n k.entries)) ≡ None
none_below ts k n None e = ap (λ (o : Option Place). placed ts (option_map (found_at (length k.entries)) o)) e
none_below ts k n (Some p) e =
    ap (λ (o : Option Place). placed ts (option_map (found_at (length k.entries)) o)) e
    ∙ ap (λ (b : Bool). placed ts (Some (record { value = p.value; is_below = b }))) (below_all k n p e)
    ∙ gone_below (nat_eq p.value 0) ts p.value

module _ (s : Stored) (h new : Hand) (terms : ℕ → Option Tree) (hand : ℕ → Option TokenTree) (whole : IsWhole h) (holds : Holds s h terms hand) where
  -- what names say with what `held` of a token says
  held_other : (n : ℕ) (v : Option TermId) (y : ℕ) → (n < name_limit → held_of n ≡ y → ⊥)
      → tree_in s (held_said n v h.names) y ≡ tree_in s h.names y
  held_other n v y other = by (nat_lt n name_limit) refl
    where
      by : (b : Bool) → nat_lt n name_limit ≡ b
          → tree_in s (if b then with_said h.names (held_of n) v else h.names) y ≡ tree_in s h.names y
      by true e =
          tree_more s h.names (held_of n) v whole.names y
          ∙ ap (λ (b : Bool). if b then option_map (tree s) v else tree_in s h.names y)
          (not_same (held_of n) y (other (ltb-true n name_limit e)))
      by false e = refl

  held_same : (n : ℕ) (v : Option TermId) → n < name_limit
      → tree_in s (held_said n v h.names) (held_of n) ≡ option_map (tree s) v
  held_same n v small =
      ap (λ (b : Bool). tree_in s (if b then with_said h.names (held_of n) v else h.names) (held_of n)) (lt-ltb n name_limit small)
      ∙ tree_more s h.names (held_of n) v whole.names (held_of n)
      ∙ ap (λ (b : Bool). if b then option_map (tree s) v else tree_in s h.names (held_of n)) (eq-eqb (held_of n) (held_of n) refl)

  value_is : (t : Option Token)
      → option_map (tree s) (option_map (λ (u : Token). u.value) t) ≡ option_map value_of (option_map (token_tree s) t)
  value_is None = refl
  value_is (Some t) = refl

  held_then : (n : ℕ) (t : Option Token) (y m : ℕ) → token_named y ≡ Some m → IsHeld y m → (b : Bool) → nat_eq m n ≡ b
      → tree_in s (held_said n (option_map (λ (u : Token). u.value) t) h.names) y
      ≡ option_map value_of (if b then option_map (token_tree s) t else hand m)
  held_then n t y m is it true e =
      let same : m ≡ n = eqb-true m n e in
      let symbol : y ≡ held_of n = it.symbol ∙ ap held_of same in
      ap (tree_in s (held_said n (option_map (λ (u : Token). u.value) t) h.names)) symbol
      ∙ held_same n (option_map (λ (u : Token). u.value) t) (subst (λ (k : ℕ). k < name_limit) same it.small) ∙ value_is t
  held_then n t y m is it false e =
      held_other n (option_map (λ (u : Token). u.value) t) y
      (λ small f. (let g : token_named y ≡ Some n = sym (ap token_named f) ∙ held_named n small in
      let k : m ≡ n = same_Some m n (sym is ∙ g) in
      let no : true ≡ false = sym (eq-eqb m n k) ∙ e in cc))
      ∙ holds.held y m is

  pub holds_token : (n : ℕ) (t : Option Token) → new.names ≡ held_said n (option_map (λ (u : Token). u.value) t) h.names
      → new.places ≡ record h.places { entries = record { key = n; value = place_of h.tokens.items t } ∷ h.places.entries }
      → new.tokens.items ≡ items_with h.tokens.items t
      → Holds s new terms (with_token n (option_map (token_tree s) t) hand)
  holds_token n t named places tokens = record {
    names = λ y none. ap (λ (k : Kept). tree_in s k y) named
        ∙ held_other n (option_map (λ (u : Token). u.value) t) y
        (λ small e. (let f : token_named y ≡ Some n = sym (ap token_named e) ∙ held_named n small in cc)) ∙ holds.names y none;
    held = λ y m is. ap (λ (k : Kept). tree_in s k y) named ∙ held_then n t y m is (is_held y m is) (nat_eq m n) refl;
    no_token = holds.no_token;
    few = holds.few;
    at_hand = λ m. (λ i. option_map (token_tree s) (placed (tokens i) (option_map (found_at (places i).floor) (newest m (places i).entries))))
        ∙ ap (option_map (token_tree s)) (token_then h n t m whole)
        ∙ of_if (option_map (token_tree s)) (nat_eq m n) t (token_at h m)
        ∙ ap (λ (o : Option TokenTree). if nat_eq m n then option_map (token_tree s) t else o) (holds.at_hand m);
  }

  -- ---- after a keep

  pub holds_renewed : new.names ≡ raised h.names → new.places ≡ raised h.places → new.tokens.items ≡ h.tokens.items
      → Holds s new (renewed terms) (λ n. None)
  holds_renewed named places tokens = record {
    names = λ y none. ap (λ (k : Kept). tree_in s k y) named
        ∙ tree_renewed s h.names y terms (holds.names y none) (λ far two. holds.few y (unnamed y none far two));
    held = λ y n is. ap (λ (k : Kept). tree_in s k y) named
        ∙ (let it = is_held y n is in
        let f : 64 ≤ y = (let g : 63 < y = it.far in omega (arith, g)) in held_renewed s h.names y (le-ltb y 64 f) (eq-eqb (y % 4) 2 it.two));
    no_token = λ y n is. none_renewed terms y (holds.no_token y n is);
    few = λ y far. none_renewed terms y (holds.few y far);
    at_hand = λ n. (λ i. option_map (token_tree s) (placed (tokens i) (option_map (found_at (places i).floor) (newest n (places i).entries))))
        ∙ ap (option_map (token_tree s)) (none_below h.tokens.items h.places n (newest n h.places.entries) refl);
  }

-- ---- what symbols stand for

first_some : (a b c : Option Tree) → a ≡ b → c ≡ None → a ≡ first b c
first_some None None c is none = sym none
first_some None (Some t) c is none = absurd (cc)
first_some (Some t) None c is none = absurd (cc)
first_some (Some t) (Some u) c is none = is

pub said_is : (s : Stored) (h : Hand) (e : Env) → Holds s h e.terms e.hand → (x : ℕ) → tree_in s h.names x ≡ said e x
said_is s h e holds x = by (token_named x) refl
  where
    by : (o : Option ℕ) → token_named x ≡ o → tree_in s h.names x ≡ said e x
    by None is =
        first_some (tree_in s h.names x) (e.terms x) (held_value e.hand (token_named x)) (holds.names x is) (ap (held_value e.hand) is)
    by (Some n) is =
        holds.held x n is
        ∙ (let a = holds.no_token x n is in λ i. first (sym a i) (held_value e.hand (sym is i)))

pub stands_is : (s : Stored) (h : Hand) (e : Env) → Holds s h e.terms e.hand → stands_in s h.names ≡ stands e
stands_is s h e holds i x = unwrap_or (said_is s h e holds x i) (Name x)

said_some : (s : Stored) (x : ℕ) (w : Saying) → is_said w ≡ is_some (said_tree s x w)
said_some s x says.Nothing = refl
said_some s x says.Itself = refl
said_some s x (says.Term t) = refl

pub at_hand_is : (s : Stored) (h : Hand) (e : Env) → Holds s h e.terms e.hand → is_at_hand_in h.names ≡ is_at_hand e
at_hand_is s h e holds i x = nat_lt x 64 || (said_some s x (said_in h.names x) ∙ ap is_some (said_is s h e holds x)) i

-- ---- the parts fit together

within_choice : (b : Bool) (h : Place) (o : Option Place) (p : Place) (n : ℕ) → (if b then Some h else o) ≡ Some p
    → h.value ≤ n → (o ≡ Some p → p.value ≤ n) → p.value ≤ n
within_choice true h o p n is new old = subst (λ (q : Place). q.value ≤ n) (same_Some h p is) new
within_choice false h o p n is new old = old is

grown : (ts : List Token) (t : Option Token) → length ts ≤ length (items_with ts t) × place_of ts t ≤ length (items_with ts t)
grown ts None = (omega arith, omega arith)
grown ts (Some t) = let e = length_push ts t in (omega (arith, e), omega (arith, e))

module _ (h new : Hand) (whole : IsWhole h) where
  pub whole_named : (x : ℕ) (t : Option TermId) → new.names ≡ with_said h.names x t → new.places ≡ h.places
      → new.tokens.items ≡ h.tokens.items → IsWhole new
  whole_named x t named places tokens = record {
    names = subst (λ (k : Kept). k.floor ≤ length k.entries) (sym named)
        (let f = whole.names in let g : h.names.floor ≤ suc (length h.names.entries) = omega (arith, f) in g);
    places = subst (λ (k : Kept). k.floor ≤ length k.entries) (sym places) whole.places;
    placed = λ n p is. subst (λ (ts : List Token). p.value ≤ length ts) (sym tokens)
        (whole.placed n p (ap (λ (k : Kept). newest n k.entries) (sym places) ∙ is));
  }

  held_fits : (n : ℕ) (v : Option TermId) (b : Bool)
      → (if b then with_said h.names (held_of n) v else h.names).floor ≤ length (if b then with_said h.names (held_of n) v else h.names).entries
  held_fits n v true = let f = whole.names in let g : h.names.floor ≤ suc (length h.names.entries) = omega (arith, f) in g
  held_fits n v false = whole.names

  pub whole_token : (n : ℕ) (t : Option Token) → new.names ≡ held_said n (option_map (λ (u : Token). u.value) t) h.names
      → new.places ≡ record h.places { entries = record { key = n; value = place_of h.tokens.items t } ∷ h.places.entries }
      → new.tokens.items ≡ items_with h.tokens.items t → IsWhole new
  whole_token n t named places tokens = record {
    names = subst (λ (k : Kept). k.floor ≤ length k.entries) (sym named)
        (held_fits n (option_map (λ (u : Token). u.value) t) (nat_lt n name_limit));
    places = subst (λ (k : Kept). k.floor ≤ length k.entries) (sym places)
        (let f = whole.places in let g : h.places.floor ≤ suc (length h.places.entries) = omega (arith, f) in g);
    placed = λ m p is. subst (λ (ts : List Token). p.value ≤ length ts) (sym tokens)
        (within_choice (nat_eq n m) (record { at = length h.places.entries; value = place_of h.tokens.items t }) (newest m h.places.entries) p (length (items_with h.tokens.items t))
        (ap (λ (k : Kept). newest m k.entries) (sym places) ∙ is) (grown h.tokens.items t).1
        (λ e. let f = whole.placed m p e in let g = (grown h.tokens.items t).0 in omega (arith, f, g)));
  }

  pub whole_renewed : new.names ≡ raised h.names → new.places ≡ raised h.places → new.tokens.items ≡ h.tokens.items → IsWhole new
  whole_renewed named places tokens = record {
    names = subst (λ (k : Kept). k.floor ≤ length k.entries) (sym named) (let g : length h.names.entries ≤ length h.names.entries = omega arith in g);
    places = subst (λ (k : Kept). k.floor ≤ length k.entries) (sym places) (let g : length h.places.entries ≤ length h.places.entries = omega arith in g);
    placed = λ n p is. subst (λ (ts : List Token). p.value ≤ length ts) (sym tokens)
        (whole.placed n p (ap (λ (k : Kept). newest n k.entries) (sym places) ∙ is));
  }

-- ---- the terms are those of a store

same_term : (a t : TermId) → says.Term a ≡ says.Term t → a ≡ t
same_term a t e = cc

said_choice : (s : Stored) (b : Bool) (v : Option TermId) (w : Saying) (t : TermId)
    → (if b then saying_of v else w) ≡ says.Term t → ((a : TermId) → v ≡ Some a → IsTerm s a)
    → (w ≡ says.Term t → IsTerm s t) → IsTerm s t
said_choice s true None w t is new old = absurd (cc)
said_choice s true (Some a) w t is new old = subst (λ (b : TermId). IsTerm s b) (same_term a t is) (new a refl)
said_choice s false v w t is new old = old is

module _ (s : Stored) (h new : Hand) (whole : IsWhole h) (ids : IsHandOf s h) where
  -- one more term that is said
  said_then : (x : ℕ) (v : Option TermId) → ((a : TermId) → v ≡ Some a → IsTerm s a) → AreSaidOf s (with_said h.names x v)
  said_then x v stored y t is =
      said_choice s (nat_eq x y) v (said_in h.names y) t (sym (said_more h.names x v whole.names y) ∙ is) stored (ids.said y t)

  pub ids_named : (x : ℕ) (t : TermId) → IsTerm s t → new.names ≡ with_said h.names x (Some t) → new.places ≡ h.places
      → new.tokens.items ≡ h.tokens.items → IsHandOf s new
  ids_named x t stored named places tokens = record {
    said = subst (AreSaidOf s) (sym named)
        (said_then x (Some t) (λ a e. subst (λ (b : TermId). IsTerm s b) (same_Some t a e) stored));
    tokens = λ n u is. ids.tokens n u
        ((λ i. placed (sym tokens i) (option_map (found_at (sym places i).floor) (newest n (sym places i).entries))) ∙ is);
  }

  held_stored : (n : ℕ) (v : Option TermId) → ((a : TermId) → v ≡ Some a → IsTerm s a) → (b : Bool)
      → AreSaidOf s (if b then with_said h.names (held_of n) v else h.names)
  held_stored n v stored true = said_then (held_of n) v stored
  held_stored n v stored false = ids.said

  value_stored : (t : Option Token) → ((u : Token) → t ≡ Some u → IsTerm s u.key × IsTerm s u.value) → (a : TermId)
      → option_map (λ (u : Token). u.value) t ≡ Some a → IsTerm s a
  value_stored None stored a is = absurd (cc)
  value_stored (Some u) stored a is = subst (λ (b : TermId). IsTerm s b) (same_Some u.value a is) (stored u refl).1

  token_choice : (b : Bool) (t o : Option Token) (u : Token) → (if b then t else o) ≡ Some u
      → ((u : Token) → t ≡ Some u → IsTerm s u.key × IsTerm s u.value)
      → (o ≡ Some u → IsTerm s u.key × IsTerm s u.value) → IsTerm s u.key × IsTerm s u.value
  token_choice true t o u is stored old = stored u is
  token_choice false t o u is stored old = old is

  pub ids_token : (n : ℕ) (t : Option Token) → ((u : Token) → t ≡ Some u → IsTerm s u.key × IsTerm s u.value)
      → new.names ≡ held_said n (option_map (λ (u : Token). u.value) t) h.names
      → new.places ≡ record h.places { entries = record { key = n; value = place_of h.tokens.items t } ∷ h.places.entries }
      → new.tokens.items ≡ items_with h.tokens.items t → IsHandOf s new
  ids_token n t stored named places tokens = record {
    said = subst (AreSaidOf s) (sym named)
        (held_stored n (option_map (λ (u : Token). u.value) t) (value_stored t stored) (nat_lt n name_limit));
    tokens = λ m u is. token_choice (nat_eq m n) t (token_at h m) u
        (sym (token_then h n t m whole)
        ∙ (λ i. placed (sym tokens i) (option_map (found_at (sym places i).floor) (newest m (sym places i).entries))) ∙ is)
        stored (ids.tokens m u);
  }

pub ids_renewed : (s : Stored) (h new : Hand) → IsHandOf s h → new.names ≡ raised h.names → new.places ≡ raised h.places
    → IsHandOf s new
ids_renewed s h new ids named places = record {
  said = subst (AreSaidOf s) (sym named) (λ y t is. ids.said y t (term_renewed h.names y t is));
  tokens = λ n u is. absurd
      (let none : token_at new n ≡ None =
      (λ i. placed new.tokens.items (option_map (found_at (places i).floor) (newest n (places i).entries)))
      ∙ none_below new.tokens.items h.places n (newest n h.places.entries) refl in
      let no : None ≡ Some u = sym none ∙ is in cc);
}
