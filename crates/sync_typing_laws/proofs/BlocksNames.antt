-- The names that `open` gives to the values of a word's names.
use Rattle.std.specs.Prelude.{◌≡◌, ℕ, suc, ℤ, pos, ◌+◌, ◌-◌, ◌<◌, ◌≤◌, Bool, true, false, ◌||◌, not, if◌then◌else◌, nat_eq, nat_lt, List, [], ◌∷◌, length, map, slice_index_or, Option, Some, None, ◌⊎◌}
use Rattle.std.specs.List.{list_all, list_any, AllByRecursion}
use Rattle.std.proofs.Common.{inl, inr, arith}
use Rattle.std.proofs.lemmas.Bool.{lt-ltb, le-ltb, eqb-true, and_parts, false_from_ne_true}
use Rattle.sync_terms.specs.Symbols.{name_symbol}
use Rattle.sync_terms.specs.Trees.{Tree}
use Rattle.sync_terms.specs.Values.{Valuation, num}
use Rattle.sync_machine.specs.Naming.{is_in}
use Rattle.sync_rules.specs.Locality.{names_only}
use Rattle.sync_thread_meaning.specs.Shares.{given_to}
use Rattle.sync_typing.specs.Blocks.{new_symbols, name_all}
use Rattle.sync_typing.specs.Dues.{are_apart}
use Rattle.sync_typing.specs.Environments.{Env, name_as}
use Rattle.sync_typing.specs.Names.{is_name, are_names}
use Rattle.sync_typing_laws.proofs.BlocksWord.{symbol_eq}
use Rattle.sync_typing_laws.specs.Rests.{AgreeBelow}
use mathlib.Core.Path.{refl, sym, ap, subst, ◌∙◌}

-- ---- symbols that are new stand for these values

abbrev pub with_new : ℕ → List ℤ → Valuation → Valuation
with_new n values v = record { number = λ y. if nat_lt y n then v.number y else slice_index_or values (y - n) (pos 0); mapping = v.mapping }

pub new_agrees : (n : ℕ) (values : List ℤ) (v : Valuation) → AgreeBelow n v (with_new n values v)
new_agrees n values v = record {
  numbers = λ y l. (let a = lt-ltb y n l in ap (λ (b : Bool). if b then v.number y else slice_index_or values (y - n) (pos 0)) (sym a));
  maps = λ y l. refl;
}

new_number : (n : ℕ) (values : List ℤ) (v : Valuation) (j : ℕ) → (with_new n values v).number (n + j) ≡ slice_index_or values j (pos 0)
new_number n values v j =
    let a : nat_lt (n + j) n ≡ false = le-ltb (n + j) n (omega (arith)) in
    let b : (n + j) - n ≡ j = omega (arith) in
    ap (λ (z : Bool). if z then v.number (n + j) else slice_index_or values ((n + j) - n) (pos 0)) a ∙ ap (λ k. slice_index_or values k (pos 0)) b

symbols_from : (w : Valuation) (k : ℕ) (names : List ℕ) (values : List ℤ) → length names ≡ length values → ((j : ℕ) → w.number (k + j) ≡ slice_index_or values j (pos 0)) → map (num w) (new_symbols k names) ≡ values
symbols_from w k [] [] len is = refl
symbols_from w k [] (z ∷ zs) len is = absurd (omega (arith))
symbols_from w k (n ∷ ns) [] len is = absurd (omega (arith))
symbols_from w k (n ∷ ns) (z ∷ zs) len is =
    let a : w.number k ≡ z = (let b : k + 0 ≡ k = omega (arith) in ap w.number (sym b) ∙ is 0) in
    let b : map (num w) (new_symbols (suc k) ns) ≡ zs = symbols_from w (suc k) ns zs (omega (arith)) (λ j. let c : suc k + j ≡ k + suc j = omega (arith) in ap w.number c ∙ is (suc j)) in
    ap (λ y. y ∷ map (num w) (new_symbols (suc k) ns)) a ∙ ap (λ ys. z ∷ ys) b

pub new_values : (n : ℕ) (values : List ℤ) (v : Valuation) (names : List ℕ) → length names ≡ length values → map (num (with_new n values v)) (new_symbols n names) ≡ values
new_values n values v names len = symbols_from (with_new n values v) n names values len (new_number n values v)

pub length_new : (n : ℕ) (names : List ℕ) → length (new_symbols n names) ≡ length names
length_new n [] = refl
length_new n (m ∷ ms) = ap suc (length_new (suc n) ms)

-- none of them is beyond the next free one
pub new_below : (k top : ℕ) (names : List ℕ) → k + length names ≤ top → list_all (names_only (λ y. nat_lt y top)) (new_symbols k names) ≡ true
unfolding names_only
new_below k top [] l = refl
new_below k top (m ∷ ms) l =
    let r : suc (length ms) ≡ length (m ∷ ms) = refl in
    let a : nat_lt k top ≡ true = lt-ltb k top (omega (arith)) in
    let b = new_below (suc k) top ms (omega (arith)) in rw (a, b) refl

-- ---- what names stand for then

pub named_hand : (names : List ℕ) (ts : List Tree) (e : Env) → (name_all names ts e).hand ≡ e.hand
named_hand [] ts e = refl
named_hand (n ∷ ns) [] e = refl
named_hand (n ∷ ns) (t ∷ ts) e = named_hand ns ts (name_as (name_symbol n) t e)

pub named_facts : (names : List ℕ) (ts : List Tree) (e : Env) → (name_all names ts e).facts ≡ e.facts
named_facts [] ts e = refl
named_facts (n ∷ ns) [] e = refl
named_facts (n ∷ ns) (t ∷ ts) e = named_facts ns ts (name_as (name_symbol n) t e)

pub named_fresh : (names : List ℕ) (ts : List Tree) (e : Env) → (name_all names ts e).fresh ≡ e.fresh
named_fresh [] ts e = refl
named_fresh (n ∷ ns) [] e = refl
named_fresh (n ∷ ns) (t ∷ ts) e = named_fresh ns ts (name_as (name_symbol n) t e)

-- symbols below those of names are not touched
pub named_low : (names : List ℕ) (ts : List Tree) (e : Env) (y : ℕ) → y < 64 → (name_all names ts e).terms y ≡ e.terms y
named_low [] ts e y l = refl
named_low (n ∷ ns) [] e y l = refl
named_low (n ∷ ns) (t ∷ ts) e y l =
    let a : nat_eq y (name_symbol n) ≡ false = false_from_ne_true (nat_eq y (name_symbol n)) (λ f. let g : y ≡ name_symbol n = eqb-true y (name_symbol n) f in omega (arith)) in
    named_low ns ts (name_as (name_symbol n) t e) y l ∙ ap (λ (b : Bool). if b then Some t else e.terms y) a

in_given : (w : Valuation) (ns : List ℕ) (ts : List Tree) (y : ℕ) (i : ℤ) → given_to ns (map (num w) ts) y ≡ Some i → not (list_any (nat_eq y) ns) ≡ true → ⊥
in_given w [] ts y i g out = cc
in_given w (m ∷ ms) [] y i g out = cc
in_given w (m ∷ ms) (t ∷ ts) y i g out = on (nat_eq y m) (in_given w ms ts y i) g out where
  on : (b : Bool) → (given_to ms (map (num w) ts) y ≡ Some i → not (list_any (nat_eq y) ms) ≡ true → ⊥) → (if b then Some (num w t) else given_to ms (map (num w) ts) y) ≡ Some i → not (b || list_any (nat_eq y) ms) ≡ true → ⊥
  on true later g out = cc
  on false later g out = later g out

-- a name stands for its new term where it is one of these, else for what it stood for
pub named_cases : (w : Valuation) (names : List ℕ) (ts : List Tree) (e : Env) → length names ≡ length ts → are_apart names ≡ true → (y : ℕ) (u : Tree) → (name_all names ts e).terms (name_symbol y) ≡ Some u
    → (given_to names (map (num w) ts) y ≡ Some (num w u)) ⊎ ((given_to names (map (num w) ts) y ≡ None) × (is_in y names ≡ false) × (e.terms (name_symbol y) ≡ Some u))
named_cases w [] [] e len apart y u is = inr (refl, refl, is)
named_cases w [] (t ∷ ts) e len apart y u is = absurd (omega (arith))
named_cases w (n ∷ ns) [] e len apart y u is = absurd (omega (arith))
named_cases w (n ∷ ns) (t ∷ ts) e len apart y u is = tested (nat_eq y n) refl (named_cases w ns ts (name_as (name_symbol n) t e) (omega (arith)) p.1 y u is) where
  p : (not (list_any (nat_eq n) ns) ≡ true) × (are_apart ns ≡ true)
  p = and_parts (not (list_any (nat_eq n) ns)) (are_apart ns) apart

  given : ℕ → Option ℤ
  given z = given_to ns (map (num w) ts) z

  tested : (b : Bool) → nat_eq y n ≡ b → (given_to ns (map (num w) ts) y ≡ Some (num w u)) ⊎ ((given_to ns (map (num w) ts) y ≡ None) × (is_in y ns ≡ false) × ((if nat_eq (name_symbol y) (name_symbol n) then Some t else e.terms (name_symbol y)) ≡ Some u))
      → ((if nat_eq y n then Some (num w t) else given_to ns (map (num w) ts) y) ≡ Some (num w u)) ⊎ (((if nat_eq y n then Some (num w t) else given_to ns (map (num w) ts) y) ≡ None) × ((nat_eq y n || is_in y ns) ≡ false) × (e.terms (name_symbol y) ≡ Some u))
  tested true e1 (inl g) = absurd (in_given w ns ts y (num w u) g (let same : y ≡ n = eqb-true y n e1 in subst (λ z. not (list_any (nat_eq z) ns) ≡ true) (sym same) p.0))
  tested true e1 (inr r) = inl (let a = symbol_eq y n true e1 in let b : Some t ≡ Some u = ap (λ (z : Bool). if z then Some t else e.terms (name_symbol y)) (sym a) ∙ r.2 in
      let c : t ≡ u = cc in ap (λ (z : Bool). if z then Some (num w t) else given_to ns (map (num w) ts) y) e1 ∙ ap (λ z. Some (num w z)) c)
  tested false e1 (inl g) = inl (ap (λ (z : Bool). if z then Some (num w t) else given_to ns (map (num w) ts) y) e1 ∙ g)
  tested false e1 (inr r) = inr (
    ap (λ (z : Bool). if z then Some (num w t) else given_to ns (map (num w) ts) y) e1 ∙ r.0,
    ap (λ (z : Bool). z || is_in y ns) e1 ∙ r.1,
    (let a = symbol_eq y n false e1 in ap (λ (z : Bool). if z then Some t else e.terms (name_symbol y)) (sym a) ∙ r.2),
  )

-- what holds of each old term and of the new ones holds of all
pub named_all : (Q : ℕ → Tree → Type 0) (names : List ℕ) (ts : List Tree) (e : Env) → ((y : ℕ) (t : Tree) → e.terms y ≡ Some t → Q y t) → AllByRecursion (λ t. (n : ℕ) → is_name n ≡ true → Q (name_symbol n) t) ts → are_names names ≡ true
    → (y : ℕ) (t : Tree) → (name_all names ts e).terms y ≡ Some t → Q y t
named_all Q [] ts e old new are y t is = old y t is
named_all Q (n ∷ ns) [] e old new are y t is = old y t is
named_all Q (n ∷ ns) (u ∷ us) e old new are y t is = named_all Q ns us (name_as (name_symbol n) u e) both new.1 p.1 y t is where
  p : (is_name n ≡ true) × (are_names ns ≡ true)
  p = and_parts (is_name n) (are_names ns) are

  tested : (y : ℕ) (t : Tree) (b : Bool) → nat_eq y (name_symbol n) ≡ b → (if b then Some u else e.terms y) ≡ Some t → Q y t
  tested y t true e1 is = let a : y ≡ name_symbol n = eqb-true y (name_symbol n) e1 in let b : u ≡ t = cc in subst (λ z. Q y z) b (subst (λ z. Q z u) (sym a) (new.0 n p.0))
  tested y t false e1 is = old y t is

  both : (y : ℕ) (t : Tree) → (if nat_eq y (name_symbol n) then Some u else e.terms y) ≡ Some t → Q y t
  both y t is = tested y t (nat_eq y (name_symbol n)) refl is
