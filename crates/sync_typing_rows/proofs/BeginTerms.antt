-- What symbols stand for where a list begins: constants, its keeps' own names, and locals, which are 0.
use Rattle.std.proofs.Common.{arith, inl, inr}
use Rattle.std.proofs.lemmas.Bool.{ltb-true}
use Rattle.std.proofs.lemmas.Bool.Decides.{nat_tests}
use Rattle.std.specs.List.{list_all}
use Rattle.std.specs.Prelude.{◌≡◌, ℕ, zero, suc, ◌<◌, ◌≤◌, pos, Bool, true, false, ◌||◌, if◌then◌else◌, nat_eq, nat_lt, List, [], ◌∷◌, ◌++◌, length, Option, Some, None, unwrap_or}
use Rattle.sync_base.specs.declared.strategies.Strategy.TheVariants.{Constant, NotTokenized}
use Rattle.sync_machine.specs.Naming.{IsTextName, is_in}
use Rattle.sync_machine.specs.States.{strategy_at}
use Rattle.sync_machine.specs.declared.fields.Field.{Field}
use Rattle.sync_terms.specs.Symbols.{name_symbol}
use Rattle.sync_terms.specs.Trees.{Tree, Lit, Name}
use Rattle.sync_thread.specs.Programs.{KeepTree}
use Rattle.sync_thread_machine.specs.ProgramSymbols.{held_of, symbols}
use Rattle.sync_typing.specs.Environments.{Env}
use Rattle.sync_typing.specs.Keeps.{with_own}
use Rattle.sync_typing.specs.Names.{are_names}
use Rattle.sync_typing.specs.Typing.{constants}
use Rattle.sync_typing_laws.proofs.KeepingSights.{no_symbol, or_one}
use Rattle.sync_typing_laws.proofs.KeepingTerms.{and_first, and_second}
use Rattle.sync_typing_rows.proofs.Keeping.{no_low}
use Rattle.sync_typing_rows.proofs.KeepingScoped.{in_symbols}
use Rattle.sync_typing_rows.specs.BeginLaws.{names_of}
use mathlib.Core.Path.{refl, sym, ap, ◌∙◌}

-- the terms of names where a list begins
abbrev pub owned : (ℕ → Option Tree) → List ℕ → List KeepTree → ℕ → Option Tree
owned before locals [] y = if is_in y (symbols locals) then Some (Lit (pos 0)) else before y
owned before locals (k ∷ ks) y = with_own k.names (owned before locals ks) y

pub in_append : (n : ℕ) (xs ys : List ℕ) → is_in n (xs ++ ys) ≡ (is_in n xs || is_in n ys)
in_append n [] ys = refl
in_append n (x ∷ xs) ys = by (nat_eq n x) (in_append n xs ys) where
  by : (b : Bool) → is_in n (xs ++ ys) ≡ (is_in n xs || is_in n ys) → (b || is_in n (xs ++ ys)) ≡ ((b || is_in n xs) || is_in n ys)
  by true later = refl
  by false later = later

pub or_false : (a b : Bool) → (a || b) ≡ false → (a ≡ false) × (b ≡ false)
or_false true b is = absurd (let no : true ≡ false = is in cc)
or_false false b is = (refl, is)

same_symbol : (n m : ℕ) → nat_eq (name_symbol n) (name_symbol m) ≡ nat_eq n m
same_symbol n m = grind (arith, nat_tests)

pub in_names : (n : ℕ) (ns : List ℕ) → is_in (name_symbol n) (symbols ns) ≡ is_in n ns
in_names n [] = refl
in_names n (m ∷ ns) = ap (λ b. b || is_in (name_symbol n) (symbols ns)) (same_symbol n m) ∙ ap (λ b. nat_eq n m || b) (in_names n ns)

-- a symbol of one of these names
name_among : (y : ℕ) (ns : List ℕ) → is_in y (symbols ns) ≡ true → (n : ℕ) × (y ≡ name_symbol n) × (is_in n ns ≡ true)
name_among y [] is = absurd (let no : false ≡ true = is in cc)
name_among y (m ∷ ns) is = elim (or_one (nat_eq y (name_symbol m)) (is_in y (symbols ns)) is) [
  | inl here ↦ (m, grind (arith, nat_tests), ap (λ b. b || is_in m ns) (itself m))
  | inr later ↦ (let found = name_among y ns later in (found.0, found.1, more (nat_eq found.0 m) (is_in found.0 ns) found.2))
] where
  itself : (n : ℕ) → nat_eq n n ≡ true
  itself n = grind (arith, nat_tests)

  more : (a b : Bool) → b ≡ true → (a || b) ≡ true
  more true b is = refl
  more false b is = is

some_is : (a b : Tree) → Some a ≡ Some b → a ≡ b
some_is a b is = ap (λ o. unwrap_or o a) is

-- a field that is a constant is declared
pub in_fields : (fs : List Field) (f : ℕ) → strategy_at fs f ≡ Constant → f < length fs
in_fields [] f is = absurd (let no : NotTokenized ≡ Constant = is in cc)
in_fields (g ∷ fs) zero is = omega arith
in_fields (g ∷ fs) (suc f) is = let later : f < length fs = in_fields fs f is in omega (arith, later)

module _ (known : Env) (locals : List ℕ) where
  abbrev pub at_first : List KeepTree → ℕ → Option Tree
  at_first ks = owned (constants known) locals ks

  pub low_term : (ks : List KeepTree) (y : ℕ) → y < 64 → at_first ks y ≡ constants known y
  low_term [] y low = ap (λ b. if b then Some (Lit (pos 0)) else constants known y) (no_low locals y low)
  low_term (k ∷ ks) y low = ap (λ b. if b then Some (Name y) else at_first ks y) (no_low k.names y low) ∙ low_term ks y low

  far_constant : (y : ℕ) → 32 ≤ y → constants known y ≡ None
  far_constant y far = let is : nat_lt y 32 ≡ false = grind (arith, nat_tests) in ap (λ b. if b then known.terms y else None) is

  pub near_constant : (y : ℕ) → y < 32 → constants known y ≡ known.terms y
  near_constant y near = let is : nat_lt y 32 ≡ true = grind (arith, nat_tests) in ap (λ b. if b then known.terms y else None) is

  pub held_term : (ks : List KeepTree) (n : ℕ) → at_first ks (held_of n) ≡ None
  held_term [] n = ap (λ b. if b then Some (Lit (pos 0)) else constants known (held_of n)) (no_symbol n locals) ∙ far_constant (held_of n) (omega arith)
  held_term (k ∷ ks) n = ap (λ b. if b then Some (Name (held_of n)) else at_first ks (held_of n)) (no_symbol n k.names) ∙ held_term ks n

  -- a local that is no name of a keep is 0
  pub local_term : (ks : List KeepTree) (n : ℕ) → is_in n locals ≡ true → is_in n (names_of ks) ≡ false → at_first ks (name_symbol n) ≡ Some (Lit (pos 0))
  local_term [] n inside apart = ap (λ b. if b then Some (Lit (pos 0)) else constants known (name_symbol n)) (in_names n locals ∙ inside)
  local_term (k ∷ ks) n inside apart = let off = or_false (is_in n k.names) (is_in n (names_of ks)) (sym (in_append n k.names (names_of ks)) ∙ apart) in
      ap (λ b. if b then Some (Name (name_symbol n)) else at_first ks (name_symbol n)) (in_names n k.names ∙ off.0) ∙ local_term ks n inside off.1

  -- what is said of a symbol
  pub data Says (y : ℕ) (u : Tree) : Type 0 where
    OfConstant : y < 32 → known.terms y ≡ Some u → Says y u
    OfOwn : IsTextName y → u ≡ Name y → Says y u
    OfLocal : (n : ℕ) → y ≡ name_symbol n → is_in n locals ≡ true → u ≡ Lit (pos 0) → Says y u

  pub says : (ks : List KeepTree) → list_all (λ (k : KeepTree). are_names k.names) ks ≡ true → (y : ℕ) (u : Tree) → at_first ks y ≡ Some u → Says y u
  says [] names y u is = by (is_in y (symbols locals)) refl is where
    near : (b : Bool) → nat_lt y 32 ≡ b → (if b then known.terms y else None) ≡ Some u → Says y u
    near true low k = OfConstant (ltb-true y 32 low) k
    near false low k = absurd (let no : None ≡ Some u = k in cc)

    by : (b : Bool) → is_in y (symbols locals) ≡ b → (if b then Some (Lit (pos 0)) else constants known y) ≡ Some u → Says y u
    by true inside k = let found = name_among y locals inside in OfLocal found.0 found.1 found.2 (sym (some_is (Lit (pos 0)) u k))
    by false inside k = near (nat_lt y 32) refl k
  says (k ∷ ks) names y u is = by (is_in y (symbols k.names)) refl is (says ks (and_second (are_names k.names) _ names) y u) where
    by : (b : Bool) → is_in y (symbols k.names) ≡ b → (if b then Some (Name y) else at_first ks y) ≡ Some u → (at_first ks y ≡ Some u → Says y u) → Says y u
    by true inside j later = OfOwn (in_symbols y k.names (and_first (are_names k.names) _ names) inside) (sym (some_is (Name y) u j))
    by false inside j later = later j
