-- The tokens of a keep name only what the terms name that its symbols are replaced by.
use Rattle.std.specs.List.{AllByRecursion, list_all}
use Rattle.std.specs.Prelude.{◌≡◌, ℕ, zero, suc, pos, Bool, true, false, ◌&&◌, if◌then◌else◌, nat_eq, List, [], ◌∷◌, length, map, Option, Some, None, unwrap_or}
use Rattle.sync_machine.specs.Statements.{or_zero}
use Rattle.sync_rules.specs.Locality.{names_only}
use Rattle.sync_terms.specs.Trees.{Tree, Lit, Name, replaced}
use Rattle.sync_thread.specs.Programs.{KeepLineTree}
use Rattle.sync_thread_machine.specs.ProgramSymbols.{held_of}
use Rattle.sync_thread_meaning.specs.MachineWithProgram.{field_of}
use Rattle.sync_typing.specs.Environments.{TokenTree, among}
use Rattle.sync_typing.specs.Keeps.{option_all, is_circular, line_value, value_among, line_values, kept_tokens}
use Rattle.sync_typing_laws.proofs.KeepingTerms.{and_first, and_second}
use Rattle.sync_typing_laws.proofs.LocalSights.{replaced_names}
use mathlib.Core.Path.{refl, ap, subst}

module _ (p q : ℕ → Bool) (sb : ℕ → Tree) (base : (y : ℕ) → p y ≡ true → names_only q (sb y) ≡ true) where
  abbrev pub r : ℕ → Bool
  r z = names_only q (sb z)

  name_in : (y : ℕ) → p y ≡ true → names_only r (Name y) ≡ true
  unfolding names_only
  name_in y at_hand = base y at_hand

  abbrev pub Passing : (ℕ → Tree) → Type 0
  Passing deeper = (y : ℕ) → p y ≡ true → names_only r (deeper y) ≡ true

  or_one_names : (o : Option Tree) (n : _) → option_all (names_only p) o ≡ true → names_only p (unwrap_or o (Lit n)) ≡ true
  unfolding names_only
  or_one_names None n is = refl
  or_one_names (Some t) n is = is

  or_zero_names : (o : Option Tree) → option_all (names_only p) o ≡ true → names_only p (or_zero o) ≡ true
  unfolding names_only
  or_zero_names None is = refl
  or_zero_names (Some t) is = is

  abbrev pub LineNames : KeepLineTree → Bool
  LineNames l = option_all (names_only p) l.shape.key && option_all (names_only p) l.shape.value

  among_in : (deeper : ℕ → Tree) → Passing deeper → (all ls : List KeepLineTree) → list_all LineNames ls ≡ true → Passing (value_among deeper all ls)
  among_in deeper passes all [] names y at_hand = name_in y at_hand
  among_in deeper passes all (l ∷ ls) names y at_hand = tested (nat_eq (held_of l.name) y) (is_circular all l) (among_in deeper passes all ls (and_second (LineNames l) _ names) y at_hand) where
    tested : (b c : Bool) → names_only r (value_among deeper all ls y) ≡ true → names_only r (if b then (if c then Name y else replaced deeper (line_value l)) else value_among deeper all ls y) ≡ true
    tested true true later = name_in y at_hand
    tested true false later = replaced_names p r deeper passes (line_value l) (or_one_names l.shape.value (pos 1) (and_second (option_all (names_only p) l.shape.key) (option_all (names_only p) l.shape.value) (and_first (LineNames l) _ names)))
    tested false c later = later

  pub values_in : (m : ℕ) (ls : List KeepLineTree) → list_all LineNames ls ≡ true → Passing (line_values m ls)
  values_in zero ls names y at_hand = name_in y at_hand
  values_in (suc m) ls names y at_hand = among_in (line_values m ls) (values_in m ls names) ls ls names y at_hand

  inside : (deeper : ℕ → Tree) → Passing deeper → (t : Tree) → names_only p t ≡ true → names_only q (replaced sb (replaced deeper t)) ≡ true
  inside deeper passes t names = replaced_names r q sb (λ y is. is) (replaced deeper t) (replaced_names p r deeper passes t names)

  own_name : (deeper : ℕ → Tree) → Passing deeper → (n : ℕ) → p (held_of n) ≡ true → names_only q (replaced sb (replaced deeper (Name (held_of n)))) ≡ true
  unfolding names_only
  own_name deeper passes n at_hand = inside deeper passes (Name (held_of n)) at_hand

  abbrev pub token_for : (ℕ → Tree) → KeepLineTree → TokenTree
  token_for deeper l = record { field = field_of l.shape.field; key = replaced sb (replaced deeper (or_zero l.shape.key)); value = replaced sb (replaced deeper (Name (held_of l.name))) }

  abbrev pub IsIn : TokenTree → Type 0
  IsIn a = (names_only q a.key ≡ true) × (names_only q a.value ≡ true)

  some_token : (a b : TokenTree) → Some a ≡ Some b → a ≡ b
  some_token a b is = ap (λ o. unwrap_or o a) is

  pub tokens_in : (deeper : ℕ → Tree) → Passing deeper → (ls : List KeepLineTree) → list_all LineNames ls ≡ true → AllByRecursion (λ (l : KeepLineTree). p (held_of l.name) ≡ true) ls
      → (n : ℕ) (a : TokenTree) → among (map (λ (l : KeepLineTree). (l.name, token_for deeper l)) ls) n ≡ Some a → IsIn a
  tokens_in deeper passes [] names held_names n a is = let no : None ≡ Some a = is in cc
  tokens_in deeper passes (l ∷ ls) names held_names n a is = tested (nat_eq l.name n) is (tokens_in deeper passes ls (and_second (LineNames l) _ names) held_names.1 n a) where
    tested : (b : Bool) → (if b then Some (token_for deeper l) else among (map (λ (l : KeepLineTree). (l.name, token_for deeper l)) ls) n) ≡ Some a
        → (among (map (λ (l : KeepLineTree). (l.name, token_for deeper l)) ls) n ≡ Some a → IsIn a) → IsIn a
    tested true is later = subst IsIn (some_token (token_for deeper l) a is)
        (inside deeper passes (or_zero l.shape.key) (or_zero_names l.shape.key (and_first (option_all (names_only p) l.shape.key) (option_all (names_only p) l.shape.value) (and_first (LineNames l) _ names))), own_name deeper passes l.name held_names.0)
    tested false is later = later is

  pub kept_in : (ls : List KeepLineTree) → list_all LineNames ls ≡ true → AllByRecursion (λ (l : KeepLineTree). p (held_of l.name) ≡ true) ls → (n : ℕ) (a : TokenTree) → among (kept_tokens sb ls) n ≡ Some a → IsIn a
  kept_in ls names held_names n a is = tokens_in (line_values (length ls) ls) (values_in (length ls) ls names) ls names held_names n a is
