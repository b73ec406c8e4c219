-- Where more names are known, a term that is named is named still.
use Rattle.std.specs.List.{list_all}
use Rattle.std.specs.Prelude.{◌≡◌, ℕ, Bool, true, false, ◌||◌, List, [], ◌∷◌, Option, Some, None, is_none}
use Rattle.std.proofs.lemmas.Bool.{and_parts, and_from}
use Rattle.sync_base.specs.Outcome.{first}
use Rattle.sync_base.specs.declared.stops.Rule.{Rule}
use Rattle.sync_base.specs.declared.stops.Rule.TheVariants.{N1, N6}
use Rattle.sync_machine.specs.Naming.{formula_fault, map_fault, number_fault, sort_fault}
use Rattle.sync_machine.specs.Scope.{Known}
use Rattle.sync_machine.specs.States.{Sort, Maps, Numbers}
use Rattle.sync_terms.specs.Trees.{Tree, Lit, Name, Add, Sub, Scale, Get, Has, Size, Sum, Nil, Put, Del, Bump, Formula, Le, Lt, Eq, Not, And, Or, Imp}
use Rattle.sync_thread.specs.Programs.{KeepFactTree, KeepLineTree, KeepTree}
use Rattle.sync_thread_machine.specs.MachineWithProgram.{MachineWithProgram}
use Rattle.sync_typing.specs.Keeps.{own_tokens}
use Rattle.sync_typing.specs.Names.{are_apart_names, if_there, is_constant_field, is_form, is_formula, is_named, is_number, keep_is_named, known_here, known_with, number_if, shape_is_named}
use Rattle.sync_typing_laws.proofs.KeepingTerms.{NumbersOnly}
use Rattle.sync_machine.specs.Naming.{is_in}
use mathlib.Core.Path.{refl, ap}

both_none : {A : Type 0} (a b : Option A) → a ≡ None → b ≡ None → first a b ≡ None
both_none a b one two = cc

first_none : {A : Type 0} (a b : Option A) → first a b ≡ None → (a ≡ None) × (b ≡ None)
first_none None b is = (refl, is)
first_none (Some x) b is = absurd (let no : Some x ≡ None = is in cc)

module _ (k l : Known) (numbers : NumbersOnly k) (more : (y : ℕ) → k y ≡ Some Numbers → l y ≡ Some Numbers) where
  name_more : (y : ℕ) (o : Option Sort) → k y ≡ o → sort_fault Numbers o ≡ None → sort_fault Numbers (l y) ≡ None
  name_more y (Some Numbers) same is = ap (sort_fault Numbers) (more y same)
  name_more y (Some Maps) same is = absurd (numbers y same)
  name_more y None same is = absurd (let no : Some N1 ≡ None = is in cc)

  no_map_name : (y : ℕ) (o : Option Sort) → k y ≡ o → sort_fault Maps o ≡ None → sort_fault Maps (l y) ≡ None
  no_map_name y (Some Numbers) same is = absurd (let no : Some N6 ≡ None = is in cc)
  no_map_name y (Some Maps) same is = absurd (numbers y same)
  no_map_name y None same is = absurd (let no : Some N1 ≡ None = is in cc)

  two : (a b c d : Option Rule) → (a ≡ None → c ≡ None) → (b ≡ None → d ≡ None) → first a b ≡ None → first c d ≡ None
  two a b c d one other is = let parts = first_none a b is in both_none c d (one parts.0) (other parts.1)

  mutual
    unfolding number_fault map_fault

    pub number_more : (t : Tree) → number_fault k t ≡ None → number_fault l t ≡ None
    number_more (Lit n) is = refl
    number_more (Name y) is = name_more y (k y) refl is
    number_more (Add a b) is = two (number_fault k a) (number_fault k b) (number_fault l a) (number_fault l b) (number_more a) (number_more b) is
    number_more (Sub a b) is = two (number_fault k a) (number_fault k b) (number_fault l a) (number_fault l b) (number_more a) (number_more b) is
    number_more (Scale n a) is = number_more a is
    number_more (Get m i) is = two (map_fault k m) (number_fault k i) (map_fault l m) (number_fault l i) (map_more m) (number_more i) is
    number_more (Has m i) is = two (map_fault k m) (number_fault k i) (map_fault l m) (number_fault l i) (map_more m) (number_more i) is
    number_more (Size m) is = map_more m is
    number_more (Sum m) is = map_more m is
    number_more Nil is = absurd (let no : Some N6 ≡ None = is in cc)
    number_more (Put m i v) is = absurd (let no : Some N6 ≡ None = is in cc)
    number_more (Del m i) is = absurd (let no : Some N6 ≡ None = is in cc)
    number_more (Bump m i n) is = absurd (let no : Some N6 ≡ None = is in cc)

    pub map_more : (t : Tree) → map_fault k t ≡ None → map_fault l t ≡ None
    map_more (Name y) is = no_map_name y (k y) refl is
    map_more Nil is = refl
    map_more (Put m i v) is = two (map_fault k m) (first (number_fault k i) (number_fault k v)) (map_fault l m) (first (number_fault l i) (number_fault l v)) (map_more m)
        (λ j. two (number_fault k i) (number_fault k v) (number_fault l i) (number_fault l v) (number_more i) (number_more v) j) is
    map_more (Del m i) is = two (map_fault k m) (number_fault k i) (map_fault l m) (number_fault l i) (map_more m) (number_more i) is
    map_more (Bump m i n) is = two (map_fault k m) (first (number_fault k i) (number_fault k n)) (map_fault l m) (first (number_fault l i) (number_fault l n)) (map_more m)
        (λ j. two (number_fault k i) (number_fault k n) (number_fault l i) (number_fault l n) (number_more i) (number_more n) j) is
    map_more (Add a b) is = absurd (let no : Some _ ≡ None = is in cc)
    map_more (Sub a b) is = absurd (let no : Some _ ≡ None = is in cc)
    map_more (Lit n) is = absurd (let no : Some N6 ≡ None = is in cc)
    map_more (Scale n a) is = absurd (let no : Some N6 ≡ None = is in cc)
    map_more (Get m i) is = absurd (let no : Some N6 ≡ None = is in cc)
    map_more (Has m i) is = absurd (let no : Some N6 ≡ None = is in cc)
    map_more (Size m) is = absurd (let no : Some N6 ≡ None = is in cc)
    map_more (Sum m) is = absurd (let no : Some N6 ≡ None = is in cc)

  pub formula_more : (f : Formula) → formula_fault k f ≡ None → formula_fault l f ≡ None
  unfolding formula_fault
  formula_more (Le a b) is = two (number_fault k a) (number_fault k b) (number_fault l a) (number_fault l b) (number_more a) (number_more b) is
  formula_more (Lt a b) is = two (number_fault k a) (number_fault k b) (number_fault l a) (number_fault l b) (number_more a) (number_more b) is
  formula_more (Eq a b) is = two (number_fault k a) (number_fault k b) (number_fault l a) (number_fault l b) (number_more a) (number_more b) is
  formula_more (Not f) is = formula_more f is
  formula_more (And f g) is = two (formula_fault k f) (formula_fault k g) (formula_fault l f) (formula_fault l g) (formula_more f) (formula_more g) is
  formula_more (Or f g) is = two (formula_fault k f) (formula_fault k g) (formula_fault l f) (formula_fault l g) (formula_more f) (formula_more g) is
  formula_more (Imp f g) is = two (formula_fault k f) (formula_fault k g) (formula_fault l f) (formula_fault l g) (formula_more f) (formula_more g) is

none_is : {A : Type 0} (o : Option A) → is_none o ≡ true → o ≡ None
none_is None is = refl
none_is (Some a) is = absurd (let no : false ≡ true = is in cc)

-- ---- keeps of threads, in which `wrap` names nothing

-- names are known as numbers alone
pub numbers_with : (x : MachineWithProgram) (words : List ℕ) → NumbersOnly (known_with x words)
numbers_with x words y is = tested (is_constant_field x y || (is_in y words || is_named y)) is where
  tested : (b : Bool) → number_if b ≡ Some Maps → ⊥
  tested true is = let no : Some Numbers ≡ Some Maps = is in cc
  tested false is = let no : None ≡ Some Maps = is in cc

pub known_more : (x : MachineWithProgram) (y : ℕ) → known_with x [] y ≡ Some Numbers → known_here x y ≡ Some Numbers
known_more x y is = tested (is_constant_field x y) (is_in y (wrap_words)) (is_named y) is where
  wrap_words : List ℕ
  wrap_words = 36 ∷ []

  tested : (a b c : Bool) → number_if (a || (false || c)) ≡ Some Numbers → number_if (a || (b || c)) ≡ Some Numbers
  tested true b c is = refl
  tested false true c is = refl
  tested false false c is = is

is_number_more : (x : MachineWithProgram) (t : Tree) → is_number (known_with x []) t ≡ true → is_number (known_here x) t ≡ true
is_number_more x t is = ap is_none (number_more (known_with x []) (known_here x) (numbers_with x []) (known_more x) t (none_is (number_fault (known_with x []) t) is))

if_more : (x : MachineWithProgram) (o : Option Tree) → if_there (is_number (known_with x [])) o ≡ true → if_there (is_number (known_here x)) o ≡ true
if_more x None is = refl
if_more x (Some t) is = is_number_more x t is

pub keep_named_more : (x : MachineWithProgram) (k : KeepTree) → keep_is_named x (known_with x []) k ≡ true → keep_is_named x (known_here x) k ≡ true
keep_named_more x k is =
    let one = and_parts (are_apart_names k.names) _ is in
    let other = and_parts (are_apart_names (own_tokens k)) _ one.1 in
    let last = and_parts (list_all (λ (l : KeepLineTree). shape_is_named x (known_with x []) l.shape) k.lines) (list_all (λ (f : KeepFactTree). is_formula (known_with x []) f.form) k.facts) other.1 in
    and_from (are_apart_names k.names) _ one.0 (and_from (are_apart_names (own_tokens k)) _ other.0 (and_from _ _ (lines k.lines last.0) (facts k.facts last.1))) where
      lines : (ls : List KeepLineTree) → list_all (λ (l : KeepLineTree). shape_is_named x (known_with x []) l.shape) ls ≡ true → list_all (λ (l : KeepLineTree). shape_is_named x (known_here x) l.shape) ls ≡ true
      lines [] all = refl
      lines (l ∷ ls) all =
          let here = and_parts (shape_is_named x (known_with x []) l.shape) (list_all (λ (l : KeepLineTree). shape_is_named x (known_with x []) l.shape) ls) all in
          let parts = and_parts (is_form x l.shape) _ here.0 in
          let numbers = and_parts (if_there (is_number (known_with x [])) l.shape.key) (if_there (is_number (known_with x [])) l.shape.value) parts.1 in
          and_from (shape_is_named x (known_here x) l.shape) _ (and_from (is_form x l.shape) _ parts.0 (and_from _ _ (if_more x l.shape.key numbers.0) (if_more x l.shape.value numbers.1))) (lines ls here.1)

      facts : (fs : List KeepFactTree) → list_all (λ (f : KeepFactTree). is_formula (known_with x []) f.form) fs ≡ true → list_all (λ (f : KeepFactTree). is_formula (known_here x) f.form) fs ≡ true
      facts [] all = refl
      facts (f ∷ fs) all =
          let here = and_parts (is_formula (known_with x []) f.form) (list_all (λ (f : KeepFactTree). is_formula (known_with x []) f.form) fs) all in
          and_from (is_formula (known_here x) f.form) _ (ap is_none (formula_more (known_with x []) (known_here x) (numbers_with x []) (known_more x) f.form (none_is (formula_fault (known_with x []) f.form) here.0))) (facts fs here.1)
