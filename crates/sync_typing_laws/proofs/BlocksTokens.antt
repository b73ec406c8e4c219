-- Tokens of a word: their forms, and how they come into a hand.
use Rattle.std.specs.Prelude.{◌≡◌, ℕ, ℤ, pos, ◌<◌, ◌≤◌, Bool, true, false, ◌&&◌, ◌||◌, not, if◌then◌else◌, nat_eq, nat_lt, List, [], ◌∷◌, ◌++◌, length, map, Option, Some, None, is_some, is_none, unwrap_or, option_map}
use Rattle.std.specs.List.{list_all, AllByRecursion, IsDistinct}
use Rattle.std.specs.Ordering.{int_eq}
use Rattle.std.proofs.Common.{inl, inr, arith}
use Rattle.std.proofs.lemmas.Bool.{ltb-true, eqb-true, eq-eqb, and_parts, false_from_ne_true}
use Rattle.std.proofs.lemmas.Bool.Decides.{eqb_tells, Decides-int_eq}
use Rattle.sync_base.specs.Outcome.{first}
use Rattle.sync_base.specs.declared.strategies.Strategy.{Strategy}
use Rattle.sync_base.specs.declared.strategies.Strategy.TheVariants.{Variable, Constant, NotTokenized, Option as OptionField, Map, Set, Multiset, Count, PersistentOption, PersistentMap, PersistentSet, PersistentCount, StorageMap}
use Rattle.sync_terms.specs.Trees.{Tree, replaced}
use Rattle.sync_terms.specs.Values.{Valuation, num}
use Rattle.sync_machine.specs.Machines.{PatternTree, Term}
use Rattle.sync_machine.specs.Naming.{number_fault, is_in}
use Rattle.sync_machine.specs.Scope.{Known}
use Rattle.sync_machine.specs.Statements.{or_zero, one}
use Rattle.sync_machine.specs.States.{strategy_at}
use Rattle.sync_rules.specs.Locality.{names_only}
use Rattle.sync_rules.specs.Shapes.{has_shape}
use Rattle.sync_join.specs.Shards.{has_keys, has_elements, IsToken}
use Rattle.sync_join.specs.declared.tokens.Token.{Token}
use Rattle.sync_exchange.specs.Exchange.{held_as}
use Rattle.sync_exchange.specs.declared.hands.Held.{Held}
use Rattle.sync_thread.specs.Programs.{ShapeTree}
use Rattle.sync_thread_machine.specs.MachineWithProgram.{MachineWithProgram, fields_of}
use Rattle.sync_thread_meaning.specs.MachineWithProgram.{field_of}
use Rattle.sync_thread_meaning.specs.Shares.{Sight, is_of_form, is_seen, differ, are_new, has_value as has_number}
use Rattle.sync_typing.specs.Blocks.{shape_token, zipped}
use Rattle.sync_typing.specs.Dues.{are_apart}
use Rattle.sync_typing.specs.Environments.{among, TokenTree}
use Rattle.sync_typing.specs.Names.{has_token_shape, is_form, shape_is_named, if_there, is_number}
use Rattle.sync_typing_laws.specs.Rests.{worth, IsApart}
use mathlib.Core.Path.{refl, sym, ap, subst, ◌∙◌}

-- ---- a token of a form is what the form says

no_keys : (s : Strategy) (v : Option PatternTree) → has_token_shape s (record { key = None; value = v }) ≡ true → has_keys s ≡ false
unfolding has_shape
no_keys Variable v e = refl
no_keys Constant v e = refl
no_keys NotTokenized v e = refl
no_keys OptionField v e = refl
no_keys Map v e = absurd (cc)
no_keys Set v e = absurd (cc)
no_keys Multiset v e = absurd (cc)
no_keys Count v e = refl
no_keys PersistentOption v e = refl
no_keys PersistentMap v e = absurd (cc)
no_keys PersistentSet v e = absurd (cc)
no_keys PersistentCount v e = refl
no_keys StorageMap v e = absurd (cc)

right_false : (b : Bool) → (b && false) ≡ true → ⊥
right_false true e = cc
right_false false e = cc

elements : (s : Strategy) (k : Option Tree) → has_token_shape s (record { key = k; value = None }) ≡ true → has_elements s ≡ true
unfolding has_shape
elements Variable k e = absurd (right_false (is_none k) e)
elements Constant k e = absurd (cc)
elements NotTokenized k e = absurd (cc)
elements OptionField k e = absurd (right_false (is_none k) e)
elements Map k e = absurd (right_false (is_some k) e)
elements Set k e = refl
elements Multiset k e = refl
elements Count k e = absurd (right_false (is_none k) e)
elements PersistentOption k e = absurd (right_false (is_none k) e)
elements PersistentMap k e = absurd (right_false (is_some k) e)
elements PersistentSet k e = refl
elements PersistentCount k e = absurd (right_false (is_none k) e)
elements StorageMap k e = absurd (cc)

-- a token without a key or a value of its own has the key 0, and the value 1
token_key : (x : MachineWithProgram) → length (fields_of x) ≤ 32 → (f : Option ℕ) (v : Option Tree) (t : Token) → is_form x (record { field = f; key = None; value = v }) ≡ true → field_of f ≡ t.field → IsToken (fields_of x) t → t.key ≡ pos 0
token_key x few None v t form same is = absurd (cc)
token_key x few (Some f) v t form same is = let parts = and_parts (nat_lt f (length (fields_of x))) _ form in let l : f < length (fields_of x) = ltb-true f (length (fields_of x)) parts.0 in elim is [
  | inl p ↦ absurd (let a : t.field ≡ 4294967295 = p in let b : f ≡ t.field = same in omega (arith))
  | inr i ↦ i.1.keys (no_keys (strategy_at (fields_of x) t.field) (option_map Term v) (subst (λ g. has_token_shape (strategy_at (fields_of x) g) (record { key = None; value = option_map Term v }) ≡ true) same parts.1))
]

token_value : (x : MachineWithProgram) → length (fields_of x) ≤ 32 → (f : Option ℕ) (k : Option Tree) (t : Token) → is_form x (record { field = f; key = k; value = None }) ≡ true → field_of f ≡ t.field → IsToken (fields_of x) t → t.value ≡ pos 1
token_value x few None k t form same is = absurd (right_false (is_some k) form)
token_value x few (Some f) k t form same is = let parts = and_parts (nat_lt f (length (fields_of x))) _ form in let l : f < length (fields_of x) = ltb-true f (length (fields_of x)) parts.0 in elim is [
  | inl p ↦ absurd (let a : t.field ≡ 4294967295 = p in let b : f ≡ t.field = same in omega (arith))
  | inr i ↦ i.1.elements (elements (strategy_at (fields_of x) t.field) k (subst (λ g. has_token_shape (strategy_at (fields_of x) g) (record { key = k; value = None }) ≡ true) same parts.1))
]

none_is : {A : Type 0} (o : Option A) → is_none o ≡ true → o ≡ None
none_is None e = refl
none_is (Some a) e = absurd (cc)

int_is : (a b : ℤ) → int_eq a b ≡ true → a ≡ b
int_is a b e = (Decides-int_eq a b).0 e

-- What a form says is read in two ways: as terms of an environment, and as a sight sees them.
module _ (x : MachineWithProgram) (few : length (fields_of x) ≤ 32) (k : Known) (s : ℕ → Tree) (v : Valuation) (sight : Sight) (same : (t : Tree) → number_fault k t ≡ None → num v (replaced s t) ≡ num sight.valuation t) where
  key_is : (o : Option Tree) (n : ℤ) → if_there (is_number k) o ≡ true → has_number sight o n ≡ true → (o ≡ None → n ≡ pos 0) → num v (replaced s (or_zero o)) ≡ n
  unfolding replaced
  key_is None n named is none = sym (none refl)
  key_is (Some t) n named is none = same t (none_is (number_fault k t) named) ∙ int_is (num sight.valuation t) n (and_parts (names_only (is_seen sight.hand) t) (int_eq (num sight.valuation t) n) is).1

  value_is : (o : Option Tree) (n : ℤ) → if_there (is_number k) o ≡ true → has_number sight o n ≡ true → (o ≡ None → n ≡ pos 1) → num v (replaced s (unwrap_or o one)) ≡ n
  unfolding replaced
  value_is None n named is none = sym (none refl)
  value_is (Some t) n named is none = same t (none_is (number_fault k t) named) ∙ int_is (num sight.valuation t) n (and_parts (names_only (is_seen sight.hand) t) (int_eq (num sight.valuation t) n) is).1

  pub shape_worth : (sh : ShapeTree) (t : Token) → shape_is_named x k sh ≡ true → IsToken (fields_of x) t → is_of_form sight sh t ≡ true → worth v (shape_token s sh) ≡ t
  shape_worth sh t named is form =
      let n1 = and_parts (is_form x sh) _ named in
      let n2 = and_parts (if_there (is_number k) sh.key) (if_there (is_number k) sh.value) n1.1 in
      let f1 = and_parts (nat_eq (field_of sh.field) t.field && has_number sight sh.key t.key) (has_number sight sh.value t.value) form in
      let f2 = and_parts (nat_eq (field_of sh.field) t.field) (has_number sight sh.key t.key) f1.0 in
      let field : field_of sh.field ≡ t.field = eqb-true (field_of sh.field) t.field f2.0 in
      let key = key_is sh.key t.key n2.0 f2.1 (λ no. token_key x few sh.field sh.value t (subst (λ o. is_form x (record { field = sh.field; key = o; value = sh.value }) ≡ true) no n1.0) field is) in
      let value = value_is sh.value t.value n2.1 f1.1 (λ no. token_value x few sh.field sh.key t (subst (λ o. is_form x (record { field = sh.field; key = sh.key; value = o }) ≡ true) no n1.0) field is) in
      token_same (field_of sh.field) t.field _ t.key _ t.value field key value where
        token_same : (f g : ℕ) (a b : ℤ) (c d : ℤ) → f ≡ g → a ≡ b → c ≡ d → record { field = f; key = a; value = c } ≡ (let u : Token = record { field = g; key = b; value = d } in u)
        token_same f g a b c d p q r = cc

-- ---- names of new tokens

pub eq_turned : (m n : ℕ) → nat_eq m n ≡ nat_eq n m
eq_turned m n = elim (eqb_tells m n) [
  | inl y ↦ y.0 ∙ sym (eq-eqb n m (sym y.1))
  | inr f ↦ f.0 ∙ sym (false_from_ne_true (nat_eq n m) (λ e. f.1 (sym (eqb-true n m e))))
]

pub held_append : (n : ℕ) (xs ys : List Held) → held_as n (xs ++ ys) ≡ first (held_as n xs) (held_as n ys)
unfolding held_as
held_append n [] ys = refl
held_append n (h ∷ hs) ys = tested (nat_eq n h.name) (held_append n hs ys) where
  tested : (b : Bool) → held_as n (hs ++ ys) ≡ first (held_as n hs) (held_as n ys) → (if b then Some h.token else held_as n (hs ++ ys)) ≡ first (if b then Some h.token else held_as n hs) (held_as n ys)
  tested true later = refl
  tested false later = later

pub among_none : (n : ℕ) (names : List ℕ) (ts : List TokenTree) → is_in n names ≡ false → among (zipped names ts) n ≡ None
among_none n [] ts e = refl
among_none n (m ∷ ms) [] e = refl
among_none n (m ∷ ms) (t ∷ ts) e = tested (nat_eq m n) refl (among_none n ms ts) where
  tested : (b : Bool) → nat_eq m n ≡ b → (is_in n ms ≡ false → among (zipped ms ts) n ≡ None) → (if b then Some t else among (zipped ms ts) n) ≡ None
  tested true is later = let a : nat_eq n m ≡ true = eq_turned n m ∙ is in absurd (let c : true ≡ false = sym (ap (λ b. b || is_in n ms) a) ∙ e in cc)
  tested false is later = let a : nat_eq n m ≡ false = eq_turned n m ∙ is in later (sym (ap (λ b. b || is_in n ms) a) ∙ e)

pub apart_differ : (ns : List ℕ) → are_apart ns ≡ differ ns
apart_differ [] = refl
apart_differ (n ∷ ns) = ap (λ b. not (is_in n ns) && b) (apart_differ ns)

-- a name that is held is none of new names
pub held_not_new : (p : ℕ → Bool) (n : ℕ) (ns : List ℕ) → list_all (λ m. not (p m)) ns ≡ true → p n ≡ true → is_in n ns ≡ false
held_not_new p n [] all is = refl
held_not_new p n (m ∷ ms) all is = tested (nat_eq n m) refl (held_not_new p n ms parts.1 is) where
  parts : (not (p m) ≡ true) × (list_all (λ m. not (p m)) ms ≡ true)
  parts = and_parts (not (p m)) (list_all (λ m. not (p m)) ms) all

  tested : (b : Bool) → nat_eq n m ≡ b → is_in n ms ≡ false → (b || is_in n ms) ≡ false
  tested true e later = absurd (let a : p m ≡ true = subst (λ z. p z ≡ true) (eqb-true n m e) is in let c : not true ≡ true = sym (ap not a) ∙ parts.0 in cc)
  tested false e later = later

pub all_same : (p q : ℕ → Bool) → ((n : ℕ) → p n ≡ q n) → (ns : List ℕ) → list_all p ns ≡ list_all q ns
all_same p q same [] = refl
all_same p q same (n ∷ ns) = let a = same n in let b = all_same p q same ns in rw (a, b) refl

pub is_some_map : {A B : Type 0} (f : A → B) (o : Option A) → is_none (option_map f o) ≡ not (is_some o)
is_some_map f None = refl
is_some_map f (Some a) = refl

-- ---- names of a hand

not_is : (b : Bool) → not b ≡ true → b ≡ false
not_is true e = absurd (cc)
not_is false e = refl

all_apart : (n : ℕ) (ns : List ℕ) → is_in n ns ≡ false → AllByRecursion (λ m. nat_eq n m ≡ false) ns
all_apart n [] e = tt
all_apart n (m ∷ ms) e = tested (nat_eq n m) refl (all_apart n ms) where
  tested : (b : Bool) → nat_eq n m ≡ b → (is_in n ms ≡ false → AllByRecursion (λ m. nat_eq n m ≡ false) ms) → AllByRecursion (λ m. nat_eq n m ≡ false) (m ∷ ms)
  tested true is later = absurd (let c : true ≡ false = sym (ap (λ b. b || is_in n ms) is) ∙ e in cc)
  tested false is later = (is, later (sym (ap (λ b. b || is_in n ms) is) ∙ e))

differ_distinct : (ns : List ℕ) → differ ns ≡ true → IsDistinct nat_eq ns
unfolding IsDistinct
differ_distinct [] e = tt
differ_distinct (n ∷ ns) e = let p = and_parts (not (is_in n ns)) (differ ns) e in (all_apart n ns (not_is (is_in n ns) p.0), differ_distinct ns p.1)

pub all_append : {A : Type 0} (P : A → Type 0) (xs ys : List A) → AllByRecursion P xs → AllByRecursion P ys → AllByRecursion P (xs ++ ys)
all_append P [] ys a b = b
all_append P (x ∷ xs) ys a b = (a.0, all_append P xs ys a.1 b)

pub all_front : {A : Type 0} (P : A → Type 0) (xs ys : List A) → AllByRecursion P (xs ++ ys) → AllByRecursion P xs
all_front P [] ys a = tt
all_front P (x ∷ xs) ys a = (a.0, all_front P xs ys a.1)

pub all_back : {A : Type 0} (P : A → Type 0) (xs ys : List A) → AllByRecursion P (xs ++ ys) → AllByRecursion P ys
all_back P [] ys a = a
all_back P (x ∷ xs) ys a = all_back P xs ys a.1

new_apart : (m : ℕ) (t : Token) (hs : List Held) (names : List ℕ) → list_all (λ n. is_none (held_as n (record { name = m; token = t } ∷ hs))) names ≡ true → is_in m names ≡ false
unfolding held_as
new_apart m t hs [] e = refl
new_apart m t hs (n ∷ ns) e = tested (nat_eq n m) refl (new_apart m t hs ns parts.1) where
  parts : (is_none (held_as n (record { name = m; token = t } ∷ hs)) ≡ true) × (list_all (λ n. is_none (held_as n (record { name = m; token = t } ∷ hs))) ns ≡ true)
  parts = and_parts (is_none (held_as n (record { name = m; token = t } ∷ hs))) _ e

  tested : (b : Bool) → nat_eq n m ≡ b → is_in m ns ≡ false → (nat_eq m n || is_in m ns) ≡ false
  tested true is later = absurd (let c : is_none (if true then Some t else held_as n hs) ≡ true = subst (λ b. is_none (if b then Some t else held_as n hs) ≡ true) is parts.0 in cc)
  tested false is later = let a : nat_eq m n ≡ false = eq_turned m n ∙ is in rw (a) later

new_later : (h : Held) (hs : List Held) (names : List ℕ) → list_all (λ n. is_none (held_as n (h ∷ hs))) names ≡ true → list_all (λ n. is_none (held_as n hs)) names ≡ true
unfolding held_as
new_later h hs [] e = refl
new_later h hs (n ∷ ns) e = tested (nat_eq n h.name) refl (new_later h hs ns parts.1) where
  parts : (is_none (held_as n (h ∷ hs)) ≡ true) × (list_all (λ n. is_none (held_as n (h ∷ hs))) ns ≡ true)
  parts = and_parts (is_none (held_as n (h ∷ hs))) _ e

  tested : (b : Bool) → nat_eq n h.name ≡ b → list_all (λ n. is_none (held_as n hs)) ns ≡ true → (is_none (held_as n hs) && list_all (λ n. is_none (held_as n hs)) ns) ≡ true
  tested true is later = absurd (let c : is_none (if true then Some h.token else held_as n hs) ≡ true = subst (λ b. is_none (if b then Some h.token else held_as n hs) ≡ true) is parts.0 in cc)
  tested false is later = let a : is_none (held_as n hs) ≡ true = subst (λ b. is_none (if b then Some h.token else held_as n hs) ≡ true) is parts.0 in rw (a) later

-- a hand with new tokens, under names that differ and are new
pub apart_append : (hand new : List Held) (names : List ℕ) → map (λ (h : Held). h.name) new ≡ names → are_new names hand ≡ true → IsApart hand → IsApart (hand ++ new)
unfolding IsDistinct
apart_append [] new names is are apart = subst (IsDistinct nat_eq) (sym is) (differ_distinct names (and_parts (differ names) _ are).0)
apart_append (h ∷ hs) new names is are apart =
    let p = and_parts (differ names) (list_all (λ n. is_none (held_as n (h ∷ hs))) names) are in
    let later : are_new names hs ≡ true = (let a = p.0 in let b = new_later h hs names p.1 in rw (a, b) refl) in
    let here : AllByRecursion (λ m. nat_eq h.name m ≡ false) names = all_apart h.name names (new_apart h.name h.token hs names p.1) in
    (names_append (λ m. nat_eq h.name m ≡ false) hs new apart.0 (subst (AllByRecursion (λ m. nat_eq h.name m ≡ false)) (sym is) here), apart_append hs new names is later apart.1) where
      names_append : (P : ℕ → Type 0) (hs new : List Held) → AllByRecursion P (map (λ (h : Held). h.name) hs) → AllByRecursion P (map (λ (h : Held). h.name) new) → AllByRecursion P (map (λ (h : Held). h.name) (hs ++ new))
      names_append P [] new a b = b
      names_append P (h ∷ hs) new a b = (a.0, names_append P hs new a.1 b)
