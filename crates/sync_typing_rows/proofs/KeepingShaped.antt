-- The lines of a keep that is come to are as they say: a token of which nothing is said of its key or value has 0 or 1.
use Rattle.std.proofs.Common.{arith, inl, inr}
use Rattle.std.proofs.lemmas.Bool.{ltb-true, and_parts}
use Rattle.std.proofs.lemmas.Bool.Decides.{nat_tests}
use Rattle.std.specs.List.{AllByRecursion, list_all}
use Rattle.std.specs.Prelude.{◌≡◌, ℕ, zero, suc, ◌%◌, ◌<◌, ◌≤◌, ℤ, pos, Bool, true, false, ◌&&◌, ◌||◌, if◌then◌else◌, nat_eq, nat_lt, List, [], ◌∷◌, ◌++◌, length, map, flat_map, slice_index_or, Option, Some, None, is_some, is_none, unwrap_or, option_map}
use Rattle.sync_base.specs.declared.strategies.Strategy.{Strategy}
use Rattle.sync_base.specs.declared.strategies.Strategy.TheVariants.{Variable, Constant, NotTokenized, Option as OptionField, Map, Set, Multiset, Count, PersistentOption, PersistentMap, PersistentSet, PersistentCount, StorageMap}
use Rattle.sync_exchange.specs.Exchange.{held_as, tokens_in}
use Rattle.sync_exchange.specs.declared.hands.Held.{Held}
use Rattle.sync_join.specs.Shards.{has_keys, has_elements, IsToken}
use Rattle.sync_join.specs.declared.tokens.Token.{Token}
use Rattle.sync_machine.specs.Machines.{PatternTree, Term}
use Rattle.sync_machine.specs.Naming.{is_in}
use Rattle.sync_machine.specs.States.{Numbers, strategy_at}
use Rattle.sync_rules.specs.Locality.{names_only, form_names_only}
use Rattle.sync_rules.specs.Shapes.{has_shape}
use Rattle.sync_terms.specs.Trees.{Tree}
use Rattle.sync_thread.specs.Arrays.{name_limit}
use Rattle.sync_thread.specs.Programs.{KeepTree, KeepLineTree, KeepFactTree}
use Rattle.sync_thread.specs.Symbols.{wrap_symbol}
use Rattle.sync_thread_machine.specs.MachineWithProgram.{MachineWithProgram, fields_of}
use Rattle.sync_thread_machine.specs.ProgramSymbols.{held_of, symbols, first_fresh}
use Rattle.sync_thread_meaning.specs.MachineWithProgram.{field_of}
use Rattle.sync_thread_meaning.specs.Meaning.{World, Arrival, keep_sight}
use Rattle.sync_thread_meaning.specs.Shares.{Sight, hand_of, given_to, has_value}
use Rattle.sync_typing.specs.Dues.{are_apart}
use Rattle.sync_typing.specs.Keeps.{option_all, keep_names_only, is_at_hand_in, own_tokens}
use Rattle.sync_typing.specs.Names.{known_here, number_if, is_constant_field, is_named, is_held_symbol, has_token_shape, is_form, shape_is_named, if_there, is_number, is_formula, are_names, are_apart_names, is_name, keep_is_named}
use Rattle.sync_typing_laws.proofs.KeepingTerms.{and_first, and_second}
use Rattle.sync_typing_laws.specs.Rests.{IsTidy}
use Rattle.sync_typing_rows.proofs.KeepingArrive.{Arrives, LineIs}
use Rattle.sync_typing_rows.proofs.KeepingEnv.{Shaped}
use mathlib.Core.Path.{refl, ap, subst}

-- ---- a token of a form is what the form says

no_keys : (s : Strategy) (v : Option PatternTree) → has_token_shape s (record { key = None; value = v }) ≡ true → has_keys s ≡ false
unfolding has_shape
no_keys Variable v e = refl
no_keys Constant v e = refl
no_keys NotTokenized v e = refl
no_keys OptionField v e = refl
no_keys Map v e = absurd (cc)
no_keys Set v e = absurd (cc)
no_keys Multiset v e = absurd (cc)
no_keys Count v e = refl
no_keys PersistentOption v e = refl
no_keys PersistentMap v e = absurd (cc)
no_keys PersistentSet v e = absurd (cc)
no_keys PersistentCount v e = refl
no_keys StorageMap v e = absurd (cc)

right_false : (b : Bool) → (b && false) ≡ true → ⊥
right_false true e = cc
right_false false e = cc

elements : (s : Strategy) (k : Option Tree) → has_token_shape s (record { key = k; value = None }) ≡ true → has_elements s ≡ true
unfolding has_shape
elements Variable k e = absurd (right_false (is_none k) e)
elements Constant k e = absurd (cc)
elements NotTokenized k e = absurd (cc)
elements OptionField k e = absurd (right_false (is_none k) e)
elements Map k e = absurd (right_false (is_some k) e)
elements Set k e = refl
elements Multiset k e = refl
elements Count k e = absurd (right_false (is_none k) e)
elements PersistentOption k e = absurd (right_false (is_none k) e)
elements PersistentMap k e = absurd (right_false (is_some k) e)
elements PersistentSet k e = refl
elements PersistentCount k e = absurd (right_false (is_none k) e)
elements StorageMap k e = absurd (cc)

-- a token without a key or a value of its own has the key 0, and the value 1
token_key : (x : MachineWithProgram) → length (fields_of x) ≤ 32 → (f : Option ℕ) (v : Option Tree) (t : Token) → is_form x (record { field = f; key = None; value = v }) ≡ true → field_of f ≡ t.field → IsToken (fields_of x) t → t.key ≡ pos 0
token_key x few None v t form same is = absurd (cc)
token_key x few (Some f) v t form same is = let parts = and_parts (nat_lt f (length (fields_of x))) _ form in let l : f < length (fields_of x) = ltb-true f (length (fields_of x)) parts.0 in elim is [
  | inl p ↦ absurd (let a : t.field ≡ 4294967295 = p in let b : f ≡ t.field = same in omega (arith))
  | inr i ↦ i.1.keys (no_keys (strategy_at (fields_of x) t.field) (option_map Term v) (subst (λ g. has_token_shape (strategy_at (fields_of x) g) (record { key = None; value = option_map Term v }) ≡ true) same parts.1))
]

token_value : (x : MachineWithProgram) → length (fields_of x) ≤ 32 → (f : Option ℕ) (k : Option Tree) (t : Token) → is_form x (record { field = f; key = k; value = None }) ≡ true → field_of f ≡ t.field → IsToken (fields_of x) t → t.value ≡ pos 1
token_value x few None k t form same is = absurd (right_false (is_some k) form)
token_value x few (Some f) k t form same is = let parts = and_parts (nat_lt f (length (fields_of x))) _ form in let l : f < length (fields_of x) = ltb-true f (length (fields_of x)) parts.0 in elim is [
  | inl p ↦ absurd (let a : t.field ≡ 4294967295 = p in let b : f ≡ t.field = same in omega (arith))
  | inr i ↦ i.1.elements (elements (strategy_at (fields_of x) t.field) k (subst (λ g. has_token_shape (strategy_at (fields_of x) g) (record { key = k; value = None }) ≡ true) same parts.1))
]

-- ---- tokens in a hand

all_front : {A : Type 0} (P : A → Type 0) (xs ys : List A) → AllByRecursion P (xs ++ ys) → AllByRecursion P xs
all_front P [] ys all = tt
all_front P (x ∷ xs) ys all = (all.0, all_front P xs ys all.1)

all_back : {A : Type 0} (P : A → Type 0) (xs ys : List A) → AllByRecursion P (xs ++ ys) → AllByRecursion P ys
all_back P [] ys all = all
all_back P (x ∷ xs) ys all = all_back P xs ys all.1

all_index : (P : Token → Type 0) (hs : List (List Held)) (t : ℕ) → AllByRecursion P (flat_map tokens_in hs) → AllByRecursion P (tokens_in (slice_index_or hs t []))
all_index P [] t all = tt
all_index P (h ∷ hs) zero all = all_front P (tokens_in h) (flat_map tokens_in hs) all
all_index P (h ∷ hs) (suc t) all = all_index P hs t (all_back P (tokens_in h) (flat_map tokens_in hs) all)

pub hand_tokens : (x : MachineWithProgram) (t : ℕ) (s : World) → IsTidy x s → AllByRecursion (IsToken (fields_of x)) (tokens_in (hand_of s.shares t))
hand_tokens x t s tidy = all_index (IsToken (fields_of x)) s.shares.hands t (all_front (IsToken (fields_of x)) (flat_map tokens_in s.shares.hands) _ tidy.sound.shaped.tokens)

held_one : (P : Token → Type 0) (hs : List Held) (n : ℕ) (a : Token) → held_as n hs ≡ Some a → AllByRecursion P (tokens_in hs) → P a
unfolding held_as
held_one P [] n a is all = let no : None ≡ Some a = is in cc
held_one P (h ∷ hs) n a is all = tested (nat_eq n h.name) is (λ later. held_one P hs n a later all.1) where
  tested : (b : Bool) → (if b then Some h.token else held_as n hs) ≡ Some a → (held_as n hs ≡ Some a → P a) → P a
  tested true is later = subst P (ap (λ o. unwrap_or o h.token) is) all.0
  tested false is later = later is

-- ---- names of tokens

or_more : (a b : Bool) → b ≡ true → (a || b) ≡ true
or_more true b is = refl
or_more false b is = is

held_in : (n : ℕ) (ns : List ℕ) → is_in n ns ≡ true → is_in (held_of n) (map held_of ns) ≡ true
held_in n [] is = is
held_in n (m ∷ ns) is = tested (nat_eq n m) refl is (held_in n ns) where
  tested : (b : Bool) → nat_eq n m ≡ b → (b || is_in n ns) ≡ true → (is_in n ns ≡ true → is_in (held_of n) (map held_of ns) ≡ true) → (nat_eq (held_of n) (held_of m) || is_in (held_of n) (map held_of ns)) ≡ true
  tested true same is later = let at : nat_eq (held_of n) (held_of m) ≡ true = grind (arith, nat_tests) in ap (λ b. b || is_in (held_of n) (map held_of ns)) at
  tested false apart is later = or_more (nat_eq (held_of n) (held_of m)) (is_in (held_of n) (map held_of ns)) (later is)

held_symbol : (n : ℕ) → n < name_limit → is_held_symbol (held_of n) ≡ true
held_symbol n below = grind (arith, nat_tests)

pub held_known : (x : MachineWithProgram) (n : ℕ) → n < name_limit → known_here x (held_of n) ≡ Some Numbers
held_known x n below = ap number_if (or_more (is_constant_field x (held_of n)) (is_in (held_of n) (wrap_symbol ∷ []) || is_named (held_of n)) (or_more (is_in (held_of n) (wrap_symbol ∷ [])) (is_named (held_of n))
    (ap (λ b. b || (nat_lt 63 (held_of n) && (nat_lt (held_of n) first_fresh && nat_eq (held_of n % 4) 0))) (held_symbol n below))))

pub token_at_hand : (before : ℕ → Option Tree) (k : KeepTree) (n : ℕ) → is_in n (own_tokens k) ≡ true → is_at_hand_in before k (held_of n) ≡ true
token_at_hand before k n is = or_more (nat_lt (held_of n) 64) (is_some (before (held_of n)) || (is_in (held_of n) (symbols k.names) || is_in (held_of n) (map held_of (own_tokens k))))
    (or_more (is_some (before (held_of n))) (is_in (held_of n) (symbols k.names) || is_in (held_of n) (map held_of (own_tokens k)))
    (or_more (is_in (held_of n) (symbols k.names)) (is_in (held_of n) (map held_of (own_tokens k))) (held_in n (own_tokens k) is)))

nat_same : (n : ℕ) → nat_eq n n ≡ true
nat_same n = grind (arith, nat_tests)

-- ---- lines

module _ (x : MachineWithProgram) (few : length (fields_of x) ≤ 32) (before : ℕ → Option Tree) (k : KeepTree) (w : Sight) (hand : List Held) (tokens : AllByRecursion (IsToken (fields_of x)) (tokens_in hand)) where
  abbrev p : ℕ → Bool
  p = is_at_hand_in before k

  abbrev at : Option Tree → Bool
  at o = option_all (names_only p) o

  line_shaped : (l : KeepLineTree) → LineIs w hand l → shape_is_named x (known_here x) l.shape ≡ true → (at l.shape.key && at l.shape.value) ≡ true → is_name l.name ≡ true → is_in l.name (own_tokens k) ≡ true → Shaped x p w hand l
  line_shaped l it named at_hand name own = record {
    token = it.0;
    held = it.1;
    form = it.2;
    key = λ none. token_key x few l.shape.field l.shape.value it.0 (subst (λ o. is_form x (record { field = l.shape.field; key = o; value = l.shape.value }) ≡ true) none formed) field is_token;
    value = λ none. token_value x few l.shape.field l.shape.key it.0 (subst (λ o. is_form x (record { field = l.shape.field; key = l.shape.key; value = o }) ≡ true) none formed) field is_token;
    number_key = and_first (if_there (is_number (known_here x)) l.shape.key) (if_there (is_number (known_here x)) l.shape.value) numbers;
    number_value = and_second (if_there (is_number (known_here x)) l.shape.key) (if_there (is_number (known_here x)) l.shape.value) numbers;
    names_key = and_first (at l.shape.key) (at l.shape.value) at_hand;
    names_value = and_second (at l.shape.key) (at l.shape.value) at_hand;
    known = held_known x l.name (ltb-true l.name name_limit name);
    names = token_at_hand before k l.name own;
  } where
    formed : is_form x l.shape ≡ true
    formed = and_first (is_form x l.shape) _ named

    numbers : (if_there (is_number (known_here x)) l.shape.key && if_there (is_number (known_here x)) l.shape.value) ≡ true
    numbers = and_second (is_form x l.shape) _ named

    field : field_of l.shape.field ≡ it.0.field
    field = let is : nat_eq (field_of l.shape.field) it.0.field ≡ true = and_first (nat_eq (field_of l.shape.field) it.0.field) (has_value w l.shape.key it.0.key) (and_first _ (has_value w l.shape.value it.0.value) it.2) in grind (arith, nat_tests)

    is_token : IsToken (fields_of x) it.0
    is_token = held_one (IsToken (fields_of x)) hand l.name it.0 it.1 tokens

  pub lines_shaped : (ls : List KeepLineTree) → AllByRecursion (LineIs w hand) ls → list_all (λ (l : KeepLineTree). shape_is_named x (known_here x) l.shape) ls ≡ true → list_all (λ (l : KeepLineTree). at l.shape.key && at l.shape.value) ls ≡ true
      → are_names (map (λ (l : KeepLineTree). l.name) ls) ≡ true → ((n : ℕ) → is_in n (map (λ (l : KeepLineTree). l.name) ls) ≡ true → is_in n (own_tokens k) ≡ true) → AllByRecursion (Shaped x p w hand) ls
  lines_shaped [] all named at_hand names own = tt
  lines_shaped (l ∷ ls) all named at_hand names own = (
    line_shaped l all.0 (and_first (shape_is_named x (known_here x) l.shape) _ named) (and_first (at l.shape.key && at l.shape.value) _ at_hand) (and_first (is_name l.name) _ names)
        (own l.name (ap (λ b. b || is_in l.name (map (λ (l : KeepLineTree). l.name) ls)) (nat_same l.name))),
    lines_shaped ls all.1 (and_second (shape_is_named x (known_here x) l.shape) _ named) (and_second (at l.shape.key && at l.shape.value) _ at_hand) (and_second (is_name l.name) _ names)
        (λ n is. own n (or_more (nat_eq n l.name) (is_in n (map (λ (l : KeepLineTree). l.name) ls)) is)),
  )

-- The lines of a keep that was come to are as `mid_hand` and `after_values` want them.
pub shaped : (x : MachineWithProgram) → length (fields_of x) ≤ 32 → (before : ℕ → Option Tree) (t : ℕ) (s : World) → IsTidy x s → (k : KeepTree) (vals : List ℤ) (saved : ℤ) (a : Arrival) → Arrives x t s k vals saved a
    → keep_is_named x (known_here x) k ≡ true → keep_names_only (is_at_hand_in before k) k ≡ true → AllByRecursion (Shaped x (is_at_hand_in before k) (keep_sight (fields_of x) s t (given_to k.names vals) saved) (hand_of s.shares t)) k.lines
shaped x few before t s tidy k vals saved a arrives named at_hand = lines_shaped x few before k (keep_sight (fields_of x) s t (given_to k.names vals) saved) (hand_of s.shares t) (hand_tokens x t s tidy) k.lines arrives.lines
    (and_first (list_all (λ (l : KeepLineTree). shape_is_named x (known_here x) l.shape) k.lines) _ (and_second (are_apart_names (own_tokens k)) _ rest))
    (and_first _ (list_all (λ (f : KeepFactTree). form_names_only (is_at_hand_in before k) f.form) k.facts) at_hand)
    (and_first (are_names (own_tokens k)) (are_apart (own_tokens k)) (and_first (are_apart_names (own_tokens k)) _ rest)) (λ n is. is) where
      rest : (are_apart_names (own_tokens k) && (list_all (λ (l : KeepLineTree). shape_is_named x (known_here x) l.shape) k.lines && list_all (λ (f : KeepFactTree). is_formula (known_here x) f.form) k.facts)) ≡ true
      rest = and_second (are_apart_names k.names) _ named
