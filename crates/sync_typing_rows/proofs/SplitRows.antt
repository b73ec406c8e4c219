-- The rows of `split` and `merge`.
use Rattle.std.proofs.Common.{arith}
use Rattle.std.proofs.lemmas.Bool.{and_parts, and_from}
use Rattle.std.proofs.lemmas.Bool.Decides.{nat_tests}
use Rattle.std.proofs.lemmas.Int.{ints}
use Rattle.std.proofs.lemmas.List.{get_or-set_same, get_or-set_other}
use Rattle.std.specs.List.{AllByRecursion}
use Rattle.std.specs.Prelude.{◌≡◌, ℕ, ℤ, pos, ◌<◌, ◌≤◌, ◌≤ℤ◌, ◌+ℤ◌, ◌-ℤ◌, int_le, Bool, true, false, not, ◌&&◌, ◌||◌, if◌then◌else◌, nat_eq, List, [], ◌∷◌, ◌++◌, length, slice_index_or, zero, suc, Option, Some, None, is_some, option_map, Ok, Err}
use Rattle.sync_base.specs.Outcome.{first}
use Rattle.sync_base.specs.declared.stops.Rule.TheVariants.{T4}
use Rattle.sync_base.specs.declared.strategies.Strategy.{Strategy}
use Rattle.sync_base.specs.declared.strategies.Strategy.TheVariants.{Variable, Constant, NotTokenized, Option as OptionField, Map, Set, Multiset, Count, PersistentOption, PersistentMap, PersistentSet, PersistentCount, StorageMap}
use Rattle.sync_exchange.proofs.Keeping.{split-keeps, merge-keeps}
use Rattle.sync_exchange.specs.Exchange.{held_as}
use Rattle.sync_exchange.specs.Splitting.{dropped, held, merged_of, replaced, split_of}
use Rattle.sync_exchange.specs.declared.hands.Held.{Held}
use Rattle.sync_exchange_values.specs.Fitting.{number_fits}
use Rattle.sync_join.specs.Shards.{perm}
use Rattle.sync_join.specs.declared.tokens.Token.{Token as Shard}
use Rattle.sync_kernel_facts.specs.Laws.{AreTrue}
use Rattle.sync_machine.specs.States.{strategy_at}
use Rattle.sync_rules.specs.Locality.{names_only}
use Rattle.sync_terms.specs.Trees.{Tree, Lit, Name, Add, Sub, Le}
use Rattle.sync_terms.specs.Values.{Valuation, num, truth, Holds}
use Rattle.sync_thread.specs.Control.{Do, Halt, Wide}
use Rattle.sync_thread.specs.Programs.{ListTree, Merge, Proof, ScriptTree, Split}
use Rattle.sync_thread.specs.Resting.{PassesUnless, Round}
use Rattle.sync_thread_machine.specs.MachineWithProgram.{MachineWithProgram, fields_of}
use Rattle.sync_thread_machine.specs.ProgramSymbols.{held_of, wrap_symbol}
use Rattle.sync_thread_meaning.specs.Meaning.{World, InThread, annotated_language, is_count, is_count_strategy, local_step, proof_step, with_shares}
use Rattle.sync_thread_meaning.specs.Shares.{Sight, amount_of, are_new, bounded, hand_of, is_seen, named_value, nowhere_near, only_if, proofs_of, sight_of, term_value, with_hand, wrap_of}
use Rattle.sync_thread.specs.Code.{locals_of}
use Rattle.sync_typing.specs.Blocks.{can_split, has_kind, merge_row, split_row, with_amount}
use Rattle.sync_typing.specs.Dues.{Due, Makes, Owes, asked_dues, at_hand_due, new_names_due}
use Rattle.sync_typing.specs.Environments.{Env, TokenTree, Tokens, hand_after, is_at_hand, read, take_in, token}
use Rattle.sync_typing.specs.Lists.{Spot}
use Rattle.sync_typing.specs.Names.{are_names, is_number, known_with, list_is_named, local_is_named}
use Rattle.sync_typing.specs.Symbols.{scripts_name_only}
use Rattle.sync_typing_laws.proofs.BlocksBack.{held_dropped}
use Rattle.sync_typing_laws.proofs.BlocksTokens.{held_append}
use Rattle.sync_typing_laws.proofs.KeepingSights.{value_held}
use Rattle.sync_typing_laws.proofs.LocalCopies.{kind_is, last_apart, last_perms, other_hand_whole}
use Rattle.sync_typing_laws.proofs.LocalDues.{Met, row_met}
use Rattle.sync_typing_laws.proofs.LocalHands.{hands_it, take_in_is, with_tokens}
use Rattle.sync_typing_laws.proofs.LocalMoves.{At, at_standing, is_used, standing_at}
use Rattle.sync_typing_laws.proofs.LocalProofs.{Goes}
use Rattle.sync_typing_laws.proofs.LocalRenamed.{none_apart}
use Rattle.sync_typing_laws.proofs.LocalSights as sights
use Rattle.sync_typing_laws.proofs.Deciding.{laws as facts_are_true}
use Rattle.sync_typing_laws.specs.Rests.{IsApart, IsPart, aims_of, worth}
use Rattle.sync_typing_laws.specs.Ruling.{Meanings, scene_at}
use Rattle.sync_typing_laws.specs.Standing.{IsWholeState, Standing, Stayed}
use Rattle.sync_typing_rows.specs.SplitLaws.{SplitRowsGoOn}
use Rattle.sync_typing_rows.proofs.ReplacedHands.{dropped_apart, dropped_perms, held_replaced, replaced_apart, replaced_perms}
use mathlib.Core.Path.{refl, sym, ap, subst, ◌∙◌}

is_there : {A : Type 0} (o : Option A) → is_some o ≡ true → (u : A) × (o ≡ Some u)
is_there None k = absurd (let never : false ≡ true = k in cc)
is_there (Some u) k = (u, refl)

not_there : {A : Type 0} (o : Option A) → not (is_some o) ≡ true → o ≡ None
not_there None k = refl
not_there (Some u) k = absurd (let never : false ≡ true = k in cc)

not_so : (b : Bool) → not b ≡ true → b ≡ false
not_so true is = absurd (let never : false ≡ true = is in cc)
not_so false is = refl

-- fields that split are counts
counts : (s : Strategy) → can_split s ≡ true → s ≡ Count
counts Count is = refl
counts Variable is = absurd (let never : false ≡ true = is in cc)
counts Constant is = absurd (let never : false ≡ true = is in cc)
counts NotTokenized is = absurd (let never : false ≡ true = is in cc)
counts OptionField is = absurd (let never : false ≡ true = is in cc)
counts Map is = absurd (let never : false ≡ true = is in cc)
counts Set is = absurd (let never : false ≡ true = is in cc)
counts Multiset is = absurd (let never : false ≡ true = is in cc)
counts PersistentOption is = absurd (let never : false ≡ true = is in cc)
counts PersistentMap is = absurd (let never : false ≡ true = is in cc)
counts PersistentSet is = absurd (let never : false ≡ true = is in cc)
counts PersistentCount is = absurd (let never : false ≡ true = is in cc)
counts StorageMap is = absurd (let never : false ≡ true = is in cc)

is_counted : (x : MachineWithProgram) (u : Shard) → strategy_at (fields_of x) u.field ≡ Count → is_count (fields_of x) u ≡ true
is_counted x u is = ap is_count_strategy is

at_most : (a b : ℤ) → int_le a b ≡ true → a ≤ℤ b
at_most a b is = grind (arith, ints, is)

-- a thread's hand is another one: only its own part changes
hand_stayed : (x : MachineWithProgram) (t : ℕ) (s : World) (new : List Held) → Stayed x t s (record { memory = s.memory; shares = with_hand t new s.shares })
hand_stayed x t s new = record { hands = λ i k. get_or-set_other s.shares.hands t i new [] k; proofs = λ i k. refl; wraps = λ i k. refl; locals = λ i k. refl; kept = λ f l c. refl }

all_of : {A : Type 0} (P : A → Type 0) (xs : List A) (i : ℕ) (d : A) → i < length xs → AllByRecursion P xs → P (slice_index_or xs i d)
all_of P [] i d lt all = absurd (omega (arith, lt))
all_of P (x ∷ xs) zero d lt all = all.0
all_of P (x ∷ xs) (suc i) d lt all = all_of P xs i d (omega (arith, lt)) all.1

turned_off : (a b : ℕ) → nat_eq a b ≡ false → nat_eq b a ≡ false
turned_off a b off = grind (arith, nat_tests)

turned_on : (a b : ℕ) → nat_eq a b ≡ true → nat_eq b a ≡ true
turned_on a b is = grind (arith, nat_tests)

same_name : (a b : ℕ) → nat_eq a b ≡ true → a ≡ b
same_name a b is = grind (arith, nat_tests)

-- a name that is held is none that is free
held_or_free : (hand : ℕ → Option TokenTree) (m n b : ℕ) (w : TokenTree) → m ≡ b → m ≡ n → hand n ≡ Some w → hand b ≡ None → ⊥
held_or_free hand m n b w one two has free = let never : Some w ≡ None = sym has ∙ ap hand (sym two ∙ one) ∙ free in cc

first_none : {A : Type 0} (o p : Option A) → p ≡ None → first o p ≡ o
first_none None p is = is
first_none (Some a) p is = refl

token_scoped : (next : ℕ) (a b : TokenTree) → Some a ≡ Some b → names_only (is_used next) a.key ≡ true → names_only (is_used next) a.value ≡ true → (names_only (is_used next) b.key ≡ true) × (names_only (is_used next) b.value ≡ true)
token_scoped next a b same key value = let one : a ≡ b = cc in subst (λ (d : TokenTree). (names_only (is_used next) d.key ≡ true) × (names_only (is_used next) d.value ≡ true)) one (key, value)

-- what an accepted hand says of the state's
module _ (x : MachineWithProgram) (known : Env) (t : ℕ) (v : Valuation) (e : Env) (h : ℕ → Option TokenTree) (new : List Held) (round : List (Round annotated_language Env)) (s : World) (at : At x known t v e round s) (lt : t < length s.shares.hands) where
  pub then_held : ((m : ℕ) → held_as m new ≡ option_map (worth v) (h m)) → ((m : ℕ) (w : TokenTree) → h m ≡ Some w → (names_only (is_used e.fresh) w.key ≡ true) × (names_only (is_used e.fresh) w.value ≡ true))
      → At x known t v (with_tokens h e) round (record { memory = s.memory; shares = with_hand t new s.shares })
  then_held same scoped = hands_it x known t v e h round s (record { memory = s.memory; shares = with_hand t new s.shares })
      (record {
        kept = λ f l c. refl;
        wrap = refl;
        proofs = refl;
        locals = refl;
        hand = λ m. ap (held_as m) (get_or-set_same s.shares.hands t new [] lt) ∙ same m;
        keys = λ m w k. (scoped m w k).0;
        values = λ m w k. (scoped m w k).1;
      }) at

value_so : (fits : ℤ → Bool) (w : Sight) (u : Tree) (b : Bool) → names_only (is_seen w.hand) u ≡ true → number_fits fits w.valuation u ≡ b → term_value fits w u ≡ bounded b (Ok (num w.valuation u))
value_so fits w u b seen is = ap (λ z. only_if z (bounded (number_fits fits w.valuation u) (Ok (num w.valuation u)))) seen ∙ ap (λ z. bounded z (Ok (num w.valuation u))) is

-- ---- the steps

split_step : (fits : ℤ → Bool) (x : MachineWithProgram) (t : ℕ) (s : World) (n a b : ℕ) (amount : Tree) (ss : List ScriptTree) (i : ℤ) (u : Shard) → term_value fits (sight_of (fields_of x) s.memory s.shares t nowhere_near) amount ≡ Ok i → held_as n (hand_of s.shares t) ≡ Some u
    → (is_count (fields_of x) u && int_le (pos 0) i && int_le i u.value && are_new (a ∷ b ∷ []) (hand_of s.shares t)) ≡ true
    → proof_step fits x t InThread s.memory (Split n a b amount ss) s.shares ≡ Ok (with_hand t (split_of n u i a b (hand_of s.shares t)) s.shares)
split_step fits x t s n a b amount ss i u value has test = rw (value, has, test) refl

split_wide : (fits : ℤ → Bool) (x : MachineWithProgram) (t : ℕ) (s : World) (n a b : ℕ) (amount : Tree) (ss : List ScriptTree) → term_value fits (sight_of (fields_of x) s.memory s.shares t nowhere_near) amount ≡ Err Wide
    → proof_step fits x t InThread s.memory (Split n a b amount ss) s.shares ≡ Err Wide
split_wide fits x t s n a b amount ss stops = rw (stops) refl

merge_step : (fits : ℤ → Bool) (x : MachineWithProgram) (t : ℕ) (s : World) (a b into : ℕ) (u w : Shard) (z : Bool) → held_as a (hand_of s.shares t) ≡ Some u → held_as b (hand_of s.shares t) ≡ Some w
    → (not (nat_eq a b) && nat_eq u.field w.field && is_count (fields_of x) u && are_new (into ∷ []) (hand_of s.shares t)) ≡ true → fits (u.value +ℤ w.value) ≡ z
    → proof_step fits x t InThread s.memory (Merge a b into) s.shares ≡ bounded z (Ok (with_hand t (merged_of a u b w into (hand_of s.shares t)) s.shares))
merge_step fits x t s a b into u w z one two test bound = rw (one, two, test, bound) refl

none_of : (z : Bool) (o : Option Shard) → o ≡ None → (if z then None else o) ≡ None
none_of true o k = refl
none_of false o k = k

and_no : (a b : Bool) → b ≡ false → (a && b) ≡ false
and_no true b is = is
and_no false b is = refl

itself : (a : ℕ) → nat_eq a a ≡ true
itself a = grind (arith, nat_tests)

at_least : (v : Valuation) (a b : Tree) → Holds v (Le a b) → int_le (num v a) (num v b) ≡ true
unfolding truth
at_least v a b is = is

sub_used : (p : ℕ → Bool) (a b : Tree) → names_only p a ≡ true → names_only p b ≡ true → names_only p (Sub a b) ≡ true
unfolding names_only
sub_used p a b one two = and_from (names_only p a) (names_only p b) one two

add_used : (p : ℕ → Bool) (a b : Tree) → names_only p a ≡ true → names_only p b ≡ true → names_only p (Add a b) ≡ true
unfolding names_only
add_used p a b one two = and_from (names_only p a) (names_only p b) one two

sum_wide : (fits : ℤ → Bool) (v : Valuation) (y z : ℕ) → fits (v.number y +ℤ v.number z) ≡ false → number_fits fits v (Add (Name y) (Name z)) ≡ false
unfolding number_fits
sum_wide fits v y z is = and_no (fits (v.number y) && fits (v.number z)) (fits (v.number y +ℤ v.number z)) is

last_is : (h : Held) (i : ℕ) → nat_eq i h.name ≡ true → held_as i (h ∷ []) ≡ Some h.token
unfolding held_as
last_is h i k = ap (λ d. if d then Some h.token else None) k

last_not : (h : Held) (i : ℕ) → nat_eq i h.name ≡ false → held_as i (h ∷ []) ≡ None
unfolding held_as
last_not h i k = ap (λ d. if d then Some h.token else None) k

-- ---- new names

none_new : (a b : ℕ) (hs : List Held) → nat_eq a b ≡ false → held_as a hs ≡ None → held_as b hs ≡ None → are_new (a ∷ b ∷ []) hs ≡ true
none_new a b hs apart one two = rw (apart, one, two) refl

one_new : (a : ℕ) (hs : List Held) → held_as a hs ≡ None → are_new (a ∷ []) hs ≡ true
one_new a hs one = rw (one) refl

four : (a b c d : Bool) → a ≡ true → b ≡ true → c ≡ true → d ≡ true → (a && b && c && d) ≡ true
four a b c d i j k l = cc

module _ (x : MachineWithProgram) (known : Env) (t : ℕ) (few : length (fields_of x) ≤ 32) (laws : AreTrue) (round : List (Round annotated_language Env)) (s : World) (whole : IsWholeState x s) (lt : t ≤ length x.program.threads) where
  abbrev here : Sight
  here = sight_of (fields_of x) s.memory s.shares t nowhere_near

  abbrev hs : List Held
  hs = hand_of s.shares t

  hands_lt : t < length s.shares.hands
  hands_lt = let k = whole.tidy.hands in omega (arith, k, lt)

  hand_apart : IsApart hs
  hand_apart = all_of IsApart s.shares.hands t [] hands_lt whole.tidy.apart

  pub split_goes : (fits : ℤ → Bool) (spares : Halt → Type 0) (line n a b : ℕ) (amount : Tree) (ss : List ScriptTree) (e now : Env) → split_row line (fields_of x) n a b amount ss e ≡ Ok now → is_number (known_with x (wrap_symbol ∷ [])) amount ≡ true
      → (number_fits fits here.valuation amount ≡ false → spares Wide) → Standing x known t e round s
      → PassesUnless spares (local_step fits x t (Proof (Split n a b amount ss)) s) (Goes x known t round s now)
  split_goes fits spares line n a b amount ss e now accepted number wide is = by (number_fits fits here.valuation amount) refl where
    v : Valuation
    v = is.values

    at : At x known t v e round s
    at = at_standing x known t e round s is

    rest : Tree
    rest = Sub (token e n).value (read e amount)

    new_tokens : Tokens
    new_tokens = (a, with_amount (token e n) (read e amount)) ∷ (b, with_amount (token e n) rest) ∷ []

    dues : List Due
    dues = at_hand_due e (amount ∷ []) [] ss ∷ asked_dues e [] (has_kind (fields_of x) can_split) n ++ new_names_due e (a ∷ b ∷ []) ∷ Makes (read e amount) ∷ Owes T4 (Le (Lit (pos 0)) (read e amount)) ∷ Owes T4 (Le (read e amount) (token e n).value) ∷ []

    met : AllByRecursion (Met v) dues × (take_in line (n ∷ []) new_tokens e ≡ Ok now)
    met = row_met laws v e line at.stands.known dues ss (take_in line (n ∷ []) new_tokens e) now accepted

    names : names_only (is_at_hand e) amount ≡ true
    names = let k : ((names_only (is_at_hand e) amount && true) && (true && scripts_name_only (is_at_hand e) ss)) ≡ true = met.0.0 in
        (and_parts (names_only (is_at_hand e) amount) true (and_parts (names_only (is_at_hand e) amount && true) (true && scripts_name_only (is_at_hand e) ss) k).0).0

    token_here : (w : TokenTree) × (e.hand n ≡ Some w)
    token_here = is_there (e.hand n) met.0.1.0

    w : TokenTree
    w = token_here.0

    has : e.hand n ≡ Some w
    has = token_here.1

    token_is : token e n ≡ w
    token_is = let k = has in cc

    free_both : (not (is_some (e.hand a)) && (not (is_some (e.hand b)) && true)) ≡ true
    free_both = (and_parts (not (is_some (e.hand a)) && (not (is_some (e.hand b)) && true)) _ met.0.1.1.1.1.0).0

    apart_names : (not (nat_eq a b || false) && (true && true)) ≡ true
    apart_names = (and_parts (not (is_some (e.hand a)) && (not (is_some (e.hand b)) && true)) (not (nat_eq a b || false) && (true && true)) met.0.1.1.1.1.0).1

    free_a : e.hand a ≡ None
    free_a = not_there (e.hand a) (and_parts (not (is_some (e.hand a))) (not (is_some (e.hand b)) && true) free_both).0

    free_b : e.hand b ≡ None
    free_b = not_there (e.hand b) (and_parts (not (is_some (e.hand b))) true (and_parts (not (is_some (e.hand a))) (not (is_some (e.hand b)) && true) free_both).1).0

    apart_ab : nat_eq a b ≡ false
    apart_ab = by_or (nat_eq a b) (and_parts (not (nat_eq a b || false)) (true && true) apart_names).0 where
      by_or : (z : Bool) → not (z || false) ≡ true → z ≡ false
      by_or true k = absurd (let never : false ≡ true = k in cc)
      by_or false k = refl

    u : Shard
    u = worth v w

    i : ℤ
    i = num here.valuation amount

    value : i ≡ num v (read e amount)
    value = sights.term_value x known t v e round s few at amount number names

    low : int_le (pos 0) i ≡ true
    low = ap (λ z. int_le (pos 0) z) value ∙ not_negative where
      not_negative : int_le (pos 0) (num v (read e amount)) ≡ true
      not_negative = at_least v (Lit (pos 0)) (read e amount) met.0.1.1.1.1.1.1.0

    high : int_le i u.value ≡ true
    high = ap (λ z. int_le z u.value) value ∙ subst (λ (d : TokenTree). int_le (num v (read e amount)) (num v d.value) ≡ true) token_is not_more where
      not_more : int_le (num v (read e amount)) (num v (token e n).value) ≡ true
      not_more = at_least v (read e amount) (token e n).value met.0.1.1.1.1.1.1.1.0

    kind : (nat_eq w.field perm ≡ false) × (can_split (strategy_at (fields_of x) w.field) ≡ true)
    kind = kind_is can_split (fields_of x) w.field few (subst (λ (d : TokenTree). has_kind (fields_of x) can_split d.field ≡ true) token_is met.0.1.1.1.0)

    count : strategy_at (fields_of x) w.field ≡ Count
    count = counts (strategy_at (fields_of x) w.field) kind.1

    held_here : held_as n hs ≡ Some u
    held_here = at.stands.hand n ∙ ap (option_map (worth v)) has

    real_a : held_as a hs ≡ None
    real_a = at.stands.hand a ∙ ap (option_map (worth v)) free_a

    real_b : held_as b hs ≡ None
    real_b = at.stands.hand b ∙ ap (option_map (worth v)) free_b

    apart : IsApart hs
    apart = hand_apart

    first_half : Held
    first_half = held a u i

    second_half : Held
    second_half = held b u (u.value -ℤ i)

    new : List Held
    new = split_of n u i a b hs

    front_is : (m : ℕ) → held_as m (replaced n first_half hs) ≡ (if nat_eq m a then Some first_half.token else (if nat_eq m n then None else held_as m hs))
    front_is m = held_replaced n first_half u hs apart held_here real_a m

    free_then : held_as b (replaced n first_half hs) ≡ None
    free_then = front_is b ∙ ap (λ z. if z then Some first_half.token else (if nat_eq b n then None else held_as b hs)) (turned_off a b apart_ab) ∙ none_of (nat_eq b n) (held_as b hs) real_b

    z : World
    z = record { memory = s.memory; shares = with_hand t new s.shares }

    whole_then : IsWholeState x z
    whole_then = other_hand_whole x t new s hands_lt (split-keeps (fields_of x) hs n u held_here count i (at_most (pos 0) i low) (at_most i u.value high) a b)
        (last_perms (replaced n first_half hs) second_half kind.0 ∙ replaced_perms n first_half u hs held_here kind.0 kind.0)
        (last_apart (replaced n first_half hs) second_half (none_apart b (replaced n first_half hs) free_then) (replaced_apart n first_half hs apart real_a)) whole

    h : ℕ → Option TokenTree
    h = hand_after (n ∷ []) new_tokens e.hand

    tokens_are : (tk : TokenTree) → tk ≡ w → (worth v (with_amount tk (read e amount)) ≡ first_half.token) × (worth v (with_amount tk (Sub tk.value (read e amount))) ≡ second_half.token)
    tokens_are tk same = (subst (λ (d : TokenTree). worth v (with_amount d (read e amount)) ≡ first_half.token) (sym same) (ap (λ (k : ℤ). (held a u k).token) (sym value)), subst (λ (d : TokenTree). worth v (with_amount d (Sub d.value (read e amount))) ≡ second_half.token) (sym same) (ap (λ (k : ℤ). (held b u (u.value -ℤ k)).token) (sym value)))

    held_then : (m : ℕ) → held_as m new ≡ option_map (worth v) (h m)
    held_then m = held_append m (replaced n first_half hs) (second_half ∷ []) ∙ ap (λ o. first o (held_as m (second_half ∷ []))) (front_is m) ∙ cases (nat_eq m a) refl (nat_eq m b) refl (nat_eq m n) refl where
      cases : (p : Bool) → nat_eq m a ≡ p → (q : Bool) → nat_eq m b ≡ q → (r : Bool) → nat_eq m n ≡ r → first (if p then Some first_half.token else (if r then None else held_as m hs)) (held_as m (second_half ∷ [])) ≡ option_map (worth v) (h m)
      cases true ka q kb r kn = sym (ap (λ d. option_map (worth v) (first (if d then Some (with_amount (token e n) (read e amount)) else (if nat_eq b m then Some (with_amount (token e n) rest) else None)) (if nat_eq m n || false then None else e.hand m))) (turned_on m a ka) ∙ ap Some (tokens_are (token e n) token_is).0)
      cases false ka true kb true kn = absurd (held_or_free e.hand m n b w (same_name m b kb) (same_name m n kn) has free_b)
      cases false ka true kb false kn = ap (λ o. first o (held_as m (second_half ∷ []))) (subst (λ d. held_as d hs ≡ None) (sym (same_name m b kb)) real_b) ∙ last_is second_half m kb ∙ sym (ap (λ d. option_map (worth v) (first (if d then Some (with_amount (token e n) (read e amount)) else (if nat_eq b m then Some (with_amount (token e n) rest) else None)) (if nat_eq m n || false then None else e.hand m))) (turned_off m a ka)
          ∙ ap (λ d. option_map (worth v) (first (if d then Some (with_amount (token e n) rest) else None) (if nat_eq m n || false then None else e.hand m))) (turned_on m b kb) ∙ ap Some (tokens_are (token e n) token_is).1)
      cases false ka false kb r kn = first_none (if r then None else held_as m hs) (held_as m (second_half ∷ [])) (last_not second_half m kb) ∙ others r (at.stands.hand m) ∙ sym (ap (λ d. option_map (worth v) (first (if d then Some (with_amount (token e n) (read e amount)) else (if nat_eq b m then Some (with_amount (token e n) rest) else None)) (if nat_eq m n || false then None else e.hand m))) (turned_off m a ka)
          ∙ ap (λ d. option_map (worth v) (first (if d then Some (with_amount (token e n) rest) else None) (if nat_eq m n || false then None else e.hand m))) (turned_off m b kb) ∙ ap (λ d. option_map (worth v) (if d || false then None else e.hand m)) kn) where
            others : (d : Bool) → held_as m hs ≡ option_map (worth v) (e.hand m) → (if d then None else held_as m hs) ≡ option_map (worth v) (if d || false then None else e.hand m)
            others true k = refl
            others false k = k

    scoped : (m : ℕ) (tk : TokenTree) → h m ≡ Some tk → (names_only (is_used e.fresh) tk.key ≡ true) × (names_only (is_used e.fresh) tk.value ≡ true)
    scoped m tk is = from (nat_eq a m) (nat_eq b m) (nat_eq m n || false) is where
      keys : names_only (is_used e.fresh) (token e n).key ≡ true
      keys = subst (λ (d : TokenTree). names_only (is_used e.fresh) d.key ≡ true) (sym token_is) (at.stands.scoped.keys n w has)

      values : names_only (is_used e.fresh) (token e n).value ≡ true
      values = subst (λ (d : TokenTree). names_only (is_used e.fresh) d.value ≡ true) (sym token_is) (at.stands.scoped.values n w has)

      amounts : names_only (is_used e.fresh) (read e amount) ≡ true
      amounts = sights.read_used x known t v e round s few at amount names

      rests : names_only (is_used e.fresh) rest ≡ true
      rests = sub_used (is_used e.fresh) (token e n).value (read e amount) values amounts

      from : (p q r : Bool) → first (if p then Some (with_amount (token e n) (read e amount)) else (if q then Some (with_amount (token e n) rest) else None)) (if r then None else e.hand m) ≡ Some tk → (names_only (is_used e.fresh) tk.key ≡ true) × (names_only (is_used e.fresh) tk.value ≡ true)
      from true q r k = token_scoped e.fresh (with_amount (token e n) (read e amount)) tk k keys amounts
      from false true r k = token_scoped e.fresh (with_amount (token e n) rest) tk k keys rests
      from false false true k = absurd (let never : None ≡ Some tk = k in cc)
      from false false false k = (at.stands.scoped.keys m tk k, at.stands.scoped.values m tk k)

    good : Goes x known t round s now z
    good = (
      whole_then,
      hand_stayed x t s new,
      standing_at x known t v now round z (subst (λ d. At x known t v d round z) (take_in_is line (n ∷ []) new_tokens e now met.1) (then_held x known t v e h new round s at hands_lt held_then scoped)),
    )

    seen : names_only (is_seen hs) amount ≡ true
    seen = sights.term_seen x known t v e round s few at amount names

    by : (p : Bool) → number_fits fits here.valuation amount ≡ p → PassesUnless spares (local_step fits x t (Proof (Split n a b amount ss)) s) (Goes x known t round s now)
    by true k = subst (λ r. PassesUnless spares (with_shares s.memory r) (Goes x known t round s now)) (sym (split_step fits x t s n a b amount ss i u answer held_here (four (is_count (fields_of x) u) (int_le (pos 0) i) (int_le i u.value) (are_new (a ∷ b ∷ []) hs) (is_counted x u count) low high (none_new a b hs apart_ab real_a real_b)))) good where
      answer : term_value fits here amount ≡ Ok i
      answer = value_so fits here amount true seen k
    by false k = subst (λ r. PassesUnless spares (with_shares s.memory r) (Goes x known t round s now)) (sym (split_wide fits x t s n a b amount ss stops)) (wide k) where
      stops : term_value fits here amount ≡ Err Wide
      stops = value_so fits here amount false seen k

  pub merge_goes : (fits : ℤ → Bool) (spares : Halt → Type 0) (line a b into : ℕ) (e now : Env) → merge_row line (fields_of x) a b into e ≡ Ok now
      → ((u : Tree) → number_fits fits here.valuation u ≡ false → spares Wide) → Standing x known t e round s
      → PassesUnless spares (local_step fits x t (Proof (Merge a b into)) s) (Goes x known t round s now)
  merge_goes fits spares line a b into e now accepted wide is = by (fits (u.value +ℤ w.value)) refl where
    v : Valuation
    v = is.values

    at : At x known t v e round s
    at = at_standing x known t e round s is

    sum : TokenTree
    sum = with_amount (token e a) (Add (token e a).value (token e b).value)

    dues : List Due
    dues = asked_dues e [] (has_kind (fields_of x) can_split) a ++ asked_dues e (a ∷ []) (nat_eq (token e a).field) b ++ new_names_due e (into ∷ []) ∷ []

    met : AllByRecursion (Met v) dues × (take_in line (a ∷ b ∷ []) ((into, sum) ∷ []) e ≡ Ok now)
    met = row_met laws v e line at.stands.known dues [] (take_in line (a ∷ b ∷ []) ((into, sum) ∷ []) e) now accepted

    one_here : (k : TokenTree) × (e.hand a ≡ Some k)
    one_here = is_there (e.hand a) met.0.0

    two_here : (k : TokenTree) × (e.hand b ≡ Some k)
    two_here = is_there (e.hand b) met.0.1.1.1.0

    one : TokenTree
    one = one_here.0

    two : TokenTree
    two = two_here.0

    one_is : token e a ≡ one
    one_is = let k = one_here.1 in cc

    two_is : token e b ≡ two
    two_is = let k = two_here.1 in cc

    apart_ba : nat_eq b a ≡ false
    apart_ba = by_or (nat_eq b a) met.0.1.1.1.1.0 where
      by_or : (z : Bool) → not (z || false) ≡ true → z ≡ false
      by_or true k = absurd (let never : false ≡ true = k in cc)
      by_or false k = refl

    same_field : nat_eq one.field two.field ≡ true
    same_field = subst (λ (d : TokenTree). nat_eq d.field two.field ≡ true) one_is (subst (λ (d : TokenTree). nat_eq (token e a).field d.field ≡ true) two_is met.0.1.1.1.1.1.0)

    free : e.hand into ≡ None
    free = (let k : ((not (is_some (e.hand into)) && true) && true) ≡ true = met.0.1.1.1.1.1.1.0 in not_there (e.hand into) (and_parts (not (is_some (e.hand into))) true (and_parts (not (is_some (e.hand into)) && true) true k).0).0)

    u : Shard
    u = worth v one

    w : Shard
    w = worth v two

    kind : (nat_eq one.field perm ≡ false) × (can_split (strategy_at (fields_of x) one.field) ≡ true)
    kind = kind_is can_split (fields_of x) one.field few (subst (λ (d : TokenTree). has_kind (fields_of x) can_split d.field ≡ true) one_is met.0.1.1.0)

    count : strategy_at (fields_of x) one.field ≡ Count
    count = counts (strategy_at (fields_of x) one.field) kind.1

    two_off : nat_eq two.field perm ≡ false
    two_off = subst (λ d. nat_eq d perm ≡ false) (same_name one.field two.field same_field) kind.0

    held_one : held_as a hs ≡ Some u
    held_one = at.stands.hand a ∙ ap (option_map (worth v)) one_here.1

    held_two : held_as b hs ≡ Some w
    held_two = at.stands.hand b ∙ ap (option_map (worth v)) two_here.1

    real_free : held_as into hs ≡ None
    real_free = at.stands.hand into ∙ ap (option_map (worth v)) free

    joined : Held
    joined = held into u (u.value +ℤ w.value)

    new : List Held
    new = merged_of a u b w into hs

    less_is : (m : ℕ) → held_as m (dropped b hs) ≡ (if nat_eq m b then None else held_as m hs)
    less_is m = held_dropped m b hs hand_apart

    one_left : held_as a (dropped b hs) ≡ Some u
    one_left = less_is a ∙ ap (λ z. if z then None else held_as a hs) (turned_off b a apart_ba) ∙ held_one

    free_left : held_as into (dropped b hs) ≡ None
    free_left = less_is into ∙ none_of (nat_eq into b) (held_as into hs) real_free

    new_is : (m : ℕ) → held_as m new ≡ (if nat_eq m into then Some joined.token else (if nat_eq m a then None else held_as m (dropped b hs)))
    new_is m = held_replaced a joined u (dropped b hs) (dropped_apart b hs hand_apart) one_left free_left m

    z : World
    z = record { memory = s.memory; shares = with_hand t new s.shares }

    whole_then : IsWholeState x z
    whole_then = other_hand_whole x t new s hands_lt
        (merge-keeps (fields_of x) hs a b u w (λ k. (let never : true ≡ false = sym (subst (λ d. nat_eq d a ≡ true) k (itself a)) ∙ apart_ba in cc)) held_one held_two (sym (same_name one.field two.field same_field)) count into)
        (replaced_perms a joined u (dropped b hs) one_left kind.0 kind.0 ∙ dropped_perms b w hs held_two two_off) (replaced_apart a joined (dropped b hs) (dropped_apart b hs hand_apart) free_left) whole

    h : ℕ → Option TokenTree
    h = hand_after (a ∷ b ∷ []) ((into, sum) ∷ []) e.hand

    sum_is : worth v sum ≡ joined.token
    sum_is = subst (λ (d : TokenTree). worth v (with_amount d (Add d.value (token e b).value)) ≡ joined.token) (sym one_is) (subst (λ (d : TokenTree). worth v (with_amount one (Add one.value d.value)) ≡ joined.token) (sym two_is) refl)

    held_then : (m : ℕ) → held_as m new ≡ option_map (worth v) (h m)
    held_then m = new_is m ∙ cases (nat_eq m into) refl (nat_eq m a) refl (nat_eq m b) refl where
      left : Bool → Option TokenTree → Option TokenTree
      left k o = first (if k then Some sum else None) o

      cases : (p : Bool) → nat_eq m into ≡ p → (q : Bool) → nat_eq m a ≡ q → (r : Bool) → nat_eq m b ≡ r → (if p then Some joined.token else (if q then None else held_as m (dropped b hs))) ≡ option_map (worth v) (h m)
      cases true k q ka r kb = sym (ap (λ d. option_map (worth v) (left d (if nat_eq m a || (nat_eq m b || false) then None else e.hand m))) (turned_on m into k) ∙ ap Some sum_is)
      cases false k true ka r kb = sym (ap (λ d. option_map (worth v) (left d (if nat_eq m a || (nat_eq m b || false) then None else e.hand m))) (turned_off m into k) ∙ ap (λ d. option_map (worth v) (if d || (nat_eq m b || false) then None else e.hand m)) ka)
      cases false k false ka r kb = less_is m ∙ others r kb (at.stands.hand m) ∙ sym (ap (λ d. option_map (worth v) (left d (if nat_eq m a || (nat_eq m b || false) then None else e.hand m))) (turned_off m into k) ∙ ap (λ d. option_map (worth v) (if d || (nat_eq m b || false) then None else e.hand m)) ka ∙ ap (λ d. option_map (worth v) (if d || false then None else e.hand m)) kb) where
        others : (d : Bool) → nat_eq m b ≡ d → held_as m hs ≡ option_map (worth v) (e.hand m) → (if nat_eq m b then None else held_as m hs) ≡ option_map (worth v) (if d || false then None else e.hand m)
        others true kd is = ap (λ d. if d then None else held_as m hs) kd
        others false kd is = ap (λ d. if d then None else held_as m hs) kd ∙ is

    scoped : (m : ℕ) (tk : TokenTree) → h m ≡ Some tk → (names_only (is_used e.fresh) tk.key ≡ true) × (names_only (is_used e.fresh) tk.value ≡ true)
    scoped m tk is = from (nat_eq into m) (nat_eq m a || (nat_eq m b || false)) is where
      keys : names_only (is_used e.fresh) (token e a).key ≡ true
      keys = subst (λ (d : TokenTree). names_only (is_used e.fresh) d.key ≡ true) (sym one_is) (at.stands.scoped.keys a one one_here.1)

      values : names_only (is_used e.fresh) (Add (token e a).value (token e b).value) ≡ true
      values = add_used (is_used e.fresh) (token e a).value (token e b).value
          (subst (λ (d : TokenTree). names_only (is_used e.fresh) d.value ≡ true) (sym one_is) (at.stands.scoped.values a one one_here.1))
          (subst (λ (d : TokenTree). names_only (is_used e.fresh) d.value ≡ true) (sym two_is) (at.stands.scoped.values b two two_here.1))

      from : (p r : Bool) → first (if p then Some sum else None) (if r then None else e.hand m) ≡ Some tk → (names_only (is_used e.fresh) tk.key ≡ true) × (names_only (is_used e.fresh) tk.value ≡ true)
      from true r k = token_scoped e.fresh sum tk k keys values
      from false true k = absurd (let never : None ≡ Some tk = k in cc)
      from false false k = (at.stands.scoped.keys m tk k, at.stands.scoped.values m tk k)

    good : Goes x known t round s now z
    good = (
      whole_then,
      hand_stayed x t s new,
      standing_at x known t v now round z (subst (λ d. At x known t v d round z) (take_in_is line (a ∷ b ∷ []) ((into, sum) ∷ []) e now met.1) (then_held x known t v e h new round s at hands_lt held_then scoped)),
    )

    test : (not (nat_eq a b) && nat_eq u.field w.field && is_count (fields_of x) u && are_new (into ∷ []) hs) ≡ true
    test = four (not (nat_eq a b)) (nat_eq u.field w.field) (is_count (fields_of x) u) (are_new (into ∷ []) hs) (ap not (turned_off b a apart_ba)) same_field (is_counted x u count) (one_new into hs real_free)

    step : (k : Bool) → fits (u.value +ℤ w.value) ≡ k → proof_step fits x t InThread s.memory (Merge a b into) s.shares ≡ bounded k (Ok (with_hand t new s.shares))
    step k is = merge_step fits x t s a b into u w k held_one held_two test is

    -- the sum of the two tokens is the value of a term
    amount : (n : ℕ) (k : Shard) → held_as n hs ≡ Some k → here.valuation.number (held_of n) ≡ k.value
    amount n k is = value_held (fields_of x) s.shares.kept (pos 0 ∷ pos 0 ∷ pos 0 ∷ pos 0 ∷ wrap_of s.shares t ∷ []) (named_value (proofs_of s.shares t) (locals_of s.memory t)) hs n few ∙ ap amount_of is

    too_wide : fits (u.value +ℤ w.value) ≡ false → number_fits fits here.valuation (Add (Name (held_of a)) (Name (held_of b))) ≡ false
    too_wide k = sum_wide fits here.valuation (held_of a) (held_of b)
        (subst (λ d. fits d ≡ false) (sym (ap (λ d. d +ℤ here.valuation.number (held_of b)) (amount a u held_one) ∙ ap (λ d. u.value +ℤ d) (amount b w held_two))) k)

    by : (k : Bool) → fits (u.value +ℤ w.value) ≡ k → PassesUnless spares (local_step fits x t (Proof (Merge a b into)) s) (Goes x known t round s now)
    by true k = subst (λ r. PassesUnless spares (with_shares s.memory r) (Goes x known t round s now)) (sym (step true k)) good
    by false k = subst (λ r. PassesUnless spares (with_shares s.memory r) (Goes x known t round s now)) (sym (step false k)) (wide (Add (Name (held_of a)) (Name (held_of b))) (too_wide k))

pub split_rows_go_on : (m : Meanings) → SplitRowsGoOn m
split_rows_go_on m fits x known t of_text wide = record {
  splits = λ n one two amount ss p line rest part e now row round s whole is.
      split_goes x known t of_text.few facts_are_true round s whole of_text.there fits m.Spares line n one two amount ss e now row (is_amount n one two amount ss p line rest part) (wide s amount) is;
  merges = λ a b into p line rest part e now row round s whole is.
      merge_goes x known t of_text.few facts_are_true round s whole of_text.there fits m.Spares line a b into e now row (wide s) is;
} where
  is_amount : (n one two : ℕ) (amount : Tree) (ss : List ScriptTree) (p : Spot) (line : ℕ) (rest : ListTree) → IsPart x (scene_at x t).locals p (Do (Proof (Split n one two amount ss)) line rest) → is_number (known_with x (wrap_symbol ∷ [])) amount ≡ true
  is_amount n one two amount ss p line rest part =
      let named : (are_names (n ∷ one ∷ two ∷ []) && is_number (known_with x (wrap_symbol ∷ [])) amount) ≡ true = (and_parts (local_is_named x (scene_at x t).locals (Proof (Split n one two amount ss))) (list_is_named x (scene_at x t).locals (aims_of p) rest) part.named).0 in
      (and_parts (are_names (n ∷ one ∷ two ∷ [])) (is_number (known_with x (wrap_symbol ∷ [])) amount) named).1
