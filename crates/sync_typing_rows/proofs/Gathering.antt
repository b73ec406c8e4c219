-- The final block takes over: what each thread had by its last keep the final block has by it.
use Rattle.std.proofs.Common.{arith}
use Rattle.std.proofs.lemmas.Bool.Decides.{nat_tests}
use Rattle.std.proofs.lemmas.List.{get_or-set_same, length-set}
use Rattle.std.specs.List.{AllByRecursion, IsDistinct, list_any}
use Rattle.std.specs.Prelude.{◌≡◌, ℕ, zero, suc, ◌<◌, ℤ, pos, Bool, true, false, not, ◌||◌, if◌then◌else◌, nat_eq, List, [], ◌∷◌, ◌++◌, length, map, flat_map, slice_get, slice_set, slice_index_or, Option, Some, None, is_some, unwrap_or}
use Rattle.sync_base.specs.Outcome.{first}
use Rattle.sync_exchange.specs.Exchange.{held_as}
use Rattle.sync_exchange.specs.declared.hands.Held.{Held}
use Rattle.sync_join.proofs.Rearranged.{IsRearranged, rearranged-refl}
use Rattle.sync_join.specs.declared.tokens.Token.{Token as Shard}
use Rattle.sync_machine.specs.Naming.{is_in}
use Rattle.sync_machine.specs.States.{Numbers}
use Rattle.sync_thread.specs.Code.{locals_of}
use Rattle.sync_thread.specs.Programs.{KeepTree, ThreadTree}
use Rattle.sync_thread_machine.specs.MachineWithProgram.{MachineWithProgram, fields_of}
use Rattle.sync_thread_meaning.proofs.FinalHands.{final_takes_all}
use Rattle.sync_thread_meaning.specs.Meaning.{World, all_values, gather, gathered}
use Rattle.sync_thread_meaning.specs.Shares.{Sight, all_shards, amount_of, hand_of, named_value, overlaid, proofs_of, wrap_of}
use Rattle.sync_typing.specs.Dues.{are_apart}
use Rattle.sync_typing.specs.Environments.{Env}
use Rattle.sync_typing.specs.Keeps.{is_at_hand_in, own_tokens}
use Rattle.sync_typing.specs.Names.{ends_are_apart, known_with}
use Rattle.sync_typing.specs.Typing.{all_ends, constants}
use Rattle.sync_typing_laws.proofs.BlocksTokens.{held_append}
use Rattle.sync_typing_laws.proofs.KeepingSights.{OfField, OfHeld, OfName, OfWrap, Symbol, own_token, symbol_of, value_field, value_held, value_name}
use Rattle.sync_typing_laws.proofs.KeepingTerms.{Same, and_first, and_second}
use Rattle.sync_typing_laws.proofs.LocalRenamed.{names_of, none_apart}
use Rattle.sync_typing_laws.specs.Rests.{IsApart, KnowsConstants}
use Rattle.sync_typing_laws.specs.RowLaws.{IsThreadOf}
use Rattle.sync_typing_laws.specs.Standing.{IsWholeState}
use Rattle.sync_typing_rows.proofs.BeginTerms.{in_append, or_false}
use Rattle.sync_typing_rows.proofs.Ending.{carried, constants_scoped, lines_held, no_wrap_known, only_constants, own_name}
use Rattle.sync_typing_rows.proofs.KeepingWhole.{moved_whole}
use Rattle.sync_typing_rows.proofs.MoreNames.{known_more}
use Rattle.sync_typing_rows.specs.BeginLaws.{HasKept, sight_at, tokens_of}
use Rattle.sync_typing_rows.specs.BeginLaws as begin
use Rattle.sync_typing_rows.specs.EndLaws.{IsThreadKeep}
use Rattle.sync_typing_rows.specs.GatherLaws.{AllHaveEnded, GathersGoOn, HasNothingYet, HasTakenAll}
use mathlib.Core.Path.{refl, sym, ap, subst, ◌∙◌}

-- ---- the first that there is

abbrev first_of : {A B : Type 0} → (A → Option B) → List A → Option B
first_of f [] = None
first_of f (a ∷ xs) = first (f a) (first_of f xs)

first_at : {A B : Type 0} (f : A → Option B) (xs : List A) (i : ℕ) (d : A) (b : B) → i < length xs → f (slice_index_or xs i d) ≡ Some b → ((j : ℕ) → j < i → f (slice_index_or xs j d) ≡ None) → first_of f xs ≡ Some b
first_at f [] i d b lt is none = absurd (omega (arith, lt))
first_at f (a ∷ xs) zero d b lt is none = ap (λ o. first o (first_of f xs)) is
first_at f (a ∷ xs) (suc i) d b lt is none = ap (λ o. first o (first_of f xs)) (none 0 (omega arith)) ∙ first_at f xs i d b (omega (arith, lt)) is (λ j less. none (suc j) (omega (arith, less)))

first_not : {A B : Type 0} (f : A → Option B) (xs : List A) (d : A) → ((j : ℕ) → j < length xs → f (slice_index_or xs j d) ≡ None) → first_of f xs ≡ None
first_not f [] d none = refl
first_not f (a ∷ xs) d none = ap (λ o. first o (first_of f xs)) (none 0 (omega arith)) ∙ first_not f xs d (λ j less. none (suc j) (omega (arith, less)))

over_first : (f g : ℕ → Option ℤ) (y : ℕ) → overlaid f g y ≡ first (f y) (g y)
over_first f g y = by (f y) refl where
  by : (o : Option ℤ) → f y ≡ o → overlaid f g y ≡ first (f y) (g y)
  by None k = cc
  by (Some n) k = cc

values_are : (fs : List (ℕ → Option ℤ)) (y : ℕ) → all_values fs y ≡ first_of (λ f. f y) fs
values_are [] y = refl
values_are (f ∷ fs) y = over_first f (all_values fs) y ∙ ap (λ o. first (f y) o) (values_are fs y)

abbrev joined : List (List Held) → List Held
joined hs = flat_map (λ (h : List Held). h) hs

joined_is : (hs : List (List Held)) (n : ℕ) → held_as n (joined hs) ≡ first_of (held_as n) hs
unfolding held_as
joined_is [] n = refl
joined_is (h ∷ hs) n = held_append n h (joined hs) ∙ ap (λ o. first (held_as n h) o) (joined_is hs n)

-- ---- hands together

common : (n : ℕ) (hs : List Held) (a : Shard) → held_as n hs ≡ Some a → (held_as n hs ≡ None) → ⊥
common n hs a some none = let no : Some a ≡ None = sym some ∙ none in cc

append_names : (n : ℕ) (xs ys : List Held) → AllByRecursion (λ y. nat_eq n y ≡ false) (names_of xs) → AllByRecursion (λ y. nat_eq n y ≡ false) (names_of ys) → AllByRecursion (λ y. nat_eq n y ≡ false) (names_of (xs ++ ys))
append_names n [] ys one two = two
append_names n (x ∷ xs) ys one two = (one.0, append_names n xs ys one.1 two)

here_held : (h : Held) (hs : List Held) → held_as h.name (h ∷ hs) ≡ Some h.token
unfolding held_as
here_held h hs = let same : nat_eq h.name h.name ≡ true = grind (arith, nat_tests) in ap (λ b. if b then Some h.token else held_as h.name hs) same

later_held : (n : ℕ) (h : Held) (hs : List Held) → (a : Shard) → held_as n hs ≡ Some a → (b : Shard) × (held_as n (h ∷ hs) ≡ Some b)
unfolding held_as
later_held n h hs a is = by (nat_eq n h.name) where
  by : (c : Bool) → (b : Shard) × ((if c then Some h.token else held_as n hs) ≡ Some b)
  by true = (h.token, refl)
  by false = (a, is)

two_apart : (xs ys : List Held) → IsApart xs → IsApart ys → ((n : ℕ) (a : Shard) → held_as n xs ≡ Some a → held_as n ys ≡ None) → IsApart (xs ++ ys)
unfolding IsDistinct
two_apart [] ys one two off = two
two_apart (x ∷ xs) ys one two off = (
  append_names x.name xs ys one.0 (none_apart x.name ys (off x.name x.token (here_held x xs))),
  two_apart xs ys one.1 two (λ n a is. (let later = later_held n x xs a is in off n later.0 later.1)),
)

joined_apart : (hs : List (List Held)) → AllByRecursion IsApart hs → ((i j n : ℕ) → i < j → j < length hs → (a : Shard) → held_as n (slice_index_or hs i []) ≡ Some a → held_as n (slice_index_or hs j []) ≡ None) → IsApart (joined hs)
unfolding IsDistinct
joined_apart [] all off = tt
joined_apart (h ∷ hs) all off = two_apart h (joined hs) all.0 (joined_apart hs all.1 (λ i j n less lt a is. off (suc i) (suc j) n (omega (arith, less)) (omega (arith, lt)) a is))
    (λ n a is. joined_is hs n ∙ first_not (held_as n) hs [] (λ j lt. off 0 (suc j) n (omega arith) (omega (arith, lt)) a is))

gathered_each : (P : List Held → Type 0) → P [] → (hs : List (List Held)) (all : List Held) → P (all ++ joined hs) → AllByRecursion P (gathered hs all)
gathered_each P none [] all is = (subst P (append_none all) is, tt) where
  append_none : (xs : List Held) → xs ++ [] ≡ xs
  append_none [] = refl
  append_none (y ∷ ys) = ap (λ zs. y ∷ zs) (append_none ys)
gathered_each P none (h ∷ []) all is = (subst (λ zs. P (all ++ zs)) (append_none h) is, tt) where
  append_none : (xs : List Held) → xs ++ [] ≡ xs
  append_none [] = refl
  append_none (y ∷ ys) = ap (λ zs. y ∷ zs) (append_none ys)
gathered_each P none (h ∷ i ∷ hs) all is = (none, gathered_each P none (i ∷ hs) (all ++ h) (subst P (grouped all h (joined (i ∷ hs))) is)) where
  grouped : (xs ys zs : List Held) → xs ++ (ys ++ zs) ≡ (xs ++ ys) ++ zs
  grouped [] ys zs = refl
  grouped (x ∷ xs) ys zs = ap (λ us. x ∷ us) (grouped xs ys zs)

gathered_length : (hs : List (List Held)) (all : List Held) (n : ℕ) → length hs ≡ suc n → length (gathered hs all) ≡ suc n
gathered_length [] all n many = absurd (omega (arith, many))
gathered_length (h ∷ []) all n many = many
gathered_length (h ∷ i ∷ hs) all zero many = absurd (omega (arith, many))
gathered_length (h ∷ i ∷ hs) all (suc n) many = ap suc (gathered_length (i ∷ hs) (all ++ h) n (omega (arith, many)))

-- ---- keeps that have nothing in common

any_in : (n : ℕ) (ns : List ℕ) → list_any (nat_eq n) ns ≡ is_in n ns
any_in n [] = refl
any_in n (m ∷ ns) = ap (λ b. nat_eq n m || b) (any_in n ns)

not_both : (xs ys : List ℕ) → are_apart (xs ++ ys) ≡ true → (y : ℕ) → is_in y xs ≡ true → is_in y ys ≡ true → ⊥
not_both [] ys apart y one two = let no : false ≡ true = one in cc
not_both (n ∷ xs) ys apart y one two = by (nat_eq y n) refl one (not_both xs ys (and_second (not (list_any (nat_eq n) (xs ++ ys))) _ apart) y) where
  off : is_in n (xs ++ ys) ≡ false
  off = sym (any_in n (xs ++ ys)) ∙ false_of (list_any (nat_eq n) (xs ++ ys)) (and_first (not (list_any (nat_eq n) (xs ++ ys))) _ apart) where
    false_of : (b : Bool) → not b ≡ true → b ≡ false
    false_of true k = let no : false ≡ true = k in cc
    false_of false k = refl

  by : (b : Bool) → nat_eq y n ≡ b → (b || is_in y xs) ≡ true → (is_in y xs ≡ true → is_in y ys ≡ true → ⊥) → ⊥
  by true k j later = let at : y ≡ n = grind (arith, nat_tests) in let none = or_false (is_in n xs) (is_in n ys) (sym (in_append n xs ys) ∙ off) in
      let no : true ≡ false = sym (subst (λ z. is_in z ys ≡ true) at two) ∙ none.1 in cc
  by false k j later = later j two

behind_apart : (xs ys : List ℕ) → are_apart (xs ++ ys) ≡ true → are_apart ys ≡ true
behind_apart [] ys apart = apart
behind_apart (n ∷ xs) ys apart = behind_apart xs ys (and_second (not (list_any (nat_eq n) (xs ++ ys))) _ apart)

or_true : (a b : Bool) → b ≡ true → (a || b) ≡ true
or_true true b is = refl
or_true false b is = is

in_flat : {A : Type 0} (f : A → List ℕ) (xs : List A) (i : ℕ) (a : A) → slice_get xs i ≡ Some a → (y : ℕ) → is_in y (f a) ≡ true → is_in y (flat_map f xs) ≡ true
in_flat f [] i a is y inside = absurd (let no : None ≡ Some a = is in cc)
in_flat f (c ∷ xs) zero a is y inside = let same : c ≡ a = ap (λ o. unwrap_or o c) is in in_append y (f c) (flat_map f xs) ∙ ap (λ b. b || is_in y (flat_map f xs)) (ap (λ d. is_in y (f d)) same ∙ inside)
in_flat f (c ∷ xs) (suc i) a is y inside = in_append y (f c) (flat_map f xs) ∙ or_true (is_in y (f c)) (is_in y (flat_map f xs)) (in_flat f xs i a is y inside)

-- something of two members is of one
same_index : {A : Type 0} (f : A → List ℕ) (xs : List A) → are_apart (flat_map f xs) ≡ true → (i j : ℕ) (a b : A) → slice_get xs i ≡ Some a → slice_get xs j ≡ Some b → (y : ℕ) → is_in y (f a) ≡ true → is_in y (f b) ≡ true → i ≡ j
same_index f [] apart i j a b one two y p q = absurd (let no : None ≡ Some a = one in cc)
same_index f (c ∷ xs) apart zero zero a b one two y p q = refl
same_index f (c ∷ xs) apart zero (suc j) a b one two y p q = let same : c ≡ a = ap (λ o. unwrap_or o c) one in absurd (not_both (f c) (flat_map f xs) apart y (ap (λ d. is_in y (f d)) same ∙ p) (in_flat f xs j b two y q))
same_index f (c ∷ xs) apart (suc i) zero a b one two y p q = let same : c ≡ b = ap (λ o. unwrap_or o c) two in absurd (not_both (f c) (flat_map f xs) apart y (ap (λ d. is_in y (f d)) same ∙ q) (in_flat f xs i a one y p))
same_index f (c ∷ xs) apart (suc i) (suc j) a b one two y p q = ap suc (same_index f xs (behind_apart (f c) (flat_map f xs) apart) i j a b one two y p q)

thread_at : (ts : List ThreadTree) (i : ℕ) → i < length ts → (u : ThreadTree) × (slice_get ts i ≡ Some u)
thread_at [] i lt = absurd (omega (arith, lt))
thread_at (u ∷ ts) zero lt = (u, refl)
thread_at (u ∷ ts) (suc i) lt = thread_at ts i (omega (arith, lt))

thread_below : (ts : List ThreadTree) (i : ℕ) (u : ThreadTree) → slice_get ts i ≡ Some u → i < length ts
thread_below [] i u is = absurd (let no : None ≡ Some u = is in cc)
thread_below (v ∷ ts) zero u is = omega arith
thread_below (v ∷ ts) (suc i) u is = let later : i < length ts = thread_below ts i u is in omega (arith, later)

end_at : (ts : List ThreadTree) (i : ℕ) (u : ThreadTree) → slice_get ts i ≡ Some u → slice_get (map (λ (t : ThreadTree). t.ends) ts) i ≡ Some u.ends
end_at [] i u is = absurd (let no : None ≡ Some u = is in cc)
end_at (v ∷ ts) zero u is = let same : v ≡ u = ap (λ o. unwrap_or o v) is in ap (λ (d : ThreadTree). Some d.ends) same
end_at (v ∷ ts) (suc i) u is = end_at ts i u is

each_end : (P : KeepTree → Type 0) (ts : List ThreadTree) → ((i : ℕ) (u : ThreadTree) → slice_get ts i ≡ Some u → P u.ends) → AllByRecursion P (map (λ (t : ThreadTree). t.ends) ts)
each_end P [] all = tt
each_end P (u ∷ ts) all = (all 0 u refl, each_end P ts (λ i v is. all (suc i) v is))

not_in : {A : Type 0} (f : A → List ℕ) (xs : List A) (i : ℕ) (a : A) → slice_get xs i ≡ Some a → (y : ℕ) → is_in y (flat_map f xs) ≡ false → is_in y (f a) ≡ false
not_in f xs i a is y out = by (is_in y (f a)) refl where
  by : (b : Bool) → is_in y (f a) ≡ b → b ≡ false
  by false k = refl
  by true k = let no : true ≡ false = sym (in_flat f xs i a is y k) ∙ out in cc

-- ---- the state after the final block has taken over

module _ (x : MachineWithProgram) (known : Env) (of_text : IsThreadOf x (length x.program.threads)) (knows : KnowsConstants x known) (keeps : (t : ℕ) (u : ThreadTree) → slice_get x.program.threads t ≡ Some u → IsThreadKeep x known u.ends)
    (apart : ends_are_apart x.program ≡ true) (s : World) (whole : IsWholeState x s) (nothing : HasNothingYet x known s) (ended : AllHaveEnded x s) where
  abbrev n : ℕ
  n = length x.program.threads

  abbrev z : World
  z = gather x s

  abbrev ends : List KeepTree
  ends = all_ends x.program

  many_hands : length s.shares.hands ≡ suc n
  many_hands = whole.tidy.hands

  many_proofs : length s.shares.proofs ≡ suc n
  many_proofs = whole.tidy.proofs

  names_apart : are_apart (flat_map (λ (k : KeepTree). k.names) ends) ≡ true
  names_apart = and_first (are_apart (flat_map (λ (k : KeepTree). k.names) ends)) _ apart

  tokens_apart : are_apart (flat_map own_tokens ends) ≡ true
  tokens_apart = and_second (are_apart (flat_map (λ (k : KeepTree). k.names) ends)) _ apart

  hand_is : hand_of z.shares n ≡ joined s.shares.hands
  hand_is = (final_takes_all x s).taken many_hands

  proofs_are : (y : ℕ) → proofs_of z.shares n y ≡ first_of (λ (f : ℕ → Option ℤ). f y) s.shares.proofs
  proofs_are y = ap (λ f. f y) (get_or-set_same s.shares.proofs n (all_values s.shares.proofs) (λ m. None) (omega (arith, many_proofs))) ∙ values_are s.shares.proofs y

  -- what a thread or the final block holds before is of its own keep
  held_own : (j : ℕ) (u : ThreadTree) → slice_get x.program.threads j ≡ Some u → (m : ℕ) (a : Shard) → held_as m (hand_of s.shares j) ≡ Some a → is_in m (own_tokens u.ends) ≡ true
  held_own j u there m a is = by (is_in m (own_tokens u.ends)) refl where
    by : (b : Bool) → is_in m (own_tokens u.ends) ≡ b → b ≡ true
    by true k = refl
    by false k = absurd (common m (hand_of s.shares j) a is ((ended j u there).hand m k))

  last_none : (m : ℕ) → held_as m (hand_of s.shares n) ≡ None
  unfolding held_as
  last_none m = ap (held_as m) nothing.hand

  -- a token of thread i's keep is held by no other
  others_free : (i : ℕ) (u : ThreadTree) → slice_get x.program.threads i ≡ Some u → (m : ℕ) → is_in m (own_tokens u.ends) ≡ true → (j : ℕ) → (j ≡ i → ⊥) → j < suc n → held_as m (hand_of s.shares j) ≡ None
  others_free i u there m own j other lt = by (held_as m (hand_of s.shares j)) refl where
    held : (a : Shard) → held_as m (hand_of s.shares j) ≡ Some a → ⊥
    held a is = before (nat_eq j n) refl where
      before : (b : Bool) → nat_eq j n ≡ b → ⊥
      before true k = let at : j ≡ n = grind (arith, nat_tests) in common m (hand_of s.shares j) a is (ap (λ d. held_as m (hand_of s.shares d)) at ∙ last_none m)
      before false k = let less : j < n = grind (arith, nat_tests, lt) in let thread = thread_at x.program.threads j less in
          other (same_index own_tokens ends tokens_apart j i thread.0.ends u.ends (end_at x.program.threads j thread.0 thread.1) (end_at x.program.threads i u there) m (held_own j thread.0 thread.1 m a is) own)

    by : (o : Option Shard) → held_as m (hand_of s.shares j) ≡ o → o ≡ None
    by None k = refl
    by (Some a) k = absurd (held a k)

  held_then : (i : ℕ) (u : ThreadTree) → slice_get x.program.threads i ≡ Some u → (m : ℕ) → is_in m (own_tokens u.ends) ≡ true → (a : Shard) → held_as m (hand_of s.shares i) ≡ Some a → held_as m (hand_of z.shares n) ≡ Some a
  held_then i u there m own a is = let below : i < n = thread_below x.program.threads i u there in ap (held_as m) hand_is ∙ joined_is s.shares.hands m
      ∙ first_at (held_as m) s.shares.hands i [] a (omega (arith, below, many_hands)) is (λ j less. others_free i u there m own j (λ same. omega (arith, same, less)) (omega (arith, less, below)))

  free_then : (m : ℕ) → is_in m (tokens_of ends) ≡ false → held_as m (hand_of z.shares n) ≡ None
  free_then m out = ap (held_as m) hand_is ∙ joined_is s.shares.hands m ∙ first_not (held_as m) s.shares.hands [] (λ j lt. each j (let less : j < suc n = omega (arith, lt, many_hands) in less)) where
    each : (j : ℕ) → j < suc n → held_as m (hand_of s.shares j) ≡ None
    each j lt = before (nat_eq j n) refl where
      before : (b : Bool) → nat_eq j n ≡ b → held_as m (hand_of s.shares j) ≡ None
      before true k = let at : j ≡ n = grind (arith, nat_tests) in ap (λ d. held_as m (hand_of s.shares d)) at ∙ last_none m
      before false k = let less : j < n = grind (arith, nat_tests, lt) in let thread = thread_at x.program.threads j less in
          (ended j thread.0 thread.1).hand m (not_in own_tokens ends j thread.0.ends (end_at x.program.threads j thread.0 thread.1) m out)

  -- a proof name of thread i's keep has no other value
  given_then : (i : ℕ) (u : ThreadTree) → slice_get x.program.threads i ≡ Some u → (y : ℕ) → is_in y u.ends.names ≡ true → (v : ℤ) → proofs_of s.shares i y ≡ Some v → proofs_of z.shares n y ≡ Some v
  given_then i u there y own v is = let below : i < n = thread_below x.program.threads i u there in proofs_are y
      ∙ first_at (λ (f : ℕ → Option ℤ). f y) s.shares.proofs i (λ m. None) v (omega (arith, below, many_proofs)) is (λ j less. none j (λ same. omega (arith, same, less)) (let lower : j < n = omega (arith, less, below) in lower)) where
        none : (j : ℕ) → (j ≡ i → ⊥) → j < n → proofs_of s.shares j y ≡ None
        none j other less = by (is_in y thread.0.ends.names) refl where
          thread : (w : ThreadTree) × (slice_get x.program.threads j ≡ Some w)
          thread = thread_at x.program.threads j less

          by : (b : Bool) → is_in y thread.0.ends.names ≡ b → proofs_of s.shares j y ≡ None
          by false k = (ended j thread.0 thread.1).proofs y k
          by true k = absurd (other (same_index (λ (d : KeepTree). d.names) ends names_apart j i thread.0.ends u.ends (end_at x.program.threads j thread.0 thread.1) (end_at x.program.threads i u there) y k own))

  not_given : (y : ℕ) → is_in y (begin.names_of ends) ≡ false → proofs_of z.shares n y ≡ None
  not_given y out = proofs_are y ∙ first_not (λ (f : ℕ → Option ℤ). f y) s.shares.proofs (λ m. None) (λ j lt. each j (let less : j < suc n = omega (arith, lt, many_proofs) in less)) where
    each : (j : ℕ) → j < suc n → proofs_of s.shares j y ≡ None
    each j lt = before (nat_eq j n) refl where
      before : (b : Bool) → nat_eq j n ≡ b → proofs_of s.shares j y ≡ None
      before true k = let at : j ≡ n = grind (arith, nat_tests) in ap (λ d. proofs_of s.shares d y) at ∙ nothing.proofs y
      before false k = let less : j < n = grind (arith, nat_tests, lt) in let thread = thread_at x.program.threads j less in
          (ended j thread.0 thread.1).proofs y (not_in (λ (d : KeepTree). d.names) ends j thread.0.ends (end_at x.program.threads j thread.0 thread.1) y out)

  -- ---- each keep

  module _ (i : ℕ) (u : ThreadTree) (there : slice_get x.program.threads i ≡ Some u) where
    abbrev k : KeepTree
    k = u.ends

    abbrev w : Sight
    w = sight_at x i s

    abbrev after : Sight
    after = sight_at x n z

    kept : HasKept x i s k
    kept = (ended i u there).kept

    held_same : (m : ℕ) → is_in m (own_tokens k) ≡ true → held_as m after.hand ≡ held_as m w.hand
    held_same m own = by (held_as m w.hand) refl (lines_held w k.lines kept.lines m own) where
      by : (o : Option Shard) → held_as m w.hand ≡ o → is_some o ≡ true → held_as m after.hand ≡ o
      by (Some a) is some = held_then i u there m own a is
      by None is some = absurd (let no : false ≡ true = some in cc)

    same : Same (known_with x []) (is_at_hand_in (constants known) k) w.valuation after.valuation
    same y is_known at_hand = of (symbol_of x y (known_more x y is_known)) where
      of : Symbol x y → w.valuation.number y ≡ after.valuation.number y
      of (OfField below constant) = value_field (fields_of x) s.shares.kept (pos 0 ∷ pos 0 ∷ pos 0 ∷ pos 0 ∷ wrap_of s.shares i ∷ []) (named_value (proofs_of s.shares i) (locals_of s.memory i)) (hand_of s.shares i) y below
          ∙ sym (value_field (fields_of x) z.shares.kept (pos 0 ∷ pos 0 ∷ pos 0 ∷ pos 0 ∷ wrap_of z.shares n ∷ []) (named_value (proofs_of z.shares n) (locals_of z.memory n)) (hand_of z.shares n) y below)
      of (OfWrap at) = absurd (no_wrap_known x of_text.few (subst (λ d. known_with x [] d ≡ Some Numbers) at is_known))
      of (OfName m at below) = subst (λ d. w.valuation.number d ≡ after.valuation.number d) (sym at)
          (value_name (fields_of x) s.shares.kept (pos 0 ∷ pos 0 ∷ pos 0 ∷ pos 0 ∷ wrap_of s.shares i ∷ []) (named_value (proofs_of s.shares i) (locals_of s.memory i)) (hand_of s.shares i) m of_text.few
          ∙ ap (λ o. unwrap_or o (pos (locals_of s.memory i m))) given.1
          ∙ sym (value_name (fields_of x) z.shares.kept (pos 0 ∷ pos 0 ∷ pos 0 ∷ pos 0 ∷ wrap_of z.shares n ∷ []) (named_value (proofs_of z.shares n) (locals_of z.memory n)) (hand_of z.shares n) m of_text.few
          ∙ ap (λ o. unwrap_or o (pos (locals_of z.memory n m))) (given_then i u there m own given.0 given.1))) where
            own : is_in m k.names ≡ true
            own = own_name known k m (subst (λ d. is_at_hand_in (constants known) k d ≡ true) at at_hand)

            given : (v : ℤ) × (proofs_of s.shares i m ≡ Some v)
            given = (ended i u there).given m own
      of (OfHeld m at below) = subst (λ d. w.valuation.number d ≡ after.valuation.number d) (sym at)
          (value_held (fields_of x) s.shares.kept (pos 0 ∷ pos 0 ∷ pos 0 ∷ pos 0 ∷ wrap_of s.shares i ∷ []) (named_value (proofs_of s.shares i) (locals_of s.memory i)) (hand_of s.shares i) m of_text.few
          ∙ ap amount_of (sym (held_same m (own_token (only_constants known) (constants_scoped x known knows) k m (subst (λ d. is_at_hand_in (constants known) k d ≡ true) at at_hand))))
          ∙ sym (value_held (fields_of x) z.shares.kept (pos 0 ∷ pos 0 ∷ pos 0 ∷ pos 0 ∷ wrap_of z.shares n ∷ []) (named_value (proofs_of z.shares n) (locals_of z.memory n)) (hand_of z.shares n) m of_text.few))

    kept_then : HasKept x n z k
    kept_then = carried x known knows k (keeps i u there) w after same held_same kept.lines kept.facts

  -- ---- the whole

  all_apart : IsApart (joined s.shares.hands)
  all_apart = joined_apart s.shares.hands whole.tidy.apart (λ i j m less lt a is. off i j m less (let lower : j < suc n = omega (arith, lt, many_hands) in lower) a is) where
    off : (i j m : ℕ) → i < j → j < suc n → (a : Shard) → held_as m (hand_of s.shares i) ≡ Some a → held_as m (hand_of s.shares j) ≡ None
    off i j m less lt a is = let lower : i < n = omega (arith, less, lt) in let thread = thread_at x.program.threads i lower in
        others_free i thread.0 thread.1 m (held_own i thread.0 thread.1 m a is) j (λ same. omega (arith, same, less)) lt

  bag : IsRearranged (all_shards s.shares) (all_shards z.shares)
  bag = subst (λ ts. IsRearranged (all_shards s.shares) ts) (sym (final_takes_all x s).all) (rearranged-refl (all_shards s.shares))

  nothing_apart : IsApart []
  unfolding IsDistinct
  nothing_apart = tt

  whole_then : IsWholeState x z
  whole_then = moved_whole x s whole (gathered s.shares.hands []) (slice_set s.shares.proofs n (all_values s.shares.proofs)) s.shares.wraps s.shares.dust bag
      (gathered_each IsApart nothing_apart s.shares.hands [] all_apart) (gathered_length s.shares.hands [] n many_hands) (length-set s.shares.proofs n (all_values s.shares.proofs) ∙ many_proofs) whole.tidy.wraps

  pub gathers : HasTakenAll x known z
  gathers = record {
    whole = whole_then;
    left = λ t less. (final_takes_all x s).left many_hands t less;
    begun = record { kept = each_end (HasKept x n z) x.program.threads kept_then; hand = free_then; proofs = not_given; locals = nothing.locals };
    constants = nothing.constants;
  }

pub gathers_go_on : GathersGoOn
gathers_go_on x known of_text knows keeps apart s whole nothing ended = gathers x known of_text knows keeps apart s whole nothing ended
