-- At a jump to a keep: what names stand for in the environment is what they are, at the jump and in the keep.
use Rattle.std.specs.Prelude.{◌≡◌, ℕ, ◌+◌, ◌*◌, ◌-◌, ◌/◌, ◌%◌, ◌<◌, ◌≤◌, ℤ, pos, Bool, true, false, ◌&&◌, ◌||◌, if◌then◌else◌, nat_eq, nat_lt, List, [], ◌∷◌, ◌++◌, length, map, slice_index_or, Option, Some, None, is_some, unwrap_or, option_map, ◌⊎◌}
use mathlib.Core.Path.{refl, sym, ap, subst, ◌∙◌}
use Rattle.std.proofs.Common.{arith, inl, inr}
use Rattle.std.proofs.lemmas.Bool.Decides.{nat_tests}
use Rattle.sync_base.specs.Outcome.{first}
use Rattle.sync_base.specs.declared.strategies.Strategy.{Strategy}
use Rattle.sync_base.specs.declared.strategies.Strategy.TheVariants.{Constant}
use Rattle.sync_terms.specs.Symbols.{name_symbol}
use Rattle.sync_terms.specs.Trees.{Tree, Name}
use Rattle.sync_terms.specs.Values.{Valuation, num, with_terms}
use Rattle.sync_machine.specs.Naming.{is_in}
use Rattle.sync_machine.specs.States.{Numbers, Maps, strategy_at}
use Rattle.sync_machine.specs.declared.fields.Field.{Field}
use Rattle.sync_join.specs.Join.{record_at, number_of}
use Rattle.sync_join.specs.Shards.{Kept}
use Rattle.sync_exchange.specs.Exchange.{held_as}
use Rattle.sync_exchange.specs.declared.hands.Held.{Held}
use Rattle.sync_thread.specs.Arrays.{name_limit}
use Rattle.sync_thread.specs.Code.{locals_of}
use Rattle.sync_thread.specs.Programs.{KeepTree}
use Rattle.sync_thread_machine.specs.MachineWithProgram.{MachineWithProgram, fields_of}
use Rattle.sync_thread_machine.specs.ProgramSymbols.{symbols, held_of, wrap_symbol, first_fresh}
use Rattle.sync_thread_meaning.specs.Meaning.{World, keep_sight}
use Rattle.sync_thread_meaning.specs.Shares.{hand_of, proofs_of, wrap_of, named_value, symbol_value, amount_of, given_to, overlaid, nowhere_near, sight_of}
use Rattle.sync_typing.specs.Environments.{Env, token_named, held_value, said, stands, read, is_at_hand, TokenTree}
use Rattle.sync_typing.specs.Keeps.{arriving, is_at_hand_in, own_tokens}
use Rattle.sync_typing.specs.Names.{known_here, number_if, is_constant_field, is_named, is_held_symbol}
use Rattle.sync_typing.specs.Symbols.{named_by, paired}
use Rattle.sync_typing.specs.Typing.{is_constant}
use Rattle.sync_typing_laws.proofs.KeepingTerms.{NumbersOnly, Same, and_first, and_second}
use Rattle.sync_typing_laws.specs.Rests.{StandsAt, IsScopedEnv, worth}

-- ---- symbols of a text

-- the sorts of symbols that the terms of statements name: a constant, `wrap`, a name, `held` of a name
pub data Symbol (x : MachineWithProgram) (y : ℕ) : Type 0 where
  OfField : y < length (fields_of x) → strategy_at (fields_of x) y ≡ Constant → Symbol x y
  OfWrap : y ≡ wrap_symbol → Symbol x y
  OfName : (n : ℕ) → y ≡ name_symbol n → n < name_limit → Symbol x y
  OfHeld : (n : ℕ) → y ≡ held_of n → n < name_limit → Symbol x y

pub or_one : (a b : Bool) → (a || b) ≡ true → (a ≡ true) ⊎ (b ≡ true)
or_one true b is = inl refl
or_one false b is = inr is

if_number : (b : Bool) → number_if b ≡ Some Numbers → b ≡ true
if_number true is = refl
if_number false is = let no : None ≡ Some Numbers = is in cc

pub numbers_only : (x : MachineWithProgram) → NumbersOnly (known_here x)
numbers_only x y is = tested (is_constant_field x y || (is_in y (wrap_symbol ∷ []) || is_named y)) is where
  tested : (b : Bool) → number_if b ≡ Some Maps → ⊥
  tested true is = let no : Some Numbers ≡ Some Maps = is in cc
  tested false is = let no : None ≡ Some Maps = is in cc

constant_is : (s : Strategy) → is_constant s ≡ true → s ≡ Constant
constant_is Constant is = refl
constant_is _ is = let no : false ≡ true = is in cc

name_number : (y : ℕ) → (nat_lt 63 y && (nat_lt y first_fresh && nat_eq (y % 4) 0)) ≡ true → (n : ℕ) × (y ≡ name_symbol n) × (n < name_limit)
name_number y is = ((y - 64) / 4, grind (arith, nat_tests), grind (arith, nat_tests))

held_number : (y : ℕ) → is_held_symbol y ≡ true → (n : ℕ) × (y ≡ held_of n) × (n < name_limit)
held_number y is = ((y - 66) / 4, grind (arith, nat_tests), grind (arith, nat_tests))

pub symbol_of : (x : MachineWithProgram) (y : ℕ) → known_here x y ≡ Some Numbers → Symbol x y
symbol_of x y is = elim (or_one (is_constant_field x y) (is_in y (wrap_symbol ∷ []) || is_named y) (if_number (is_constant_field x y || (is_in y (wrap_symbol ∷ []) || is_named y)) is)) [
  | inl constant ↦ OfField (grind (arith, nat_tests, and_first (nat_lt y (length (fields_of x))) (is_constant (strategy_at (fields_of x) y)) constant)) (constant_is (strategy_at (fields_of x) y) (and_second (nat_lt y (length (fields_of x))) (is_constant (strategy_at (fields_of x) y)) constant))
  | inr other ↦ elim (or_one (is_in y (wrap_symbol ∷ [])) (is_named y) other) [
    | inl wrap ↦ OfWrap (wrap_is (nat_eq y wrap_symbol) refl wrap)
    | inr name ↦ elim (or_one (is_held_symbol y) (nat_lt 63 y && (nat_lt y first_fresh && nat_eq (y % 4) 0)) name) [
      | inl it ↦ (let found = held_number y it in OfHeld found.0 found.1 found.2)
      | inr it ↦ (let found = name_number y it in OfName found.0 found.1 found.2)
    ]
  ]
] where
  wrap_is : (b : Bool) → nat_eq y wrap_symbol ≡ b → (b || false) ≡ true → y ≡ wrap_symbol
  wrap_is true same is = grind (arith, nat_tests)
  wrap_is false same is = let no : false ≡ true = is in cc

-- ---- what they are

pub value_field : (fs : List Field) (kept : Kept) (words : List ℤ) (named : ℕ → ℤ) (hand : List Held) (y : ℕ) → y < length fs → symbol_value fs kept words named hand y ≡ number_of (record_at kept y)
value_field fs kept words named hand y below = let is : nat_lt y (length fs) ≡ true = grind (arith, nat_tests) in subst (λ b. (if b then number_of (record_at kept y) else other) ≡ number_of (record_at kept y)) (sym is) refl where
  other : ℤ
  other = if nat_lt y 64 then slice_index_or words (y - 32) (pos 0) else if nat_eq ((y - 64) % 4) 2 then amount_of (held_as ((y - 64) / 4) hand) else named ((y - 64) / 4)

past_field : (fs : List Field) (kept : Kept) (words : List ℤ) (named : ℕ → ℤ) (hand : List Held) (y : ℕ) → length fs ≤ 32 → 32 ≤ y
    → symbol_value fs kept words named hand y ≡ (if nat_lt y 64 then slice_index_or words (y - 32) (pos 0) else if nat_eq ((y - 64) % 4) 2 then amount_of (held_as ((y - 64) / 4) hand) else named ((y - 64) / 4))
past_field fs kept words named hand y few past = let is : nat_lt y (length fs) ≡ false = grind (arith, nat_tests) in subst (λ b. (if b then number_of (record_at kept y) else other) ≡ other) (sym is) refl where
  other : ℤ
  other = if nat_lt y 64 then slice_index_or words (y - 32) (pos 0) else if nat_eq ((y - 64) % 4) 2 then amount_of (held_as ((y - 64) / 4) hand) else named ((y - 64) / 4)

pub value_wrap : (fs : List Field) (kept : Kept) (a b w : ℤ) (named : ℕ → ℤ) (hand : List Held) → length fs ≤ 32 → symbol_value fs kept (pos 0 ∷ pos 0 ∷ a ∷ b ∷ w ∷ []) named hand wrap_symbol ≡ w
value_wrap fs kept a b w named hand few = past_field fs kept (pos 0 ∷ pos 0 ∷ a ∷ b ∷ w ∷ []) named hand wrap_symbol few (omega arith)

pub value_name : (fs : List Field) (kept : Kept) (words : List ℤ) (named : ℕ → ℤ) (hand : List Held) (n : ℕ) → length fs ≤ 32 → symbol_value fs kept words named hand (name_symbol n) ≡ named n
value_name fs kept words named hand n few = past_field fs kept words named hand (name_symbol n) few (omega arith) ∙ names where
  names : (if nat_lt (name_symbol n) 64 then slice_index_or words (name_symbol n - 32) (pos 0) else if nat_eq ((name_symbol n - 64) % 4) 2 then amount_of (held_as ((name_symbol n - 64) / 4) hand) else named ((name_symbol n - 64) / 4)) ≡ named n
  names = let one : nat_lt (name_symbol n) 64 ≡ false = grind (arith, nat_tests) in let two : nat_eq ((name_symbol n - 64) % 4) 2 ≡ false = grind (arith, nat_tests) in let three : (name_symbol n - 64) / 4 ≡ n = omega arith in
      subst (λ b. (if b then slice_index_or words (name_symbol n - 32) (pos 0) else if nat_eq ((name_symbol n - 64) % 4) 2 then amount_of (held_as ((name_symbol n - 64) / 4) hand) else named ((name_symbol n - 64) / 4)) ≡ named n) (sym one)
      (subst (λ b. (if b then amount_of (held_as ((name_symbol n - 64) / 4) hand) else named ((name_symbol n - 64) / 4)) ≡ named n) (sym two) (ap named three))

pub value_held : (fs : List Field) (kept : Kept) (words : List ℤ) (named : ℕ → ℤ) (hand : List Held) (n : ℕ) → length fs ≤ 32 → symbol_value fs kept words named hand (held_of n) ≡ amount_of (held_as n hand)
value_held fs kept words named hand n few = past_field fs kept words named hand (held_of n) few (omega arith) ∙ names where
  names : (if nat_lt (held_of n) 64 then slice_index_or words (held_of n - 32) (pos 0) else if nat_eq ((held_of n - 64) % 4) 2 then amount_of (held_as ((held_of n - 64) / 4) hand) else named ((held_of n - 64) / 4)) ≡ amount_of (held_as n hand)
  names = let one : nat_lt (held_of n) 64 ≡ false = grind (arith, nat_tests) in let two : nat_eq ((held_of n - 64) % 4) 2 ≡ true = grind (arith, nat_tests) in let three : (held_of n - 64) / 4 ≡ n = omega arith in
      subst (λ b. (if b then slice_index_or words (held_of n - 32) (pos 0) else if nat_eq ((held_of n - 64) % 4) 2 then amount_of (held_as ((held_of n - 64) / 4) hand) else named ((held_of n - 64) / 4)) ≡ amount_of (held_as n hand)) (sym one)
      (subst (λ b. (if b then amount_of (held_as ((held_of n - 64) / 4) hand) else named ((held_of n - 64) / 4)) ≡ amount_of (held_as n hand)) (sym two) (ap (λ m. amount_of (held_as m hand)) three))

-- ---- what they stand for

pub stands_said : (e : Env) (y : ℕ) (u : Tree) → e.terms y ≡ Some u → stands e y ≡ u
stands_said e y u is = subst (λ o. unwrap_or (first o (held_value e.hand (token_named y))) (Name y) ≡ u) (sym is) refl

pub token_of_symbol : (n : ℕ) → token_named (name_symbol n) ≡ None
token_of_symbol n = grind (arith, nat_tests)

pub token_of_held : (n : ℕ) → n < name_limit → token_named (held_of n) ≡ Some n
token_of_held n below = grind (arith, nat_tests)

pub stands_unsaid : (e : Env) (n : ℕ) → e.terms (name_symbol n) ≡ None → stands e (name_symbol n) ≡ Name (name_symbol n)
stands_unsaid e n is = subst (λ o. unwrap_or (first o (held_value e.hand (token_named (name_symbol n)))) (Name (name_symbol n)) ≡ Name (name_symbol n)) (sym is)
    (subst (λ o. unwrap_or (held_value e.hand o) (Name (name_symbol n)) ≡ Name (name_symbol n)) (sym (token_of_symbol n)) refl)

-- nothing is said of `held` of a name but by the hand
pub held_unsaid : (e : Env) → IsScopedEnv e → (n : ℕ) → e.terms (held_of n) ≡ None
held_unsaid e scoped n = tested (e.terms (held_of n)) refl where
  no_name : (u : Tree) → e.terms (held_of n) ≡ Some u → ⊥
  no_name u is = elim (scoped.said (held_of n) u is) [ inl small ↦ omega (arith, small) | inr name ↦ (let same : held_of n ≡ 64 + 4 * name.0 = name.1 in omega (arith, same)) ]

  tested : (o : Option Tree) → e.terms (held_of n) ≡ o → e.terms (held_of n) ≡ None
  tested None is = is
  tested (Some u) is = absurd (no_name u is)

pub stands_held : (e : Env) → IsScopedEnv e → (n : ℕ) → n < name_limit → (t : TokenTree) → e.hand n ≡ Some t → stands e (held_of n) ≡ t.value
stands_held e scoped n below t is = subst (λ o. unwrap_or (first o (held_value e.hand (token_named (held_of n)))) (Name (held_of n)) ≡ t.value) (sym (held_unsaid e scoped n))
    (subst (λ o. unwrap_or (held_value e.hand o) (Name (held_of n)) ≡ t.value) (sym (token_of_held n below))
    (subst (λ (o : Option TokenTree). unwrap_or (option_map (λ (t : TokenTree). t.value) o) (Name (held_of n)) ≡ t.value) (sym is) refl))

-- ---- at a place of a thread

pub record Place (x : MachineWithProgram) (is_assigned : ℕ → Bool) (v : Valuation) (e : Env) (t : ℕ) (s : World) : Type 0 where
  pub few : length (fields_of x) ≤ 32
  pub stands : StandsAt x is_assigned v e t s
  pub unsaid : (y : ℕ) → y < name_limit → e.terms (name_symbol y) ≡ None → num v (Name (name_symbol y)) ≡ named_value (proofs_of s.shares t) (locals_of s.memory t) y

pub name_value : (x : MachineWithProgram) (q : ℕ → Bool) (v : Valuation) (e : Env) (t : ℕ) (s : World) → Place x q v e t s → (n : ℕ) → n < name_limit → num v (stands e (name_symbol n)) ≡ named_value (proofs_of s.shares t) (locals_of s.memory t) n
name_value x q v e t s p n below = tested (e.terms (name_symbol n)) refl where
  tested : (o : Option Tree) → e.terms (name_symbol n) ≡ o → num v (stands e (name_symbol n)) ≡ named_value (proofs_of s.shares t) (locals_of s.memory t) n
  tested None is = ap (num v) (stands_unsaid e n is) ∙ p.unsaid n below is
  tested (Some u) is = ap (num v) (stands_said e (name_symbol n) u is) ∙ p.stands.names n u is

pub field_value : (x : MachineWithProgram) (q : ℕ → Bool) (v : Valuation) (e : Env) (t : ℕ) (s : World) → Place x q v e t s → (f : ℕ) → f < length (fields_of x) → strategy_at (fields_of x) f ≡ Constant → num v (stands e f) ≡ number_of (record_at s.shares.kept f)
field_value x q v e t s p f below constant = let it = p.stands.constants f below constant in ap (num v) (stands_said e f it.0 it.1) ∙ it.2

pub token_value : (x : MachineWithProgram) (q : ℕ → Bool) (v : Valuation) (e : Env) (t : ℕ) (s : World) → Place x q v e t s → (n : ℕ) → n < name_limit → (a : TokenTree) → e.hand n ≡ Some a → num v (stands e (held_of n)) ≡ amount_of (held_as n (hand_of s.shares t))
token_value x q v e t s p n below a is = ap (num v) (stands_held e p.stands.scoped n below a is) ∙ sym (ap amount_of (p.stands.hand n ∙ ap (option_map (worth v)) is))

-- a token that is named is held
pub said_held : (e : Env) → IsScopedEnv e → (n : ℕ) → n < name_limit → is_some (said e (held_of n)) ≡ true → (a : TokenTree) × (e.hand n ≡ Some a)
said_held e scoped n below is = tested (e.hand n) refl (subst (λ o. is_some (held_value e.hand o) ≡ true) (token_of_held n below) (subst (λ o. is_some (first o (held_value e.hand (token_named (held_of n)))) ≡ true) (held_unsaid e scoped n) is)) where
  tested : (o : Option TokenTree) → e.hand n ≡ o → is_some (option_map (λ (t : TokenTree). t.value) (e.hand n)) ≡ true → (a : TokenTree) × (e.hand n ≡ Some a)
  tested (Some a) same is = (a, same)
  tested None same is = let no : false ≡ true = subst (λ (o : Option TokenTree). is_some (option_map (λ (t : TokenTree). t.value) o) ≡ true) same is in cc

pub held_at_hand : (e : Env) → IsScopedEnv e → (n : ℕ) → n < name_limit → is_at_hand e (held_of n) ≡ true → (a : TokenTree) × (e.hand n ≡ Some a)
held_at_hand e scoped n below is = elim (or_one (nat_lt (held_of n) 64) (is_some (said e (held_of n))) is) [
  | inl small ↦ (let no : false ≡ true = (let far : nat_lt (held_of n) 64 ≡ false = grind (arith, nat_tests) in sym far ∙ small) in cc)
  | inr said ↦ said_held e scoped n below said
]

-- at a jump
pub here_same : (x : MachineWithProgram) (q : ℕ → Bool) (v : Valuation) (e : Env) (t : ℕ) (s : World) → Place x q v e t s
    → Same (known_here x) (is_at_hand e) (with_terms (stands e) v) (sight_of (fields_of x) s.memory s.shares t nowhere_near).valuation
here_same x q v e t s p y known at_hand = by (symbol_of x y known) at_hand where
  g : ℕ → ℤ
  g = (sight_of (fields_of x) s.memory s.shares t nowhere_near).valuation.number

  words : List ℤ
  words = pos 0 ∷ pos 0 ∷ pos 0 ∷ pos 0 ∷ wrap_of s.shares t ∷ []

  names : ℕ → ℤ
  names = named_value (proofs_of s.shares t) (locals_of s.memory t)

  by : Symbol x y → is_at_hand e y ≡ true → num v (stands e y) ≡ g y
  by (OfField below constant) is = field_value x q v e t s p y below constant ∙ sym (value_field (fields_of x) s.shares.kept words names (hand_of s.shares t) y below)
  by (OfWrap same) is = subst (λ z. num v (stands e z) ≡ g z) (sym same) (p.stands.wrap ∙ sym (value_wrap (fields_of x) s.shares.kept (pos 0) (pos 0) (wrap_of s.shares t) names (hand_of s.shares t) p.few))
  by (OfName n same below) is = subst (λ z. num v (stands e z) ≡ g z) (sym same) (name_value x q v e t s p n below ∙ sym (value_name (fields_of x) s.shares.kept words names (hand_of s.shares t) n p.few))
  by (OfHeld n same below) is = let there : (a : TokenTree) × (e.hand n ≡ Some a) = held_at_hand e p.stands.scoped n below (subst (λ z. is_at_hand e z ≡ true) same is) in
      subst (λ z. num v (stands e z) ≡ g z) (sym same) (token_value x q v e t s p n below there.0 there.1 ∙ sym (value_held (fields_of x) s.shares.kept words names (hand_of s.shares t) n p.few))

-- ---- in the keep

own_named : (v : Valuation) (ns : List ℕ) (ts : List Tree) (w d : Tree) (n : ℕ) → num v (unwrap_or (named_by (paired (symbols ns) ts ++ (wrap_symbol, w) ∷ []) (name_symbol n)) d) ≡ unwrap_or (given_to ns (map (num v) ts) n) (num v d)
own_named v [] ts w d n = let far : nat_eq wrap_symbol (name_symbol n) ≡ false = grind (arith, nat_tests) in subst (λ b. num v (unwrap_or (if b then Some w else None) d) ≡ num v d) (sym far) refl
own_named v (x ∷ xs) [] w d n = let far : nat_eq wrap_symbol (name_symbol n) ≡ false = grind (arith, nat_tests) in subst (λ b. num v (unwrap_or (if b then Some w else None) d) ≡ num v d) (sym far) refl
own_named v (x ∷ xs) (a ∷ ts) w d n = tested (nat_eq n x) refl (own_named v xs ts w d n) where
  tested : (b : Bool) → nat_eq n x ≡ b → num v (unwrap_or (named_by (paired (symbols xs) ts ++ (wrap_symbol, w) ∷ []) (name_symbol n)) d) ≡ unwrap_or (given_to xs (map (num v) ts) n) (num v d)
      → num v (unwrap_or (if nat_eq (name_symbol x) (name_symbol n) then Some a else named_by (paired (symbols xs) ts ++ (wrap_symbol, w) ∷ []) (name_symbol n)) d) ≡ unwrap_or (if nat_eq n x then Some (num v a) else given_to xs (map (num v) ts) n) (num v d)
  tested true is later = let same : nat_eq (name_symbol x) (name_symbol n) ≡ true = grind (arith, nat_tests) in
      subst (λ b. num v (unwrap_or (if b then Some a else named_by (paired (symbols xs) ts ++ (wrap_symbol, w) ∷ []) (name_symbol n)) d) ≡ unwrap_or (if nat_eq n x then Some (num v a) else given_to xs (map (num v) ts) n) (num v d)) (sym same)
      (subst (λ b. num v a ≡ unwrap_or (if b then Some (num v a) else given_to xs (map (num v) ts) n) (num v d)) (sym is) refl)
  tested false is later = let same : nat_eq (name_symbol x) (name_symbol n) ≡ false = grind (arith, nat_tests) in
      subst (λ b. num v (unwrap_or (if b then Some a else named_by (paired (symbols xs) ts ++ (wrap_symbol, w) ∷ []) (name_symbol n)) d) ≡ unwrap_or (if nat_eq n x then Some (num v a) else given_to xs (map (num v) ts) n) (num v d)) (sym same)
      (subst (λ b. num v (unwrap_or (named_by (paired (symbols xs) ts ++ (wrap_symbol, w) ∷ []) (name_symbol n)) d) ≡ unwrap_or (if b then Some (num v a) else given_to xs (map (num v) ts) n) (num v d)) (sym is) later)

not_own : (ns : List ℕ) (ts : List Tree) (w : Tree) (y : ℕ) → ((n : ℕ) → nat_eq (name_symbol n) y ≡ false) → named_by (paired (symbols ns) ts ++ (wrap_symbol, w) ∷ []) y ≡ (if nat_eq wrap_symbol y then Some w else None)
not_own [] ts w y apart = refl
not_own (x ∷ xs) [] w y apart = refl
not_own (x ∷ xs) (a ∷ ts) w y apart = subst (λ b. (if b then Some a else named_by (paired (symbols xs) ts ++ (wrap_symbol, w) ∷ []) y) ≡ (if nat_eq wrap_symbol y then Some w else None)) (sym (apart x)) (not_own xs ts w y apart)

pub overlaid_value : (f g : ℕ → Option ℤ) (l : ℕ → ℕ) (n : ℕ) → named_value (overlaid f g) l n ≡ unwrap_or (f n) (named_value g l n)
overlaid_value f g l n = tested (f n) refl where
  tested : (o : Option ℤ) → f n ≡ o → named_value (overlaid f g) l n ≡ unwrap_or (f n) (named_value g l n)
  tested (Some z) is = rw is
  tested None is = rw is

pub no_symbol : (n : ℕ) (ns : List ℕ) → is_in (held_of n) (symbols ns) ≡ false
no_symbol n [] = refl
no_symbol n (m ∷ ns) = let far : nat_eq (held_of n) (name_symbol m) ≡ false = grind (arith, nat_tests) in subst (λ b. (b || is_in (held_of n) (symbols ns)) ≡ false) (sym far) (no_symbol n ns)

own_held : (n : ℕ) (ns : List ℕ) → is_in (held_of n) (map held_of ns) ≡ true → is_in n ns ≡ true
own_held n [] is = is
own_held n (m ∷ ns) is = tested (nat_eq n m) refl (own_held n ns) where
  tested : (b : Bool) → nat_eq n m ≡ b → (is_in (held_of n) (map held_of ns) ≡ true → is_in n ns ≡ true) → (nat_eq n m || is_in n ns) ≡ true
  tested true same later = subst (λ b. (b || is_in n ns) ≡ true) (sym same) refl
  tested false same later = let far : nat_eq (held_of n) (held_of m) ≡ false = grind (arith, nat_tests) in
      subst (λ b. (b || is_in n ns) ≡ true) (sym same) (later (subst (λ b. (b || is_in (held_of n) (map held_of ns)) ≡ true) far is))

-- of tokens a keep names its own alone
pub own_token : (before : Env) → IsScopedEnv before → (k : KeepTree) (n : ℕ) → is_at_hand_in before.terms k (held_of n) ≡ true → is_in n (own_tokens k) ≡ true
own_token before scoped k n is = own_held n (own_tokens k) (last (nat_lt (held_of n) 64) (is_some (before.terms (held_of n))) (is_in (held_of n) (symbols k.names)) (is_in (held_of n) (map held_of (own_tokens k)))
    (grind (arith, nat_tests)) (ap is_some (held_unsaid before scoped n)) (no_symbol n k.names) is) where
      last : (a b c d : Bool) → a ≡ false → b ≡ false → c ≡ false → (a || (b || (c || d))) ≡ true → d ≡ true
      last false false false d one two three is = is
      last true b c d one two three is = let no : true ≡ false = one in cc
      last false true c d one two three is = let no : true ≡ false = two in cc
      last false false true d one two three is = let no : true ≡ false = three in cc

-- In the keep its names stand for what they are there, if its tokens are held.
pub keep_same : (x : MachineWithProgram) (q : ℕ → Bool) (v : Valuation) (before e : Env) (t : ℕ) (s : World) → Place x q v e t s → IsScopedEnv before → (k : KeepTree) (args : List Tree) (wrap : Tree) (saved : ℤ) → num v wrap ≡ saved
    → ((n : ℕ) → is_in n (own_tokens k) ≡ true → (a : TokenTree) × (e.hand n ≡ Some a))
    → Same (known_here x) (is_at_hand_in before.terms k) (with_terms (arriving e k args wrap) v) (keep_sight (fields_of x) s t (given_to k.names (map (num v) (map (read e) args))) saved).valuation
keep_same x q v before e t s p scoped k args wrap saved worth_saved tokens y known at_hand = by (symbol_of x y known) at_hand where
  own : ℕ → Option ℤ
  own = given_to k.names (map (num v) (map (read e) args))

  g : ℕ → ℤ
  g = (keep_sight (fields_of x) s t own saved).valuation.number

  words : List ℤ
  words = pos 0 ∷ pos 0 ∷ pos 0 ∷ pos 0 ∷ saved ∷ []

  names : ℕ → ℤ
  names = named_value (overlaid own (proofs_of s.shares t)) (locals_of s.memory t)

  other : (z : ℕ) → ((n : ℕ) → nat_eq (name_symbol n) z ≡ false) → arriving e k args wrap z ≡ unwrap_or (if nat_eq wrap_symbol z then Some wrap else None) (stands e z)
  other z apart = ap (λ o. unwrap_or o (stands e z)) (not_own k.names (map (read e) args) wrap z apart)

  by : Symbol x y → is_at_hand_in before.terms k y ≡ true → num v (arriving e k args wrap y) ≡ g y
  by (OfField below constant) is = let near : nat_eq wrap_symbol y ≡ false = (let few = p.few in grind (arith, nat_tests)) in
      ap (num v) (other y (λ n. (let few = p.few in grind (arith, nat_tests))) ∙ ap (λ b. unwrap_or (if b then Some wrap else None) (stands e y)) near)
      ∙ field_value x q v e t s p y below constant ∙ sym (value_field (fields_of x) s.shares.kept words names (hand_of s.shares t) y below)
  by (OfWrap same) is = subst (λ z. num v (arriving e k args wrap z) ≡ g z) (sym same) (ap (num v) (other wrap_symbol (λ n. grind (arith, nat_tests))) ∙ worth_saved
      ∙ sym (value_wrap (fields_of x) s.shares.kept (pos 0) (pos 0) saved names (hand_of s.shares t) p.few))
  by (OfName n same below) is = subst (λ z. num v (arriving e k args wrap z) ≡ g z) (sym same) (own_named v k.names (map (read e) args) wrap (stands e (name_symbol n)) n
      ∙ ap (unwrap_or (own n)) (name_value x q v e t s p n below) ∙ sym (overlaid_value own (proofs_of s.shares t) (locals_of s.memory t) n) ∙ sym (value_name (fields_of x) s.shares.kept words names (hand_of s.shares t) n p.few))
  by (OfHeld n same below) is = let there : (a : TokenTree) × (e.hand n ≡ Some a) = tokens n (own_token before scoped k n (subst (λ z. is_at_hand_in before.terms k z ≡ true) same is)) in
      let near : nat_eq wrap_symbol (held_of n) ≡ false = grind (arith, nat_tests) in
      subst (λ z. num v (arriving e k args wrap z) ≡ g z) (sym same) (ap (num v) (other (held_of n) (λ m. grind (arith, nat_tests)) ∙ ap (λ b. unwrap_or (if b then Some wrap else None) (stands e (held_of n))) near)
      ∙ token_value x q v e t s p n below there.0 there.1 ∙ sym (value_held (fields_of x) s.shares.kept words names (hand_of s.shares t) n p.few))
