-- What is known at a place of a program, and what reading more of the program keeps of it.
use Rattle.std.proofs.Common.{◌≡◌, ℕ, suc, ◌+◌, ◌^◌, ◌<◌, ◌≤◌, ◌||◌, ◌⊎◌, inl, inr, Bool, true, false, if◌then◌else◌, List, [], ◌∷◌, map, length, slice_get, nat_lt, nat_eq, bit_or, ◌==◌, ◌%◌, Option, Some, None, is_some, refl, sym, ap, subst, ◌∙◌, true≢false, count_by, arith}
use Rattle.std.specs.Int.{bit_at}
use Rattle.std.proofs.lemmas.Bool.{lt-ltb, eq-eqb, eqb-true, and_from, and_parts, or_left, or_right}
use Rattle.std.proofs.lemmas.Nat.Bits.{bit_at_or, bit_at-zero, bit_at-pow_other}
use Rattle.sync_base.specs.declared.strategies.Strategy.{Strategy}
use Rattle.sync_base.specs.declared.strategies.Strategy.TheVariants.{Variable, Constant, NotTokenized, Option as OptionField, Map, Set, Multiset, Count, PersistentOption, PersistentMap, PersistentSet, PersistentCount, StorageMap}
use Rattle.sync_machine.specs.declared.fields.Field.{Field}
use Rattle.sync_machine.specs.States.{Numbers, strategy_at}
use Rattle.sync_machine.specs.Naming.{is_in}
use Rattle.sync_parse_exprs.specs.declared.expressions.Special.{Special}
use Rattle.sync_read.specs.Acts.{strategy_sort}
use Rattle.sync_read_names.specs.declared.scopes.Sort.{Sort}
use Rattle.sync_read_names.specs.declared.scopes.Sort.TheVariants as sort
use Rattle.sync_read_names.specs.declared.scopes.Meaning.{Meaning}
use Rattle.sync_read_names.specs.declared.scopes.Meaning.TheVariants.{Nothing, Field as AField, Operation, Invariant}
use Rattle.sync_read_names.specs.declared.scopes.Owners.{Owners}
use Rattle.sync_read_names.specs.declared.scopes.Owner.{Owner}
use Rattle.sync_read_names.specs.declared.scopes.Owner.TheVariants as owner
use Rattle.sync_read_names.specs.declared.scopes.Sight.{Sight}
use Rattle.sync_read_names.specs.Scopes.{number_in, symbol_of, held_symbol_of, special_number, meaning_of, flag, with_flag, is_assigned, knows_params, knows_special, if_known, seen, seen_as}
use Rattle.sync_thread.specs.Programs.{WordTree, DeclTree, is_unguarded}
use Rattle.sync_thread.specs.Arrays.{words_in, cells_named, code_decl, name_limit}
use Rattle.sync_thread_machine.specs.MachineWithProgram.{MachineWithProgram}
use Rattle.sync_thread_machine.specs.ProgramSymbols.{first_fresh}
use Rattle.sync_typing.specs.Lists.{named_word}
use Rattle.sync_typing.specs.Typing.{is_constant}
use Rattle.sync_typing.specs.Names.{is_constant_field, is_named, is_held_symbol, number_if, known_with, decl_name}
use Rattle.sync_read_programs.specs.declared.scopes.WordCounts.{WordCounts}
use Rattle.sync_read_programs.specs.declared.scopes.Declared.{Declared}
use Rattle.sync_read_programs.specs.declared.scopes.Declared.TheVariants as declared
use Rattle.sync_read_programs.specs.declared.scopes.ProgramScope.{ProgramScope}
use Rattle.sync_read_programs.specs.Scopes.{is_constant as is_constant_strategy, constants_from, calls_of, standing_of, is_proof_name}
use Rattle.sync_read_laws.proofs.TermsRead.{Agrees}

-- ---- words and cells that are declared

-- a word with so many names, clauses, and clauses without a guard
pub record IsWord (ds : List DeclTree) (n : ℕ) (c : WordCounts) : Type 0 where
  pub word : WordTree
  pub named : named_word n (words_in ds) ≡ Some word
  pub names : length word.names ≡ c.names
  pub clauses : length word.clauses ≡ c.clauses
  pub unguarded : count_by is_unguarded word.clauses ≡ c.unguarded

-- what a name was declared as is what it is among these words and cells
abbrev pub IsDeclared : List DeclTree → ℕ → Declared → Type 0
IsDeclared ds n declared.Nothing = is_in n (map decl_name ds) ≡ false
IsDeclared ds n (declared.Word c) = IsWord ds n c
IsDeclared ds n declared.Cell = is_some (cells_named n (map code_decl ds)) ≡ true

-- ---- places

-- a thread, the start, the end of a thread or the final block
abbrev pub is_mine : Owner → Bool
is_mine owner.Nobody = false
is_mine (owner.Operation k) = false
is_mine (owner.Invariant k) = false
is_mine (owner.Word k) = false
is_mine (owner.Thread k) = true
is_mine (owner.Last k) = true

abbrev pub number_of : Owner → ℕ
number_of owner.Nobody = 0
number_of (owner.Operation k) = 0
number_of (owner.Invariant k) = 0
number_of (owner.Word k) = 0
number_of (owner.Thread k) = k
number_of (owner.Last k) = k

-- a place in the start or not, where terms may say these words
pub record At (x : MachineWithProgram) (b : Bool) (ws : List ℕ) (s : ProgramScope) : Type 0 where
  pub calls : s.calls ≡ calls_of x.machine
  pub strategies : s.strategies ≡ map (λ (f : Field). f.strategy) x.machine.fields
  pub constants : s.constants ≡ constants_from 0 0 x.machine.fields
  pub sorts : (n f : ℕ) (t : Sort) → meaning_of s.scope n ≡ AField f t → t ≡ strategy_sort (strategy_at x.machine.fields f)
  pub names : length s.standings ≤ name_limit
  pub owners : length s.scope.owners ≤ name_limit
  pub declared : (n : ℕ) → IsDeclared x.program.decls n (standing_of s n).declared
  pub starts : s.starts ≡ b
  pub nobody : s.scope.claim ≡ owner.Nobody
  pub mine : is_mine s.scope.owner ≡ true
  pub fields : s.scope.sight.fields ≡ Some s.constants
  pub words : (w : Special) → knows_special s.scope.sight w ≡ true → is_in (special_number w) ws ≡ true

-- no name is both a local and a proof name here
abbrev pub Apart : ProgramScope → Type 0
Apart s = (n : ℕ) → is_assigned s.scope n ≡ true → is_proof_name s n ≡ false

abbrev pub local_number : Option Owners → ℕ
local_number (Some o) = o.local
local_number None = 0

abbrev pub ends_of : Option Owners → Bool
ends_of (Some o) = o.ends
ends_of None = false

-- a keep that a thread ends with has the name
abbrev pub ends_at : ProgramScope → ℕ → Bool
ends_at s n = ends_of (slice_get s.scope.owners n)

-- nobody of this number has assigned to a name
abbrev pub Without : ℕ → ProgramScope → Type 0
Without k s = (n : ℕ) → local_number (slice_get s.scope.owners n) ≡ k → ⊥

abbrev pub none : ℕ → Bool
none n = false

-- from one place to a later one: these are the new proof names, locals, and proof names and tokens of threads' ends
pub record Goes (s next : ProgramScope) (ps ls es ts : ℕ → Bool) : Type 0 where
  pub calls : next.calls ≡ s.calls
  pub strategies : next.strategies ≡ s.strategies
  pub constants : next.constants ≡ s.constants
  pub starts : next.starts ≡ s.starts
  pub meanings : next.scope.meanings ≡ s.scope.meanings
  pub claim : next.scope.claim ≡ s.scope.claim
  pub owner : next.scope.owner ≡ s.scope.owner
  pub names : length next.standings ≡ length s.standings
  pub owners : length next.scope.owners ≡ length s.scope.owners
  pub declared : (n : ℕ) → (standing_of next n).declared ≡ (standing_of s n).declared
  pub threads : (n : ℕ) → (standing_of next n).thread ≡ (standing_of s n).thread
  pub tokens : (n : ℕ) → (standing_of next n).ends_token ≡ (ts n || (standing_of s n).ends_token)
  pub locals : (n : ℕ) → is_assigned next.scope n ≡ (ls n || is_assigned s.scope n)
  pub proofs : (n : ℕ) → is_proof_name next n ≡ (ps n || is_proof_name s n)
  pub ends : (n : ℕ) → ends_at next n ≡ (es n || ends_at s n)
  pub apart : Apart s → Apart next
  pub without : (k : ℕ) → (number_of s.scope.owner ≡ k → ⊥) → Without k s → Without k next

-- nothing new
abbrev pub Rests : ProgramScope → ProgramScope → Type 0
Rests s next = Goes s next none none none none

pub rests_here : (s : ProgramScope) → Rests s s
rests_here s = record {
  calls = refl;
  strategies = refl;
  constants = refl;
  starts = refl;
  meanings = refl;
  claim = refl;
  owner = refl;
  names = refl;
  owners = refl;
  declared = λ n. refl;
  threads = λ n. refl;
  tokens = λ n. refl;
  locals = λ n. refl;
  proofs = λ n. refl;
  ends = λ n. refl;
  apart = λ h. h;
  without = λ k other h. h;
}

abbrev pub Joined : (ℕ → Bool) → (ℕ → Bool) → (ℕ → Bool) → Type 0
Joined p q r = (n : ℕ) (z : Bool) → (q n || (p n || z)) ≡ (r n || z)

-- one way after the other
pub goes_then : (s a c : ProgramScope) (p l e t q m f u ps ls es ts : ℕ → Bool) → Joined p q ps → Joined l m ls → Joined e f es → Joined t u ts
    → Goes s a p l e t → Goes a c q m f u → Goes s c ps ls es ts
goes_then s a c p l e t q m f u ps ls es ts jp jl je jt one two = record {
  calls = two.calls ∙ one.calls;
  strategies = two.strategies ∙ one.strategies;
  constants = two.constants ∙ one.constants;
  starts = two.starts ∙ one.starts;
  meanings = two.meanings ∙ one.meanings;
  claim = two.claim ∙ one.claim;
  owner = two.owner ∙ one.owner;
  names = two.names ∙ one.names;
  owners = two.owners ∙ one.owners;
  declared = λ n. two.declared n ∙ one.declared n;
  threads = λ n. two.threads n ∙ one.threads n;
  tokens = λ n. two.tokens n ∙ ap (λ z. u n || z) (one.tokens n) ∙ jt n (standing_of s n).ends_token;
  locals = λ n. two.locals n ∙ ap (λ z. m n || z) (one.locals n) ∙ jl n (is_assigned s.scope n);
  proofs = λ n. two.proofs n ∙ ap (λ z. q n || z) (one.proofs n) ∙ jp n (is_proof_name s n);
  ends = λ n. two.ends n ∙ ap (λ z. f n || z) (one.ends n) ∙ je n (ends_at s n);
  apart = λ h. two.apart (one.apart h);
  without = λ k other h. two.without k (λ e. other (ap number_of (sym one.owner) ∙ e)) (one.without k other h);
}

pub rests_then : (s a c : ProgramScope) (ps ls es ts : ℕ → Bool) → Rests s a → Goes a c ps ls es ts → Goes s c ps ls es ts
rests_then s a c ps ls es ts one two = goes_then s a c none none none none ps ls es ts ps ls es ts (λ n z. refl) (λ n z. refl) (λ n z. refl) (λ n z. refl) one two

pub then_rests : (s a c : ProgramScope) (ps ls es ts : ℕ → Bool) → Goes s a ps ls es ts → Rests a c → Goes s c ps ls es ts
then_rests s a c ps ls es ts one two = goes_then s a c ps ls es ts none none none none ps ls es ts (λ n z. refl) (λ n z. refl) (λ n z. refl) (λ n z. refl) one two

-- the same new names, said otherwise
pub goes_as : (s a : ProgramScope) (p l e t ps ls es ts : ℕ → Bool) → ((n : ℕ) → p n ≡ ps n) → ((n : ℕ) → l n ≡ ls n) → ((n : ℕ) → e n ≡ es n) → ((n : ℕ) → t n ≡ ts n)
    → Goes s a p l e t → Goes s a ps ls es ts
goes_as s a p l e t ps ls es ts jp jl je jt one =
    goes_then s a a p l e t none none none none ps ls es ts (λ n z. ap (λ y. y || z) (jp n)) (λ n z. ap (λ y. y || z) (jl n)) (λ n z. ap (λ y. y || z) (je n)) (λ n z. ap (λ y. y || z) (jt n)) one (rests_here a)

-- a place stays one, where as much is seen
pub at_goes : (x : MachineWithProgram) (b : Bool) (ws vs : List ℕ) (s next : ProgramScope) (ps ls es ts : ℕ → Bool) → At x b ws s → Goes s next ps ls es ts
    → next.scope.sight.fields ≡ s.scope.sight.fields
    → ((w : Special) → knows_special next.scope.sight w ≡ true → is_in (special_number w) vs ≡ true) → At x b vs next
at_goes x b ws vs s next ps ls es ts h g fields words = record {
  calls = g.calls ∙ h.calls;
  strategies = g.strategies ∙ h.strategies;
  constants = g.constants ∙ h.constants;
  sorts = λ n f t is. h.sorts n f t (ap (λ ms. meaning_of (record s.scope { meanings = ms }) n) (sym g.meanings) ∙ is);
  names = subst (λ k. k ≤ name_limit) (sym g.names) h.names;
  owners = subst (λ k. k ≤ name_limit) (sym g.owners) h.owners;
  declared = λ n. subst (IsDeclared x.program.decls n) (sym (g.declared n)) (h.declared n);
  starts = g.starts ∙ h.starts;
  nobody = g.claim ∙ h.nobody;
  mine = ap is_mine g.owner ∙ h.mine;
  fields = fields ∙ h.fields ∙ ap Some (sym g.constants);
  words = words;
}

pub at_same : (x : MachineWithProgram) (b : Bool) (ws : List ℕ) (s next : ProgramScope) (ps ls es ts : ℕ → Bool) → At x b ws s → Goes s next ps ls es ts
    → next.scope.sight ≡ s.scope.sight → At x b ws next
at_same x b ws s next ps ls es ts h g same =
    at_goes x b ws ws s next ps ls es ts h g (ap (λ (v : Sight). v.fields) same) (λ w known. h.words w (ap (λ v. knows_special v w) (sym same) ∙ known))

-- ---- constants

number_when : (a b c : Bool) → b ≡ true → number_if (a || (b || c)) ≡ Some Numbers
number_when true b c e = refl
number_when false true c e = refl
number_when false false c e = cc

number_last : (a b c : Bool) → c ≡ true → number_if (a || (b || c)) ≡ Some Numbers
number_last true b c e = refl
number_last false true c e = refl
number_last false false c e = ap number_if e

number_first : (a b c : Bool) → a ≡ true → number_if (a || (b || c)) ≡ Some Numbers
number_first true b c e = refl
number_first false b c e = cc

-- a bit stands for a constant behind those that were up
abbrev Up : List Field → ℕ → ℕ → ℕ → Type 0
Up fs flags n i = (flag flags i ≡ true) ⊎ ((k : ℕ) × (i ≡ n + k) × (k < length fs) × (is_constant (strategy_at fs k) ≡ true))

one_more : (flags n i : ℕ) → flag (with_flag flags n) i ≡ true → (flag flags i ≡ true) ⊎ (i ≡ n)
one_more flags n i up = by (nat_eq i n) refl where
  by : (b : Bool) → nat_eq i n ≡ b → (flag flags i ≡ true) ⊎ (i ≡ n)
  by true e = inr (eqb-true i n e)
  by false e = inl (below (nat_lt n 64) refl) where
    apart : i ≡ n → ⊥
    apart q = absurd (true≢false (sym (eq-eqb i n q) ∙ e))

    bit : bit_at (bit_or flags (2 ^ n)) i ≡ bit_at flags i
    bit = bit_at_or flags (2 ^ n) i ∙ omega (arith, bit_at-pow_other n i apart)

    below : (b : Bool) → nat_lt n 64 ≡ b → flag flags i ≡ true
    below false f = ap (λ c. flag (if c then bit_or flags (2 ^ n) else flags) i) (sym f) ∙ up
    below true f =
        sym (ap (λ v. if nat_lt i 64 then v == 1 else false) bit)
        ∙ ap (λ c. flag (if c then bit_or flags (2 ^ n) else flags) i) (sym f) ∙ up

same_constant : (s : Strategy) → is_constant_strategy s ≡ is_constant s
same_constant s = refl

constants_up : (fs : List Field) (flags n i : ℕ) → flag (constants_from flags n fs) i ≡ true → Up fs flags n i
unfolding constants_from
constants_up [] flags n i up = inl up
constants_up (f ∷ fs) flags n i up = by (λ more. constants_up fs more (n + 1) i) (is_constant_strategy f.strategy) refl where
  later : (flags : ℕ) → Up fs flags (n + 1) i → (flag flags i ≡ true → Up (f ∷ fs) flags n i) → Up (f ∷ fs) flags n i
  later flags (inl h) here = here h
  later flags (inr (k, at, within, is)) here = inr (suc k, omega (arith, at), omega (arith, within), is)

  here : is_constant_strategy f.strategy ≡ true → (flag flags i ≡ true) ⊎ (i ≡ n) → Up (f ∷ fs) flags n i
  here e (inl h) = inl h
  here e (inr at) = inr (0, omega (arith, at), omega arith, e)

  shifted : is_constant_strategy f.strategy ≡ true → Up fs (with_flag flags n) (n + 1) i → Up (f ∷ fs) flags n i
  shifted e (inl h) = here e (one_more flags n i h)
  shifted e (inr (k, at, within, is)) = inr (suc k, omega (arith, at), omega (arith, within), is)

  by : ((more : ℕ) → flag (constants_from more (n + 1) fs) i ≡ true → Up fs more (n + 1) i) → (b : Bool) → is_constant_strategy f.strategy ≡ b → Up (f ∷ fs) flags n i
  by rest true e = shifted e (rest (with_flag flags n) (ap (λ c. flag (constants_from (if c then with_flag flags n else flags) (n + 1) fs) i) (sym e) ∙ up))
  by rest false e = later flags (rest flags (ap (λ c. flag (constants_from (if c then with_flag flags n else flags) (n + 1) fs) i) (sym e) ∙ up)) inl

-- no bit of 0 is up
pub no_flag : (i : ℕ) → flag 0 i ≡ false
no_flag i = by (nat_lt i 64) where
  by : (b : Bool) → (if b then bit_at 0 i == 1 else false) ≡ false
  by true = ap (λ v. v == 1) (bit_at-zero i)
  by false = refl

pub constant_up : (x : MachineWithProgram) (i : ℕ) → flag (constants_from 0 0 x.machine.fields) i ≡ true → is_constant_field x i ≡ true
constant_up x i up = by (constants_up x.machine.fields 0 0 i up) where
  by : Up x.machine.fields 0 0 i → is_constant_field x i ≡ true
  by (inl h) = absurd (true≢false (sym h ∙ no_flag i))
  by (inr (k, at, within, is)) =
      let same : k ≡ i = omega (arith, at) in
      and_from (nat_lt i (length x.machine.fields)) (is_constant (strategy_at x.machine.fields i)) (lt-ltb i (length x.machine.fields) (subst (λ j. j < length x.machine.fields) same within)) (subst (λ j. is_constant (strategy_at x.machine.fields j) ≡ true) same is)

-- ---- what terms name

pub name_is_named : (n : ℕ) → is_named (symbol_of n) ≡ true
name_is_named n =
    let k = number_in n in
    let few : k < 1048576 = omega arith in
    or_right (is_held_symbol (symbol_of n)) _ (and_from (nat_lt 63 (symbol_of n)) _ (lt-ltb 63 (symbol_of n) (omega arith)) (and_from (nat_lt (symbol_of n) first_fresh) _ (lt-ltb (symbol_of n) first_fresh (omega (arith, few))) (eq-eqb (symbol_of n % 4) 0 (omega arith))))

pub held_is_held : (n : ℕ) → is_held_symbol (held_symbol_of n) ≡ true
held_is_held n =
    let k = number_in n in
    let few : k < 1048576 = omega arith in
    and_from (nat_lt 63 (held_symbol_of n)) _ (lt-ltb 63 (held_symbol_of n) (omega arith)) (and_from (nat_lt (held_symbol_of n) first_fresh) _ (lt-ltb (held_symbol_of n) first_fresh (omega (arith, few))) (eq-eqb (held_symbol_of n % 4) 2 (omega arith)))

held_is_named : (n : ℕ) → is_named (held_symbol_of n) ≡ true
held_is_named n = or_left (is_held_symbol (held_symbol_of n)) _ (held_is_held n)

abbrev field_number : Meaning → ℕ
field_number (AField i t) = i
field_number Nothing = 0
field_number (Operation i) = 0
field_number (Invariant i) = 0

abbrev is_a_field : Meaning → Bool
is_a_field (AField i t) = true
is_a_field Nothing = false
is_a_field (Operation i) = false
is_a_field (Invariant i) = false

-- a field that is seen is one that was declared, and its bit is up
pub seen_up : (g : Sight) (c i : ℕ) (m : Meaning) (t : Sort) → g.fields ≡ Some c → seen g m ≡ AField i t → (m ≡ AField i t) × (flag c i ≡ true)
seen_up g c i Nothing t e is = absurd (true≢false (sym (ap is_a_field is)))
seen_up g c i (Operation j) t e is = absurd (true≢false (sym (ap is_a_field is)))
seen_up g c i (Invariant j) t e is = absurd (true≢false (sym (ap is_a_field is)))
seen_up g c i (AField j u) t e is = by (flag c j) refl (sym (ap (λ o. if_known o j (AField j u)) e) ∙ is) where
  by : (b : Bool) → flag c j ≡ b → (if b then AField j u else Nothing) ≡ AField i t → (AField j u ≡ AField i t) × (flag c i ≡ true)
  by true up same = (same, ap (flag c) (sym (ap field_number same)) ∙ up)
  by false up same = absurd (true≢false (sym (ap is_a_field same)))

abbrev pub is_number_sort : Sort → Bool
is_number_sort sort.Number = true
is_number_sort sort.Map = false
is_number_sort sort.Formula = false

pub constant_is_number : (s : Strategy) → is_constant s ≡ true → strategy_sort s ≡ sort.Number
constant_is_number Constant e = refl
constant_is_number Variable e = refl
constant_is_number NotTokenized e = refl
constant_is_number Count e = refl
constant_is_number PersistentCount e = refl
constant_is_number OptionField e = cc
constant_is_number Map e = cc
constant_is_number Set e = cc
constant_is_number Multiset e = cc
constant_is_number PersistentOption e = cc
constant_is_number PersistentMap e = cc
constant_is_number PersistentSet e = cc
constant_is_number StorageMap e = cc

pub at_agrees : (x : MachineWithProgram) (b : Bool) (ws : List ℕ) (s : ProgramScope) → At x b ws s → Agrees s.scope (known_with x ws)
at_agrees x b ws s h = record {
  nobody = ap knows_params h.nobody;
  words = λ w known. number_when (is_constant_field x (special_number w)) (is_in (special_number w) ws) (is_named (special_number w)) (h.words w known);
  held = λ n known. number_last (is_constant_field x (held_symbol_of n)) (is_in (held_symbol_of n) ws) (is_named (held_symbol_of n)) (held_is_named n);
  own = λ n mine. number_last (is_constant_field x (symbol_of n)) (is_in (symbol_of n) ws) (is_named (symbol_of n)) (name_is_named n);
  numbers = λ n i is. number_first (is_constant_field x i) (is_in i ws) (is_named i) (up n i sort.Number is);
  maps = λ n i is. absurd (true≢false (sym (ap is_number_sort (h.sorts n i sort.Map (seen_up s.scope.sight s.constants i (meaning_of s.scope n) sort.Map h.fields is).0 ∙ constant_is_number (strategy_at x.machine.fields i) (constant n i sort.Map is)))));
} where
  up : (n i : ℕ) (t : Sort) → seen_as s.scope n ≡ AField i t → is_constant_field x i ≡ true
  up n i t is = constant_up x i (ap (λ c. flag c i) (sym h.constants) ∙ (seen_up s.scope.sight s.constants i (meaning_of s.scope n) t h.fields is).1)

  constant : (n i : ℕ) (t : Sort) → seen_as s.scope n ≡ AField i t → is_constant (strategy_at x.machine.fields i) ≡ true
  constant n i t is = (and_parts (nat_lt i (length x.machine.fields)) (is_constant (strategy_at x.machine.fields i)) (up n i t is)).1

-- ---- the same, where as much is seen

pub record Stays (s next : ProgramScope) (ps ls es ts : ℕ → Bool) : Type 0 where
  pub goes : Goes s next ps ls es ts
  pub sight : next.scope.sight ≡ s.scope.sight

-- nothing new, and as much is seen
abbrev pub Keeps : ProgramScope → ProgramScope → Type 0
Keeps s next = Stays s next none none none none

pub keeps_here : (s : ProgramScope) → Keeps s s
keeps_here s = record { goes = rests_here s; sight = refl }

pub at_stays : (x : MachineWithProgram) (b : Bool) (ws : List ℕ) (s next : ProgramScope) (ps ls es ts : ℕ → Bool) → At x b ws s → Stays s next ps ls es ts → At x b ws next
at_stays x b ws s next ps ls es ts h g = at_same x b ws s next ps ls es ts h g.goes g.sight

pub keeps_then : (s a c : ProgramScope) (ps ls es ts : ℕ → Bool) → Keeps s a → Stays a c ps ls es ts → Stays s c ps ls es ts
keeps_then s a c ps ls es ts one two = record { goes = rests_then s a c ps ls es ts one.goes two.goes; sight = two.sight ∙ one.sight }

pub then_keeps : (s a c : ProgramScope) (ps ls es ts : ℕ → Bool) → Stays s a ps ls es ts → Keeps a c → Stays s c ps ls es ts
then_keeps s a c ps ls es ts one two = record { goes = then_rests s a c ps ls es ts one.goes two.goes; sight = two.sight ∙ one.sight }

-- more scripts are counted, and nothing else changes
pub counted_keeps : (s : ProgramScope) (n : ℕ) → Keeps s (record s { scripts = n })
counted_keeps s n = record {
  goes = record {
    calls = refl;
    strategies = refl;
    constants = refl;
    starts = refl;
    meanings = refl;
    claim = refl;
    owner = refl;
    names = refl;
    owners = refl;
    declared = λ n. refl;
    threads = λ n. refl;
    tokens = λ n. refl;
    locals = λ n. refl;
    proofs = λ n. refl;
    ends = λ n. refl;
    apart = λ h. h;
    without = λ k other h. h;
  };
  sight = refl;
}
