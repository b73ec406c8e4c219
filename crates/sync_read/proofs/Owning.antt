-- What a scope knows while an operation or an invariant is read, and that one more parameter or bound name keeps it.
use Rattle.std.proofs.Common.{◌≡◌, ℕ, zero, suc, ◌+◌, ◌*◌, ◌^◌, ◌<◌, ◌≤◌, ◌||◌, ◌⊎◌, inl, inr, Bool, true, false, if◌then◌else◌, List, [], ◌∷◌, ◌++◌, map, length, slice_get, slice_set, slice_index_or, nat_lt, nat_eq, bit_or, Option, Some, None, Ok, refl, sym, ap, subst, ◌∙◌, true≢false, length-set, arith}
use Rattle.std.specs.Int.{bit_at}
use Rattle.std.specs.Result.{IfOk}
use Rattle.std.proofs.lemmas.Bool.{lt-ltb, le-ltb, eq-eqb, eqb-true, eqb-false, false_from_ne_true, or_from, or_left, or_right, or_parts}
use Rattle.std.proofs.lemmas.Nat.Bits.{bit_at_or, bit_at-lt, bit_at-pow_same, bit_at-pow_other}
use Rattle.std.proofs.lemmas.Option.{slice_get_within}
use Rattle.std.proofs.lemmas.List.Folds.{list_any-append}
use Rattle.sync_base.specs.declared.stops.Rule.TheVariants.{N2}
use Rattle.sync_machine.specs.declared.fields.Field.{Field}
use Rattle.sync_base.specs.declared.strategies.Strategy.{Strategy}
use Rattle.sync_base.specs.declared.strategies.Strategy.TheVariants.{Variable, Constant, NotTokenized, Option as OptionField, Map, Set, Multiset, Count, PersistentOption, PersistentMap, PersistentSet, PersistentCount, StorageMap}
use Rattle.sync_machine.specs.States.{Sort as Values, Numbers, Maps, sort_of, strategy_at}
use Rattle.sync_machine.specs.Scope.{knows}
use Rattle.sync_machine.specs.Naming.{is_in, is_fields, repeated, broken}
use Rattle.sync_parse_exprs.specs.declared.raw_names.RawName.{RawName}
use Rattle.sync_read_names.specs.declared.scopes.Sort.{Sort}
use Rattle.sync_read_names.specs.declared.scopes.Sort.TheVariants as sort
use Rattle.sync_read_names.specs.declared.scopes.Meaning.{Meaning}
use Rattle.sync_read_names.specs.declared.scopes.Meaning.TheVariants as meaning
use Rattle.sync_read_names.specs.declared.scopes.Owners.{Owners}
use Rattle.sync_read_names.specs.declared.scopes.Owner.{Owner}
use Rattle.sync_read_names.specs.declared.scopes.Owner.TheVariants as owner
use Rattle.sync_read_names.specs.declared.scopes.Scope.{Scope}
use Rattle.sync_read_names.specs.Scopes.{refuse, symbol_of, or_nothing, meaning_of, flag, with_flag, has_owner, with_owner, or_unowned, is_owned, is_local, is_field, is_taken, own_more, own, knows_params, machine_sight}
use Rattle.sync_read.specs.Acts.{strategy_sort}
use Rattle.sync_read.proofs.Sorted.{Agrees}

-- ---- elements of lists

pub get_set_here : {A : Type 0} (xs : List A) (i : ℕ) (x : A) → i < length xs → slice_get (slice_set xs i x) i ≡ Some x
get_set_here [] i x below = absurd (omega arith)
get_set_here (y ∷ ys) zero x below = refl
get_set_here (y ∷ ys) (suc i) x below = get_set_here ys i x (omega arith)

pub get_set_other : {A : Type 0} (xs : List A) (i j : ℕ) (x : A) → (j ≡ i → ⊥) → slice_get (slice_set xs i x) j ≡ slice_get xs j
get_set_other [] i j x apart = refl
get_set_other (y ∷ ys) zero zero x apart = absurd (apart refl)
get_set_other (y ∷ ys) zero (suc j) x apart = refl
get_set_other (y ∷ ys) (suc i) zero x apart = refl
get_set_other (y ∷ ys) (suc i) (suc j) x apart = get_set_other ys i j x (λ e. apart (ap suc e))

-- ---- flags

up_here : (flags k : ℕ) → k < 64 → flag (with_flag flags k) k ≡ true
up_here flags k below =
    let bit : bit_at (bit_or flags (2 ^ k)) k ≡ 1 = bit_at_or flags (2 ^ k) k ∙ omega (arith, bit_at-pow_same k, bit_at-lt flags k) in
    rw (lt-ltb k 64 below) (eq-eqb (bit_at (bit_or flags (2 ^ k)) k) 1 bit)

same_elsewhere : (flags k j : ℕ) → k < 64 → (j ≡ k → ⊥) → flag (with_flag flags k) j ≡ flag flags j
same_elsewhere flags k j below apart =
    let bit : bit_at (bit_or flags (2 ^ k)) j ≡ bit_at flags j = bit_at_or flags (2 ^ k) j ∙ omega (arith, bit_at-pow_other k j apart) in
    rw (lt-ltb k 64 below, bit) refl

-- one of 64 operations or invariants
abbrev pub IsCounted : Owner → Type 0
IsCounted owner.Nobody = ⊥
IsCounted (owner.Operation k) = k < 64
IsCounted (owner.Invariant k) = k < 64
IsCounted (owner.Word n) = ⊥
IsCounted (owner.Thread k) = ⊥
IsCounted (owner.Last k) = ⊥

-- operations come before invariants
abbrev pub IsLater : Owner → Owner → Type 0
IsLater owner.Nobody y = ⊥
IsLater (owner.Operation k) owner.Nobody = ⊥
IsLater (owner.Operation k) (owner.Operation j) = k < j
IsLater (owner.Operation k) (owner.Invariant j) = Unit {0}
IsLater (owner.Operation k) (owner.Word n) = ⊥
IsLater (owner.Operation k) (owner.Thread j) = ⊥
IsLater (owner.Operation k) (owner.Last j) = ⊥
IsLater (owner.Invariant k) owner.Nobody = ⊥
IsLater (owner.Invariant k) (owner.Operation j) = ⊥
IsLater (owner.Invariant k) (owner.Invariant j) = k < j
IsLater (owner.Invariant k) (owner.Word n) = ⊥
IsLater (owner.Invariant k) (owner.Thread j) = ⊥
IsLater (owner.Invariant k) (owner.Last j) = ⊥
IsLater (owner.Word n) y = ⊥
IsLater (owner.Thread k) y = ⊥
IsLater (owner.Last k) y = ⊥

owns_here : (o : Owners) (x : Owner) → IsCounted x → has_owner (with_owner o x) x ≡ true
owns_here o owner.Nobody h = absurd h
owns_here o (owner.Operation k) h = up_here o.operations k h
owns_here o (owner.Invariant k) h = up_here o.invariants k h
owns_here o (owner.Word n) h = absurd h
owns_here o (owner.Thread k) h = absurd h
owns_here o (owner.Last k) h = absurd h

same_later : (o : Owners) (x y : Owner) → IsCounted x → IsLater x y → has_owner (with_owner o x) y ≡ has_owner o y
same_later o owner.Nobody y h later = absurd h
same_later o (owner.Operation k) owner.Nobody h later = absurd later
same_later o (owner.Operation k) (owner.Operation j) h later = same_elsewhere o.operations k j h (λ e. omega (arith, e, later))
same_later o (owner.Operation k) (owner.Invariant j) h later = refl
same_later o (owner.Operation k) (owner.Word n) h later = absurd later
same_later o (owner.Operation k) (owner.Thread j) h later = absurd later
same_later o (owner.Operation k) (owner.Last j) h later = absurd later
same_later o (owner.Invariant k) owner.Nobody h later = absurd later
same_later o (owner.Invariant k) (owner.Operation j) h later = absurd later
same_later o (owner.Invariant k) (owner.Invariant j) h later = same_elsewhere o.invariants k j h (λ e. omega (arith, e, later))
same_later o (owner.Invariant k) (owner.Word n) h later = absurd later
same_later o (owner.Invariant k) (owner.Thread j) h later = absurd later
same_later o (owner.Invariant k) (owner.Last j) h later = absurd later
same_later o (owner.Word n) y h later = absurd h
same_later o (owner.Thread k) y h later = absurd h
same_later o (owner.Last k) y h later = absurd h

-- ---- what a scope knows

abbrev pub name_at : List Field → ℕ → ℕ
name_at fs i = slice_index_or (map (λ (f : Field). f.name) fs) i 0

-- a text has at most 1,048,576 names, and neither `$` nor a word of programs is known
pub record HasRoom (s : Scope) : Type 0 where
  pub meanings : length s.meanings ≤ 1048576
  pub owners : length s.owners ≤ 1048576
  pub nobody : knows_params s.claim ≡ false
  pub sight : s.sight ≡ machine_sight

-- the names of these fields stand for them, and no other name for a field
pub record HasFields (fs : List Field) (s : Scope) : Type 0 where
  pub few : length fs ≤ 32
  pub named : (i : ℕ) → i < length fs → meaning_of s (name_at fs i) ≡ meaning.Field i (strategy_sort (strategy_at fs i))
  pub only : (n i : ℕ) (t : Sort) → meaning_of s n ≡ meaning.Field i t → (i < length fs) × (name_at fs i ≡ n)

-- between two operations or invariants: their names stand for something, and nobody who is to come owns a name
pub record Between (fs : List Field) (taken : List ℕ) (IsToCome : Owner → Type 0) (s : Scope) : Type 0 where
  pub room : HasRoom s
  pub fields : HasFields fs s
  pub taken_are : (n : ℕ) → is_in n taken ≡ true → meaning_of s n ≡ meaning.Nothing → ⊥
  pub free : (y : Owner) → IsToCome y → (n : ℕ) → is_owned s y n ≡ false

-- inside of one, which owns the names that it has so far
pub record Inside (x : Owner) (fs : List Field) (taken names : List ℕ) (s : Scope) : Type 0 where
  pub mine : s.owner ≡ x
  pub between : Between fs taken (IsLater s.owner) s
  pub counted : IsCounted s.owner
  pub listed : (n : ℕ) → is_local s n ≡ true → is_in (symbol_of n) names ≡ true
  pub held : (n : ℕ) → n < 1048576 → is_in (symbol_of n) names ≡ true → is_local s n ≡ true

-- ---- sorts of fields

number_field : (st : Strategy) → strategy_sort st ≡ sort.Number → sort_of st ≡ Numbers
unfolding sort_of
number_field Variable e = refl
number_field Constant e = refl
number_field NotTokenized e = refl
number_field Count e = refl
number_field PersistentCount e = refl
number_field OptionField e = absurd cc
number_field Map e = absurd cc
number_field Set e = absurd cc
number_field Multiset e = absurd cc
number_field PersistentOption e = absurd cc
number_field PersistentMap e = absurd cc
number_field PersistentSet e = absurd cc
number_field StorageMap e = absurd cc

map_field : (st : Strategy) → strategy_sort st ≡ sort.Map → sort_of st ≡ Maps
unfolding sort_of
map_field Variable e = absurd cc
map_field Constant e = absurd cc
map_field NotTokenized e = absurd cc
map_field Count e = absurd cc
map_field PersistentCount e = absurd cc
map_field OptionField e = refl
map_field Map e = refl
map_field Set e = refl
map_field Multiset e = refl
map_field PersistentOption e = refl
map_field PersistentMap e = refl
map_field PersistentSet e = refl
map_field StorageMap e = refl

same_sort : (m : Meaning) (i : ℕ) (t u : Sort) → m ≡ meaning.Field i t → m ≡ meaning.Field i u → t ≡ u
same_sort m i t u e f = cc

-- a name that stands for a field stands for one of the list, with its sort
pub field_is : (fs : List Field) (s : Scope) (n i : ℕ) (t : Sort) → HasFields fs s → meaning_of s n ≡ meaning.Field i t
    → (i < length fs) × (name_at fs i ≡ n) × (strategy_sort (strategy_at fs i) ≡ t)
field_is fs s n i t fields e =
    let found = fields.only n i t e in
    let is : meaning_of s n ≡ meaning.Field i (strategy_sort (strategy_at fs i)) = subst (λ (m : ℕ). meaning_of s m ≡ meaning.Field i (strategy_sort (strategy_at fs i))) found.1 (fields.named i found.0) in
    (found.0, found.1, same_sort (meaning_of s n) i (strategy_sort (strategy_at fs i)) t is e)

known_field : (fs : List Field) (names : List ℕ) (i : ℕ) (t : Values) → i < length fs → sort_of (strategy_at fs i) ≡ t → knows fs names i ≡ Some t
known_field fs names i t below is = rw (lt-ltb i (length fs) below, is) refl

known_name : (fs : List Field) (names : List ℕ) (n : ℕ) → length fs ≤ 32 → is_in (symbol_of n) names ≡ true → knows fs names (symbol_of n) ≡ Some Numbers
known_name fs names n few h =
    let low : nat_lt (symbol_of n) (length fs) ≡ false = le-ltb (symbol_of n) (length fs) (omega arith) in
    rw (low, h) refl

-- what is read inside knows the fields and the names so far
pub agrees : (x : Owner) (fs : List Field) (taken names : List ℕ) (s : Scope) → Inside x fs taken names s → Agrees s (knows fs names)
agrees x fs taken names s h =
    let fields = h.between.fields in
    record {
      nobody = h.between.room.nobody;
      sight = h.between.room.sight;
      own = λ n e. known_name fs names n fields.few (h.listed n e);
      numbers = λ n i e. let f = field_is fs s n i sort.Number fields e in known_field fs names i Numbers f.0 (number_field (strategy_at fs i) f.2);
      maps = λ n i e. let f = field_is fs s n i sort.Map fields e in known_field fs names i Maps f.0 (map_field (strategy_at fs i) f.2);
    }

-- ---- names of a list

pub which : (a b : Bool) → (a || b) ≡ true → (a ≡ true) ⊎ (b ≡ true)
which true b e = inl refl
which false b e = inr e

in_more : (x : ℕ) (xs ys : List ℕ) → is_in x xs ≡ true → is_in x (xs ++ ys) ≡ true
in_more x xs ys e = list_any-append (nat_eq x) xs ys ∙ or_left (is_in x xs) (is_in x ys) e

in_last : (x : ℕ) (xs : List ℕ) → is_in x (xs ++ x ∷ []) ≡ true
in_last x xs = list_any-append (nat_eq x) xs (x ∷ []) ∙ or_right (is_in x xs) (is_in x (x ∷ [])) (or_left (nat_eq x x) false (eq-eqb x x refl))

pub in_cases : (x y : ℕ) (xs : List ℕ) → is_in x (xs ++ y ∷ []) ≡ true → (is_in x xs ≡ true) ⊎ (x ≡ y)
in_cases x y xs e = last (which (is_in x xs) (is_in x (y ∷ [])) (sym (list_any-append (nat_eq x) xs (y ∷ [])) ∙ e)) where
  last : (is_in x xs ≡ true) ⊎ (is_in x (y ∷ []) ≡ true) → (is_in x xs ≡ true) ⊎ (x ≡ y)
  last (inl h) = inl h
  last (inr h) = inr (only (which (nat_eq x y) false h)) where
    only : (nat_eq x y ≡ true) ⊎ (false ≡ true) → x ≡ y
    only (inl p) = eqb-true x y p
    only (inr p) = absurd (true≢false (sym p))

symbol_same : (m n : ℕ) → m < 1048576 → n < 1048576 → symbol_of m ≡ symbol_of n → m ≡ n
symbol_same m n p q e = omega arith

-- a name or symbol that a field of the list has
field_named : (fs : List Field) (x : ℕ) → is_fields fs x ≡ true → (i : ℕ) × (i < length fs) × (x ≡ 64 + 4 * name_at fs i)
field_named [] x e = absurd (true≢false (sym e))
field_named (f ∷ fs) x e = elim (which (nat_eq x (64 + 4 * f.name)) (is_fields fs x) e) [
  | inl h ↦ (zero, omega arith, eqb-true x (64 + 4 * f.name) h)
  | inr h ↦ let rest = field_named fs x h in (suc rest.0, omega (arith, rest.1), rest.2)
]

-- ---- one more name

meaning_within : (s : Scope) (n : ℕ) → (meaning_of s n ≡ meaning.Nothing → ⊥) → n < length s.meanings
meaning_within s n h = within (slice_get s.meanings n) refl where
  within : (o : Option Meaning) → slice_get s.meanings n ≡ o → n < length s.meanings
  within (Some m) e = slice_get_within s.meanings n m e
  within None e = absurd (h (ap or_nothing e))

module _ (x : Owner) (fs : List Field) (taken names : List ℕ) (s : Scope) (h : Inside x fs taken names s) (named : RawName) (w : Owners) (there : slice_get s.owners named.name ≡ Some w) where
  abbrev name : ℕ
  name = named.name

  abbrev next : Scope
  next = record s { owners = slice_set s.owners name (with_owner w s.owner) }

  name_low : name < 1048576
  name_low = let a = slice_get_within s.owners name w there in let b = h.between.room.owners in omega (arith, a, b)

  now_here : (y : Owner) → is_owned next y name ≡ has_owner (with_owner w s.owner) y
  now_here y = ap (λ o. or_unowned o y) (get_set_here s.owners name (with_owner w s.owner) (slice_get_within s.owners name w there))

  now_other : (y : Owner) (m : ℕ) → (m ≡ name → ⊥) → is_owned next y m ≡ is_owned s y m
  now_other y m apart = ap (λ o. or_unowned o y) (get_set_other s.owners name m (with_owner w s.owner) apart)

  now_later : (y : Owner) (m : ℕ) → IsLater s.owner y → is_owned next y m ≡ is_owned s y m
  now_later y m later = split (nat_eq m name) refl where
    split : (b : Bool) → nat_eq m name ≡ b → is_owned next y m ≡ is_owned s y m
    split false e = now_other y m (eqb-false m name e)
    split true e = subst (λ k. is_owned next y k ≡ is_owned s y k) (sym (eqb-true m name e)) (now_here y ∙ same_later w s.owner y h.counted later ∙ sym (ap (λ o. or_unowned o y) there))

  now_listed : (m : ℕ) → is_local next m ≡ true → is_in (symbol_of m) (names ++ symbol_of name ∷ []) ≡ true
  now_listed m e = split (nat_eq m name) refl where
    split : (b : Bool) → nat_eq m name ≡ b → is_in (symbol_of m) (names ++ symbol_of name ∷ []) ≡ true
    split false d = in_more (symbol_of m) names (symbol_of name ∷ []) (h.listed m (sym (now_other s.owner m (eqb-false m name d)) ∙ e))
    split true d = subst (λ k. is_in (symbol_of k) (names ++ symbol_of name ∷ []) ≡ true) (sym (eqb-true m name d)) (in_last (symbol_of name) names)

  now_held : (m : ℕ) → m < 1048576 → is_in (symbol_of m) (names ++ symbol_of name ∷ []) ≡ true → is_local next m ≡ true
  now_held m low e = split (nat_eq m name) refl where
    split : (b : Bool) → nat_eq m name ≡ b → is_local next m ≡ true
    split true d = subst (λ k. is_local next k ≡ true) (sym (eqb-true m name d)) (now_here s.owner ∙ owns_here w s.owner h.counted)
    split false d = now_other s.owner m (eqb-false m name d) ∙ before (in_cases (symbol_of m) (symbol_of name) names e) where
      before : (is_in (symbol_of m) names ≡ true) ⊎ (symbol_of m ≡ symbol_of name) → is_local s m ≡ true
      before (inl p) = h.held m low p
      before (inr p) = absurd (eqb-false m name d (symbol_same m name low name_low p))

  now_inside : Inside x fs taken (names ++ symbol_of name ∷ []) next
  now_inside = record {
    mine = h.mine;
    between = record {
      room = record { meanings = h.between.room.meanings; owners = subst (λ k. k ≤ 1048576) (sym (length-set s.owners name (with_owner w s.owner))) h.between.room.owners; nobody = h.between.room.nobody; sight = h.between.room.sight };
      fields = record { few = h.between.fields.few; named = h.between.fields.named; only = h.between.fields.only };
      taken_are = h.between.taken_are;
      free = λ y later m. now_later y m later ∙ h.between.free y later m;
    };
    counted = h.counted;
    listed = now_listed;
    held = now_held;
  }

  no_field : is_field (meaning_of s name) ≡ false → is_fields fs (symbol_of name) ≡ false
  no_field plain = false_from_ne_true (is_fields fs (symbol_of name)) (λ e.
      let f = field_named fs (symbol_of name) e in
      let is = h.between.fields.named f.0 f.1 in
      let low : name_at fs f.0 < length s.meanings = meaning_within s (name_at fs f.0) (λ nothing. let clash : meaning.Field f.0 (strategy_sort (strategy_at fs f.0)) ≡ meaning.Nothing = sym is ∙ nothing in absurd cc) in
      let room = h.between.room.meanings in
      let same : name_at fs f.0 ≡ name = omega (arith, f.2, low, room, name_low) in
      true≢false (sym (ap is_field (subst (λ k. meaning_of s k ≡ meaning.Field f.0 (strategy_sort (strategy_at fs f.0))) same is)) ∙ plain))

  is_new : is_taken s name ≡ false → repeated fs names (symbol_of name) ≡ None
  is_new e =
      let parts = or_parts (is_field (meaning_of s name)) (is_local s name) e in
      let fresh : is_in (symbol_of name) names ≡ false = false_from_ne_true (is_in (symbol_of name) names) (λ d. true≢false (sym (h.held name name_low d) ∙ parts.1)) in
      ap (λ b. broken b N2) (or_from (is_fields fs (symbol_of name)) (is_in (symbol_of name) names) (no_field parts.0) fresh)

-- what is known behind a name that is bound
pub record Owned (x : Owner) (fs : List Field) (taken names : List ℕ) (y : ℕ) (s : Scope) : Type 0 where
  pub inside : Inside x fs taken (names ++ y ∷ []) s
  pub new : repeated fs names y ≡ None

pub own_is : (x : Owner) (fs : List Field) (taken names : List ℕ) (s : Scope) (named : RawName) → Inside x fs taken names s → IfOk (own s named) (Owned x fs taken names (symbol_of named.name))
own_is x fs taken names s named h = there (slice_get s.owners named.name) refl where
  there : (o : Option Owners) → slice_get s.owners named.name ≡ o → IfOk (own_more o s named) (Owned x fs taken names (symbol_of named.name))
  there None e = tt
  there (Some w) e = free (is_taken s named.name) refl where
    free : (b : Bool) → is_taken s named.name ≡ b → IfOk (if b then refuse N2 named.line else Ok (record s { owners = slice_set s.owners named.name (with_owner w s.owner) })) (Owned x fs taken names (symbol_of named.name))
    free true d = tt
    free false d = record { inside = now_inside x fs taken names s h named w e; new = is_new x fs taken names s h named w e d }
