-- What a scope knows behind a declaration: a new name stands for a field, an operation or an invariant, and all others for what they did.
use Rattle.std.proofs.Common.{◌≡◌, ℕ, zero, suc, ◌+◌, ◌<◌, ◌≤◌, ◌⊎◌, inl, inr, Bool, true, false, if◌then◌else◌, List, [], ◌∷◌, ◌++◌, length, slice_set, nat_lt, nat_le, nat_eq, Option, None, Ok, refl, sym, ap, subst, ◌∙◌, true≢false, length-set, length-append, append-nil, append_assoc, arith}
use Rattle.std.specs.Result.{IfOk}
use Rattle.std.proofs.lemmas.Bool.{ltb-true, ltb-false, lt-leb, eqb-true, eqb-false, false_from_ne_true}
use Rattle.sync_base.specs.declared.stops.Rule.TheVariants.{N1, N2, N5}
use Rattle.sync_machine.specs.declared.fields.Field.{Field}
use Rattle.sync_machine.specs.States.{strategy_at}
use Rattle.sync_machine.specs.Naming.{broken, at_line, first_fault, is_in, is_field_name, field_fault}
use Rattle.sync_machine.proofs.Checks.{first_both}
use Rattle.sync_parse_exprs.specs.declared.raw_names.RawName.{RawName}
use Rattle.sync_parse.specs.declared.trees.RawField.{RawField}
use Rattle.sync_read_names.specs.declared.scopes.Sort.{Sort}
use Rattle.sync_read_names.specs.declared.scopes.Meaning.{Meaning}
use Rattle.sync_read_names.specs.declared.scopes.Meaning.TheVariants as meaning
use Rattle.sync_read_names.specs.declared.scopes.Owner.{Owner}
use Rattle.sync_read_names.specs.declared.scopes.Owner.TheVariants as owner
use Rattle.sync_read_names.specs.declared.scopes.Scope.{Scope}
use Rattle.sync_read_names.specs.Scopes.{refuse, or_nothing, meaning_of, is_field, if_new, declare}
use Rattle.sync_read.specs.Acts.{few_before, strategy_sort, new_field, add_field, fields_from}
use Rattle.sync_read.proofs.Chains.{after_ok, both}
use Rattle.sync_read.proofs.Owning.{get_set_here, get_set_other, which, in_cases, name_at, HasRoom, HasFields, Between}

-- ---- limits

pub few_before_ok : (most before line : ℕ) → IfOk (few_before most before line) (λ n. before < most)
few_before_ok most before line = less (nat_lt before most) refl where
  less : (b : Bool) → nat_lt before most ≡ b → IfOk (if b then Ok before else refuse N5 line) (λ n. before < most)
  less true e = ltb-true before most e
  less false e = tt

pub no_limit : (most before : ℕ) → before < most → broken (nat_le most before) N5 ≡ None
no_limit most before h = ap (λ b. broken b N5) (lt-leb most before h)

-- ---- lists of faults

pub one_more : {A R : Type 0} (judge : List A → A → Option R) (before xs : List A) (x : A)
    → first_fault judge before xs ≡ None → judge (before ++ xs) x ≡ None → first_fault judge before (xs ++ x ∷ []) ≡ None
unfolding first_fault
one_more judge before [] x e f = both (judge before x) None (subst (λ ys. judge ys x ≡ None) (append-nil before) f) refl
one_more judge before (y ∷ ys) x e f =
    let p = first_both (judge before y) (first_fault judge (before ++ y ∷ []) ys) e in
    both (judge before y) (first_fault judge (before ++ y ∷ []) (ys ++ x ∷ [])) p.0
    (one_more judge (before ++ y ∷ []) ys x p.1 (subst (λ zs. judge zs x ≡ None) (sym (append_assoc before (y ∷ []) ys)) f))

-- ---- a new name

abbrev pub declared : Scope → ℕ → Meaning → Scope
declared s n m = record s { meanings = slice_set s.meanings n m }

pub declare_is : (P : Scope → Type 0) (s : Scope) (named : RawName) (m : Meaning)
    → (named.name < length s.meanings → meaning_of s named.name ≡ meaning.Nothing → P (declared s named.name m)) → IfOk (declare s named m) P
declare_is P s named m h = below (nat_lt named.name (length s.meanings)) refl where
  new : named.name < length s.meanings → (x : Meaning) → meaning_of s named.name ≡ x → IfOk (if_new x named (declared s named.name m)) P
  new low meaning.Nothing e = h low e
  new low (meaning.Field i t) e = tt
  new low (meaning.Operation i) e = tt
  new low (meaning.Invariant i) e = tt

  below : (b : Bool) → nat_lt named.name (length s.meanings) ≡ b → IfOk (if b then if_new (meaning_of s named.name) named (declared s named.name m) else refuse N1 named.line) P
  below true e = new (ltb-true named.name (length s.meanings) e) (meaning_of s named.name) refl
  below false e = tt

pub declared_here : (s : Scope) (n : ℕ) (m : Meaning) → n < length s.meanings → meaning_of (declared s n m) n ≡ m
declared_here s n m low = ap or_nothing (get_set_here s.meanings n m low)

pub declared_other : (s : Scope) (n : ℕ) (m : Meaning) (j : ℕ) → (j ≡ n → ⊥) → meaning_of (declared s n m) j ≡ meaning_of s j
declared_other s n m j apart = ap or_nothing (get_set_other s.meanings n j m apart)

declared_room : (s : Scope) (n : ℕ) (m : Meaning) → HasRoom s → HasRoom (declared s n m)
declared_room s n m h = record { meanings = subst (λ k. k ≤ 1048576) (sym (length-set s.meanings n m)) h.meanings; owners = h.owners; nobody = h.nobody; sight = h.sight }

-- a field's name is not new
field_apart : (fs : List Field) (s : Scope) (n i : ℕ) → HasFields fs s → meaning_of s n ≡ meaning.Nothing → i < length fs → name_at fs i ≡ n → ⊥
field_apart fs s n i fields new below e =
    let is : meaning_of s n ≡ meaning.Field i (strategy_sort (strategy_at fs i)) = subst (λ k. meaning_of s k ≡ meaning.Field i (strategy_sort (strategy_at fs i))) e (fields.named i below) in
    let clash : meaning.Field i (strategy_sort (strategy_at fs i)) ≡ meaning.Nothing = sym is ∙ new in
    absurd cc

with_name : (fs : List Field) (n : ℕ) → is_field_name fs n ≡ true → (i : ℕ) × (i < length fs) × (name_at fs i ≡ n)
with_name [] n e = absurd (true≢false (sym e))
with_name (f ∷ fs) n e = elim (which (nat_eq n f.name) (is_field_name fs n) e) [
  | inl h ↦ (zero, omega arith, sym (eqb-true n f.name h))
  | inr h ↦ let rest = with_name fs n h in (suc rest.0, omega (arith, rest.1), rest.2)
]

pub no_field_name : (fs : List Field) (s : Scope) (n : ℕ) → HasFields fs s → meaning_of s n ≡ meaning.Nothing → is_field_name fs n ≡ false
no_field_name fs s n fields new = false_from_ne_true (is_field_name fs n) (λ e. let f = with_name fs n e in field_apart fs s n f.0 fields new f.1 f.2)

-- ---- one more operation or invariant

module _ (fs : List Field) (taken : List ℕ) (F : Owner → Type 0) (s : Scope) (h : Between fs taken F s) (n : ℕ) (m : Meaning)
    (low : n < length s.meanings) (new : meaning_of s n ≡ meaning.Nothing) (plain : is_field m ≡ false) (some : m ≡ meaning.Nothing → ⊥) where
  pub not_taken : is_in n taken ≡ false
  not_taken = false_from_ne_true (is_in n taken) (λ e. h.taken_are n e new)

  more_fields : HasFields fs (declared s n m)
  more_fields = record {
    few = h.fields.few;
    named = λ i below. declared_other s n m (name_at fs i) (field_apart fs s n i h.fields new below) ∙ h.fields.named i below;
    only = λ j i t e. split j i t e (nat_eq j n) refl;
  } where
    split : (j i : ℕ) (t : Sort) → meaning_of (declared s n m) j ≡ meaning.Field i t → (b : Bool) → nat_eq j n ≡ b → (i < length fs) × (name_at fs i ≡ j)
    split j i t e false d = h.fields.only j i t (sym (declared_other s n m j (eqb-false j n d)) ∙ e)
    split j i t e true d =
        let is : m ≡ meaning.Field i t = sym (declared_here s n m low) ∙ subst (λ k. meaning_of (declared s n m) k ≡ meaning.Field i t) (eqb-true j n d) e in
        absurd (true≢false (sym (ap is_field is) ∙ plain))

  more_taken : (j : ℕ) → is_in j (taken ++ n ∷ []) ≡ true → meaning_of (declared s n m) j ≡ meaning.Nothing → ⊥
  more_taken j e nothing = split (nat_eq j n) refl where
    split : (b : Bool) → nat_eq j n ≡ b → ⊥
    split true d = some (sym (declared_here s n m low) ∙ subst (λ k. meaning_of (declared s n m) k ≡ meaning.Nothing) (eqb-true j n d) nothing)
    split false d = old (in_cases j n taken e) where
      old : (is_in j taken ≡ true) ⊎ (j ≡ n) → ⊥
      old (inl p) = h.taken_are j p (sym (declared_other s n m j (eqb-false j n d)) ∙ nothing)
      old (inr p) = eqb-false j n d p

  pub more_between : Between fs (taken ++ n ∷ []) F (declared s n m)
  more_between = record { room = declared_room s n m h.room; fields = more_fields; taken_are = more_taken; free = h.free }

-- ---- fields

name_before : (fs : List Field) (g : Field) (i : ℕ) → i < length fs → name_at (fs ++ g ∷ []) i ≡ name_at fs i
name_before [] g i h = absurd (omega arith)
name_before (f ∷ fs) g zero h = refl
name_before (f ∷ fs) g (suc i) h = name_before fs g i (omega arith)

name_last : (fs : List Field) (g : Field) → name_at (fs ++ g ∷ []) (length fs) ≡ g.name
name_last [] g = refl
name_last (f ∷ fs) g = name_last fs g

strategy_before : (fs : List Field) (g : Field) (i : ℕ) → i < length fs → strategy_at (fs ++ g ∷ []) i ≡ strategy_at fs i
strategy_before [] g i h = absurd (omega arith)
strategy_before (f ∷ fs) g zero h = refl
strategy_before (f ∷ fs) g (suc i) h = strategy_before fs g i (omega arith)

strategy_last : (fs : List Field) (g : Field) → strategy_at (fs ++ g ∷ []) (length fs) ≡ g.strategy
strategy_last [] g = refl
strategy_last (f ∷ fs) g = strategy_last fs g

pub same_number : (i j : ℕ) (t u : Sort) → meaning.Field i t ≡ meaning.Field j u → i ≡ j
same_number i j t u e = cc

-- of those whom a machine may have, nobody owns a name
abbrev pub Anybody : Owner → Type 0
Anybody owner.Nobody = Unit {0}
Anybody (owner.Operation k) = Unit {0}
Anybody (owner.Invariant k) = Unit {0}
Anybody (owner.Word name) = ⊥
Anybody (owner.Thread k) = ⊥
Anybody (owner.Last k) = ⊥

-- what is known of the fields so far
pub record AreFields (held : List Field) (s : Scope) : Type 0 where
  pub between : Between held [] Anybody s
  pub passed : first_fault field_fault [] held ≡ None

module _ (held : List Field) (s : Scope) (h : Between held [] Anybody s) (f : RawField) (few : length held < 32) (low : f.name.name < length s.meanings) (new : meaning_of s f.name.name ≡ meaning.Nothing) where
  abbrev now : List Field
  now = held ++ new_field f ∷ []

  abbrev means : Meaning
  means = meaning.Field (length held) (strategy_sort f.strategy)

  abbrev next : Scope
  next = declared s f.name.name means

  longer : length now ≡ length held + 1
  longer = length-append held (new_field f ∷ [])

  old_field : (i : ℕ) → i < length held → meaning_of next (name_at now i) ≡ meaning.Field i (strategy_sort (strategy_at now i))
  old_field i below =
      ap (meaning_of next) (name_before held (new_field f) i below)
      ∙ declared_other s f.name.name means (name_at held i) (field_apart held s f.name.name i h.fields new below)
      ∙ h.fields.named i below
      ∙ ap (λ st. meaning.Field i (strategy_sort st)) (sym (strategy_before held (new_field f) i below))

  last_field : meaning_of next (name_at now (length held)) ≡ meaning.Field (length held) (strategy_sort (strategy_at now (length held)))
  last_field =
      ap (meaning_of next) (name_last held (new_field f))
      ∙ declared_here s f.name.name means low
      ∙ ap (λ st. meaning.Field (length held) (strategy_sort st)) (sym (strategy_last held (new_field f)))

  all_named : (i : ℕ) → i < length now → meaning_of next (name_at now i) ≡ meaning.Field i (strategy_sort (strategy_at now i))
  all_named i below = split (nat_lt i (length held)) refl where
    split : (b : Bool) → nat_lt i (length held) ≡ b → meaning_of next (name_at now i) ≡ meaning.Field i (strategy_sort (strategy_at now i))
    split true e = old_field i (ltb-true i (length held) e)
    split false e =
        let past = ltb-false i (length held) e in
        let is : i ≡ length held = omega (arith, past, below, longer) in
        subst (λ k. meaning_of next (name_at now k) ≡ meaning.Field k (strategy_sort (strategy_at now k))) (sym is) last_field

  only_these : (n i : ℕ) (t : Sort) → meaning_of next n ≡ meaning.Field i t → (i < length now) × (name_at now i ≡ n)
  only_these n i t e = split (nat_eq n f.name.name) refl where
    split : (b : Bool) → nat_eq n f.name.name ≡ b → (i < length now) × (name_at now i ≡ n)
    split true d =
        let same = eqb-true n f.name.name d in
        let number : length held ≡ i = same_number (length held) i (strategy_sort f.strategy) t (sym (declared_here s f.name.name means low) ∙ subst (λ k. meaning_of next k ≡ meaning.Field i t) same e) in
        (omega (arith, number, longer), subst (λ k. name_at now k ≡ n) number (name_last held (new_field f) ∙ sym same))
    split false d =
        let old = h.fields.only n i t (sym (declared_other s f.name.name means n (eqb-false n f.name.name d)) ∙ e) in
        (omega (arith, old.0, longer), name_before held (new_field f) i old.0 ∙ old.1)

  field_between : Between now [] Anybody next
  field_between = record {
    room = declared_room s f.name.name means h.room;
    fields = record { few = omega (arith, longer, few); named = all_named; only = only_these };
    taken_are = λ n e nothing. true≢false (sym e);
    free = h.free;
  }

  no_fault : field_fault held (new_field f) ≡ None
  unfolding field_fault
  no_fault = ap (at_line f.line) (both (broken (nat_le 32 (length held)) N5) (broken (is_field_name held f.name.name) N2)
      (no_limit 32 (length held) few) (ap (λ b. broken b N2) (no_field_name held s f.name.name h.fields new)))

one_field : (held : List Field) (s : Scope) (f : RawField) → AreFields held s → IfOk (add_field (length held) s f) (AreFields (held ++ new_field f ∷ []))
one_field held s f h =
    after_ok (AreFields (held ++ new_field f ∷ [])) (λ n. length held < 32) (few_before 32 (length held) f.line) _ (few_before_ok 32 (length held) f.line) (λ n few.
    declare_is (AreFields (held ++ new_field f ∷ [])) s f.name (meaning.Field (length held) (strategy_sort f.strategy)) (λ low new. record {
      between = field_between held s h.between f few low new;
      passed = one_more field_fault [] held (new_field f) h.passed (no_fault held s h.between f few low new);
    }))

pub fields_are : (held : List Field) (s : Scope) (fs : List RawField) → AreFields held s → IfOk (fields_from held s fs) (λ x. AreFields x.0 x.1)
unfolding fields_from
fields_are held s [] h = h
fields_are held s (f ∷ fs) h =
    let now : List Field = held ++ new_field f ∷ [] in
    after_ok (λ x. AreFields x.0 x.1) (AreFields now) (add_field (length held) s f) _ (one_field held s f h) (λ t g. fields_are now t fs g)
