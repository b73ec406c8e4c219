-- The number of the next slot is how many slots were used.
use Rattle.std.proofs.Common.{◌≡◌, ℕ, zero, suc, ◌+◌, ℤ, pos, Bool, List, [], ◌∷◌, ◌++◌, length, append_assoc, filter_map, Option, Some, None, Ok, refl, sym, ap, ◌∙◌, arith}
use Rattle.std.specs.List.{cons_option, slice_get}
use Rattle.std.proofs.lemmas.List.Elements.{filter_map-append}
use Rattle.sync_terms.specs.Trees.{Tree}
use Rattle.sync_machine.specs.declared.fields.Field.{Field}
use Rattle.sync_base.specs.declared.strategies.Strategy.{Strategy}
use Rattle.sync_base.specs.declared.strategies.Strategy.TheVariants.{Variable, Constant, NotTokenized, Option as OptionField, Map, Set, Multiset, Count, PersistentOption, PersistentMap, PersistentSet, PersistentCount, StorageMap}
use Rattle.sync_machine.specs.Machines.{ActTree, StepTree}
use Rattle.sync_machine.specs.Machines as acts
use Rattle.sync_machine.specs.Statements.{binds}
use Rattle.sync_machine.specs.States.{Value, strategy_at}
use Rattle.sync_rules.specs.declared.slots.Role.{Role}
use Rattle.sync_rules.specs.declared.slots.Role.TheVariants.{Given}
use Rattle.sync_rules.specs.Slots.{SlotTree, has_amounts, only_if, value_slot, act_slot, statement_slot}
use Rattle.sync_join.specs.Shards.{perm}
use Rattle.sync_join.specs.Join.{number_of}
use Rattle.sync_exchange.specs.declared.hands.XStop.TheVariants.{Differs, Width, RequireFalse}
use Rattle.sync_exchange.specs.Exchange.{Exchanging, named, is_at_place, token_name, revaluing, after_reading, after_taking, after_seeing, after_giving, binding, storing, withdrawn, permission, key_at, started, updated, new_value, use_variable, use_variables, does, does_all}
use Rattle.sync_exchange.proofs.Passing.{either, unless-ok, ok_is, bind-ok, asked-token, asked-object}

-- how many slots a statement has
abbrev pub slot_count : Option SlotTree → ℕ
slot_count o = length (cons_option o [])

no-more : (n : ℕ) → n ≡ n + 0
no-more n = omega arith

one-more : (n : ℕ) → suc n ≡ n + 1
one-more n = omega arith

binding-slot : (o : Option ℕ) (n : ℤ) (x : Exchanging) → (binding o n x).slot ≡ x.slot
binding-slot None n x = refl
binding-slot (Some y) n x = refl

revaluing-slot : (f : ℕ) (n : ℤ) (x : Exchanging) → (revaluing f n x).slot ≡ x.slot
revaluing-slot f n x =
    either (token_name f x.variables) ((revaluing f n x).slot ≡ x.slot) (λ none. rw none refl)
    (λ name some. rw some refl)

started-slot : (s : Strategy) (f : ℕ) (w : Value) (t : Tree) (line : ℕ) (x : Exchanging)
    → (started s f w x).slot ≡ x.slot + slot_count (only_if (has_amounts s) (value_slot Given f t line))
started-slot Variable f w t line x = revaluing-slot f (number_of w) x ∙ no-more x.slot
started-slot Count f w t line x = one-more x.slot
started-slot PersistentCount f w t line x = one-more x.slot
started-slot Constant f w t line x = no-more x.slot
started-slot NotTokenized f w t line x = no-more x.slot
started-slot OptionField f w t line x = no-more x.slot
started-slot Map f w t line x = no-more x.slot
started-slot Set f w t line x = no-more x.slot
started-slot Multiset f w t line x = no-more x.slot
started-slot PersistentOption f w t line x = no-more x.slot
started-slot PersistentMap f w t line x = no-more x.slot
started-slot PersistentSet f w t line x = no-more x.slot
started-slot StorageMap f w t line x = no-more x.slot

updated-slot : (s : Strategy) (f : ℕ) (w : Value) (x : Exchanging) → (updated s f w x).slot ≡ x.slot
updated-slot Variable f w x = revaluing-slot f (number_of w) x
updated-slot s f w x = refl

module _ (fit : ℤ → Bool) (fs : List Field) (x y : Exchanging) where
  same-slot : (u : Exchanging) → u ≡ y → y.slot ≡ u.slot
  same-slot u e = ap (λ (w : Exchanging). w.slot) (sym e)

  does-slot : (line : ℕ) (a : ActTree) → does fit fs (record { act = a; line = line }) x ≡ Ok y
      → y.slot ≡ x.slot + slot_count (act_slot fs a line)
  unfolding does act_slot
  does-slot line (acts.Require form) e =
      let a = unless-ok Width _ _ y e in
      let b = unless-ok (RequireFalse line) _ (Ok x) y a.1 in same-slot x (ok_is x y b.1) ∙ no-more x.slot
  does-slot line (acts.Assert form) e = same-slot x (ok_is x y e) ∙ no-more x.slot
  does-slot line (acts.HaveVariable f) e = same-slot x (ok_is x y e) ∙ no-more x.slot
  does-slot line (acts.Init f t) e =
      let a = unless-ok Width _ _ y e in
      let w = new_value fs f t x in
      same-slot (started (strategy_at fs f) f w x) (ok_is _ y a.1) ∙ started-slot (strategy_at fs f) f w t line x
  does-slot line (acts.Update f t) e =
      let a = unless-ok Width _ _ y e in
      let w = new_value fs f t x in
      same-slot (updated (strategy_at fs f) f w x) (ok_is _ y a.1) ∙ updated-slot (strategy_at fs f) f w x
      ∙ no-more x.slot
  does-slot line (acts.Remove f p) e =
      let a = asked-token fit f p x _ y e in
      same-slot (binding (binds p) a.token.value (after_taking x)) a.answer
      ∙ binding-slot (binds p) a.token.value (after_taking x) ∙ one-more x.slot
  does-slot line (acts.Have f p) e =
      let a = asked-token fit f p x _ y e in
      same-slot (binding (binds p) a.token.value (after_reading x)) a.answer
      ∙ binding-slot (binds p) a.token.value (after_reading x) ∙ one-more x.slot
  does-slot line (acts.Add f p) e = let a = unless-ok Width _ _ y e in same-slot _ (ok_is _ y a.1) ∙ one-more x.slot
  does-slot line (acts.Deposit f p) e = let a = asked-token fit perm p x _ y e in same-slot _ a.answer ∙ one-more x.slot
  does-slot line (acts.Withdraw f p) e =
      let a = asked-object fit f p x _ y e in
      let u = storing (withdrawn f (key_at p x) x.kept.stored) (after_giving (permission (key_at p x) a.number) x) in
      same-slot (binding (binds p) a.number u) a.answer ∙ binding-slot (binds p) a.number u ∙ one-more x.slot
  does-slot line (acts.Guard f p) e =
      let a = asked-object fit f p x _ y e in
      same-slot (binding (binds p) a.number (after_seeing x)) a.answer
      ∙ binding-slot (binds p) a.number (after_seeing x) ∙ one-more x.slot

-- ---- several of them

pub option-length : (o : Option SlotTree) (xs : List SlotTree) → length (cons_option o xs) ≡ slot_count o + length xs
option-length None xs = omega arith
option-length (Some s) xs = omega arith

pub all-slots : (fit : ℤ → Bool) (fs : List Field) (ss : List StepTree) (x y : Exchanging)
    → does_all fit fs ss x ≡ Ok y → y.slot ≡ x.slot + length (filter_map (statement_slot fs) ss)
all-slots fit fs [] x y e = ap (λ (w : Exchanging). w.slot) (sym (ok_is x y e)) ∙ no-more x.slot
all-slots fit fs (s ∷ ss) x y e =
    let a = bind-ok (does fit fs s x) (does_all fit fs ss) y e in
    let one = does-slot fit fs x a.0 s.line s.act a.1 in
    let rest = all-slots fit fs ss a.0 y a.2 in
    let long = option-length (statement_slot fs s) (filter_map (statement_slot fs) ss) in
    omega (arith, one, rest, long)

used-slot : (role : Role) (f : ℕ) (x y : Exchanging) → use_variable f role x ≡ Ok y → y.slot ≡ suc x.slot
used-slot Given f x y e = ap (λ (w : Exchanging). w.slot) (sym (ok_is _ y e))
used-slot role f x y e =
    let a = bind-ok (named x) _ y e in
    let b = unless-ok (Differs x.slot) (is_at_place f (pos 0) a.0) _ y a.2 in
    ap (λ (w : Exchanging). w.slot) (sym (ok_is _ y b.1))

pub next-slot : (s : SlotTree) (x y : Exchanging) → use_variable s.field s.role x ≡ Ok y → y.slot ≡ suc x.slot
next-slot s x y e = used-slot s.role s.field x y e

pub variables-slots : (slots : List SlotTree) (x y : Exchanging) → use_variables slots x ≡ Ok y
    → y.slot ≡ x.slot + length slots
variables-slots [] x y e = ap (λ (w : Exchanging). w.slot) (sym (ok_is x y e)) ∙ no-more x.slot
variables-slots (s ∷ ss) x y e =
    let a = bind-ok (use_variable s.field s.role x) (use_variables ss) y e in
    let one = next-slot s x a.0 a.1 in
    let rest = variables-slots ss a.0 y a.2 in
    omega (arith, one, rest)

-- ---- the slot with a number

pub slot-front : (xs ys : List SlotTree) (k : ℕ) (s : SlotTree) → slice_get xs k ≡ Some s
    → slice_get (xs ++ ys) k ≡ Some s
slot-front [] ys k s e = absurd (cc)
slot-front (x ∷ xs) ys zero s e = e
slot-front (x ∷ xs) ys (suc k) s e = slot-front xs ys k s e

slot-seam : (xs : List SlotTree) (s : SlotTree) (ys : List SlotTree) → slice_get (xs ++ s ∷ ys) (length xs) ≡ Some s
slot-seam [] s ys = refl
slot-seam (x ∷ xs) s ys = slot-seam xs s ys

-- the slot of a statement behind others
pub statement-slot-at : (fs : List Field) (variables : List SlotTree) (front : List StepTree) (b : StepTree) (back : List StepTree) (s : SlotTree) → statement_slot fs b ≡ Some s
    → slice_get (variables ++ filter_map (statement_slot fs) (front ++ b ∷ back)) (length (variables ++ filter_map (statement_slot fs) front)) ≡ Some s
statement-slot-at fs variables front b back s e =
    let later = filter_map (statement_slot fs) back in
    let before = filter_map (statement_slot fs) front in
    let all : variables ++ filter_map (statement_slot fs) (front ++ b ∷ back) ≡ (variables ++ before) ++ s ∷ later =
    ap (λ (ys : List SlotTree). variables ++ ys)
    (filter_map-append (statement_slot fs) front (b ∷ back) ∙ ap (λ (o : Option SlotTree). before ++ cons_option o later) e)
    ∙ sym (append_assoc variables before (s ∷ later)) in
    ap (λ (ys : List SlotTree). slice_get ys (length (variables ++ before))) all
    ∙ slot-seam (variables ++ before) s later

-- what stands in a filtered list comes of an element
option-at : {A B : Type 0} (h : A → Option B) (x : A) (rest : List B) (k : ℕ) (y : B) (o : Option B) (P : Type 0)
    → h x ≡ o → slice_get (cons_option o rest) k ≡ Some y
    → (h x ≡ Some y → P) → ((j : ℕ) → slice_get rest j ≡ Some y → P) → P
option-at h x rest k y None P is e here later = later k e
option-at h x rest zero y (Some z) P is e here later = here (is ∙ e)
option-at h x rest (suc k) y (Some z) P is e here later = later k e

pub from-filtered : {A B : Type 0} (h : A → Option B) (xs : List A) (k : ℕ) (y : B)
    → slice_get (filter_map h xs) k ≡ Some y → (x : A) × (h x ≡ Some y)
from-filtered h [] k y e = absurd (cc)
from-filtered h (x ∷ xs) k y e =
    option-at h x (filter_map h xs) k y (h x) ((z : _) × (h z ≡ Some y)) refl e (λ is. (x, is))
    (λ j later. from-filtered h xs j y later)
