-- A property leaves what is kept, and what it guards is stored.
use Rattle.std.proofs.Common.{◌≡◌, ℕ, ◌+◌, ◌≤◌, ℤ, pos, Bool, true, false, ◌&&◌, List, [], ◌∷◌, ◌++◌, length, map, Option, Some, None, is_none, Ok, refl, sym, ap, subst, ◌∙◌, arith, if◌then◌else◌, nat_eq}
use Rattle.std.specs.List.{AllByRecursion, cons_option, range_with_len}
use Rattle.std.specs.Ordering.{int_eq}
use Rattle.std.specs.Cmp.{int_eq_equiv}
use Rattle.sync_terms.specs.Trees.{Name}
use Rattle.sync_terms.specs.Values.{Valuation}
use Rattle.sync_machine.specs.declared.fields.Field.{Field}
use Rattle.sync_base.specs.declared.strategies.OpMode.TheVariants as mode
use Rattle.sync_machine.specs.Machines.{ActTree, StepTree, OperationTree}
use Rattle.sync_machine.specs.Machines as acts
use Rattle.sync_machine.specs.Statements.{binds, changed_by}
use Rattle.sync_machine.specs.States.{IsInit}
use Rattle.sync_rules.specs.declared.slots.Role.{Role}
use Rattle.sync_rules.specs.declared.slots.Role.TheVariants.{Given}
use Rattle.sync_rules.specs.Slots.{SlotTree}
use Rattle.sync_join.specs.declared.tokens.Token.{Token}
use Rattle.sync_join.specs.Shards.{Kept}
use Rattle.sync_exchange.specs.declared.hands.XStop.TheVariants.{Differs}
use Rattle.sync_exchange.specs.Exchange.{Exchanging, Exchanged, named, is_at_place, stored_at, binding, after_reading, after_seeing, use_variable, use_variables, variable_slots, beginning}
use Rattle.sync_exchange.proofs.Terms.{and_right}
use Rattle.sync_exchange.proofs.Passing.{unless-ok, ok_is, bind-ok}
use Rattle.sync_exchange.proofs.Rules.{AreRuled, regular}
use Rattle.sync_exchange_laws.specs.Permissions.{is_content, stored_often}
use Rattle.sync_exchange_laws.specs.Conditions.{valuation_at}
use Rattle.sync_exchange_laws.specs.Along.{key_under, value_under, IsThere, left_under, AreThere, all_left}
use Rattle.sync_exchange_laws.specs.Guards.{shown_by, shown, IsShown, PropertiesShowGuards}
use Rattle.sync_exchange_laws.proofs.Cells.{one_if}
use Rattle.sync_exchange_laws.proofs.Ending.{walked-at}
use Rattle.sync_exchange_laws.proofs.Along.{all-along}

-- ---- a stored object is counted

place-cases : (b : Bool) (here later : Option ℤ) (n : ℤ) (P : Type 0) → (if b then here else later) ≡ Some n
    → (b ≡ true → here ≡ Some n → P) → (later ≡ Some n → P) → P
place-cases true here later n P e now behind = now refl e
place-cases false here later n P e now behind = behind e

some-number : (m n : ℤ) → ◌≡◌ {A = Option ℤ} (Some m) (Some n) → m ≡ n
some-number m n e = cc

stored-counted : (f : ℕ) (k n : ℤ) (ts : List Token) → stored_at f k ts ≡ Some n → 1 ≤ stored_often k n ts
unfolding stored_at
stored-counted f k n [] e = absurd (cc)
stored-counted f k n (t ∷ ts) e =
    place-cases (is_at_place f k t) (Some t.value) (stored_at f k ts) n (1 ≤ stored_often k n (t ∷ ts)) e
    (λ is value.
    let content : is_content k n t ≡ true =
    ap (λ b. b && int_eq n t.value) (and_right (nat_eq f t.field) (int_eq k t.key) is)
    ∙ ap (int_eq n) (some-number t.value n value) ∙ int_eq_equiv.refl n in
    subst (λ (b : Bool). 1 ≤ one_if b + stored_often k n ts) (sym content) (omega arith))
    (λ later. let rest = stored-counted f k n ts later in omega (arith, rest))

-- ---- what is kept stays

binding-kept : (o : Option ℕ) (n : ℤ) (x : Exchanging) → (binding o n x).kept ≡ x.kept
binding-kept None n x = refl
binding-kept (Some y) n x = refl

still-kept : (fs : List Field) (v : Valuation) (a : ActTree) (x : Exchanging) → changed_by a ≡ None
    → (left_under fs v a x).kept ≡ x.kept
unfolding changed_by
still-kept fs v (acts.Require form) x e = refl
still-kept fs v (acts.Assert form) x e = refl
still-kept fs v (acts.HaveVariable f) x e = refl
still-kept fs v (acts.Have f p) x e = binding-kept (binds p) (value_under v p) (after_reading x)
still-kept fs v (acts.Guard f p) x e = binding-kept (binds p) (value_under v p) (after_seeing x)
still-kept fs v (acts.Init f t) x e = absurd (cc)
still-kept fs v (acts.Update f t) x e = absurd (cc)
still-kept fs v (acts.Add f p) x e = absurd (cc)
still-kept fs v (acts.Remove f p) x e = absurd (cc)
still-kept fs v (acts.Deposit f p) x e = absurd (cc)
still-kept fs v (acts.Withdraw f p) x e = absurd (cc)

abbrev AreStill : List StepTree → Type 0
AreStill ss = AllByRecursion (λ (s : StepTree). changed_by s.act ≡ None) ss

none-is : (o : Option ℕ) → is_none o ≡ true → o ≡ None
none-is None e = refl
none-is (Some f) e = absurd (cc)

are-still : (fs : List Field) (before ss : List StepTree) → AreRuled fs mode.Property before ss → AreStill ss
are-still fs before [] rules = tt
are-still fs before (s ∷ ss) rules =
    (none-is (changed_by s.act) rules.0.still, are-still fs (before ++ s ∷ []) ss rules.1)

used-kept : (role : Role) (f : ℕ) (x y : Exchanging) → use_variable f role x ≡ Ok y → y.kept ≡ x.kept
used-kept Given f x y e = ap (λ (w : Exchanging). w.kept) (sym (ok_is _ y e))
used-kept role f x y e =
    let a = bind-ok (named x) _ y e in
    let b = unless-ok (Differs x.slot) (is_at_place f (pos 0) a.0) _ y a.2 in
    ap (λ (w : Exchanging). w.kept) (sym (ok_is _ y b.1))

variables-kept : (slots : List SlotTree) (x y : Exchanging) → use_variables slots x ≡ Ok y → y.kept ≡ x.kept
variables-kept [] x y e = ap (λ (w : Exchanging). w.kept) (sym (ok_is x y e))
variables-kept (s ∷ ss) x y e =
    let a = bind-ok (use_variable s.field s.role x) (use_variables ss) y e in
    variables-kept ss a.0 y a.2 ∙ used-kept s.role s.field x a.0 a.1

-- ---- what is shown is stored

one-shown : (v : Valuation) (a : ActTree) (x : Exchanging) (kept : Kept) (ts : List Token) → IsThere v a x
    → x.kept ≡ kept → AllByRecursion (IsShown kept) ts
    → AllByRecursion (IsShown kept) (cons_option (shown_by v a) ts)
one-shown v (acts.Guard f p) x kept ts there is rest =
    let stored : stored_at f (key_under v p) kept.stored ≡ Some (value_under v p) =
    subst (λ (k : Kept). stored_at f (key_under v p) k.stored ≡ Some (value_under v p)) is there in
    (record { there = stored; counted = stored-counted f (key_under v p) (value_under v p) kept.stored stored }, rest)
one-shown v (acts.Init f t) x kept ts there is rest = rest
one-shown v (acts.Require form) x kept ts there is rest = rest
one-shown v (acts.Assert form) x kept ts there is rest = rest
one-shown v (acts.Update f t) x kept ts there is rest = rest
one-shown v (acts.HaveVariable f) x kept ts there is rest = rest
one-shown v (acts.Add f p) x kept ts there is rest = rest
one-shown v (acts.Remove f p) x kept ts there is rest = rest
one-shown v (acts.Have f p) x kept ts there is rest = rest
one-shown v (acts.Deposit f p) x kept ts there is rest = rest
one-shown v (acts.Withdraw f p) x kept ts there is rest = rest

all-shown : (fs : List Field) (v : Valuation) (kept : Kept) (ss : List StepTree) (x : Exchanging) → AreStill ss
    → AreThere fs v ss x → x.kept ≡ kept
    → AllByRecursion (IsShown kept) (shown v ss) × ((all_left fs v ss x).kept ≡ kept)
all-shown fs v kept [] x still there is = (tt, is)
all-shown fs v kept (s ∷ ss) x still there is =
    let rest =
    all-shown fs v kept ss (left_under fs v s.act x) still.1 there.1 (still-kept fs v s.act x still.0 ∙ is) in
    (one-shown v s.act x kept (shown v ss) there.0 is rest.0, rest.1)

pub properties-show-guards : PropertiesShowGuards
properties-show-guards fit m proved o has property args long tokens given hand names others kept sound s joined
    reached whole either x e =
    let other : IsInit o → ⊥ = λ init. absurd (let no : mode.Property ≡ mode.Init = sym property ∙ init in cc) in
    let v = valuation_at m.fields s o args x.bound in
    let w =
    walked-at fit m proved o has other args long tokens given hand names others kept sound s joined reached whole
    either x e in
    let went =
    all-along fit m.fields v others o.steps w.begun w.end (map Name (range_with_len 0 (length m.fields))) w.walk in
    let rules = regular m proved.symbols proved.named proved.strategies o has in
    let still = are-still m.fields [] o.steps (subst (λ k. AreRuled m.fields k [] o.steps) property rules.rules) in
    let begun : w.begun.kept ≡ kept =
    variables-kept (variable_slots m.fields o) (beginning m.fields o args tokens given whole hand kept) w.begun
    w.first in
    let all = all-shown m.fields v kept o.steps w.begun still went.there begun in
    (ap (λ (u : Exchanged). u.kept) w.leaves ∙ ap (λ (u : Exchanging). u.kept) (sym went.leaves) ∙ all.1, all.0)
