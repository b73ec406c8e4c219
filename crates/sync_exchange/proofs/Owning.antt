-- Names at the start of an exchange: each stands once, and there are as many new ones as slots want.
use Rattle.std.proofs.Common.{◌≡◌, ℕ, zero, suc, ◌+◌, ◌<◌, ◌≤◌, Bool, true, false, List, [], ◌∷◌, ◌++◌, length, filter_map, count_by, Option, Some, None, inl, inr, ◌⊎◌, refl, sym, ap, ◌∙◌, arith, cond, if◌then◌else◌, nat_eq}
use Rattle.std.specs.List.{AllByRecursion, IsDistinct, cons_option, range_with_len}
use Rattle.std.specs.Prelude.{Contains}
use Rattle.std.proofs.lemmas.Bool.{eqb-true, cases_lt}
use Rattle.std.proofs.lemmas.List.Sums.{sum_by-append, sum_by-cons}
use Rattle.sync_machine.specs.declared.fields.Field.{Field}
use Rattle.sync_machine.specs.Machines.{ActTree, StepTree, OperationTree}
use Rattle.sync_machine.specs.Machines as acts
use Rattle.sync_machine.specs.States.{strategy_at}
use Rattle.sync_join.proofs.Through.{append-nothing}
use Rattle.sync_rules.specs.declared.slots.Role.TheVariants.{Given}
use Rattle.sync_rules.specs.Slots.{SlotTree, only_if, value_slot, has_amounts, act_slot, statement_slot, field_slot}
use Rattle.sync_exchange.specs.declared.hands.Held.{Held}
use Rattle.sync_exchange.specs.Projection.{names_new, AreNames}
use Rattle.sync_exchange.proofs.Tokens.{occurs, names_in, holds}
use Rattle.sync_exchange.proofs.Lawful.{gives}
use Rattle.sync_exchange.proofs.Going.{total_gives}

apart-occurs : (x z : ℕ) (ys : List ℕ) → AllByRecursion (λ (y : ℕ). nat_eq x y ≡ false) ys → z ≡ x → occurs z ys ≡ 0
unfolding occurs
apart-occurs x z [] h is = refl
apart-occurs x z (y ∷ ys) h is =
    let other : nat_eq z y ≡ false = ap (λ n. nat_eq n y) is ∙ h.0 in
    let rest = apart-occurs x z ys h.1 is in cases (nat_eq z y) other rest where
      cases : (b : Bool) → b ≡ false → occurs z ys ≡ 0 → (if b then 1 else 0) + occurs z ys ≡ 0
      cases true e r = absurd (cc)
      cases false e r = omega (arith, r)

pub distinct-occurs : (z : ℕ) (ys : List ℕ) → IsDistinct nat_eq ys → occurs z ys ≤ 1
unfolding occurs IsDistinct
distinct-occurs z [] h = omega arith
distinct-occurs z (y ∷ ys) h = cases (nat_eq z y) refl (distinct-occurs z ys h.1) where
  cases : (b : Bool) → nat_eq z y ≡ b → occurs z ys ≤ 1 → (if b then 1 else 0) + occurs z ys ≤ 1
  cases true e r = let none = apart-occurs y z ys h.0 (eqb-true z y e) in omega (arith, none)
  cases false e r = omega (arith, r)

pub occurs-contains : (z : ℕ) (ys : List ℕ) → 1 ≤ occurs z ys → Contains ys z
unfolding occurs
occurs-contains z [] h = absurd (omega arith)
occurs-contains z (y ∷ ys) h = cases (nat_eq z y) refl h (occurs-contains z ys) where
  cases : (b : Bool) → nat_eq z y ≡ b → 1 ≤ (if b then 1 else 0) + occurs z ys → (1 ≤ occurs z ys → Contains ys z) → Contains (y ∷ ys) z
  cases true e k later = (zero, omega arith, sym (eqb-true z y e))
  cases false e k later = let (i, lt, is) = later (omega (arith, k)) in (suc i, omega (arith, lt), is)

pub names-once : (fs : List Field) (o : OperationTree) (tokens given : List ℕ) (hand : List Held) → AreNames fs o tokens given hand → (name : ℕ) → holds name (hand ++ []) + occurs name given ≤ 1
names-once fs o tokens given hand names name =
    let a : holds name (hand ++ []) ≡ holds name hand = ap (λ hs. holds name hs) (append-nothing hand) in
    let b = distinct-occurs name (names_in hand) names.held_apart in
    let c = distinct-occurs name given names.given_apart in
    cases a b c (cases_lt 0 (holds name hand)) (cases_lt 0 (occurs name given)) where
      cases : holds name (hand ++ []) ≡ holds name hand → holds name hand ≤ 1 → occurs name given ≤ 1 → (0 < holds name hand) ⊎ (holds name hand ≤ 0) → (0 < occurs name given) ⊎ (occurs name given ≤ 0)
          → holds name (hand ++ []) + occurs name given ≤ 1
      cases a b c (inl p) (inl q) = absurd (names.given_new name (occurs-contains name given (omega (arith, q))) (occurs-contains name (names_in hand) (omega (arith, p))))
      cases a b c (inl p) (inr q) = omega (arith, a, b, c, p, q)
      cases a b c (inr p) q = omega (arith, a, b, c, p)

-- ---- how many new names

abbrev pub new_slots : List SlotTree → ℕ
new_slots sls = count_by (λ (s : SlotTree). names_new s.role) sls

unfoldable pub slot_gives : Option SlotTree → ℕ
slot_gives None = 0
slot_gives (Some sl) = cond (names_new sl.role) 1 0

pub option-slots : (o : Option SlotTree) (sls : List SlotTree) → new_slots (cons_option o sls) ≡ slot_gives o + new_slots sls
unfolding slot_gives
option-slots None sls = omega arith
option-slots (Some sl) sls = sum_by-cons (λ (s : SlotTree). cond (names_new s.role) 1 0) sl sls

amounts-give : (b : Bool) (sl : SlotTree) → sl.role ≡ Given → slot_gives (only_if b sl) ≡ (if b then 1 else 0)
unfolding slot_gives
amounts-give true sl e = ap (λ r. cond (names_new r) 1 0) e
amounts-give false sl e = refl

act-gives : (fs : List Field) (a : ActTree) (line : ℕ) → slot_gives (act_slot fs a line) ≡ gives fs a
unfolding act_slot gives slot_gives
act-gives fs (acts.Init f t) line = amounts-give (has_amounts (strategy_at fs f)) (value_slot Given f t line) refl
act-gives fs (acts.Require form) line = refl
act-gives fs (acts.Assert form) line = refl
act-gives fs (acts.Update f t) line = refl
act-gives fs (acts.HaveVariable f) line = refl
act-gives fs (acts.Add f p) line = refl
act-gives fs (acts.Remove f p) line = refl
act-gives fs (acts.Have f p) line = refl
act-gives fs (acts.Deposit f p) line = refl
act-gives fs (acts.Withdraw f p) line = refl
act-gives fs (acts.Guard f p) line = refl

pub statements-give : (fs : List Field) (ss : List StepTree) → new_slots (filter_map (statement_slot fs) ss) ≡ total_gives fs ss
unfolding total_gives
statements-give fs [] = refl
statements-give fs (s ∷ ss) =
    let a = option-slots (statement_slot fs s) (filter_map (statement_slot fs) ss) in
    let b = act-gives fs s.act s.line in
    let c = statements-give fs ss in a ∙ ap (λ n. n + new_slots (filter_map (statement_slot fs) ss)) b ∙ ap (λ n. gives fs s.act + n) c

pub names-enough : (fs : List Field) (o : OperationTree) (tokens given : List ℕ) (hand : List Held) → AreNames fs o tokens given hand
    → length given ≡ new_slots (filter_map (field_slot fs o.steps) (range_with_len 0 (length fs))) + total_gives fs o.steps
names-enough fs o tokens given hand names =
    names.enough_given ∙ sum_by-append (λ (s : SlotTree). cond (names_new s.role) 1 0) (filter_map (field_slot fs o.steps) (range_with_len 0 (length fs))) (filter_map (statement_slot fs) o.steps)
    ∙ ap (λ n. new_slots (filter_map (field_slot fs o.steps) (range_with_len 0 (length fs))) + n) (statements-give fs o.steps)
