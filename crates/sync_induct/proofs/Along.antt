-- Facts along the statements of an operation: what holds behind them, what they leave, and what proved duties give.
use Rattle.std.proofs.Common.{◌≡◌, ℕ, zero, suc, ◌+◌, ◌<◌, Bool, true, false, ◌||◌, List, [], ◌∷◌, ◌++◌, length, get_or, set, Option, Some, None, refl, sym, ap, subst, ◌∙◌, arith, cond, add-zero}
use Rattle.std.specs.List.{AllByRecursion}
use Rattle.std.proofs.lemmas.Bool.{true≢false, false≢true}
use Rattle.std.proofs.lemmas.List.{get_or-set_other, length-set}
use Rattle.sync_base.proofs.Basics.{neither}
use Rattle.sync_terms.specs.Trees.{Tree, Nil, Formula, replaced_in}
use Rattle.sync_terms.specs.Values.{Valuation, HoldsForAll, Hypothesis, IsValid}
use Rattle.sync_machine.specs.declared.fields.Field.{Field}
use Rattle.sync_machine.specs.Machines.{ActTree, Init, Require, Assert, Update, HaveVariable, Add, Remove, Have, Deposit, Withdraw, Guard, StepTree, OperationTree, InvariantTree, MachineTree}
use Rattle.sync_machine.specs.Statements.{safety, condition, after, field_of, changed_by}
use Rattle.sync_machine.specs.States.{State, Value, Number, Mapped, sort_of, value_in, StandsFor, IsAtFrom, strategy_at, strategy_of, current_of, advanced, last_values, IsMet, AreMet, IsKeptSafe, values_in}
use Rattle.sync_machine.specs.Scope.{Known}
use Rattle.sync_induct.proofs.Scoped.{IsConditionIn, AreConditionsIn}
use Rattle.sync_rules.specs.Obligations.{form_names, touches, is_touched, has_to_keep}
use Rattle.sync_kernel_facts.specs.Facts.{Fact}
use Rattle.sync_induct.specs.Duties.{Duty, condition_facts, step_facts, safety_duties, facts_behind, closing, keeps_duties, as_hypotheses, IsProved}
use Rattle.sync_induct.proofs.DutyLists.{step_duties, operation_duties, duties_from, AreProved}
use Rattle.sync_terms.specs.declared.proofs.Claim.TheVariants as claims
use Rattle.sync_induct.proofs.Agreement.{Agree, Agree-part, truth-agree}

-- ---- lists of facts

-- every fact holds, for all numbers as its parameters
abbrev pub FactsHold : Valuation → List Fact → Type 0
FactsHold v [] = Unit {0}
FactsHold v (f ∷ fs) = HoldsForAll f.params v f.form × FactsHold v fs

pub as_givens : (v : Valuation) (facts : List Fact) → FactsHold v facts → AllByRecursion (λ (h : Hypothesis). HoldsForAll h.params v h.form) (as_hypotheses facts)
as_givens v [] h = tt
as_givens v (f ∷ fs) h = (h.0, as_givens v fs h.1)

pub facts-append : (v : Valuation) (xs ys : List Fact) → FactsHold v xs → FactsHold v ys → FactsHold v (xs ++ ys)
facts-append v [] ys h k = k
facts-append v (x ∷ xs) ys h k = (h.0, facts-append v xs ys h.1 k)

pub condition-holds : (v : Valuation) (n : ℕ) (c : Option Formula) → IsMet v c → FactsHold v (condition_facts n c)
condition-holds v n None m = tt
condition-holds v n (Some f) m = (m, tt)

pub all-left : {A : Type 0} (P : A → Type 0) (xs ys : List A) → AllByRecursion P (xs ++ ys) → AllByRecursion P xs
all-left P [] ys h = tt
all-left P (x ∷ xs) ys h = (h.0, all-left P xs ys h.1)

pub all-right : {A : Type 0} (P : A → Type 0) (xs ys : List A) → AllByRecursion P (xs ++ ys) → AllByRecursion P ys
all-right P [] ys h = h
all-right P (x ∷ xs) ys h = all-right P xs ys h.1

-- ---- conditions

pub behind-holds : (fs : List Field) (v : Valuation) (cur : List Tree) (facts : List Fact) (n : ℕ) (ss : List StepTree) → FactsHold v facts → AreMet fs v cur ss → FactsHold v (facts_behind fs cur facts n ss)
unfolding AreMet facts_behind
behind-holds fs v cur facts n [] h m = h
behind-holds fs v cur facts n (s ∷ ss) h m =
    behind-holds fs v (advanced fs cur s.act) (facts ++ step_facts fs cur n s) (suc n) ss
    (facts-append v facts (step_facts fs cur n s) h (condition-holds v n (condition (strategy_of fs s.act) (current_of cur s.act) s.act) m.0)) m.1

duty-met : (v : Valuation) (op n line : ℕ) (facts : List Fact) (c : Option Formula) → AreProved (safety_duties op n line facts c) → FactsHold v facts → IsMet v c
duty-met v op n line facts None p h = tt
duty-met v op n line facts (Some f) p h = p.0 v (as_givens v facts h)

pub steps-safe : (fs : List Field) (v : Valuation) (op : ℕ) (cur : List Tree) (facts : List Fact) (n : ℕ) (ss : List StepTree) → AreProved (step_duties fs op cur facts n ss) → FactsHold v facts → IsKeptSafe fs v cur ss
unfolding step_duties IsKeptSafe
steps-safe fs v op cur facts n [] p h = tt
steps-safe fs v op cur facts n (s ∷ ss) p h =
    let own = safety_duties op n s.line facts (safety (strategy_of fs s.act) (current_of cur s.act) s.act) in
    let others = step_duties fs op (advanced fs cur s.act) (facts ++ step_facts fs cur n s) (suc n) ss in (
      duty-met v op n s.line facts (safety (strategy_of fs s.act) (current_of cur s.act) s.act) (all-left IsProved own others p) h,
      λ met. steps-safe fs v op (advanced fs cur s.act) (facts ++ step_facts fs cur n s) (suc n) ss (all-right IsProved own others p)
          (facts-append v facts (step_facts fs cur n s) h (condition-holds v n (condition (strategy_of fs s.act) (current_of cur s.act) s.act) met)),
    )

-- an invariant that the operation has to keep follows, in its last form
abbrev pub KeepsIt : OperationTree → List Fact → List Tree → InvariantTree → Type 0
KeepsIt o facts last i = has_to_keep o i ≡ true → IsValid (as_hypotheses facts) (replaced_in (closing i.params last) i.form)

choose : (b : Bool) (d : Duty) (rest : List Duty) → AreProved (cond b (d ∷ rest) rest) → (b ≡ true → IsProved d) × AreProved rest
choose true d rest p = (λ _. p.0, p.1)
choose false d rest p = (λ e. absurd (false≢true e), p)

pub keeps-valid : (o : OperationTree) (op : ℕ) (facts : List Fact) (last : List Tree) (j : ℕ) (is : List InvariantTree) → AreProved (keeps_duties o op facts last j is) → AllByRecursion (KeepsIt o facts last) is
unfolding keeps_duties
keeps-valid o op facts last j [] p = tt
keeps-valid o op facts last j (i ∷ is) p =
    let c = choose (has_to_keep o i) (record { obligation = record { op = op; claim = claims.Keeps j; line = o.line }; facts = facts; claim = replaced_in (closing i.params last) i.form }) (keeps_duties o op facts last (suc j) is) p in
    (c.0, keeps-valid o op facts last (suc j) is c.1)

-- the duties of each operation, whatever its number, are proved
abbrev pub IsOperationProved : MachineTree → OperationTree → Type 0
IsOperationProved m o = (k : ℕ) × AreProved (operation_duties m.fields m.invariants k o)

pub operations-proved : (m : MachineTree) (op : ℕ) (os : List OperationTree) → AreProved (duties_from m.fields m.invariants op os) → AllByRecursion (IsOperationProved m) os
unfolding duties_from
operations-proved m op [] p = tt
operations-proved m op (o ∷ os) p =
    let own = operation_duties m.fields m.invariants op o in
    let others = duties_from m.fields m.invariants (suc op) os in
    ((op, all-left IsProved own others p), operations-proved m (suc op) os (all-right IsProved own others p))

-- ---- conditions under a valuation that agrees

is-met-agree : (k : Known) (v w : Valuation) (c : Option Formula) → IsConditionIn k c → Agree k (λ _. true) v w → IsMet v c → IsMet w c
is-met-agree k v w None s a m = tt
is-met-agree k v w (Some f) s a m = sym (truth-agree k v w f s (Agree-part (λ x e. refl) a)) ∙ m

pub met-agree : (fs : List Field) (k : Known) (v w : Valuation) (cur : List Tree) (ss : List StepTree) → AreConditionsIn fs k cur ss → Agree k (λ _. true) v w → AreMet fs v cur ss → AreMet fs w cur ss
unfolding AreMet AreConditionsIn
met-agree fs k v w cur [] s a m = tt
met-agree fs k v w cur (x ∷ ss) s a m =
    (is-met-agree k v w (condition (strategy_of fs x.act) (current_of cur x.act) x.act) s.0 a m.0, met-agree fs k v w (advanced fs cur x.act) ss s.1 a m.1)

-- ---- what statements leave

pub set-own : (ts : List Tree) (f : ℕ) → set ts f (get_or ts f Nil) ≡ ts
set-own [] f = refl
set-own (t ∷ ts) zero = refl
set-own (t ∷ ts) (suc f) = ap (λ (us : List Tree). t ∷ us) (set-own ts f)

pub advanced-length : (fs : List Field) (cur : List Tree) (a : ActTree) → length (advanced fs cur a) ≡ length cur
unfolding field_of
advanced-length fs cur (Init f t) = length-set cur f _
advanced-length fs cur (Update f t) = length-set cur f _
advanced-length fs cur (HaveVariable f) = length-set cur f _
advanced-length fs cur (Add f p) = length-set cur f _
advanced-length fs cur (Remove f p) = length-set cur f _
advanced-length fs cur (Have f p) = length-set cur f _
advanced-length fs cur (Deposit f p) = length-set cur f _
advanced-length fs cur (Withdraw f p) = length-set cur f _
advanced-length fs cur (Guard f p) = length-set cur f _
advanced-length fs cur (Require form) = refl
advanced-length fs cur (Assert form) = refl

pub last-length : (fs : List Field) (cur : List Tree) (ss : List StepTree) → length (last_values fs cur ss) ≡ length cur
unfolding last_values
last-length fs cur [] = refl
last-length fs cur (s ∷ ss) = last-length fs (advanced fs cur s.act) ss ∙ advanced-length fs cur s.act

abbrev pub Spares : ℕ → StepTree → Type 0
Spares x s = changed_by s.act ≡ Some x → ⊥

advanced-spared : (fs : List Field) (cur : List Tree) (a : ActTree) (x : ℕ) → (changed_by a ≡ Some x → ⊥) → get_or (advanced fs cur a) x Nil ≡ get_or cur x Nil
unfolding field_of changed_by after
advanced-spared fs cur (Init f t) x h = get_or-set_other cur f x _ Nil (λ e. h (ap Some (sym e)))
advanced-spared fs cur (Update f t) x h = get_or-set_other cur f x _ Nil (λ e. h (ap Some (sym e)))
advanced-spared fs cur (Add f p) x h = get_or-set_other cur f x _ Nil (λ e. h (ap Some (sym e)))
advanced-spared fs cur (Remove f p) x h = get_or-set_other cur f x _ Nil (λ e. h (ap Some (sym e)))
advanced-spared fs cur (Deposit f p) x h = get_or-set_other cur f x _ Nil (λ e. h (ap Some (sym e)))
advanced-spared fs cur (Withdraw f p) x h = get_or-set_other cur f x _ Nil (λ e. h (ap Some (sym e)))
advanced-spared fs cur (HaveVariable f) x h = ap (λ (ts : List Tree). get_or ts x Nil) (set-own cur f)
advanced-spared fs cur (Have f p) x h = ap (λ (ts : List Tree). get_or ts x Nil) (set-own cur f)
advanced-spared fs cur (Guard f p) x h = ap (λ (ts : List Tree). get_or ts x Nil) (set-own cur f)
advanced-spared fs cur (Require form) x h = refl
advanced-spared fs cur (Assert form) x h = refl

pub last-spared : (fs : List Field) (cur : List Tree) (ss : List StepTree) (x : ℕ) → AllByRecursion (Spares x) ss → get_or (last_values fs cur ss) x Nil ≡ get_or cur x Nil
unfolding last_values
last-spared fs cur [] x h = refl
last-spared fs cur (s ∷ ss) x h = last-spared fs (advanced fs cur s.act) ss x h.1 ∙ advanced-spared fs cur s.act x h.0

pub untouched : (form : Formula) (x : ℕ) (ss : List StepTree) → form_names x form ≡ true → is_touched form ss ≡ false → AllByRecursion (Spares x) ss
untouched form x [] named e = tt
untouched form x (s ∷ ss) named e =
    let parts = neither (touches form (changed_by s.act)) (is_touched form ss) e in
    ((λ c. true≢false (sym named ∙ (sym (ap (touches form) c) ∙ parts.0))), untouched form x ss named parts.1)

pub nothing-changed : (x : ℕ) (ss : List StepTree) → AllByRecursion (λ (s : StepTree). changed_by s.act ≡ None) ss → AllByRecursion (Spares x) ss
nothing-changed x [] h = tt
nothing-changed x (s ∷ ss) h = ((λ c. let e : None ≡ Some x = sym h.0 ∙ c in absurd cc), nothing-changed x ss h.1)

-- ---- states

stands-agree : (v w : Valuation) (x : ℕ) (y : Value) → v.number x ≡ w.number x → v.mapping x ≡ w.mapping x → StandsFor v x y → StandsFor w x y
stands-agree v w x (Number n) p q h = sym p ∙ h
stands-agree v w x (Mapped m) p q h = sym q ∙ h

pub isat-agree : (n : ℕ) (s : State) (v w : Valuation) → ((x : ℕ) → x < n + length s → (v.number x ≡ w.number x) × (v.mapping x ≡ w.mapping x)) → IsAtFrom n s v → IsAtFrom n s w
isat-agree n [] v w same h = tt
isat-agree n (y ∷ ys) v w same h =
    let here = same n (omega arith) in
    (stands-agree v w n y here.0 here.1 h.0, isat-agree (suc n) ys v w (λ x lt. same x (omega arith)) h.1)

pub values-length : (v : Valuation) (fs : List Field) (ts : List Tree) → length ts ≡ length fs → length (values_in v fs ts) ≡ length fs
values-length v [] ts e = refl
values-length v (f ∷ fs) [] e = absurd (omega arith)
values-length v (f ∷ fs) (t ∷ ts) e = ap suc (values-length v fs ts (omega arith))

pub values-at : (v w : Valuation) (fs : List Field) (ts : List Tree) (n x : ℕ) → x < length fs → length ts ≡ length fs → IsAtFrom n (values_in v fs ts) w → StandsFor w (n + x) (value_in v (sort_of (strategy_at fs x)) (get_or ts x Nil))
values-at v w [] ts n x lt e h = absurd (omega arith)
values-at v w (f ∷ fs) [] n x lt e h = absurd (omega arith)
values-at v w (f ∷ fs) (t ∷ ts) n zero lt e h = subst (λ (k : ℕ). StandsFor w k (value_in v (sort_of f.strategy) t)) (sym (add-zero n)) h.0
values-at v w (f ∷ fs) (t ∷ ts) n (suc x) lt e h =
    let moved : suc n + x ≡ n + suc x = omega arith in
    subst (λ (k : ℕ). StandsFor w k (value_in v (sort_of (strategy_at fs x)) (get_or ts x Nil))) moved (values-at v w fs ts (suc n) x (omega arith) (omega arith) h.1)
