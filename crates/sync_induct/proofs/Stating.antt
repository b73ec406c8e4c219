-- One statement of an operation: its checks one after another, and the walk behind it.
use Rattle.std.proofs.Common.{◌≡◌, ℕ, zero, suc, ◌<◌, ◌≤◌, List, [], ◌∷◌, ◌++◌, map, Option, Some, None, Result, Ok, Err, refl, sym, ap, subst, ◌∙◌, arith}
use Rattle.std.specs.Prelude.{OnOk, slice_get, slice_index_or}
use Rattle.std.specs.List.{AllByRecursion}
use Rattle.std.specs.Option.{IfSome}
use Rattle.std.proofs.lemmas.Bool.{lt-ltb, le-ltb}
use Rattle.std.proofs.lemmas.List.{append-nil}
use Rattle.sync_base.specs.declared.stops.Refusal.{Refusal}
use Rattle.sync_base.specs.declared.stops.Rule.TheVariants.{K8}
use Rattle.sync_base.specs.declared.stops.Stop.{Stop}
use Rattle.sync_base.specs.Outcome.{first, Passes}
use Rattle.sync_terms.specs.Trees.{most_nodes}
use Rattle.sync_terms.specs.declared.store.TermStop.{TermStop}
use Rattle.sync_terms.specs.declared.store.TermStop.TheVariants.{TooLarge}
use Rattle.sync_terms.specs.Trees.{Tree, Nil, Formula, tree_size, formula_size}
use Rattle.sync_terms.specs.declared.nodes.TermId.{TermId}
use Rattle.sync_terms.specs.declared.nodes.FormId.{FormId}
use Rattle.sync_terms.specs.Stored.{Stored, tree, formula, IsTerm, IsForm, Extends}
use Rattle.sync_machine.specs.declared.fields.Field.{Field}
use Rattle.sync_base.specs.declared.strategies.Strategy.{Strategy}
use Rattle.sync_machine.specs.declared.machine.Step.{Step}
use Rattle.sync_machine.specs.Machines.{ActTree, StepTree, Init, Require, Assert, Update, HaveVariable, Add, Remove, Have, Deposit, Withdraw, Guard}
use Rattle.sync_machine.specs.Statements.{safety, condition, after, field_of}
use Rattle.sync_machine.specs.States.{strategy_of, current_of, advanced}
use Rattle.sync_machine.specs.Views.{act_tree, step_tree}
use Rattle.sync_terms.specs.Building.{StopsBuilding}
use Rattle.sync_induct_acts.specs.Conditions.{HasCondition, condition_size}
use Rattle.sync_terms.specs.declared.proofs.Claim.TheVariants as claims
use Rattle.sync_terms.specs.declared.proofs.Obligation.{Obligation}
use Rattle.sync_induct.specs.declared.statements.Statement.{Statement}
use Rattle.sync_induct.specs.declared.walks.Walk.{Walk}
use Rattle.sync_induct.specs.Duties.{Duty, safety_duties, condition_facts, IsProved}
use Rattle.sync_induct.specs.Checklist.{Check, Proves, Fits, proves, AreShown}
use Rattle.sync_induct.specs.Checks.{duty_of, duty_fault, size_fault, check_fault, checks_fault}
use Rattle.sync_terms.specs.Proofs.{ProofTree}
use Rattle.sync_induct.specs.Walks.{IsWalk, HasCome, IsStatement, values_of, known_of, safety_at, condition_at, value_at, owed, tree_or_nil, values_with, checks_at, facts_after, values_after}
use Rattle.sync_induct_acts.proofs.Lasting.{act-ids}
use Rattle.sync_induct.proofs.Lasting.{step-stays, known-stays, values-stay, as-come}
use Rattle.sync_induct.proofs.Remaining.{Remains, remains-whole, remains-past, remains-refused, remains-past_one, remains-refused_one}

on-ok : {A E : Type 0} (r : Result A E) (P Q : Type 0) → (P → Q) → OnOk r P → OnOk r Q
on-ok (Ok x) P Q f h = f h
on-ok (Err e) P Q f h = tt

-- what holds holds on Ok
any-way : {A E : Type 0} (r : Result A E) (P : Type 0) → P → OnOk r P
any-way (Ok x) P h = h
any-way (Err e) P h = tt

-- ---- sizes

pub size-fits : (line nodes : ℕ) → nodes ≤ most_nodes → size_fault line nodes ≡ None
size-fits line nodes le = rw (le-ltb most_nodes nodes le) refl

pub size-large : (line nodes : ℕ) → most_nodes < nodes → size_fault line nodes ≡ Some (record { line = line; rule = K8 })
size-large line nodes lt = rw (lt-ltb most_nodes nodes lt) refl

first-none : (x : Option Refusal) → first x None ≡ x
first-none (Some r) = refl
first-none None = refl

one-fault : (ps : List ProofTree) (c : Check) → checks_fault ps (c ∷ []) ≡ check_fault ps c
unfolding checks_fault
one-fault ps c = first-none (check_fault ps c)

-- ---- conditions that were built

-- the same of an answer by another name
pub answer-is : (s : Stored) (o : Option Formula) (x y : Option FormId) → x ≡ y → HasCondition s o x → HasCondition s o y
answer-is s o x y e h = subst (λ (z : Option FormId). HasCondition s o z) e h

pub stop-is : (size : ℕ) (x : TermStop) → x ≡ TooLarge → StopsBuilding size x → most_nodes < size
stop-is size x e h = subst (λ (y : TermStop). StopsBuilding size y) e h

pub built-some : (s : Stored) (o : Option Formula) (id : FormId) → HasCondition s o (Some id) → IsForm s id × (o ≡ Some (formula s id))
built-some s (Some f) id h = (h.stored, ap Some (sym h.value))
built-some s None id h = absurd h

pub built-none : (s : Stored) (o : Option Formula) → HasCondition s o None → o ≡ None
built-none s (Some f) h = absurd h
built-none s None h = refl

large-some : (o : Option Formula) → most_nodes < condition_size o → (f : Formula) × (o ≡ Some f) × (most_nodes < formula_size f)
large-some (Some f) lt = (f, refl, lt)
large-some None lt = absurd (omega arith)

-- ---- the safety condition

abbrev pub obligation_of : Statement → Obligation
obligation_of a = record { op = a.op; claim = claims.At a.number; line = a.step.line }

abbrev pub duty_at : Stored → Walk → Statement → Formula → Duty
duty_at s w a form = record { obligation = obligation_of a; facts = known_of s w; claim = form }

abbrev owed_for : Stored → Walk → Statement → Option Formula → List Check
owed_for s w a o = proves (safety_duties a.op a.number a.step.line (known_of s w) o)

owed-one : (s : Stored) (w : Walk) (a : Statement) (f : Formula) → safety_at s a ≡ Some f → owed s w a ≡ Proves (duty_at s w a f) ∷ []
owed-one s w a f e = ap (owed_for s w a) e

pub owed-nothing : (s : Stored) (w : Walk) (a : Statement) (ps : List ProofTree) → safety_at s a ≡ None → checks_fault ps (owed s w a) ≡ None
unfolding checks_fault
owed-nothing s w a ps e = ap (λ (o : Option Formula). checks_fault ps (owed_for s w a o)) e

pub shown-nothing : (s : Stored) (w : Walk) (a : Statement) → safety_at s a ≡ None → AreShown (owed s w a)
shown-nothing s w a e = subst (λ (o : Option Formula). AreShown (owed_for s w a o)) (sym e) tt

module _ (s t : Stored) (e : Extends s t) (w : Walk) (walk : IsWalk s w) (a : Statement) (claim : FormId) (built : HasCondition t (safety_at s a) (Some claim)) where
  owed-is : owed s w a ≡ Proves (duty_of t w.hyps claim (obligation_of a)) ∷ []
  owed-is =
      let facts = sym (known-stays s t e w walk) in
      owed-one s w a (formula t claim) (built-some t (safety_at s a) claim built).1
      ∙ (λ j. Proves (record { obligation = obligation_of a; facts = facts j; claim = formula t claim }) ∷ [])

  pub passes-owed : {A : Type 0} (r : Result A Stop) (ps : List ProofTree) → Passes r (duty_fault ps (duty_of t w.hyps claim (obligation_of a))) → Passes r (checks_fault ps (owed s w a))
  passes-owed r ps h =
      subst (λ (x : Option Refusal). Passes r x) (sym (ap (checks_fault ps) owed-is ∙ one-fault ps (Proves (duty_of t w.hyps claim (obligation_of a))))) h

  pub shown-owed : {A : Type 0} (r : Result A Stop) → OnOk r (IsProved (duty_of t w.hyps claim (obligation_of a))) → OnOk r (AreShown (owed s w a))
  shown-owed r h = on-ok r (IsProved (duty_of t w.hyps claim (obligation_of a))) (AreShown (owed s w a)) (λ p. subst (λ (cs : List Check). AreShown cs) (sym owed-is) (p, tt)) h

-- a safety condition that is too large
pub large-owed : (s : Stored) (w : Walk) (a : Statement) (ps : List ProofTree) (A : Type 0) (stop : Stop) → most_nodes < condition_size (safety_at s a)
    → ((d : Duty) → d.obligation ≡ obligation_of a → most_nodes < formula_size d.claim → Passes {A = A} (Err stop) (duty_fault ps d)) → Passes {A = A} (Err stop) (checks_fault ps (owed s w a))
large-owed s w a ps A stop lt refuses =
    let some = large-some (safety_at s a) lt in
    subst (λ (x : Option Refusal). Passes {A = A} (Err stop) x) (sym (ap (checks_fault ps) (owed-one s w a some.0 some.1) ∙ one-fault ps (Proves (duty_at s w a some.0))))
    (refuses (duty_at s w a some.0) refl some.2)

-- ---- what is known behind it

module _ (s t : Stored) (e : Extends s t) (w v : Walk) (walk : IsWalk s w) (a : Statement) where
  pub learned-some : (form : FormId) → HasCondition t (condition_at s a) (Some form) → HasCome t v (known_of t w ++ condition_facts a.number (Some (formula t form))) (values_of t w)
      → HasCome t v (known_of s w ++ condition_facts a.number (condition_at s a)) (values_of s w)
  learned-some form built c =
      let known = known-stays s t e w walk in
      let some = sym (built-some t (condition_at s a) form built).1 in
      as-come t v _ _ _ _ c (λ j. known j ++ condition_facts a.number (some j)) (values-stay s t e w walk)

  pub learned-none : HasCondition t (condition_at s a) None → IsWalk t w → HasCome t w (known_of s w ++ condition_facts a.number (condition_at s a)) (values_of s w)
  learned-none built still =
      let none = sym (built-none t (condition_at s a) built) in
      record {
        walk = still;
        known = known-stays s t e w walk ∙ (sym (append-nil (known_of s w)) ∙ (λ j. known_of s w ++ condition_facts a.number (none j)));
        now = values-stay s t e w walk;
      }

  -- what it leaves
  pub left-behind : (f : Option ℕ) (id : TermId) → f ≡ field_of (act_tree s a.step.act) → tree t id ≡ value_at s a → HasCome t v (known_of t w) (values_with f (tree t id) (values_of t w))
      → HasCome t v (known_of s w) (values_with (field_of (act_tree s a.step.act)) (value_at s a) (values_of s w))
  left-behind f id field value c =
      let now = values-stay s t e w walk in
      as-come t v _ _ _ _ c (known-stays s t e w walk) (λ j. values_with (field j) (value j) (now j))

-- ---- a statement as the code holds it

pub statement-stays : (s t : Stored) (e : Extends s t) (fs : List Field) (op n : ℕ) (cur : List Tree) (x : StepTree) (a : Statement) → IsStatement s fs op n cur x a → IsStatement t fs op n cur x a
statement-stays s t e fs op n cur x a h = record {
  owner = h.owner;
  number = h.number;
  ids = act-ids s t e a.step.act h.ids;
  is = step-stays s t e a.step h.ids ∙ h.is;
  strategy = h.strategy;
  stored = (e.terms a.current h.stored).0;
  value = (e.terms a.current h.stored).1 ∙ h.value;
}

module _ (s : Stored) (fs : List Field) (op n : ℕ) (cur : List Tree) (x : StepTree) (a : Statement) (h : IsStatement s fs op n cur x a) where
  pub safety-is : safety_at s a ≡ safety (strategy_of fs x.act) (current_of cur x.act) x.act
  safety-is = let k = h.strategy in let v = h.value in let y = h.is in λ j. safety (k j) (v j) (y j).act

  pub condition-is : condition_at s a ≡ condition (strategy_of fs x.act) (current_of cur x.act) x.act
  condition-is = let k = h.strategy in let v = h.value in let y = h.is in λ j. condition (k j) (v j) (y j).act

  pub value-is : value_at s a ≡ after (strategy_of fs x.act) (current_of cur x.act) x.act
  value-is = let k = h.strategy in let v = h.value in let y = h.is in λ j. after (k j) (v j) (y j).act

advances : (fs : List Field) (cur : List Tree) (a : ActTree) → values_with (field_of a) (after (strategy_of fs a) (current_of cur a) a) cur ≡ advanced fs cur a
unfolding field_of
advances fs cur (Init f t) = refl
advances fs cur (Update f t) = refl
advances fs cur (HaveVariable f) = refl
advances fs cur (Add f p) = refl
advances fs cur (Remove f p) = refl
advances fs cur (Have f p) = refl
advances fs cur (Deposit f p) = refl
advances fs cur (Withdraw f p) = refl
advances fs cur (Guard f p) = refl
advances fs cur (Require form) = refl
advances fs cur (Assert form) = refl

-- ---- past a statement: the store grows from s to t by its field's value, from t to u by its safety condition, and from u to v by what is known behind it

module _ (s t : Stored) (e : Extends s t) (w : Walk) (walk : IsWalk s w) (fs : List Field) (op n : ℕ) (x : Step) (a : Statement) (is : IsStatement t fs op n (values_of s w) (step_tree s x) a) (ps : List ProofTree) where
  abbrev act : ActTree
  act = act_tree s x.act

  abbrev field_kind : Strategy
  field_kind = strategy_of fs act

  abbrev so_far : Tree
  so_far = current_of (values_of s w) act

  abbrev own : List Check
  own = proves (safety_duties op n x.line (known_of s w) (safety field_kind so_far act))

  abbrev known_fits : Check
  known_fits = Fits x.line (condition_size (condition field_kind so_far act))

  abbrev value_fits : Check
  value_fits = Fits x.line (tree_size (after field_kind so_far act))

  abbrev all : List Check
  all = checks_at s fs op n w x

  owed-own : owed t w a ≡ own
  owed-own =
      let owner = is.owner in
      let number = is.number in
      let y = is.is in
      let known = known-stays s t e w walk in
      let form = safety-is t fs op n (values_of s w) (step_tree s x) a is in
      λ j. proves (safety_duties (owner j) (number j) (y j).line (known j) (form j))

  pub safety-refused : (A B : Type 0) (stop : Stop) → Passes {A = A} (Err stop) (checks_fault ps (owed t w a)) → Passes {A = B} (Err stop) (checks_fault ps all)
  safety-refused A B stop h = remains-refused A B stop ps all own (known_fits ∷ value_fits ∷ []) (remains-whole ps all) (subst (λ (cs : List Check). Passes {A = A} (Err stop) (checks_fault ps cs)) owed-own h)

  module _ (none : checks_fault ps (owed t w a) ≡ None) (shown : AreShown (owed t w a)) (u : Stored) (more : Extends t u) where
    sizes_left : Remains ps all (known_fits ∷ value_fits ∷ [])
    sizes_left = remains-past ps all own (known_fits ∷ value_fits ∷ []) (remains-whole ps all)
        (subst (λ (cs : List Check). checks_fault ps cs ≡ None) owed-own none) (subst (λ (cs : List Check). AreShown cs) owed-own shown)

    pub still : IsStatement u fs op n (values_of s w) (step_tree s x) a
    still = statement-stays t u more fs op n (values_of s w) (step_tree s x) a is

    known-size : size_fault a.step.line (condition_size (condition_at u a)) ≡ check_fault ps known_fits
    known-size = let y = is.is in let form = condition-is u fs op n (values_of s w) (step_tree s x) a still in λ j. size_fault (y j).line (condition_size (form j))

    pub known-refused : (A B : Type 0) (stop : Stop) → Passes {A = A} (Err stop) (size_fault a.step.line (condition_size (condition_at u a))) → Passes {A = B} (Err stop) (checks_fault ps all)
    known-refused A B stop h = remains-refused_one A B stop ps all (value_fits ∷ []) known_fits sizes_left (subst (λ (f : Option Refusal). Passes {A = A} (Err stop) f) known-size h)

    module _ (fits : size_fault a.step.line (condition_size (condition_at u a)) ≡ None) (v : Stored) (last : Extends u v) where
      value_left : Remains ps all (value_fits ∷ [])
      value_left = remains-past_one ps all (value_fits ∷ []) known_fits sizes_left (sym known-size ∙ fits) tt

      pub at-last : IsStatement v fs op n (values_of s w) (step_tree s x) a
      at-last = statement-stays u v last fs op n (values_of s w) (step_tree s x) a still

      value-size : size_fault a.step.line (tree_size (value_at v a)) ≡ check_fault ps value_fits
      value-size = let y = is.is in let made = value-is v fs op n (values_of s w) (step_tree s x) a at-last in λ j. size_fault (y j).line (tree_size (made j))

      pub statement-passes : {A : Type 0} (r : Result A Stop) → Passes r (size_fault a.step.line (tree_size (value_at v a))) → Passes r (checks_fault ps all)
      statement-passes r h = subst (λ (f : Option Refusal). Passes r f) (value-size ∙ sym (value_left.fault ∙ one-fault ps value_fits)) h

      pub statement-shown : {A : Type 0} (r : Result A Stop) → OnOk r (AreShown all)
      statement-shown r = any-way r (AreShown all) (value_left.shown (tt, tt))

      -- the walk w1 behind the safety condition, w2 behind what is known, w3 behind the value
      pub statement-comes : {A : Type 0} (r : Result A Stop) (w1 w2 w3 : Walk) (z : Stored) → HasCome u w1 (known_of t w) (values_of t w)
          → HasCome v w2 (known_of u w1 ++ condition_facts a.number (condition_at u a)) (values_of u w1)
          → OnOk r (HasCome z w3 (known_of v w2) (values_with (field_of (act_tree v a.step.act)) (value_at v a) (values_of v w2))) → OnOk r (HasCome z w3 (facts_after s fs n w x) (values_after s fs w x))
      statement-comes r w1 w2 w3 z checked come h =
          let number = is.number in
          let known = checked.known ∙ known-stays s t e w walk in
          let form = condition-is u fs op n (values_of s w) (step_tree s x) a still in
          let facts : known_of v w2 ≡ facts_after s fs n w x = come.known ∙ (λ j. known j ++ condition_facts (number j) (form j)) in
          let now : values_of v w2 ≡ values_of s w = come.now ∙ (checked.now ∙ values-stay s t e w walk) in
          let y = at-last.is in
          let made = value-is v fs op n (values_of s w) (step_tree s x) a at-last in
          on-ok r (HasCome z w3 (known_of v w2) (values_with (field_of (act_tree v a.step.act)) (value_at v a) (values_of v w2))) (HasCome z w3 (facts_after s fs n w x) (values_after s fs w x))
          (λ c. as-come z w3 _ _ _ _ c facts ((λ j. values_with (field_of (y j).act) (made j) (now j)) ∙ advances fs (values_of s w) act)) h

-- ---- a field's value so far

some-same : {A : Type 0} (x y : A) → Some x ≡ Some y → x ≡ y
some-same x y e = cc

pub value-there : (s : Stored) (ids : List TermId) (f : ℕ) (o : Option TermId) → o ≡ slice_get ids f → AllByRecursion (IsTerm s) ids → IfSome o (IsTerm s)
value-there s ids f None e h = tt
value-there s [] f (Some id) e h = absurd (let g : Some id ≡ None = e in cc)
value-there s (y ∷ ys) zero (Some id) e h = let same : y ≡ id = sym (some-same id y e) in subst (IsTerm s) same h.0
value-there s (y ∷ ys) (suc f) (Some id) e h = value-there s ys f (Some id) e h.1

pub value-read : (s : Stored) (ids : List TermId) (f : ℕ) → tree_or_nil s (slice_get ids f) ≡ slice_index_or (map (tree s) ids) f Nil
value-read s [] f = refl
value-read s (y ∷ ys) zero = refl
value-read s (y ∷ ys) (suc f) = value-read s ys f
