-- What the rules of names and of strategies give of an operation's statements.
use Rattle.std.proofs.Common.{◌≡◌, ℕ, ◌+◌, ◌<◌, ◌≤◌, Bool, true, false, ◌&&◌, ◌||◌, List, [], ◌∷◌, ◌++◌, length, length-append, Option, Some, None, refl, subst, arith, nat_lt, nat_le}
use Rattle.std.specs.List.{AllByRecursion}
use Rattle.std.specs.Prelude.{Contains}
use Rattle.std.proofs.lemmas.Bool.{leb-false, le-ltb}
use Rattle.sync_base.specs.declared.stops.Rule.{Rule}
use Rattle.sync_base.specs.declared.stops.Rule.TheVariants.{N1, N2, N5, S1, S2, S3, S4, S5, S6}
use Rattle.sync_terms.specs.Trees.{Tree}
use Rattle.sync_machine.specs.declared.fields.Field.{Field}
use Rattle.sync_base.specs.declared.strategies.Strategy.{Strategy}
use Rattle.sync_base.specs.declared.strategies.OpMode.{OpMode}
use Rattle.sync_machine.specs.Machines.{PatternTree, Bind, Term, PlaceTree, ActTree, StepTree, OperationTree, MachineTree}
use Rattle.sync_machine.specs.Machines as acts
use Rattle.sync_machine.specs.Statements.{field_of, binds, bound_in}
use Rattle.sync_machine.specs.States.{strategy_of, strategy_at, sort_of}
use Rattle.sync_machine.specs.Scope.{knows}
use Rattle.sync_machine.specs.Naming.{broken, at_line, first_fault, bound_by, bound_names, is_in, is_fields, repeated, unknown_field, key_fault, pattern_fault, on_place, on_value, value_fault, number_fault, formula_fault, act_fault, step_fault, start_fault, is_field_name, field_fault, parameter_fault, head_fault, machine_fault, IsTextName, BindsTextName, HasTextNames, AreTextNames}
use Rattle.sync_machine.specs.Naming as naming
use Rattle.sync_machine.proofs.Names.{at_place}
use Rattle.sync_machine.proofs.Checks.{first_both}
use Rattle.sync_rules.specs.declared.kinds.OpKind.{OpKind}
use Rattle.sync_rules.specs.Strategies.{kind_of, HasKind}
use Rattle.sync_rules.specs.Order.{may_stand_in, is_in_order, is_only_update, keeps_still}
use Rattle.sync_rules.specs.Locality.{key_names_only, pattern_names_only, place_names_only, has_local_terms}
use Rattle.sync_rules.specs.Shapes.{fits}
use Rattle.sync_rules.specs.Faults.{has_kind, asks, broken_rule, refused_at, steps_fault, operation_fault, operations_fault, strategy_fault}
use Rattle.sync_exchange.proofs.Terms.{and_left, and_right, and_both, only-both, form-only-both, number-known, formula-known, value-known}
use Rattle.sync_exchange.proofs.Lawful.{reads_only}
use Rattle.sync_exchange.proofs.Going.{is_known_by, AreLawful}

passes : (rule : Rule) (test : Bool) (later : Option Rule) → asks rule test later ≡ None → (test ≡ true) × (later ≡ None)
passes rule true later h = (refl, h)
passes rule false later h = absurd (cc)

not-refused : (line : ℕ) (r : Option Rule) → refused_at line r ≡ None → r ≡ None
not-refused line None h = refl
not-refused line (Some rule) h = absurd (cc)

at_line-none : (line : ℕ) (o : Option Rule) → at_line line o ≡ None → o ≡ None
at_line-none line (Some r) e = absurd (cc)
at_line-none line None e = refl

pub broken-none : (b : Bool) (r : Rule) → broken b r ≡ None → b ≡ false
broken-none true r e = absurd (cc)
broken-none false r e = refl

kind-from : (s : Strategy) (kind : Option OpKind) → has_kind s kind ≡ true → HasKind s kind
kind-from s None h = tt
kind-from s (Some kind) h = h

-- ---- one statement

-- the six rules on strategies
pub record IsRuled (fs : List Field) (m : OpMode) (earlier : List StepTree) (a : ActTree) : Type 0 where
  pub allowed : HasKind (strategy_of fs a) (kind_of a)
  pub stands : may_stand_in m a ≡ true
  pub ordered : is_in_order earlier a ≡ true
  pub once : is_only_update earlier a ≡ true
  pub local : has_local_terms fs m a ≡ true
  pub still : keeps_still m a ≡ true
  pub fit : fits (strategy_of fs a) a ≡ true

pub ruled : (fs : List Field) (m : OpMode) (earlier : List StepTree) (a : ActTree) → broken_rule fs m earlier a ≡ None → IsRuled fs m earlier a
unfolding broken_rule
ruled fs m earlier a h =
    let s1 = passes S1 _ _ h in
    let s2 = passes S2 _ _ s1.1 in
    let s3 = passes S3 _ _ s2.1 in
    let s4 = passes S4 _ _ s3.1 in
    let s5 = passes S5 _ _ s4.1 in
    let s6 = passes S6 _ _ s5.1 in
    record {
      allowed = kind-from (strategy_of fs a) (kind_of a) (and_left _ _ s1.0);
      stands = and_right (has_kind (strategy_of fs a) (kind_of a)) _ s1.0;
      ordered = s2.0;
      once = s3.0;
      local = s4.0;
      still = s5.0;
      fit = s6.0;
    }

-- the rules on names
pub record IsNamedAct (fs : List Field) (names : List ℕ) (a : ActTree) : Type 0 where
  pub inside : (f : ℕ) → field_of a ≡ Some f → f < length fs
  pub reads : reads_only (is_known_by fs names) a ≡ true
  pub unbound : (z : ℕ) → bound_by a ≡ Some z → is_in z names ≡ false

module _ (fs : List Field) (names : List ℕ) where
  field-inside : (f : ℕ) → unknown_field fs f ≡ None → f < length fs
  field-inside f e = leb-false (length fs) f (broken-none (nat_le (length fs) f) N1 e)

  some-field : (f g : ℕ) → unknown_field fs f ≡ None → ◌≡◌ {A = Option ℕ} (Some f) (Some g) → g < length fs
  some-field f g e same = let is : f ≡ g = cc in subst (λ n. n < length fs) is (field-inside f e)

  key-known : (o : Option Tree) → key_fault (knows fs names) o ≡ None → key_names_only (is_known_by fs names) o ≡ true
  key-known None e = refl
  key-known (Some t) e = number-known (knows fs names) t e

  not-in : (z : ℕ) → repeated fs names z ≡ None → is_in z names ≡ false
  not-in z e = right (is_fields fs z) (is_in z names) (broken-none (is_fields fs z || is_in z names) N2 e) where
    right : (a b : Bool) → (a || b) ≡ false → b ≡ false
    right true b e = absurd (cc)
    right false b e = e

  pattern-known : (o : Option PatternTree) → pattern_fault fs names o ≡ None → pattern_names_only (is_known_by fs names) o ≡ true
  pattern-known None e = refl
  pattern-known (Some (Bind z)) e = refl
  pattern-known (Some (Term t)) e = number-known (knows fs names) t e

  pattern-unbound : (o : Option PatternTree) → pattern_fault fs names o ≡ None → (z : ℕ) → bound_in o ≡ Some z → is_in z names ≡ false
  pattern-unbound None e z b = absurd (cc)
  pattern-unbound (Some (Bind y)) e z b = let is : y ≡ z = cc in subst (λ n. is_in n names ≡ false) is (not-in y e)
  pattern-unbound (Some (Term t)) e z b = absurd (cc)

  pub record IsPlaced (f : ℕ) (p : PlaceTree) : Type 0 where
    pub inside : (g : ℕ) → ◌≡◌ {A = Option ℕ} (Some f) (Some g) → g < length fs
    pub reads : place_names_only (is_known_by fs names) p ≡ true
    pub unbound : (z : ℕ) → binds p ≡ Some z → is_in z names ≡ false

  placed : (f : ℕ) (p : PlaceTree) → on_place fs names f p ≡ None → IsPlaced f p
  placed f p e =
      let a = first_both (unknown_field fs f) _ e in
      let b = first_both (key_fault (knows fs names) p.key) _ a.1 in
      record {
        inside = λ g same. some-field f g a.0 same;
        reads = and_both _ _ (key-known p.key b.0) (pattern-known p.value b.1);
        unbound = pattern-unbound p.value b.1;
      }

  pub named-act : (a : ActTree) → act_fault fs names a ≡ None → IsNamedAct fs names a
  unfolding act_fault field_of reads_only bound_by
  named-act (acts.Init f t) e =
      let a = first_both (unknown_field fs f) _ e in
      record { inside = λ g same. some-field f g a.0 same; reads = value-known (knows fs names) (sort_of (strategy_at fs f)) t a.1; unbound = λ z b. absurd (cc) }
  named-act (acts.Update f t) e =
      let a = first_both (unknown_field fs f) _ e in
      record { inside = λ g same. some-field f g a.0 same; reads = value-known (knows fs names) (sort_of (strategy_at fs f)) t a.1; unbound = λ z b. absurd (cc) }
  named-act (acts.Require form) e = record { inside = λ g same. absurd (cc); reads = formula-known (knows fs names) form e; unbound = λ z b. absurd (cc) }
  named-act (acts.Assert form) e = record { inside = λ g same. absurd (cc); reads = refl; unbound = λ z b. absurd (cc) }
  named-act (acts.HaveVariable f) e = record { inside = λ g same. some-field f g e same; reads = refl; unbound = λ z b. absurd (cc) }
  named-act (acts.Add f p) e = let h = placed f p e in record { inside = h.inside; reads = h.reads; unbound = h.unbound }
  named-act (acts.Remove f p) e = let h = placed f p e in record { inside = h.inside; reads = h.reads; unbound = h.unbound }
  named-act (acts.Have f p) e = let h = placed f p e in record { inside = h.inside; reads = h.reads; unbound = h.unbound }
  named-act (acts.Deposit f p) e = let h = placed f p e in record { inside = h.inside; reads = h.reads; unbound = h.unbound }
  named-act (acts.Withdraw f p) e = let h = placed f p e in record { inside = h.inside; reads = h.reads; unbound = h.unbound }
  named-act (acts.Guard f p) e = let h = placed f p e in record { inside = h.inside; reads = h.reads; unbound = h.unbound }

key-both : (p q : ℕ → Bool) (o : Option Tree) → key_names_only p o ≡ true → key_names_only q o ≡ true → key_names_only (λ z. p z && q z) o ≡ true
key-both p q None d e = refl
key-both p q (Some t) d e = only-both p q t d e

pattern-both : (p q : ℕ → Bool) (o : Option PatternTree) → pattern_names_only p o ≡ true → pattern_names_only q o ≡ true → pattern_names_only (λ z. p z && q z) o ≡ true
pattern-both p q None d e = refl
pattern-both p q (Some (Bind z)) d e = refl
pattern-both p q (Some (Term t)) d e = only-both p q t d e

place-both : (p q : ℕ → Bool) (l : PlaceTree) → place_names_only p l ≡ true → place_names_only q l ≡ true → place_names_only (λ z. p z && q z) l ≡ true
place-both p q l d e =
    and_both _ _ (key-both p q l.key (and_left _ _ d) (and_left _ _ e)) (pattern-both p q l.value (and_right (key_names_only p l.key) _ d) (and_right (key_names_only q l.key) _ e))

pub reads-both : (p q : ℕ → Bool) (a : ActTree) → reads_only p a ≡ true → reads_only q a ≡ true → reads_only (λ z. p z && q z) a ≡ true
unfolding reads_only
reads-both p q (acts.Init f t) d e = only-both p q t d e
reads-both p q (acts.Update f t) d e = only-both p q t d e
reads-both p q (acts.Require form) d e = form-only-both p q form d e
reads-both p q (acts.Assert form) d e = refl
reads-both p q (acts.HaveVariable f) d e = refl
reads-both p q (acts.Add f l) d e = place-both p q l d e
reads-both p q (acts.Remove f l) d e = place-both p q l d e
reads-both p q (acts.Have f l) d e = place-both p q l d e
reads-both p q (acts.Deposit f l) d e = place-both p q l d e
reads-both p q (acts.Withdraw f l) d e = place-both p q l d e
reads-both p q (acts.Guard f l) d e = place-both p q l d e

-- ---- all statements

-- a bound name is no field's symbol
text-fresh : (fs : List Field) (names : List ℕ) (z : ℕ) → length fs ≤ 32 → IsTextName z → is_in z names ≡ false → is_known_by fs names z ≡ false
text-fresh fs names z few (n, is, below) h =
    let low : nat_lt z (length fs) ≡ false = le-ltb z (length fs) (omega (arith, is, few)) in
    rw (low, h) refl

text_bound : (o : Option ℕ) (z : ℕ) → BindsTextName o → o ≡ Some z → IsTextName z
text_bound o z h e = subst BindsTextName e h

-- the symbols that all statements read pass a test
abbrev pub AreReading : (ℕ → Bool) → List StepTree → Type 0
AreReading trusted ss = AllByRecursion (λ (s : StepTree). reads_only trusted s.act ≡ true) ss

-- each statement keeps the rules on strategies behind the earlier ones
abbrev pub AreRuled : List Field → OpMode → List StepTree → List StepTree → Type 0
AreRuled fs m before [] = Unit {0}
AreRuled fs m before (s ∷ ss) = IsRuled fs m before s.act × AreRuled fs m (before ++ s ∷ []) ss

pub are-ruled : (fs : List Field) (m : OpMode) (before ss : List StepTree) → steps_fault fs m before ss ≡ None → AreRuled fs m before ss
unfolding steps_fault
are-ruled fs m before [] h = tt
are-ruled fs m before (s ∷ ss) h =
    let p = first_both (refused_at s.line (broken_rule fs m before s.act)) _ h in
    (ruled fs m before s.act (not-refused s.line _ p.0), are-ruled fs m (before ++ s ∷ []) ss p.1)

pub are-lawful : (fs : List Field) (m : OpMode) (trusted : ℕ → Bool) (params : List ℕ) (before ss : List StepTree) → length fs ≤ 32 → AreRuled fs m before ss
    → first_fault (step_fault fs params) before ss ≡ None → AllByRecursion (λ (s : StepTree). BindsTextName (bound_by s.act)) ss → AreReading trusted ss → AreLawful fs trusted params before ss
unfolding first_fault step_fault
are-lawful fs m trusted params before [] few rules e texts reads = tt
are-lawful fs m trusted params before (s ∷ ss) few rules e texts reads =
    let a = first_both (step_fault fs params before s) _ e in
    let b = first_both (broken (nat_le 64 (length before)) N5) _ (at_line-none s.line _ a.0) in
    let n = named-act fs (params ++ bound_names before) s.act b.1 in (
      record {
        allowed = rules.0.allowed;
        fit = rules.0.fit;
        inside = n.inside;
        reads = reads-both trusted (is_known_by fs (params ++ bound_names before)) s.act reads.0 n.reads;
      },
      (λ z bound. text-fresh fs (params ++ bound_names before) z few (text_bound (bound_by s.act) z texts.0 bound) (n.unbound z bound)),
      are-lawful fs m trusted params (before ++ s ∷ []) ss few rules.1 a.1 texts.1 reads.1,
    )

-- ---- an operation of a machine

fields_few : (before fs : List Field) → length before ≤ 32 → first_fault field_fault before fs ≡ None → length before + length fs ≤ 32
unfolding first_fault field_fault
fields_few before [] h e = omega arith
fields_few before (f ∷ fs) h e =
    let a = first_both (field_fault before f) (first_fault field_fault (before ++ f ∷ []) fs) e in
    let b = first_both _ _ (at_line-none f.line _ a.0) in
    let room : length before < 32 = leb-false 32 (length before) (broken-none (nat_le 32 (length before)) N5 b.0) in
    let longer = length-append before (f ∷ []) in
    let later = fields_few (before ++ f ∷ []) fs (omega (arith, longer)) a.1 in
    omega (arith, longer, later)

few-fields : (fs : List Field) → first_fault field_fault [] fs ≡ None → length fs ≤ 32
few-fields fs e = let h = fields_few [] fs (omega arith) e in omega (arith, h)

-- what the rules give of an operation
pub record IsRegular (fs : List Field) (o : OperationTree) : Type 0 where
  pub few : length fs ≤ 32
  pub rules : AreRuled fs o.mode [] o.steps
  pub statements : first_fault (step_fault fs o.params) [] o.steps ≡ None
  pub params : first_fault (parameter_fault fs) [] o.params ≡ None
  pub started : start_fault fs o.mode o.steps ≡ None
  pub texts : HasTextNames o

operations-rules : (fs : List Field) (os : List OperationTree) → operations_fault fs os ≡ None → AllByRecursion (λ (o : OperationTree). operation_fault fs o ≡ None) os
unfolding operations_fault
operations-rules fs [] h = tt
operations-rules fs (o ∷ os) h = let p = first_both (operation_fault fs o) _ h in (p.0, operations-rules fs os p.1)

abbrev IsNamedBehind : List Field → OperationTree → Type 0
IsNamedBehind fs o = (earlier : List OperationTree) × (naming.operation_fault fs earlier o ≡ None)

operations-names : (fs : List Field) (before os : List OperationTree) → first_fault (naming.operation_fault fs) before os ≡ None → AllByRecursion (IsNamedBehind fs) os
unfolding first_fault
operations-names fs before [] h = tt
operations-names fs before (o ∷ os) h = let p = first_both (naming.operation_fault fs before o) _ h in ((before, p.0), operations-names fs (before ++ o ∷ []) os p.1)

of-one : (P : OperationTree → Type 0) (os : List OperationTree) (o : OperationTree) → Contains os o → AllByRecursion P os → P o
of-one P os o (k, lt, is) h = subst P is (at_place P os k o h lt)

pub regular : (m : MachineTree) → AreTextNames m → machine_fault m ≡ None → strategy_fault m ≡ None → (o : OperationTree) → Contains m.ops o → IsRegular m.fields o
unfolding machine_fault naming.operation_fault head_fault
regular m texts named strategies o has =
    let a = first_both (first_fault field_fault [] m.fields) _ named in
    let b = first_both (first_fault (naming.operation_fault m.fields) [] m.ops) _ a.1 in
    let n = of-one (IsNamedBehind m.fields) m.ops o has (operations-names m.fields [] m.ops b.0) in
    let c = first_both (at_line o.line (head_fault m.fields n.0 o)) _ n.1 in
    let d = first_both (start_fault m.fields o.mode o.steps) _ (at_line-none o.line _ c.0) in
    let e = first_both _ _ d.1 in
    let f = first_both _ _ e.1 in
    let r = of-one (λ (p : OperationTree). operation_fault m.fields p ≡ None) m.ops o has (operations-rules m.fields m.ops strategies) in
    record {
      few = few-fields m.fields a.0;
      rules = are-ruled m.fields o.mode [] o.steps r;
      statements = c.1;
      params = f.1;
      started = d.0;
      texts = of-one HasTextNames m.ops o has texts.ops;
    }
