-- The names of a machine without a fault are known, each as its sort.
use Rattle.std.proofs.Common.{◌≡◌, ℕ, ◌+◌, ◌<◌, ◌≤◌, Bool, true, false, ◌||◌, if◌then◌else◌, List, [], ◌∷◌, ◌++◌, length, nat_le, nat_lt, nat_eq, eq-eqb, Option, Some, None, Result, Ok, Err, append_assoc, length-append, refl, sym, ap, subst, ◌∙◌, arith}
use Rattle.std.specs.Prelude.{OnOk}
use Rattle.std.specs.List.{cons_option, AllByRecursion}
use Rattle.std.proofs.lemmas.Bool.{leb-false, le-ltb}
use Rattle.std.proofs.lemmas.List.Folds.{list_any-append}
use Rattle.std.proofs.lemmas.List.Elements.{filter_map-append}
use Rattle.sync_base.specs.declared.stops.Refusal.{Refusal}
use Rattle.sync_base.specs.declared.stops.Rule.{Rule}
use Rattle.sync_base.specs.declared.stops.Rule.TheVariants.{N1, N5}
use Rattle.sync_base.specs.Outcome.{first}
use Rattle.sync_terms.specs.Trees.{Tree, Lit, Name, Add, Sub, Scale, Get, Has, Size, Sum, Nil, Put, Del, Bump, Formula, Le, Lt, Eq, Not, And, Or, Imp}
use Rattle.sync_machine.specs.declared.fields.Field.{Field}
use Rattle.sync_machine.specs.Machines.{PatternTree, Bind, Term, PlaceTree, ActTree, StepTree, OperationTree, InvariantTree, MachineTree}
use Rattle.sync_machine.specs.Machines as acts
use Rattle.sync_machine.specs.Statements.{binds, bound_in}
use Rattle.sync_machine.specs.States.{Sort, Numbers, Maps, sort_of, strategy_at}
use Rattle.sync_machine.specs.Scope.{Known, knows, IsNumber, IsMap, IsFormula, HasSort, IsNameSymbol, IsScopedInvariant}
use Rattle.sync_machine.specs.Named.{IsKeyIn, IsPatternIn, IsPlaceIn, IsStatementIn, KnowsItsNames, IsNamed}
use Rattle.sync_machine.specs.Naming.{Tells, broken, at_line, first_fault, sort_fault, number_fault, map_fault, formula_fault, value_fault, bound_by, bound_names, is_in, repeated, unknown_field, key_fault, pattern_fault, on_place, on_value, act_fault, step_fault, field_fault, head_fault, operation_fault, invariant_rule, invariant_fault, machine_fault, IsTextName, BindsTextName, HasTextNames, AreTextNames}
use Rattle.sync_machine.proofs.Checks.{first_both}

-- what one knows, the other knows as the same sort
KnowsMore : Known → Known → Type 0
KnowsMore k k' = (x : ℕ) (s : Sort) → k x ≡ Some s → k' x ≡ Some s

broken_ok : (b : Bool) (r : Rule) → broken b r ≡ None → b ≡ false
broken_ok true r e = absurd cc
broken_ok false r e = refl

at_line_ok : (line : ℕ) (o : Option Rule) → at_line line o ≡ None → o ≡ None
at_line_ok line (Some r) e = absurd cc
at_line_ok line None e = refl

name_ok : (wanted : Sort) (found : Option Sort) → sort_fault wanted found ≡ None → found ≡ Some wanted
name_ok wanted None e = absurd cc
name_ok Numbers (Some Numbers) e = refl
name_ok Numbers (Some Maps) e = absurd cc
name_ok Maps (Some Maps) e = refl
name_ok Maps (Some Numbers) e = absurd cc

module _ (k k' : Known) (more : (x : ℕ) (s : Sort) → k x ≡ Some s → k' x ≡ Some s) where
  mutual
    unfolding number_fault

    number_ok : (t : Tree) → number_fault k t ≡ None → IsNumber k' t
    number_ok (Lit n) e = tt
    number_ok (Name x) e = more x Numbers (name_ok Numbers (k x) e)
    number_ok (Add a b) e = let p = first_both (number_fault k a) (number_fault k b) e in (number_ok a p.0, number_ok b p.1)
    number_ok (Sub a b) e = let p = first_both (number_fault k a) (number_fault k b) e in (number_ok a p.0, number_ok b p.1)
    number_ok (Scale n a) e = number_ok a e
    number_ok (Get m i) e = let p = first_both (map_fault k m) (number_fault k i) e in (map_ok m p.0, number_ok i p.1)
    number_ok (Has m i) e = let p = first_both (map_fault k m) (number_fault k i) e in (map_ok m p.0, number_ok i p.1)
    number_ok (Size m) e = map_ok m e
    number_ok (Sum m) e = map_ok m e
    number_ok Nil e = absurd cc
    number_ok (Put m i v) e = absurd cc
    number_ok (Del m i) e = absurd cc
    number_ok (Bump m i n) e = absurd cc

    map_ok : (t : Tree) → map_fault k t ≡ None → IsMap k' t
    map_ok (Name x) e = more x Maps (name_ok Maps (k x) e)
    map_ok Nil e = tt
    map_ok (Put m i v) e =
        let p = first_both (map_fault k m) (first (number_fault k i) (number_fault k v)) e in
        let q = first_both (number_fault k i) (number_fault k v) p.1 in (map_ok m p.0, number_ok i q.0, number_ok v q.1)
    map_ok (Del m i) e = let p = first_both (map_fault k m) (number_fault k i) e in (map_ok m p.0, number_ok i p.1)
    map_ok (Bump m i n) e =
        let p = first_both (map_fault k m) (first (number_fault k i) (number_fault k n)) e in
        let q = first_both (number_fault k i) (number_fault k n) p.1 in (map_ok m p.0, number_ok i q.0, number_ok n q.1)
    map_ok (Add a b) e = absurd cc
    map_ok (Sub a b) e = absurd cc
    map_ok (Lit n) e = absurd cc
    map_ok (Scale n a) e = absurd cc
    map_ok (Get m i) e = absurd cc
    map_ok (Has m i) e = absurd cc
    map_ok (Size m) e = absurd cc
    map_ok (Sum m) e = absurd cc

  formula_ok : (f : Formula) → formula_fault k f ≡ None → IsFormula k' f
  unfolding formula_fault
  formula_ok (Le a b) e = let p = first_both (number_fault k a) (number_fault k b) e in (number_ok a p.0, number_ok b p.1)
  formula_ok (Lt a b) e = let p = first_both (number_fault k a) (number_fault k b) e in (number_ok a p.0, number_ok b p.1)
  formula_ok (Eq a b) e = let p = first_both (number_fault k a) (number_fault k b) e in (number_ok a p.0, number_ok b p.1)
  formula_ok (Not f) e = formula_ok f e
  formula_ok (And f g) e = let p = first_both (formula_fault k f) (formula_fault k g) e in (formula_ok f p.0, formula_ok g p.1)
  formula_ok (Or f g) e = let p = first_both (formula_fault k f) (formula_fault k g) e in (formula_ok f p.0, formula_ok g p.1)
  formula_ok (Imp f g) e = let p = first_both (formula_fault k f) (formula_fault k g) e in (formula_ok f p.0, formula_ok g p.1)

  value_ok : (s : Sort) (t : Tree) → value_fault k s t ≡ None → HasSort k' s t
  value_ok Numbers t e = number_ok t e
  value_ok Maps t e = map_ok t e

  key_ok : (o : Option Tree) → key_fault k o ≡ None → IsKeyIn k' o
  key_ok None e = tt
  key_ok (Some t) e = number_ok t e

-- ---- statements

field_ok : (fs : List Field) (f : ℕ) → unknown_field fs f ≡ None → f < length fs
field_ok fs f e = leb-false (length fs) f (broken_ok (nat_le (length fs) f) N1 e)

module _ (fs : List Field) (names : List ℕ) (k' : Known) (more : (x : ℕ) (s : Sort) → knows fs names x ≡ Some s → k' x ≡ Some s) where
  pattern_ok : (o : Option PatternTree) → ((x : ℕ) → bound_in o ≡ Some x → k' x ≡ Some Numbers) → pattern_fault fs names o ≡ None → IsPatternIn k' o
  pattern_ok None given e = tt
  pattern_ok (Some (Bind x)) given e = given x refl
  pattern_ok (Some (Term t)) given e = number_ok (knows fs names) k' more t e

  place_ok : (f : ℕ) (p : PlaceTree) → ((x : ℕ) → binds p ≡ Some x → k' x ≡ Some Numbers) → on_place fs names f p ≡ None
      → (f < length fs) × IsPlaceIn k' p
  place_ok f p given e =
      let a = first_both (unknown_field fs f) (first (key_fault (knows fs names) p.key) (pattern_fault fs names p.value)) e in
      let b = first_both (key_fault (knows fs names) p.key) (pattern_fault fs names p.value) a.1 in
      (field_ok fs f a.0, (key_ok (knows fs names) k' more p.key b.0, pattern_ok p.value given b.1))

  on_value_ok : (f : ℕ) (t : Tree) → on_value fs names f t ≡ None → (f < length fs) × HasSort k' (sort_of (strategy_at fs f)) t
  on_value_ok f t e =
      let a = first_both (unknown_field fs f) (value_fault (knows fs names) (sort_of (strategy_at fs f)) t) e in
      (field_ok fs f a.0, value_ok (knows fs names) k' more (sort_of (strategy_at fs f)) t a.1)

  act_ok : (a : ActTree) → ((x : ℕ) → bound_by a ≡ Some x → k' x ≡ Some Numbers) → act_fault fs names a ≡ None → IsStatementIn fs k' a
  unfolding act_fault bound_by
  act_ok (acts.Init f t) given e = on_value_ok f t e
  act_ok (acts.Update f t) given e = on_value_ok f t e
  act_ok (acts.Require form) given e = formula_ok (knows fs names) k' more form e
  act_ok (acts.Assert form) given e = formula_ok (knows fs names) k' more form e
  act_ok (acts.HaveVariable f) given e = field_ok fs f e
  act_ok (acts.Add f p) given e = place_ok f p given e
  act_ok (acts.Remove f p) given e = place_ok f p given e
  act_ok (acts.Have f p) given e = place_ok f p given e
  act_ok (acts.Deposit f p) given e = place_ok f p given e
  act_ok (acts.Withdraw f p) given e = place_ok f p given e
  act_ok (acts.Guard f p) given e = place_ok f p given e

-- ---- the names that are given

or_more : (b c c' : Bool) (v s : Sort) → (c ≡ true → c' ≡ true)
    → (if b then Some v else (if c then Some Numbers else None)) ≡ Some s → (if b then Some v else (if c' then Some Numbers else None)) ≡ Some s
or_more true c c' v s h e = e
or_more false true c' v s h e = rw (h refl) e
or_more false false c' v s h e = absurd cc

true_or : (a b : Bool) → a ≡ true → (a || b) ≡ true
true_or true b e = refl
true_or false b e = absurd cc

or_true : (a b : Bool) → b ≡ true → (a || b) ≡ true
or_true true b e = refl
or_true false b e = e

-- later statements take no name away
more_given : (fs : List Field) (ps : List ℕ) (before rest : List StepTree) (x : ℕ) (s : Sort)
    → knows fs (ps ++ bound_names before) x ≡ Some s → knows fs (ps ++ bound_names (before ++ rest)) x ≡ Some s
more_given fs ps before rest x s e =
    or_more (nat_lt x (length fs)) (is_in x (ps ++ bound_names before)) (is_in x (ps ++ bound_names (before ++ rest))) (sort_of (strategy_at fs x)) s
    (λ h. let split : ps ++ bound_names (before ++ rest) ≡ (ps ++ bound_names before) ++ bound_names rest =
    ap (λ (ys : List ℕ). ps ++ ys) (filter_map-append (λ (t : StepTree). bound_by t.act) before rest) ∙ sym (append_assoc ps (bound_names before) (bound_names rest)) in
    ap (is_in x) split ∙ list_any-append (nat_eq x) (ps ++ bound_names before) (bound_names rest) ∙ true_or (is_in x (ps ++ bound_names before)) (is_in x (bound_names rest)) h)
    e

-- a given name is no field's symbol
known_given : (fs : List Field) (names : List ℕ) (x : ℕ) → length fs ≤ 32 → IsTextName x → is_in x names ≡ true → knows fs names x ≡ Some Numbers
known_given fs names x few (n, is, below) h =
    let low : nat_lt x (length fs) ≡ false = le-ltb x (length fs) (omega (arith, is)) in
    rw (low, h) refl

bound_given : (ps : List ℕ) (before ss : List StepTree) (s : StepTree) (x : ℕ) → bound_by s.act ≡ Some x → is_in x (ps ++ bound_names (before ++ s ∷ ss)) ≡ true
bound_given ps before ss s x e =
    list_any-append (nat_eq x) ps (bound_names (before ++ s ∷ ss))
    ∙ or_true (is_in x ps) (is_in x (bound_names (before ++ s ∷ ss)))
    (ap (is_in x) (filter_map-append (λ (t : StepTree). bound_by t.act) before (s ∷ ss))
    ∙ list_any-append (nat_eq x) (bound_names before) (bound_names (s ∷ ss))
    ∙ or_true (is_in x (bound_names before)) (is_in x (bound_names (s ∷ ss)))
    (ap (λ (o : Option ℕ). is_in x (cons_option o (bound_names ss))) e ∙ true_or (nat_eq x x) (is_in x (bound_names ss)) (eq-eqb x x refl)))

text_bound : (o : Option ℕ) (x : ℕ) → BindsTextName o → o ≡ Some x → IsTextName x
text_bound o x h e = subst BindsTextName e h

steps_ok : (fs : List Field) (ps : List ℕ) (before ss : List StepTree) → length fs ≤ 32 → AllByRecursion (λ (s : StepTree). BindsTextName (bound_by s.act)) ss
    → first_fault (step_fault fs ps) before ss ≡ None
    → AllByRecursion (λ (s : StepTree). IsStatementIn fs (knows fs (ps ++ bound_names (before ++ ss))) s.act) ss
unfolding first_fault step_fault
steps_ok fs ps before [] few texts e = tt
steps_ok fs ps before (s ∷ ss) few texts e =
    let all : List ℕ = ps ++ bound_names (before ++ s ∷ ss) in
    let a = first_both (step_fault fs ps before s) (first_fault (step_fault fs ps) (before ++ s ∷ []) ss) e in
    let b = first_both (broken (nat_le 64 (length before)) N5) (act_fault fs (ps ++ bound_names before) s.act) (at_line_ok s.line _ a.0) in
    let here = act_ok fs (ps ++ bound_names before) (knows fs all) (more_given fs ps before (s ∷ ss)) s.act
    (λ x is. known_given fs all x few (text_bound (bound_by s.act) x texts.0 is) (bound_given ps before ss s x is)) b.1 in
    let later = steps_ok fs ps (before ++ s ∷ []) ss few texts.1 a.1 in
    (here, subst (λ (ts : List StepTree). AllByRecursion (λ (t : StepTree). IsStatementIn fs (knows fs (ps ++ bound_names ts)) t.act) ss) (append_assoc before (s ∷ []) ss) later)

-- ---- operations, invariants and fields

all_append : {A : Type 0} (P : A → Type 0) (xs ys : List A) → AllByRecursion P xs → AllByRecursion P ys → AllByRecursion P (xs ++ ys)
all_append P [] ys a b = b
all_append P (x ∷ xs) ys a b = (a.0, all_append P xs ys a.1 b)

symbols_ok : (xs : List ℕ) → AllByRecursion IsTextName xs → AllByRecursion IsNameSymbol xs
symbols_ok [] h = tt
symbols_ok (x ∷ xs) h = ((h.0.0, h.0.1), symbols_ok xs h.1)

cons_ok : (o : Option ℕ) (xs : List ℕ) → BindsTextName o → AllByRecursion IsNameSymbol xs → AllByRecursion IsNameSymbol (cons_option o xs)
cons_ok (Some x) xs h all = ((h.0, h.1), all)
cons_ok None xs h all = all

bound_ok : (ss : List StepTree) → AllByRecursion (λ (s : StepTree). BindsTextName (bound_by s.act)) ss → AllByRecursion IsNameSymbol (bound_names ss)
bound_ok [] h = tt
bound_ok (s ∷ ss) h = cons_ok (bound_by s.act) (bound_names ss) h.0 (bound_ok ss h.1)

operations_ok : (fs : List Field) (before os : List OperationTree) → length fs ≤ 32 → AllByRecursion HasTextNames os
    → first_fault (operation_fault fs) before os ≡ None → AllByRecursion (KnowsItsNames fs) os
unfolding first_fault operation_fault
operations_ok fs before [] few texts e = tt
operations_ok fs before (o ∷ os) few texts e =
    let a = first_both (operation_fault fs before o) (first_fault (operation_fault fs) (before ++ o ∷ []) os) e in
    let b = first_both (at_line o.line (head_fault fs before o)) (first_fault (step_fault fs o.params) [] o.steps) a.0 in (
      record {
        are_names = all_append IsNameSymbol o.params (bound_names o.steps) (symbols_ok o.params texts.0.params) (bound_ok o.steps texts.0.bound);
        statements = steps_ok fs o.params [] o.steps few texts.0.bound b.1;
      },
      operations_ok fs (before ++ o ∷ []) os few texts.1 a.1,
    )

invariants_ok : (fs : List Field) (os : List OperationTree) (before is : List InvariantTree)
    → AllByRecursion (λ (i : InvariantTree). AllByRecursion IsTextName i.params) is
    → first_fault (invariant_fault fs os) before is ≡ None → AllByRecursion (IsScopedInvariant fs) is
unfolding first_fault invariant_rule
invariants_ok fs os before [] texts e = tt
invariants_ok fs os before (i ∷ is) texts e =
    let a = first_both (invariant_fault fs os before i) (first_fault (invariant_fault fs os) (before ++ i ∷ []) is) e in
    let b = first_both _ _ (at_line_ok i.line (invariant_rule fs os before i) a.0) in
    let c = first_both _ _ b.1 in
    let d = first_both (first_fault (repeated fs) [] i.params) (formula_fault (knows fs i.params) i.form) c.1 in (
      record {
        are_names = symbols_ok i.params texts.0;
        form = formula_ok (knows fs i.params) (knows fs i.params) (λ x s h. h) i.form d.1;
      },
      invariants_ok fs os (before ++ i ∷ []) is texts.1 a.1,
    )

fields_few : (before fs : List Field) → length before ≤ 32 → first_fault field_fault before fs ≡ None → length before + length fs ≤ 32
unfolding first_fault field_fault
fields_few before [] h e = omega arith
fields_few before (f ∷ fs) h e =
    let a = first_both (field_fault before f) (first_fault field_fault (before ++ f ∷ []) fs) e in
    let b = first_both _ _ (at_line_ok f.line _ a.0) in
    let room : length before < 32 = leb-false 32 (length before) (broken_ok (nat_le 32 (length before)) N5 b.0) in
    let longer = length-append before (f ∷ []) in
    let later = fields_few (before ++ f ∷ []) fs (omega (arith, longer)) a.1 in
    omega (arith, longer, later)

pub named : (m : MachineTree) → AreTextNames m → machine_fault m ≡ None → IsNamed m
unfolding machine_fault
named m texts e =
    let a = first_both (first_fault field_fault [] m.fields) (first (first_fault (operation_fault m.fields) [] m.ops) (first_fault (invariant_fault m.fields m.ops) [] m.invariants)) e in
    let b = first_both (first_fault (operation_fault m.fields) [] m.ops) (first_fault (invariant_fault m.fields m.ops) [] m.invariants) a.1 in
    let few : length m.fields ≤ 32 = let h = fields_few [] m.fields (omega arith) a.0 in omega (arith, h) in
    record {
      few_fields = few;
      operations = operations_ok m.fields [] m.ops few texts.ops b.0;
      invariants = invariants_ok m.fields m.ops [] m.invariants texts.invariants b.1;
    }

-- where a check tells the machine's fault, a machine that passes is named
pub named_on_ok : {A : Type 0} (r : Result A Refusal) (m : MachineTree) → AreTextNames m → Tells r (machine_fault m) → OnOk r (IsNamed m)
named_on_ok (Ok x) m texts e = named m texts e
named_on_ok (Err r) m texts e = tt
