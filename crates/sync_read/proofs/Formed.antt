-- The machine that a raw tree means breaks no rule of names.
use Rattle.std.proofs.Common.{◌≡◌, ◌==◌, ℕ, zero, suc, ◌+◌, ◌<◌, ◌≤◌, ◌||◌, not, min, Bool, true, false, if◌then◌else◌, List, [], ◌∷◌, ◌++◌, map, length, replicate, slice_get, nat_lt, nat_le, nat_eq, None, Ok, refl, sym, ap, subst, ◌∙◌, true≢false, length-append, append-nil, append_assoc, arith}
use Rattle.std.specs.List.{list_all, range_with_len}
use Rattle.std.specs.Result.{IfOk}
use Rattle.std.proofs.lemmas.Bool.{or_from, or_parts, and_from}
use Rattle.std.proofs.lemmas.List.{length-replicate, map-append}
use Rattle.std.proofs.lemmas.Nat.Bits.{bit_at-zero}
use Rattle.std.proofs.lemmas.List.Folds.{list_any-append}
use Rattle.std.specs.Int.{bit_at}
use Rattle.std.proofs.lemmas.Result.{IfOk-at_ok}
use Rattle.sync_base.specs.declared.stops.Rule.TheVariants.{N2, N4, N5}
use Rattle.sync_base.specs.Outcome.{◌>>=◌, first}
use Rattle.sync_machine.specs.declared.fields.Field.{Field}
use Rattle.sync_base.specs.declared.strategies.OpMode.{OpMode}
use Rattle.sync_base.specs.declared.strategies.OpMode.TheVariants as mode
use Rattle.sync_machine.specs.Machines.{StepTree, OperationTree, InvariantTree, MachineTree}
use Rattle.sync_machine.specs.Scope.{knows}
use Rattle.sync_machine.specs.Naming.{broken, at_line, first_fault, formula_fault, is_in, bound_names, repeated, parameter_fault, step_fault, field_fault, is_field_name, is_operation_name, is_invariant_name, is_taken, start_fault, head_fault, operation_fault, invariant_rule, invariant_fault, machine_fault}
use Rattle.sync_machine.specs.Naming as naming
use Rattle.sync_machine.proofs.Checks.{list_any_view}
use Rattle.sync_parse_exprs.specs.declared.raw_names.RawName.{RawName}
use Rattle.sync_parse.specs.declared.trees.RawStep.{RawStep}
use Rattle.sync_parse.specs.declared.trees.RawOperation.{RawOperation}
use Rattle.sync_parse.specs.declared.trees.RawInvariant.{RawInvariant}
use Rattle.sync_parse.specs.declared.trees.RawMachine.{RawMachine}
use Rattle.sync_read_names.specs.declared.scopes.Meaning.{Meaning}
use Rattle.sync_read_names.specs.declared.scopes.Meaning.TheVariants as meaning
use Rattle.sync_read_names.specs.declared.scopes.Owner.{Owner}
use Rattle.sync_read_names.specs.declared.scopes.Owner.TheVariants as owner
use Rattle.sync_read_names.specs.declared.scopes.Scope.{Scope}
use Rattle.sync_read_names.specs.Scopes.{or_nothing, declare, flag, has_owner, or_unowned, is_field}
use Rattle.sync_read_names.specs.Exprs.{form_of}
use Rattle.sync_read.specs.Acts.{few_before, fields_from, params_from, steps_from}
use Rattle.sync_read.specs.Resolving.{start_count, starts_once, is_started, begin_operation, operation_in, operations_from, begin_invariant, invariant_in, invariants_from, machine_in}
use Rattle.sync_read.specs.Texts.{unowned, first_scope}
use Rattle.sync_read.proofs.Chains.{after_ok, both, weaker, if_ok}
use Rattle.sync_read.proofs.Sorted.{form_is}
use Rattle.sync_read.proofs.Owning.{IsCounted, IsLater, name_at, Between, Inside, agrees}
use Rattle.sync_read.proofs.Declaring.{few_before_ok, no_limit, one_more, declare_is, no_field_name, not_taken, more_between, Anybody, AreFields, fields_are}
use Rattle.sync_read.proofs.Stated.{AreParams, params_are, counted, Made, steps_are}

-- ---- the beginning of an operation or an invariant

-- it has a new name, and owns no other yet
record Begun (x : Owner) (fs : List Field) (taken : List ℕ) (n : ℕ) (s : Scope) : Type 0 where
  inside : Inside x fs (taken ++ n ∷ []) [] s
  no_field : is_field_name fs n ≡ false
  no_other : is_in n taken ≡ false

begun : (x : Owner) (F : Owner → Type 0) (fs : List Field) (taken : List ℕ) (s : Scope) (named : RawName) (m : Meaning) → Between fs taken F s
    → is_field m ≡ false → (m ≡ meaning.Nothing → ⊥) → IsCounted x → F x → ((y : Owner) → IsLater x y → F y)
    → IfOk (declare s named m >>= λ t. Ok (record t { owner = x })) (Begun x fs taken named.name)
begun x F fs taken s named m h plain some counted here later =
    after_ok (Begun x fs taken named.name) (λ t. Begun x fs taken named.name (record t { owner = x })) (declare s named m) _
    (declare_is (λ t. Begun x fs taken named.name (record t { owner = x })) s named m (λ low new.
    let next = more_between fs taken F s h named.name m low new plain some in
    record {
      inside = record {
        mine = refl;
        between = record {
          room = record { meanings = next.room.meanings; owners = next.room.owners; nobody = next.room.nobody; sight = next.room.sight };
          fields = record { few = next.fields.few; named = next.fields.named; only = next.fields.only };
          taken_are = next.taken_are;
          free = λ y l. h.free y (later y l);
        };
        counted = counted;
        listed = λ n e. absurd (true≢false (sym e ∙ h.free x here n));
        held = λ n low e. absurd (true≢false (sym e));
      };
      no_field = no_field_name fs s named.name h.fields new;
      no_other = not_taken fs taken F s h named.name m low new plain some;
    }))
    (λ t b. b)

-- who is to come
abbrev OperationsFrom : ℕ → Owner → Type 0
OperationsFrom k owner.Nobody = ⊥
OperationsFrom k (owner.Operation j) = k ≤ j
OperationsFrom k (owner.Invariant j) = Unit {0}
OperationsFrom k (owner.Word n) = ⊥
OperationsFrom k (owner.Thread j) = ⊥
OperationsFrom k (owner.Last j) = ⊥

abbrev InvariantsFrom : ℕ → Owner → Type 0
InvariantsFrom k owner.Nobody = ⊥
InvariantsFrom k (owner.Operation j) = ⊥
InvariantsFrom k (owner.Invariant j) = k ≤ j
InvariantsFrom k (owner.Word n) = ⊥
InvariantsFrom k (owner.Thread j) = ⊥
InvariantsFrom k (owner.Last j) = ⊥

operations_later : (k : ℕ) (y : Owner) → IsLater (owner.Operation k) y → OperationsFrom k y
operations_later k owner.Nobody h = h
operations_later k (owner.Operation j) h = omega (arith, h)
operations_later k (owner.Invariant j) h = tt
operations_later k (owner.Word n) h = h
operations_later k (owner.Thread j) h = h
operations_later k (owner.Last j) h = h

later_operations : (k l : ℕ) (y : Owner) → l ≡ k + 1 → OperationsFrom l y → IsLater (owner.Operation k) y
later_operations k l owner.Nobody e h = h
later_operations k l (owner.Operation j) e h = omega (arith, e, h)
later_operations k l (owner.Invariant j) e h = tt
later_operations k l (owner.Word n) e h = h
later_operations k l (owner.Thread j) e h = h
later_operations k l (owner.Last j) e h = h

invariants_later : (k : ℕ) (y : Owner) → IsLater (owner.Invariant k) y → InvariantsFrom k y
invariants_later k owner.Nobody h = h
invariants_later k (owner.Operation j) h = h
invariants_later k (owner.Invariant j) h = omega (arith, h)
invariants_later k (owner.Word n) h = h
invariants_later k (owner.Thread j) h = h
invariants_later k (owner.Last j) h = h

later_invariants : (k l : ℕ) (y : Owner) → l ≡ k + 1 → InvariantsFrom l y → IsLater (owner.Invariant k) y
later_invariants k l owner.Nobody e h = h
later_invariants k l (owner.Operation j) e h = h
later_invariants k l (owner.Invariant j) e h = omega (arith, e, h)
later_invariants k l (owner.Word n) e h = h
later_invariants k l (owner.Thread j) e h = h
later_invariants k l (owner.Last j) e h = h

then_invariants : (k : ℕ) (y : Owner) → InvariantsFrom 0 y → OperationsFrom k y
then_invariants k owner.Nobody h = h
then_invariants k (owner.Operation j) h = absurd h
then_invariants k (owner.Invariant j) h = tt
then_invariants k (owner.Word n) h = absurd h
then_invariants k (owner.Thread j) h = absurd h
then_invariants k (owner.Last j) h = absurd h

any_operations : (y : Owner) → OperationsFrom 0 y → Anybody y
any_operations owner.Nobody h = tt
any_operations (owner.Operation j) h = tt
any_operations (owner.Invariant j) h = tt
any_operations (owner.Word n) h = h
any_operations (owner.Thread j) h = h
any_operations (owner.Last j) h = h

-- where fewer are to come, and the same names are taken
fewer : (fs : List Field) (taken now : List ℕ) (F G : Owner → Type 0) (s : Scope) → Between fs taken F s → taken ≡ now → ((y : Owner) → G y → F y) → Between fs now G s
fewer fs taken now F G s h e f = subst (λ ns. Between fs ns G s) e (record { room = h.room; fields = h.fields; taken_are = h.taken_are; free = λ y g. h.free y (f y g) })

-- the end of one
ended : (x : Owner) (fs : List Field) (taken names now : List ℕ) (G : Owner → Type 0) (s : Scope) → Inside x fs taken names s → taken ≡ now → ((y : Owner) → G y → IsLater x y) → Between fs now G s
ended x fs taken names now G s h e f = fewer fs taken now (IsLater s.owner) G s h.between e (λ y g. subst (λ z. IsLater z y) (sym h.mine) (f y g))

-- ---- first values

starts_at : (fs : List Field) (acts : List RawStep) → starts_once fs acts ≡ true → (i : ℕ) → i < length fs → (start_count (name_at fs i) 0 acts == 1) ≡ true
unfolding starts_once
starts_at [] acts e i low = absurd (omega arith)
starts_at (f ∷ fs) acts e zero low = here (start_count f.name 0 acts == 1) e where
  here : (b : Bool) → (if b then starts_once fs acts else false) ≡ true → b ≡ true
  here true d = refl
  here false d = d
starts_at (f ∷ fs) acts e (suc i) low = starts_at fs acts (rest (start_count f.name 0 acts == 1) e) i (omega arith) where
  rest : (b : Bool) → (if b then starts_once fs acts else false) ≡ true → starts_once fs acts ≡ true
  rest true d = d
  rest false d = absurd (true≢false (sym d))

all_from : (p : ℕ → Bool) (a n : ℕ) → ((i : ℕ) → i < a + n → p i ≡ true) → list_all p (range_with_len a n) ≡ true
all_from p a zero h = refl
all_from p a (suc n) h = and_from (p a) (list_all p (range_with_len (a + 1) n)) (h a (omega arith)) (all_from p (a + 1) n (λ i low. h i (omega arith)))

started : (m : OpMode) (fs : List Field) (acts : List RawStep) (steps : List StepTree) → is_started m fs acts ≡ true
    → ((i : ℕ) → i < length fs → counted i steps ≡ start_count (name_at fs i) 0 acts) → start_fault fs m steps ≡ None
unfolding naming.is_started
started mode.Init fs acts steps e same =
    ap (λ b. broken (not b) N4) (all_from (λ i. nat_eq (counted i steps) 1) 0 (length fs)
    (λ i low. let below : i < length fs = omega (arith, low) in ap (λ n. nat_eq n 1) (same i below) ∙ starts_at fs acts e i below))
started mode.Transition fs acts steps e same = refl
started mode.Property fs acts steps e same = refl

-- ---- operations

abbrev operation_names : List OperationTree → List ℕ
operation_names os = map (λ (o : OperationTree). o.name) os

record HasBegun (number : ℕ) (fs : List Field) (taken : List ℕ) (o : RawOperation) (s : Scope) : Type 0 where
  begun : Begun (owner.Operation number) fs taken o.name.name s
  few : number < 64
  starts : is_started o.mode fs o.steps ≡ true

begin_operation_is : (number : ℕ) (fs : List Field) (taken : List ℕ) (s : Scope) (o : RawOperation) → Between fs taken (OperationsFrom number) s
    → IfOk (begin_operation number fs s o) (HasBegun number fs taken o)
unfolding begin_operation
begin_operation_is number fs taken s o h =
    let x : Owner = owner.Operation number in
    if_ok (HasBegun number fs taken o) (is_started o.mode fs o.steps) _ _ (λ e.
    after_ok (HasBegun number fs taken o) (λ n. number < 64) (few_before 64 number o.line) _ (few_before_ok 64 number o.line) (λ n few.
    weaker (Begun x fs taken o.name.name) (HasBegun number fs taken o) (declare s o.name (meaning.Operation number) >>= λ t. Ok (record t { owner = x }))
    (begun x (OperationsFrom number) fs taken s o.name (meaning.Operation number) h refl (λ d. absurd cc) few (omega arith) (operations_later number))
    (λ t b. record { begun = b; few = few; starts = e })))

record IsOperation (fs : List Field) (held : List OperationTree) (y : OperationTree × Scope) : Type 0 where
  between : Between fs (operation_names (held ++ y.0 ∷ [])) (OperationsFrom (length (held ++ y.0 ∷ []))) y.1
  passed : operation_fault fs held y.0 ≡ None

operation_is : (fs : List Field) (held : List OperationTree) (s : Scope) (o : RawOperation) → Between fs (operation_names held) (OperationsFrom (length held)) s
    → IfOk (operation_in (length held) fs s o) (IsOperation fs held)
unfolding operation_in operation_fault head_fault first_fault
operation_is fs held s o h =
    let number : ℕ = length held in
    let x : Owner = owner.Operation number in
    let taken : List ℕ = operation_names held in
    let now : List ℕ = taken ++ o.name.name ∷ [] in
    after_ok (IsOperation fs held) (HasBegun number fs taken o) (begin_operation number fs s o) _ (begin_operation_is number fs taken s o h) (λ s2 b.
    after_ok (IsOperation fs held) (λ y. AreParams true x fs now y.0 y.1) (params_from true [] s2 o.params) _ (params_are true x fs now [] s2 o.params (record { inside = b.begun.inside; passed = refl })) (λ ps p.
    after_ok (IsOperation fs held) (Made x fs now ps.0 [] o.steps) (steps_from [] ps.1 o.steps) _
    (steps_are x fs now ps.0 [] ps.1 o.steps (record { inside = subst (λ ns. Inside x fs now ns ps.1) (sym (append-nil ps.0)) p.inside; passed = refl })) (λ xs m.
    let made : OperationTree = record { name = o.name.name; mode = o.mode; params = ps.0; steps = xs.0; line = o.line } in
    let names : is_taken fs held o.name.name ≡ false = or_from (is_field_name fs o.name.name) (is_operation_name held o.name.name) b.begun.no_field
    (sym (list_any_view (nat_eq o.name.name) (λ (y : OperationTree). y.name) held) ∙ b.begun.no_other) in
    let params = first_fault (parameter_fault fs) [] ps.0 in
    let head : head_fault fs held made ≡ None =
    both (start_fault fs o.mode xs.0) (first (broken (nat_le 64 number) N5) (first (broken (is_taken fs held o.name.name) N2) params)) (started o.mode fs o.steps xs.0 b.starts m.counts)
    (both (broken (nat_le 64 number) N5) (first (broken (is_taken fs held o.name.name) N2) params) (no_limit 64 number b.few)
    (both (broken (is_taken fs held o.name.name) N2) params (ap (λ b. broken b N2) names) p.passed)) in
    record {
      between = ended x fs now (ps.0 ++ bound_names xs.0) (operation_names (held ++ made ∷ [])) (OperationsFrom (length (held ++ made ∷ []))) xs.1 m.are.inside
          (sym (map-append (λ (y : OperationTree). y.name) held (made ∷ []))) (λ y. later_operations number (length (held ++ made ∷ [])) y (length-append held (made ∷ [])));
      passed = both (at_line o.line (head_fault fs held made)) (first_fault (step_fault fs ps.0) [] xs.0) (ap (at_line o.line) head) m.are.passed;
    })))

record AreOperations (fs : List Field) (y : List OperationTree × Scope) : Type 0 where
  between : Between fs (operation_names y.0) (OperationsFrom (length y.0)) y.1
  passed : first_fault (operation_fault fs) [] y.0 ≡ None

operations_are : (fs : List Field) (held : List OperationTree) (s : Scope) (os : List RawOperation) → AreOperations fs (held, s) → IfOk (operations_from fs held s os) (AreOperations fs)
unfolding operations_from
operations_are fs held s [] h = h
operations_are fs held s (o ∷ os) h =
    after_ok (AreOperations fs) (IsOperation fs held) (operation_in (length held) fs s o) _ (operation_is fs held s o h.between) (λ y q.
    operations_are fs (held ++ y.0 ∷ []) y.1 os (record { between = q.between; passed = one_more (operation_fault fs) [] held y.0 h.passed q.passed }))

-- ---- invariants

abbrev invariant_names : List InvariantTree → List ℕ
invariant_names is = map (λ (i : InvariantTree). i.name) is

abbrev all_names : List OperationTree → List InvariantTree → List ℕ
all_names os is = operation_names os ++ invariant_names is

record HasBegunInvariant (number : ℕ) (fs : List Field) (taken : List ℕ) (i : RawInvariant) (s : Scope) : Type 0 where
  begun : Begun (owner.Invariant number) fs taken i.name.name s
  few : number < 64

begin_invariant_is : (number : ℕ) (fs : List Field) (taken : List ℕ) (s : Scope) (i : RawInvariant) → Between fs taken (InvariantsFrom number) s
    → IfOk (begin_invariant number s i) (HasBegunInvariant number fs taken i)
unfolding begin_invariant
begin_invariant_is number fs taken s i h =
    let x : Owner = owner.Invariant number in
    after_ok (HasBegunInvariant number fs taken i) (λ n. number < 64) (few_before 64 number i.line) _ (few_before_ok 64 number i.line) (λ n few.
    weaker (Begun x fs taken i.name.name) (HasBegunInvariant number fs taken i) (declare s i.name (meaning.Invariant number) >>= λ t. Ok (record t { owner = x }))
    (begun x (InvariantsFrom number) fs taken s i.name (meaning.Invariant number) h refl (λ d. absurd cc) few (omega arith) (invariants_later number))
    (λ t b. record { begun = b; few = few }))

record IsInvariant (fs : List Field) (os : List OperationTree) (held : List InvariantTree) (y : InvariantTree × Scope) : Type 0 where
  between : Between fs (all_names os (held ++ y.0 ∷ [])) (InvariantsFrom (length (held ++ y.0 ∷ []))) y.1
  passed : invariant_fault fs os held y.0 ≡ None

-- a name of neither list
apart : (fs : List Field) (os : List OperationTree) (is : List InvariantTree) (n : ℕ) → is_field_name fs n ≡ false → is_in n (all_names os is) ≡ false
    → (is_taken fs os n || is_invariant_name is n) ≡ false
apart fs os is n no_field no_other =
    let parts = or_parts (is_in n (operation_names os)) (is_in n (invariant_names is)) (sym (list_any-append (nat_eq n) (operation_names os) (invariant_names is)) ∙ no_other) in
    or_from (is_taken fs os n) (is_invariant_name is n)
    (or_from (is_field_name fs n) (is_operation_name os n) no_field (sym (list_any_view (nat_eq n) (λ (y : OperationTree). y.name) os) ∙ parts.0))
    (sym (list_any_view (nat_eq n) (λ (y : InvariantTree). y.name) is) ∙ parts.1)

one_name : (os : List OperationTree) (held : List InvariantTree) (i : InvariantTree) → all_names os held ++ i.name ∷ [] ≡ all_names os (held ++ i ∷ [])
one_name os held i =
    append_assoc (operation_names os) (invariant_names held) (i.name ∷ [])
    ∙ ap (λ (ys : List ℕ). operation_names os ++ ys) (sym (map-append (λ (y : InvariantTree). y.name) held (i ∷ [])))

invariant_is : (fs : List Field) (os : List OperationTree) (held : List InvariantTree) (s : Scope) (i : RawInvariant) → Between fs (all_names os held) (InvariantsFrom (length held)) s
    → IfOk (invariant_in (length held) s i) (IsInvariant fs os held)
unfolding invariant_in invariant_rule first_fault
invariant_is fs os held s i h =
    let number : ℕ = length held in
    let x : Owner = owner.Invariant number in
    let taken : List ℕ = all_names os held in
    let now : List ℕ = taken ++ i.name.name ∷ [] in
    after_ok (IsInvariant fs os held) (HasBegunInvariant number fs taken i) (begin_invariant number s i) _ (begin_invariant_is number fs taken s i h) (λ s2 b.
    after_ok (IsInvariant fs os held) (λ y. AreParams false x fs now y.0 y.1) (params_from false [] s2 i.params) _ (params_are false x fs now [] s2 i.params (record { inside = b.begun.inside; passed = refl })) (λ ps p.
    after_ok (IsInvariant fs os held) (λ f. formula_fault (knows fs ps.0) f ≡ None) (form_of i.form ps.1) _ (form_is ps.1 (knows fs ps.0) (agrees x fs now ps.0 ps.1 p.inside) i.form) (λ f q.
    let made : InvariantTree = record { name = i.name.name; params = ps.0; form = f; line = i.line } in
    let clash : Bool = is_taken fs os i.name.name || is_invariant_name held i.name.name in
    let params = first_fault (repeated fs) [] ps.0 in
    let rule : invariant_rule fs os held made ≡ None =
    both (broken (nat_le 64 number) N5) (first (broken clash N2) (first params (formula_fault (knows fs ps.0) f))) (no_limit 64 number b.few)
    (both (broken clash N2) (first params (formula_fault (knows fs ps.0) f)) (ap (λ b. broken b N2) (apart fs os held i.name.name b.begun.no_field b.begun.no_other))
    (both params (formula_fault (knows fs ps.0) f) p.passed q)) in
    record {
      between = ended x fs now ps.0 (all_names os (held ++ made ∷ [])) (InvariantsFrom (length (held ++ made ∷ []))) ps.1 p.inside
          (one_name os held made) (λ y. later_invariants number (length (held ++ made ∷ [])) y (length-append held (made ∷ [])));
      passed = ap (at_line i.line) rule;
    })))

record AreInvariants (fs : List Field) (os : List OperationTree) (y : List InvariantTree × Scope) : Type 0 where
  between : Between fs (all_names os y.0) (InvariantsFrom (length y.0)) y.1
  passed : first_fault (invariant_fault fs os) [] y.0 ≡ None

invariants_are : (fs : List Field) (os : List OperationTree) (held : List InvariantTree) (s : Scope) (is : List RawInvariant) → AreInvariants fs os (held, s)
    → IfOk (invariants_from held s is) (AreInvariants fs os)
unfolding invariants_from
invariants_are fs os held s [] h = h
invariants_are fs os held s (i ∷ is) h =
    after_ok (AreInvariants fs os) (IsInvariant fs os held) (invariant_in (length held) s i) _ (invariant_is fs os held s i h.between) (λ y q.
    invariants_are fs os (held ++ y.0 ∷ []) y.1 is (record { between = q.between; passed = one_more (invariant_fault fs os) [] held y.0 h.passed q.passed }))

-- ---- machines

nothing_first : (m n : ℕ) → or_nothing (slice_get (replicate m meaning.Nothing) n) ≡ meaning.Nothing
nothing_first zero n = refl
nothing_first (suc m) zero = refl
nothing_first (suc m) (suc n) = nothing_first m n

no_flag : (k : ℕ) → flag 0 k ≡ false
no_flag k = down (nat_lt k 64) where
  down : (b : Bool) → (if b then bit_at 0 k == 1 else false) ≡ false
  down true = ap (λ n. nat_eq n 1) (bit_at-zero k)
  down false = refl

none_owned : (y : Owner) → Anybody y → has_owner unowned y ≡ false
none_owned owner.Nobody a = refl
none_owned (owner.Operation k) a = no_flag k
none_owned (owner.Invariant k) a = no_flag k
none_owned (owner.Word n) a = absurd a
none_owned (owner.Thread k) a = absurd a
none_owned (owner.Last k) a = absurd a

free_first : (m n : ℕ) (y : Owner) → Anybody y → or_unowned (slice_get (replicate m unowned) n) y ≡ false
free_first zero n y a = refl
free_first (suc m) zero y a = none_owned y a
free_first (suc m) (suc n) y a = free_first m n y a

first_fields : (count : ℕ) → AreFields [] (first_scope count)
unfolding first_fault
first_fields count =
    let size : ℕ = min count 1048576 in
    record {
      between = record {
        room = record { meanings = omega (arith, length-replicate size meaning.Nothing); owners = omega (arith, length-replicate size unowned); nobody = refl; sight = refl };
        fields = record {
          few = omega arith;
          named = λ i low. absurd (omega (arith, low));
          only = λ n i t e. let clash : meaning.Nothing ≡ meaning.Field i t = sym (nothing_first size n) ∙ e in absurd cc;
        };
        taken_are = λ n e. absurd (true≢false (sym e));
        free = λ y a n. free_first size n y a;
      };
      passed = refl;
    }

abbrev Keeps : MachineTree × Scope → Type 0
Keeps x = machine_fault x.0 ≡ None

machine_is : (count : ℕ) (m : RawMachine) → IfOk (machine_in (first_scope count) m) Keeps
unfolding machine_in machine_fault first_fault
machine_is count m =
    after_ok Keeps (λ x. AreFields x.0 x.1) (fields_from [] (first_scope count) m.fields) _ (fields_are [] (first_scope count) m.fields (first_fields count)) (λ fs f.
    after_ok Keeps (AreOperations fs.0) (operations_from fs.0 [] fs.1 m.operations) _
    (operations_are fs.0 [] fs.1 m.operations (record { between = fewer fs.0 [] [] Anybody (OperationsFrom 0) fs.1 f.between refl any_operations; passed = refl })) (λ os o.
    after_ok Keeps (AreInvariants fs.0 os.0) (invariants_from [] os.1 m.invariants) _
    (invariants_are fs.0 os.0 [] os.1 m.invariants (record {
      between = fewer fs.0 (operation_names os.0) (all_names os.0 []) (OperationsFrom (length os.0)) (InvariantsFrom 0) os.1 o.between (sym (append-nil (operation_names os.0))) (then_invariants (length os.0));
      passed = refl;
    })) (λ is i.
    both (first_fault field_fault [] fs.0) (first (first_fault (operation_fault fs.0) [] os.0) (first_fault (invariant_fault fs.0 os.0) [] is.0)) f.passed
    (both (first_fault (operation_fault fs.0) [] os.0) (first_fault (invariant_fault fs.0 os.0) [] is.0) o.passed i.passed))))

pub machine_formed : (count : ℕ) (m : RawMachine) (x : MachineTree × Scope) → machine_in (first_scope count) m ≡ Ok x → machine_fault x.0 ≡ None
machine_formed count m x e = IfOk-at_ok Keeps e (machine_is count m)
