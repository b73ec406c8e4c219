-- The scope behind a machine and its proofs is one where a program may begin.
use Rattle.std.proofs.Common.{◌≡◌, ℕ, zero, suc, ◌+◌, ◌<◌, ◌≤◌, Bool, true, false, if◌then◌else◌, List, [], ◌∷◌, ◌++◌, length, map, slice_get, slice_set, slice_index_or, nat_eq, min, Option, Some, None, Result, Ok, refl, sym, ap, subst, ◌∙◌, true≢false, length-set, length-append, arith}
use Rattle.std.specs.Prelude.{replicate}
use Rattle.std.specs.List.{AllByRecursion}
use Rattle.std.specs.Result.{IfOk}
use Rattle.std.proofs.lemmas.Bool.{eq-eqb, eqb-true}
use Rattle.std.proofs.lemmas.List.{length-replicate, length-map, map-append}
use Rattle.sync_base.specs.declared.stops.Rule.TheVariants.{N2}
use Rattle.sync_base.specs.declared.strategies.Strategy.{Strategy}
use Rattle.sync_base.specs.declared.strategies.Strategy.TheVariants.{NotTokenized}
use Rattle.sync_machine.specs.declared.fields.Field.{Field}
use Rattle.sync_machine.specs.Machines.{PlaceTree, ActTree, StepTree, OperationTree, InvariantTree}
use Rattle.sync_machine.specs.Machines as machines
use Rattle.sync_machine.specs.States.{strategy_at}
use Rattle.sync_terms.specs.Proofs.{ProofTree}
use Rattle.sync_parse.specs.declared.trees.RawField.{RawField}
use Rattle.sync_parse.specs.declared.trees.RawPattern.{RawPattern}
use Rattle.sync_parse.specs.declared.trees.RawPattern.TheVariants as pattern
use Rattle.sync_parse.specs.declared.trees.RawPlace.{RawPlace}
use Rattle.sync_parse.specs.declared.trees.RawPlace.TheVariants as place
use Rattle.sync_parse.specs.declared.trees.RawAct.{RawAct}
use Rattle.sync_parse.specs.declared.trees.RawAct.TheVariants as raw
use Rattle.sync_parse.specs.declared.trees.RawStep.{RawStep}
use Rattle.sync_parse.specs.declared.trees.RawOperation.{RawOperation}
use Rattle.sync_parse.specs.declared.trees.RawInvariant.{RawInvariant}
use Rattle.sync_parse.specs.declared.trees.RawMachine.{RawMachine}
use Rattle.sync_parse.specs.declared.trees.RawProof.{RawProof}
use Rattle.sync_parse_exprs.specs.declared.raw_names.RawName.{RawName}
use Rattle.sync_read_names.specs.declared.scopes.Sort.{Sort}
use Rattle.sync_read_names.specs.declared.scopes.Sort.TheVariants as sort
use Rattle.sync_read_names.specs.declared.scopes.Meaning.{Meaning}
use Rattle.sync_read_names.specs.declared.scopes.Meaning.TheVariants as meaning
use Rattle.sync_read_names.specs.declared.scopes.Owners.{Owners}
use Rattle.sync_read_names.specs.declared.scopes.Owner.{Owner}
use Rattle.sync_read_names.specs.declared.scopes.Owner.TheVariants as owner
use Rattle.sync_read_names.specs.declared.scopes.Scope.{Scope}
use Rattle.sync_read_names.specs.Scopes.{refuse, meaning_of, or_nothing, declare, with_owner, is_taken, own_more, own}
use Rattle.sync_read_names.specs.Exprs.{term_of, form_of}
use Rattle.sync_read.specs.Acts.{few_before, strategy_sort, new_field, add_field, fields_from, most_params, add_param, params_from, field_in, pattern_in, place_in, field_term, field_place, act_at, act_in, steps_from}
use Rattle.sync_read.specs.Resolving.{is_started, begin_operation, operation_in, operations_from, begin_invariant, invariant_in, invariants_from, machine_in}
use Rattle.sync_read.specs.Scripts.{operation_meaning, claim_in, block_of, script_scope, proof_in, proofs_from}
use Rattle.sync_read.specs.Texts.{ResolvedTree, unowned, first_scope, resolved}
use Rattle.sync_read.proofs.Chains.{after, after_ok, if_ok}
use Rattle.sync_read.proofs.Declaring.{declared, declare_is, declared_here, declared_other}
use Rattle.sync_read_laws.specs.Laws.{IsFree, IsBehind, ReadTextsKeepNames}
use Rattle.sync_read_laws.proofs.ProgramsRead.{read_programs_keep_names}

-- an operation, an invariant or nobody
abbrev is_machines : Owner → Bool
is_machines owner.Nobody = true
is_machines (owner.Operation k) = true
is_machines (owner.Invariant k) = true
is_machines (owner.Word k) = false
is_machines (owner.Thread k) = false
is_machines (owner.Last k) = false

record Kept (fs : List Field) (s : Scope) : Type 0 where
  meanings : length s.meanings ≤ 1048576
  owners : length s.owners ≤ 1048576
  sorts : (n f : ℕ) (t : Sort) → meaning_of s n ≡ meaning.Field f t → (f < length fs) × (t ≡ strategy_sort (strategy_at fs f))
  free : AllByRecursion IsFree s.owners
  mine : is_machines s.owner ≡ true

free_set : (os : List Owners) (n : ℕ) (o : Owners) → AllByRecursion IsFree os → IsFree o → AllByRecursion IsFree (slice_set os n o)
free_set [] n o h f = tt
free_set (x ∷ os) zero o h f = (f, h.1)
free_set (x ∷ os) (suc n) o h f = (h.0, free_set os n o h.1 f)

free_at : (os : List Owners) (n : ℕ) (o : Owners) → AllByRecursion IsFree os → slice_get os n ≡ Some o → IsFree o
free_at [] n o h e = absurd (no o e) where
  no : (o : Owners) → None ≡ Some o → ⊥
  no o e = cc
free_at (x ∷ os) zero o h e = subst IsFree (same x o e) h.0 where
  same : (x o : Owners) → Some x ≡ Some o → x ≡ o
  same x o e = cc
free_at (x ∷ os) (suc n) o h e = free_at os n o h.1 e

free_owned : (o : Owners) (x : Owner) → is_machines x ≡ true → IsFree o → IsFree (with_owner o x)
free_owned o owner.Nobody e h = h
free_owned o (owner.Operation k) e h = record { word = h.word; local = h.local; proof = h.proof }
free_owned o (owner.Invariant k) e h = record { word = h.word; local = h.local; proof = h.proof }
free_owned o (owner.Word k) e h = absurd (true≢false (sym e))
free_owned o (owner.Thread k) e h = absurd (true≢false (sym e))
free_owned o (owner.Last k) e h = absurd (true≢false (sym e))

own_keeps : (fs : List Field) (s : Scope) (n : RawName) → Kept fs s → IfOk (own s n) (Kept fs)
own_keeps fs s n h = by (slice_get s.owners n.name) refl where
  test : (o : Owners) (b : Bool) → slice_get s.owners n.name ≡ Some o → IfOk (if b then refuse N2 n.line else Ok (record s { owners = slice_set s.owners n.name (with_owner o s.owner) })) (Kept fs)
  test o true there = tt
  test o false there = record {
    meanings = h.meanings;
    owners = subst (λ k. k ≤ 1048576) (sym (length-set s.owners n.name (with_owner o s.owner))) h.owners;
    sorts = h.sorts;
    free = free_set s.owners n.name (with_owner o s.owner) h.free (free_owned o s.owner h.mine (free_at s.owners n.name o h.free there));
    mine = h.mine;
  }

  by : (o : Option Owners) → slice_get s.owners n.name ≡ o → IfOk (own_more o s n) (Kept fs)
  by None there = tt
  by (Some o) there = test o (is_taken s n.name) there

-- ---- statements

pattern_keeps : (fs : List Field) (p : RawPattern) (s : Scope) → Kept fs s → IfOk (pattern_in p s) (λ r. Kept fs r.1)
pattern_keeps fs (pattern.Bind n) s h = after_ok _ (Kept fs) (own s n) _ (own_keeps fs s n h) (λ a k. k)
pattern_keeps fs (pattern.Term e) s h = after _ (term_of sort.Number e s) _ (λ t. h)

place_keeps : (fs : List Field) (p : RawPlace) (s : Scope) → Kept fs s → IfOk (place_in p s) (λ r. Kept fs r.1)
place_keeps fs (place.Value p) s h = after_ok _ (λ r. Kept fs r.1) (pattern_in p s) _ (pattern_keeps fs p s h) (λ r k. k)
place_keeps fs (place.Key e) s h = after _ (term_of sort.Number e s) _ (λ t. h)
place_keeps fs (place.Entry e p) s h = after _ (term_of sort.Number e s) _ (λ t. after_ok _ (λ r. Kept fs r.1) (pattern_in p s) _ (pattern_keeps fs p s h) (λ r k. k))

act_at_keeps : (fs : List Field) (does : ℕ → PlaceTree → ActTree) (n : RawName) (p : RawPlace) (s : Scope) → Kept fs s → IfOk (act_at does n p s) (λ r. Kept fs r.1)
act_at_keeps fs does n p s h =
    after_ok _ (λ r. Kept fs r.2) (field_place n p s) _ (after _ (field_in s n) _ (λ f. after_ok _ (λ r. Kept fs r.1) (place_in p s) _ (place_keeps fs p s h) (λ r k. k))) (λ r k. k)

act_keeps : (fs : List Field) (a : RawAct) (s : Scope) → Kept fs s → IfOk (act_in a s) (λ r. Kept fs r.1)
act_keeps fs (raw.Init n e) s h = after _ (field_term n e s) _ (λ t. h)
act_keeps fs (raw.Require e) s h = after _ (form_of e s) _ (λ t. h)
act_keeps fs (raw.Assert e) s h = after _ (form_of e s) _ (λ t. h)
act_keeps fs (raw.Update n e) s h = after _ (field_term n e s) _ (λ t. h)
act_keeps fs (raw.HaveVariable n) s h = after _ (field_in s n) _ (λ t. h)
act_keeps fs (raw.Have n p) s h = act_at_keeps fs machines.Have n p s h
act_keeps fs (raw.Guard n p) s h = act_at_keeps fs machines.Guard n p s h
act_keeps fs (raw.Add n p) s h = act_at_keeps fs machines.Add n p s h
act_keeps fs (raw.Deposit n p) s h = act_at_keeps fs machines.Deposit n p s h
act_keeps fs (raw.Remove n p) s h = act_at_keeps fs machines.Remove n p s h
act_keeps fs (raw.Withdraw n p) s h = act_at_keeps fs machines.Withdraw n p s h

steps_keep : (fs : List Field) (held : List StepTree) (s : Scope) (raw : List RawStep) → Kept fs s → IfOk (steps_from held s raw) (λ r. Kept fs r.1)
unfolding steps_from
steps_keep fs held s [] h = h
steps_keep fs held s (a ∷ raw) h = after _ (few_before 64 (length held) a.line) _ (λ n. after_ok _ (λ r. Kept fs r.1) (act_in a.what s) _ (act_keeps fs a.what s h) (λ x k. steps_keep fs (held ++ record { act = x.0; line = a.line } ∷ []) x.1 raw k))

params_keep : (fs : List Field) (limited : Bool) (held : List ℕ) (s : Scope) (ns : List RawName) → Kept fs s → IfOk (params_from limited held s ns) (λ r. Kept fs r.1)
unfolding params_from
params_keep fs limited held s [] h = h
params_keep fs limited held s (n ∷ ns) h =
    after_ok _ (Kept fs) (add_param limited (length held) s n) _ (after_ok (Kept fs) (Kept fs) (own s n) _ (own_keeps fs s n h) (λ a k. after (Kept fs) (most_params limited (length held) n.line) _ (λ m. k)))
    (λ a k. params_keep fs limited (held ++ _ ∷ []) a ns k)

-- ---- declarations

abbrev no_field : Meaning → Type 0
no_field m = (f : ℕ) (t : Sort) → m ≡ meaning.Field f t → ⊥

declare_keeps : (fs : List Field) (s : Scope) (n : RawName) (m : Meaning) → no_field m → Kept fs s → IfOk (declare s n m) (Kept fs)
declare_keeps fs s n m none h = declare_is (Kept fs) s n m (λ low new. record {
  meanings = subst (λ k. k ≤ 1048576) (sym (length-set s.meanings n.name m)) h.meanings;
  owners = h.owners;
  sorts = λ j f t is. by j f t low is (nat_eq j n.name) refl;
  free = h.free;
  mine = h.mine;
}) where
  by : (j f : ℕ) (t : Sort) → n.name < length s.meanings → meaning_of (declared s n.name m) j ≡ meaning.Field f t → (b : Bool) → nat_eq j n.name ≡ b → (f < length fs) × (t ≡ strategy_sort (strategy_at fs f))
  by j f t low is true e = absurd (none f t (sym (ap (meaning_of (declared s n.name m)) (eqb-true j n.name e) ∙ declared_here s n.name m low) ∙ is))
  by j f t low is false e = h.sorts j f t (sym (declared_other s n.name m j (λ q. absurd (true≢false (sym (eq-eqb j n.name q) ∙ e)))) ∙ is)

-- ---- fields

abbrev is_no_field : Meaning → Bool
is_no_field (meaning.Field i t) = false
is_no_field meaning.Nothing = true
is_no_field (meaning.Operation i) = true
is_no_field (meaning.Invariant i) = true

index_before : (xs : List Strategy) (y d : Strategy) (i : ℕ) → i < length xs → slice_index_or (xs ++ y ∷ []) i d ≡ slice_index_or xs i d
index_before [] y d i below = absurd (omega (arith, below))
index_before (x ∷ xs) y d zero below = refl
index_before (x ∷ xs) y d (suc i) below = index_before xs y d i (omega (arith, below))

index_last : (xs : List Strategy) (y d : Strategy) (i : ℕ) → i ≡ length xs → slice_index_or (xs ++ y ∷ []) i d ≡ y
index_last [] y d i at = ap (λ k. slice_index_or (y ∷ []) k d) at
index_last (x ∷ xs) y d zero at = absurd (omega (arith, at))
index_last (x ∷ xs) y d (suc i) at = index_last xs y d i (omega (arith, at))

abbrev strategy_of : Field → Strategy
strategy_of f = f.strategy

at_before : (fs : List Field) (f : Field) (i : ℕ) → i < length fs → strategy_at (fs ++ f ∷ []) i ≡ strategy_at fs i
at_before fs f i below = ap (λ xs. slice_index_or xs i NotTokenized) (map-append strategy_of fs (f ∷ [])) ∙ index_before (map strategy_of fs) f.strategy NotTokenized i (omega (arith, below, length-map fs strategy_of))

at_last : (fs : List Field) (f : Field) → strategy_at (fs ++ f ∷ []) (length fs) ≡ f.strategy
at_last fs f = ap (λ xs. slice_index_or xs (length fs) NotTokenized) (map-append strategy_of fs (f ∷ [])) ∙ index_last (map strategy_of fs) f.strategy NotTokenized (length fs) (sym (length-map fs strategy_of))

abbrev field_at : Meaning → ℕ
field_at (meaning.Field i t) = i
field_at meaning.Nothing = 0
field_at (meaning.Operation i) = 0
field_at (meaning.Invariant i) = 0

abbrev sort_at : Meaning → Sort
sort_at (meaning.Field i t) = t
sort_at meaning.Nothing = sort.Number
sort_at (meaning.Operation i) = sort.Number
sort_at (meaning.Invariant i) = sort.Number

field_keeps : (fs : List Field) (s : Scope) (f : RawField) → Kept fs s → IfOk (add_field (length fs) s f) (Kept (fs ++ new_field f ∷ []))
field_keeps fs s f h = after (Kept (fs ++ new_field f ∷ [])) (few_before 32 (length fs) f.line) _ (λ n. declare_is (Kept (fs ++ new_field f ∷ [])) s f.name (meaning.Field (length fs) (strategy_sort f.strategy)) (λ low new. record {
  meanings = subst (λ k. k ≤ 1048576) (sym (length-set s.meanings f.name.name (meaning.Field (length fs) (strategy_sort f.strategy)))) h.meanings;
  owners = h.owners;
  sorts = λ j i t is. by j i t low is (nat_eq j f.name.name) refl;
  free = h.free;
  mine = h.mine;
})) where
  longer : length (fs ++ new_field f ∷ []) ≡ length fs + 1
  longer = length-append fs (new_field f ∷ [])

  by : (j i : ℕ) (t : Sort) → f.name.name < length s.meanings → meaning_of (declared s f.name.name (meaning.Field (length fs) (strategy_sort f.strategy))) j ≡ meaning.Field i t → (b : Bool) → nat_eq j f.name.name ≡ b
      → (i < length (fs ++ new_field f ∷ [])) × (t ≡ strategy_sort (strategy_at (fs ++ new_field f ∷ []) i))
  by j i t low is true e =
      let m : Meaning = meaning.Field (length fs) (strategy_sort f.strategy) in
      let same : m ≡ meaning.Field i t = sym (ap (meaning_of (declared s f.name.name m)) (eqb-true j f.name.name e) ∙ declared_here s f.name.name m low) ∙ is in
      let at : length fs ≡ i = ap field_at same in
      (omega (arith, at, longer), sym (ap sort_at same) ∙ ap strategy_sort (sym (at_last fs (new_field f))) ∙ ap (λ k. strategy_sort (strategy_at (fs ++ new_field f ∷ []) k)) at)
  by j i t low is false e =
      let m : Meaning = meaning.Field (length fs) (strategy_sort f.strategy) in
      let was = h.sorts j i t (sym (declared_other s f.name.name m j (λ q. absurd (true≢false (sym (eq-eqb j f.name.name q) ∙ e)))) ∙ is) in
      (omega (arith, was.0, longer), was.1 ∙ ap strategy_sort (sym (at_before fs (new_field f) i was.0)))

fields_keep : (fs : List Field) (s : Scope) (raw : List RawField) → Kept fs s → IfOk (fields_from fs s raw) (λ r. Kept r.0 r.1)
unfolding fields_from
fields_keep fs s [] h = h
fields_keep fs s (f ∷ raw) h = after_ok _ (Kept (fs ++ new_field f ∷ [])) (add_field (length fs) s f) _ (field_keeps fs s f h) (λ a k. fields_keep (fs ++ new_field f ∷ []) a raw k)

-- ---- operations and invariants

no_operation : (n : ℕ) → no_field (meaning.Operation n)
no_operation n f t e = absurd (true≢false (ap is_no_field e))

no_invariant : (n : ℕ) → no_field (meaning.Invariant n)
no_invariant n f t e = absurd (true≢false (ap is_no_field e))

placed : (fs : List Field) (s : Scope) (o : Owner) → is_machines o ≡ true → Kept fs s → Kept fs (record s { owner = o })
placed fs s o e h = record { meanings = h.meanings; owners = h.owners; sorts = h.sorts; free = h.free; mine = e }

operation_keeps : (fs : List Field) (number : ℕ) (s : Scope) (o : RawOperation) → Kept fs s → IfOk (operation_in number fs s o) (λ r. Kept fs r.1)
unfolding operation_in begin_operation
operation_keeps fs number s o h =
    after_ok _ (Kept fs) (begin_operation number fs s o) _
    (if_ok (Kept fs) (is_started o.mode fs o.steps) _ _ (λ e. after (Kept fs) (few_before 64 number o.line) _ (λ n. after_ok (Kept fs) (Kept fs) (declare s o.name (meaning.Operation number)) _ (declare_keeps fs s o.name (meaning.Operation number) (no_operation number) h) (λ a k. placed fs a (owner.Operation number) refl k))))
    (λ s2 k2. after_ok _ (λ r. Kept fs r.1) (params_from true [] s2 o.params) _ (params_keep fs true [] s2 o.params k2) (λ ps k3.
    after_ok _ (λ r. Kept fs r.1) (steps_from [] ps.1 o.steps) _ (steps_keep fs [] ps.1 o.steps k3) (λ xs k4. k4)))

operations_keep : (fs : List Field) (held : List OperationTree) (s : Scope) (raw : List RawOperation) → Kept fs s → IfOk (operations_from fs held s raw) (λ r. Kept fs r.1)
unfolding operations_from
operations_keep fs held s [] h = h
operations_keep fs held s (o ∷ raw) h = after_ok _ (λ r. Kept fs r.1) (operation_in (length held) fs s o) _ (operation_keeps fs (length held) s o h) (λ x k. operations_keep fs (held ++ x.0 ∷ []) x.1 raw k)

invariant_keeps : (fs : List Field) (number : ℕ) (s : Scope) (i : RawInvariant) → Kept fs s → IfOk (invariant_in number s i) (λ r. Kept fs r.1)
unfolding invariant_in begin_invariant
invariant_keeps fs number s i h =
    after_ok _ (Kept fs) (begin_invariant number s i) _
    (after (Kept fs) (few_before 64 number i.line) _ (λ n. after_ok (Kept fs) (Kept fs) (declare s i.name (meaning.Invariant number)) _ (declare_keeps fs s i.name (meaning.Invariant number) (no_invariant number) h) (λ a k. placed fs a (owner.Invariant number) refl k)))
    (λ s2 k2. after_ok _ (λ r. Kept fs r.1) (params_from false [] s2 i.params) _ (params_keep fs false [] s2 i.params k2) (λ ps k3. after _ (form_of i.form ps.1) _ (λ f. k3)))

invariants_keep : (fs : List Field) (held : List InvariantTree) (s : Scope) (raw : List RawInvariant) → Kept fs s → IfOk (invariants_from held s raw) (λ r. Kept fs r.1)
unfolding invariants_from
invariants_keep fs held s [] h = h
invariants_keep fs held s (i ∷ raw) h = after_ok _ (λ r. Kept fs r.1) (invariant_in (length held) s i) _ (invariant_keeps fs (length held) s i h) (λ x k. invariants_keep fs (held ++ x.0 ∷ []) x.1 raw k)

machine_keeps : (s : Scope) (m : RawMachine) → Kept [] s → IfOk (machine_in s m) (λ r. Kept r.0.fields r.1)
unfolding machine_in
machine_keeps s m h =
    after_ok _ (λ r. Kept r.0 r.1) (fields_from [] s m.fields) _ (fields_keep [] s m.fields h) (λ fs k1.
    after_ok _ (λ r. Kept fs.0 r.1) (operations_from fs.0 [] fs.1 m.operations) _ (operations_keep fs.0 [] fs.1 m.operations k1) (λ os k2.
    after_ok _ (λ r. Kept fs.0 r.1) (invariants_from [] os.1 m.invariants) _ (invariants_keep fs.0 [] os.1 m.invariants k2) (λ is k3. k3)))

-- ---- proofs, whole texts

proof_keeps : (fs : List Field) (before : ℕ) (s : Scope) (p : RawProof) → Kept fs s → IfOk (proof_in before s p) (λ r. Kept fs r.1)
unfolding proof_in
proof_keeps fs before s p h =
    after _ (operation_meaning (meaning_of s p.operation.name) p.operation.line) _ (λ o.
    after _ (claim_in s p.claim) _ (λ c.
    after _ (few_before 65536 before p.script.line) _ (λ n.
    after _ (block_of (script_scope o c s) p.script.block) _ (λ b. record { meanings = h.meanings; owners = h.owners; sorts = h.sorts; free = h.free; mine = refl }))))

proofs_keep : (fs : List Field) (held : List ProofTree) (s : Scope) (raw : List RawProof) → Kept fs s → IfOk (proofs_from held s raw) (λ r. Kept fs r.1)
unfolding proofs_from
proofs_keep fs held s [] h = h
proofs_keep fs held s (p ∷ raw) h = after_ok _ (λ r. Kept fs r.1) (proof_in (length held) s p) _ (proof_keeps fs (length held) s p h) (λ x k. proofs_keep fs (held ++ x.0 ∷ []) x.1 raw k)

free_first : (n : ℕ) → AllByRecursion IsFree (replicate n unowned)
free_first zero = tt
free_first (suc n) = (record { word = refl; local = refl; proof = refl }, free_first n)

nothing_first : (k n : ℕ) → or_nothing (slice_get (replicate k meaning.Nothing) n) ≡ meaning.Nothing
nothing_first zero n = refl
nothing_first (suc k) zero = refl
nothing_first (suc k) (suc n) = nothing_first k n

first_kept : (count : ℕ) → Kept [] (first_scope count)
first_kept count =
    let k = min count 1048576 in record {
      meanings = subst (λ n. n ≤ 1048576) (sym (length-replicate k meaning.Nothing)) (omega arith);
      owners = subst (λ n. n ≤ 1048576) (sym (length-replicate k unowned)) (omega arith);
      sorts = λ n f t is. absurd (true≢false (ap is_no_field (sym (nothing_first k n) ∙ is)));
      free = free_first k;
      mine = refl;
    }

pub resolved_is_behind : (names : ℕ) (m : RawMachine) (proofs : List RawProof) → IfOk (resolved names m proofs) (λ (r : ResolvedTree). IsBehind r.machine r.scope)
resolved_is_behind names m proofs =
    after_ok _ (λ r. Kept r.0.fields r.1) (machine_in (first_scope names) m) _ (machine_keeps (first_scope names) m (first_kept names)) (λ x k1.
    after_ok _ (λ r. Kept x.0.fields r.1) (proofs_from [] x.1 proofs) _ (proofs_keep x.0.fields [] x.1 proofs k1) (λ ps k2. record {
      meanings = k2.meanings;
      owners = k2.owners;
      sorts = λ n f t is. (k2.sorts n f t is).1;
      free = k2.free;
    }))

-- what is known of an answer that is there
answered : {A E : Type 0} (P : A → Type 0) (r : Result A E) (a : A) → r ≡ Ok a → IfOk r P → P a
answered P r a e h = subst (λ z. IfOk z P) e h

pub read_texts_keep_names : ReadTextsKeepNames
read_texts_keep_names names machine proofs scripts program r p e f =
    read_programs_keep_names r.machine r.scope scripts program p (answered (λ (z : ResolvedTree). IsBehind z.machine z.scope) (resolved names machine proofs) r e (resolved_is_behind names machine proofs)) f
