-- The obligations by marks are the obligations.
use Rattle.std.proofs.Common.{◌≡◌, ℕ, zero, suc, ◌+◌, ◌<◌, Bool, false, List, [], ◌∷◌, map, length, refl, sym, ap, ◌∙◌, arith, Option, Some, None}
use Rattle.std.specs.List.{range_with_len, AllByRecursion}
use Rattle.std.proofs.lemmas.List.{ext_get_or}
use Rattle.std.proofs.lemmas.List.FromFn.{length-map-range_with_len}
use Rattle.sync_terms.specs.Trees.{Formula}
use Rattle.sync_base.specs.declared.strategies.OpMode.{OpMode}
use Rattle.sync_base.specs.declared.strategies.OpMode.TheVariants as mode
use Rattle.sync_machine.specs.Machines.{StepTree, OperationTree, InvariantTree, MachineTree}
use Rattle.sync_machine.specs.Statements.{changed_by}
use Rattle.sync_rules.specs.Obligations.{form_names, touches, is_touched, is_kept_by, keeps_claims, claims_of, obligations_of}
use Rattle.sync_rules.specs.FieldSets.{has, marks_of, marks_of_all, is_marked, is_changed, is_marked_by, marked_claims, all_claims, IsSmall, ChangesFields, HasFewFields}

has-range : (p : ℕ → Bool) (n from x : ℕ) → x < n → has (map p (range_with_len from n)) x ≡ p (from + x)
has-range p zero from x h = absurd (omega arith)
has-range p (suc n) from zero h = ap p (omega arith)
has-range p (suc n) from (suc x) h = has-range p n (from + 1) x (omega arith) ∙ ap p (omega arith)

pub has-marks : (form : Formula) (x : ℕ) → x < 32 → has (marks_of form) x ≡ form_names x form
unfolding marks_of
has-marks form x h = has-range (λ y. form_names y form) 32 0 x h ∙ ap (λ y. form_names y form) (omega arith)

-- marks of the first 32 fields that are right are all marks
pub marks_of-from_places : (form : Formula) (marks : List Bool) → length marks ≡ 32 → ((x : ℕ) → x < 32 → has marks x ≡ form_names x form) → marks ≡ marks_of form
unfolding marks_of
marks_of-from_places form marks n h =
    let e : length (map (λ x. form_names x form) (range_with_len 0 32)) ≡ 32 = length-map-range_with_len (λ x. form_names x form) 0 32 in
    ext_get_or false _ _ (n ∙ sym e) (λ x l. h x (omega arith) ∙ sym (has-marks form x (omega arith)))

marked-touches : (form : Formula) (f : Option ℕ) → IsSmall f → is_marked (marks_of form) f ≡ touches form f
marked-touches form None h = refl
marked-touches form (Some f) h = has-marks form f h

changed-touched : (form : Formula) (ss : List StepTree) → ChangesFields ss → is_changed (marks_of form) ss ≡ is_touched form ss
changed-touched form [] h = refl
changed-touched form (s ∷ ss) h = rw (marked-touches form (changed_by s.act) h.0, changed-touched form ss h.1)

marked-kept : (m : OpMode) (ss : List StepTree) (form : Formula) → ChangesFields ss → is_marked_by m ss (marks_of form) ≡ is_kept_by m ss form
marked-kept mode.Init ss form h = refl
marked-kept mode.Transition ss form h = changed-touched form ss h
marked-kept mode.Property ss form h = refl

marked-keeps : (o : OperationTree) (op j : ℕ) (is : List InvariantTree) → ChangesFields o.steps → marked_claims o op j (marks_of_all is) ≡ keeps_claims o op j is
unfolding marked_claims keeps_claims
marked-keeps o op j [] h = refl
marked-keeps o op j (i ∷ is) h = rw (marked-kept o.mode o.steps i.form h, marked-keeps o op (suc j) is h)

all-claims : (m : MachineTree) (op : ℕ) (os : List OperationTree) → AllByRecursion (λ (o : OperationTree). ChangesFields o.steps) os → all_claims m.fields (marks_of_all m.invariants) op os ≡ claims_of m op os
unfolding all_claims claims_of
all-claims m op [] h = refl
all-claims m op (o ∷ os) h = rw (marked-keeps o op 0 m.invariants h.0, all-claims m (suc op) os h.1)

-- what is listed by marks is what has to be proved
pub all_claims-obligations : (m : MachineTree) → HasFewFields m → all_claims m.fields (marks_of_all m.invariants) 0 m.ops ≡ obligations_of m
all_claims-obligations m h = all-claims m 0 m.ops h
