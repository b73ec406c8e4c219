-- The answer on a whole machine, and the machine over its store that has grown.
use Rattle.std.proofs.Common.{◌≡◌, ℕ, Bool, List, [], ◌∷◌, map, All, Option, Some, None, Err, refl, sym, ap, subst, ◌∙◌}
use Rattle.std.specs.Prelude.{slice_get}
use Rattle.std.specs.Option.{option_map}
use Rattle.std.specs.List.{AllByRecursion}
use Rattle.std.proofs.lemmas.Option.{slice_get-map}
use Rattle.sync_base.specs.declared.stops.Refusal.{Refusal}
use Rattle.sync_base.specs.declared.stops.Stop.{Stop}
use Rattle.sync_base.specs.declared.stops.Stop.TheVariants.{Refused, Memory}
use Rattle.sync_base.specs.Outcome.{first, Passes}
use Rattle.sync_terms.specs.Stored.{Stored, Extends}
use Rattle.sync_machine.specs.declared.fields.Field.{Field}
use Rattle.sync_machine.specs.declared.machine.Invariant.{Invariant}
use Rattle.sync_machine.specs.declared.machine.Step.{Step}
use Rattle.sync_machine.specs.declared.machine.Operation.{Operation}
use Rattle.sync_machine.specs.declared.machine.Machine.{Machine}
use Rattle.sync_machine.specs.Machines.{MachineTree}
use Rattle.sync_machine.specs.Views.{operation_tree, invariant_tree, machine_tree, HasActIds, HasOwnIds}
use Rattle.sync_machine.specs.Named.{IsNamed}
use Rattle.sync_terms.specs.declared.proofs.Obligation.{Obligation}
use Rattle.sync_rules.specs.Obligations.{obligations_of}
use Rattle.sync_induct.specs.declared.index.Title.{Title}
use Rattle.sync_terms.specs.declared.proofs.Proof.{Proof}
use Rattle.sync_induct.specs.Checklist.{checks_from, checks_of}
use Rattle.sync_induct.specs.Checks.{has_title, stray_fault, checks_fault, proof_fault}
use Rattle.sync_terms.specs.Proofs.{ProofTree, title_of, titles_of, proofs_in}
use Rattle.sync_induct.specs.Closing.{IsKeepable, AreWanted}
use Rattle.sync_induct.proofs.Lasting.{operation-stays, invariants-stay}
use Rattle.sync_induct.proofs.Ready.{operations-ids, invariants-keepable}
use Rattle.sync_induct.proofs.Wanting.{wanted-of}

-- ---- the machine over a larger store

operations-stay : (s t : Stored) (e : Extends s t) (os : List Operation) → AllByRecursion (λ (o : Operation). AllByRecursion (λ (x : Step). HasActIds s x.act) o.steps) os → map (operation_tree t) os ≡ map (operation_tree s) os
operations-stay s t e [] h = refl
operations-stay s t e (o ∷ os) h = let one = operation-stays s t e o h.0 in let more = operations-stay s t e os h.1 in λ i. one i ∷ more i

pub machine-stays : (m : Machine) (t : Stored) → HasOwnIds m → Extends m.terms t → machine_tree (record { name = m.name; fields = m.fields; ops = m.ops; invariants = m.invariants; terms = t }) ≡ machine_tree m
machine-stays m t ids e =
    let ops = operations-stay m.terms t e m.ops ids.ops in
    let invariants = invariants-stay m.terms t e m.invariants ids.invariants in
    λ i. record { name = m.name; fields = m.fields; ops = ops i; invariants = invariants i }

-- ---- the answer

titles-are : (s : Stored) (ps : List Proof) → map (λ (p : ProofTree). p.title) (proofs_in s ps) ≡ titles_of ps
titles-are s [] = refl
titles-are s (p ∷ ps) = ap (λ (os : List Obligation). title_of p ∷ os) (titles-are s ps)

stops-first : (A B : Type 0) (e : Stop) (x y : Option Refusal) → Passes {A = A} (Err e) x → Passes {A = B} (Err e) (first x y)
stops-first A B Memory x y p = tt
stops-first A B (Refused r) x y p = ap (λ (a : Option Refusal). first a y) p

stops-second : (A B : Type 0) (e : Stop) (x y : Option Refusal) → x ≡ None → Passes {A = A} (Err e) y → Passes {A = B} (Err e) (first x y)
stops-second A B Memory x y none p = tt
stops-second A B (Refused r) x y none p = ap (λ (a : Option Refusal). first a y) none ∙ p

module _ (s : Stored) (m : MachineTree) (ps : List Proof) where
  -- both parts of the answer, one after the other
  answer-is : first (stray_fault (obligations_of m) [] (titles_of ps)) (checks_fault (proofs_in s ps) (checks_of m)) ≡ proof_fault m (proofs_in s ps)
  answer-is = ap (λ (os : List Obligation). first (stray_fault (obligations_of m) [] os) (checks_fault (proofs_in s ps) (checks_of m))) (sym (titles-are s ps))

  -- a proof is of no obligation, or a second one
  pub stray-answer : (A B : Type 0) (e : Stop) → Passes {A = A} (Err e) (stray_fault (obligations_of m) [] (titles_of ps)) → Passes {A = B} (Err e) (proof_fault m (proofs_in s ps))
  stray-answer A B e h = subst (λ (x : Option Refusal). Passes {A = B} (Err e) x) answer-is
      (stops-first A B e (stray_fault (obligations_of m) [] (titles_of ps)) (checks_fault (proofs_in s ps) (checks_of m)) h)

  module _ (none : stray_fault (obligations_of m) [] (titles_of ps) ≡ None) where
    pub check-answer : (A B : Type 0) (e : Stop) → Passes {A = A} (Err e) (checks_fault (proofs_in s ps) (checks_of m)) → Passes {A = B} (Err e) (proof_fault m (proofs_in s ps))
    check-answer A B e h = subst (λ (x : Option Refusal). Passes {A = B} (Err e) x) answer-is
        (stops-second A B e (stray_fault (obligations_of m) [] (titles_of ps)) (checks_fault (proofs_in s ps) (checks_of m)) none h)

    pub no-answer : checks_fault (proofs_in s ps) (checks_of m) ≡ None → proof_fault m (proofs_in s ps) ≡ None
    no-answer h = sym answer-is ∙ (ap (λ (x : Option Refusal). first x (checks_fault (proofs_in s ps) (checks_of m))) none ∙ h)

-- the titles of the obligations, operation by operation
pub wanted-in : (m : Machine) (is_wanted : Title → Bool) (ops : List Operation) → ((t : Title) → is_wanted t ≡ has_title (obligations_of (machine_tree m)) t) → ops ≡ m.ops → (k : ℕ) (o : Operation) → slice_get ops k ≡ Some o
    → AreWanted is_wanted k (operation_tree m.terms o) (map (invariant_tree m.terms) m.invariants)
wanted-in m is_wanted ops knows same k o e =
    wanted-of (machine_tree m) is_wanted knows k (operation_tree m.terms o)
    (slice_get-map (operation_tree m.terms) m.ops k ∙ ap (option_map (operation_tree m.terms)) (ap (λ (xs : List Operation). slice_get xs k) (sym same) ∙ e))

-- ---- the machine's lists, as the code meets them

module _ (m : Machine) (fs : List Field) (is : List Invariant) (os : List Operation) (fields : fs ≡ m.fields) (invariants : is ≡ m.invariants) (ops : os ≡ m.ops) where
  pub checks-are : checks_from fs (map (invariant_tree m.terms) is) 0 (map (operation_tree m.terms) os) ≡ checks_of (machine_tree m)
  checks-are = λ j. checks_from (fields j) (map (invariant_tree m.terms) (invariants j)) 0 (map (operation_tree m.terms) (ops j))

  pub met-keepable : HasOwnIds m → IsNamed (machine_tree m) → AllByRecursion (IsKeepable m.terms) is
  met-keepable ids named = subst (λ (xs : List Invariant). AllByRecursion (IsKeepable m.terms) xs) (sym invariants) (invariants-keepable m.terms m.fields m.invariants ids.invariants named.invariants)

  pub met-ids : HasOwnIds m → AllByRecursion (λ (o : Operation). All (λ (x : Step). HasActIds m.terms x.act) o.steps) os
  met-ids ids = subst (λ (xs : List Operation). AllByRecursion (λ (o : Operation). All (λ (x : Step). HasActIds m.terms x.act) o.steps) xs) (sym ops) (operations-ids m.terms m.ops ids.ops)

  pub met-wanted : (is_wanted : Title → Bool) → ((t : Title) → is_wanted t ≡ has_title (obligations_of (machine_tree m)) t) → (k : ℕ) (o : Operation) → slice_get os k ≡ Some o
      → AreWanted is_wanted k (operation_tree m.terms o) (map (invariant_tree m.terms) is)
  met-wanted is_wanted knows k o e =
      subst (λ (xs : List Invariant). AreWanted is_wanted k (operation_tree m.terms o) (map (invariant_tree m.terms) xs)) (sym invariants) (wanted-in m is_wanted os knows ops k o e)
