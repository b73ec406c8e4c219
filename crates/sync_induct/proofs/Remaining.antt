-- Lists of checks that are gone through one after another: what is left of them stands for all.
use Rattle.std.proofs.Common.{◌≡◌, List, [], ◌∷◌, ◌++◌, Option, Some, None, Err, refl, sym, ap, subst, ◌∙◌}
use Rattle.sync_base.proofs.Basics.{first_assoc}
use Rattle.sync_base.specs.declared.stops.Refusal.{Refusal}
use Rattle.sync_base.specs.declared.stops.Stop.{Stop}
use Rattle.sync_base.specs.declared.stops.Stop.TheVariants.{Refused, Memory}
use Rattle.sync_base.specs.Outcome.{first, Passes}
use Rattle.sync_induct.specs.Checklist.{Check, IsShown, AreShown}
use Rattle.sync_induct.specs.Checks.{check_fault, checks_fault}
use Rattle.sync_terms.specs.Proofs.{ProofTree}

pub fault-append : (ps : List ProofTree) (xs ys : List Check) → checks_fault ps (xs ++ ys) ≡ first (checks_fault ps xs) (checks_fault ps ys)
unfolding checks_fault
fault-append ps [] ys = refl
fault-append ps (x ∷ xs) ys = ap (first (check_fault ps x)) (fault-append ps xs ys) ∙ sym (first_assoc (check_fault ps x) (checks_fault ps xs) (checks_fault ps ys))

pub shown-append : (xs ys : List Check) → AreShown xs → AreShown ys → AreShown (xs ++ ys)
shown-append [] ys p q = q
shown-append (x ∷ xs) ys p q = (p.0, shown-append xs ys p.1 q)

-- all checks are right where those that are left are, and their first fault is that of these
pub record Remains (ps : List ProofTree) (all left : List Check) : Type 0 where
  pub fault : checks_fault ps all ≡ checks_fault ps left
  pub shown : AreShown left → AreShown all

pub remains-whole : (ps : List ProofTree) (all : List Check) → Remains ps all all
remains-whole ps all = record { fault = refl; shown = λ h. h }

-- the same, by other names
pub remains-same : (ps : List ProofTree) (all left same : List Check) → left ≡ same → Remains ps all left → Remains ps all same
remains-same ps all left same e h = subst (λ (ds : List Check). Remains ps all ds) e h

-- the first ones are right
pub remains-past : (ps : List ProofTree) (all own left : List Check) → Remains ps all (own ++ left) → checks_fault ps own ≡ None → AreShown own → Remains ps all left
remains-past ps all own left h none shown = record {
  fault = h.fault ∙ (fault-append ps own left ∙ ap (λ (f : Option Refusal). first f (checks_fault ps left)) none);
  shown = λ rest. h.shown (shown-append own left shown rest);
}

stop-first : (A B : Type 0) (e : Stop) (x y total : Option Refusal) → Passes {A = A} (Err e) x → total ≡ first x y → Passes {A = B} (Err e) total
stop-first A B Memory x y total p is = tt
stop-first A B (Refused f) x y total p is = is ∙ ap (λ (z : Option Refusal). first z y) p

-- one of the first ones is refused
pub remains-refused : (A B : Type 0) (e : Stop) (ps : List ProofTree) (all own left : List Check) → Remains ps all (own ++ left) → Passes {A = A} (Err e) (checks_fault ps own) → Passes {A = B} (Err e) (checks_fault ps all)
remains-refused A B e ps all own left h p = stop-first A B e (checks_fault ps own) (checks_fault ps left) (checks_fault ps all) p (h.fault ∙ fault-append ps own left)

-- the same of one
pub remains-past_one : (ps : List ProofTree) (all left : List Check) (d : Check) → Remains ps all (d ∷ left) → check_fault ps d ≡ None → IsShown d → Remains ps all left
unfolding checks_fault
remains-past_one ps all left d h none shown = record { fault = h.fault ∙ ap (λ (f : Option Refusal). first f (checks_fault ps left)) none; shown = λ rest. h.shown (shown, rest) }

pub remains-refused_one : (A B : Type 0) (e : Stop) (ps : List ProofTree) (all left : List Check) (d : Check) → Remains ps all (d ∷ left) → Passes {A = A} (Err e) (check_fault ps d) → Passes {A = B} (Err e) (checks_fault ps all)
unfolding checks_fault
remains-refused_one A B e ps all left d h p = stop-first A B e (check_fault ps d) (checks_fault ps left) (checks_fault ps all) p h.fault

-- nothing is left
pub remains-none : (ps : List ProofTree) (all : List Check) → Remains ps all [] → checks_fault ps all ≡ None
unfolding checks_fault
remains-none ps all h = h.fault

pub remains-shown : (ps : List ProofTree) (all : List Check) → Remains ps all [] → AreShown all
remains-shown ps all h = h.shown tt
