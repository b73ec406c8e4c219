-- A walk that goes on: one more fact, one more value, and a store that grows.
use Rattle.std.proofs.Common.{◌≡◌, ℕ, zero, suc, List, [], ◌∷◌, ◌++◌, map, set, Option, Some, sym, ap, subst, ◌∙◌}
use Rattle.std.specs.Prelude.{slice_set}
use Rattle.std.specs.List.{AllByRecursion}
use Rattle.std.proofs.lemmas.List.{map-set}
use Rattle.sync_terms.specs.declared.nodes.TermId.{TermId}
use Rattle.sync_terms.specs.Stored.{Stored, tree, IsTerm}
use Rattle.sync_kernel_facts.specs.declared.sequents.Hyp.{Hyp}
use Rattle.sync_kernel_facts.specs.Facts.{fact_of}
use Rattle.sync_kernel.specs.Hypotheses.{AreReady, known_in}
use Rattle.sync_induct.specs.declared.walks.Walk.{Walk}
use Rattle.sync_induct.specs.Walks.{values_of, known_of, IsWalk, HasCome, values_with}

-- one more fact
pub gained : (s : Stored) (w v : Walk) (h : Hyp) → IsWalk s w → AreReady s v.hyps → known_in s v.hyps ≡ known_in s w.hyps ++ fact_of s h ∷ [] → v.current ≡ w.current → HasCome s v (known_of s w ++ fact_of s h ∷ []) (values_of s w)
gained s w v h walk ready known current = record {
  walk = record { ready = ready; values = subst (λ c. AllByRecursion (IsTerm s) c.items) (sym current) walk.values };
  known = known;
  now = ap (λ c. map (tree s) c.items) current;
}

all-set : (P : TermId → Type 0) (xs : List TermId) (i : ℕ) (t : TermId) → AllByRecursion P xs → P t → AllByRecursion P (set xs i t)
all-set P [] i t all one = tt
all-set P (x ∷ xs) zero t all one = (one, all.1)
all-set P (x ∷ xs) (suc i) t all one = (all.0, all-set P xs i t all.1 one)

-- one more value
pub assigned : (s : Stored) (w v : Walk) (f : ℕ) (t : TermId) → IsWalk s w → IsTerm s t → v.hyps ≡ w.hyps → v.current.items ≡ set w.current.items f t → HasCome s v (known_of s w) (slice_set (values_of s w) f (tree s t))
assigned s w v f t h one hyps current = record {
  walk = record {
    ready = subst (AreReady s) (sym hyps) h.ready;
    values = subst (λ (xs : List TermId). AllByRecursion (IsTerm s) xs) (sym current) (all-set (IsTerm s) w.current.items f t h.values one);
  };
  known = ap (known_in s) hyps;
  now = ap (λ (xs : List TermId). map (tree s) xs) current ∙ map-set (tree s) w.current.items f t;
}

-- the same where the field is known to be there
pub assigned-some : (s : Stored) (w v : Walk) (o : Option ℕ) (f : ℕ) (t : TermId) → o ≡ Some f → IsWalk s w → IsTerm s t → v.hyps ≡ w.hyps → v.current.items ≡ set w.current.items f t → HasCome s v (known_of s w) (values_with o (tree s t) (values_of s w))
assigned-some s w v o f t is h one hyps current =
    subst (λ (x : Option ℕ). HasCome s v (known_of s w) (values_with x (tree s t) (values_of s w))) (sym is) (assigned s w v f t h one hyps current)
