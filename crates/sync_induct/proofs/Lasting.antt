-- What stays as it is while a store grows: facts, values, statements, walks.
use Rattle.std.proofs.Common.{◌≡◌, List, [], ◌∷◌, map, Option, Some, None, Result, Ok, Err, refl, sym, ap, subst, ◌∙◌}
use Rattle.std.specs.Prelude.{OnOk}
use Rattle.std.specs.List.{AllByRecursion}
use Rattle.sync_base.specs.declared.stops.Stop.{Stop}
use Rattle.sync_terms.specs.Trees.{Tree}
use Rattle.sync_terms.specs.declared.nodes.TermId.{TermId}
use Rattle.sync_terms.specs.Stored.{Stored, tree, IsTerm, IsForm, Extends}
use Rattle.sync_terms.proofs.Extending.{Extends-trans}
use Rattle.sync_machine.specs.declared.machine.Step.{Step}
use Rattle.sync_machine.specs.declared.machine.Invariant.{Invariant}
use Rattle.sync_machine.specs.Machines.{ActTree, StepTree}
use Rattle.sync_machine.specs.declared.machine.Operation.{Operation}
use Rattle.sync_machine.specs.Views.{invariant_tree, operation_tree, symbols_of, step_tree, steps_tree, HasActIds}
use Rattle.sync_induct_acts.proofs.Lasting.{act-stays}
use Rattle.sync_kernel_facts.specs.Facts.{Fact}
use Rattle.sync_kernel.specs.Hypotheses.{AreReady, known_in}
use Rattle.sync_kernel.proofs.Assuming.{AreReady-more, known_in-more}
use Rattle.sync_induct.specs.declared.walks.Walk.{Walk}
use Rattle.sync_induct.specs.Closing.{IsKeepable}
use Rattle.sync_induct.specs.Walks.{values_of, known_of, IsWalk, HasCome}

module _ (s t : Stored) (e : Extends s t) where
  pub step-stays : (x : Step) → HasActIds s x.act → step_tree t x ≡ step_tree s x
  step-stays x h = ap (λ (a : ActTree). record { act = a; line = x.line }) (act-stays s t e x.act h)

  pub steps-stay : (xs : List Step) → AllByRecursion (λ (x : Step). HasActIds s x.act) xs → steps_tree t xs ≡ steps_tree s xs
  steps-stay [] h = refl
  steps-stay (x ∷ xs) h = let one = step-stays x h.0 in let more = steps-stay xs h.1 in λ i. one i ∷ more i

  pub operation-stays : (o : Operation) → AllByRecursion (λ (x : Step). HasActIds s x.act) o.steps → operation_tree t o ≡ operation_tree s o
  operation-stays o h = ap (λ (ss : List StepTree). record { name = o.name; mode = o.mode; params = symbols_of o.params; steps = ss; line = o.line }) (steps-stay o.steps h)

  pub keepable-stays : (is : List Invariant) → AllByRecursion (IsKeepable s) is → AllByRecursion (IsKeepable t) is
  keepable-stays [] h = tt
  keepable-stays (i ∷ is) h = (record { form = (e.forms i.form h.0.form).0; names = h.0.names }, keepable-stays is h.1)

  pub forms-in : (is : List Invariant) → AllByRecursion (λ (i : Invariant). IsForm s i.form) is → AllByRecursion (λ (i : Invariant). IsForm t i.form) is
  forms-in [] h = tt
  forms-in (i ∷ is) h = ((e.forms i.form h.0).0, forms-in is h.1)

  pub invariants-stay : (is : List Invariant) → AllByRecursion (λ (i : Invariant). IsForm s i.form) is → map (invariant_tree t) is ≡ map (invariant_tree s) is
  invariants-stay [] h = refl
  invariants-stay (i ∷ is) h =
      let one = (e.forms i.form h.0).1 in
      let more = invariants-stay is h.1 in
      λ j. record { name = i.name; params = symbols_of i.params; form = one j; line = i.line } ∷ more j

  pub trees-stay : (xs : List TermId) → AllByRecursion (IsTerm s) xs → map (tree t) xs ≡ map (tree s) xs
  trees-stay [] h = refl
  trees-stay (x ∷ xs) h = let one = (e.terms x h.0).1 in let more = trees-stay xs h.1 in λ i. one i ∷ more i

  pub terms-stay : (xs : List TermId) → AllByRecursion (IsTerm s) xs → AllByRecursion (IsTerm t) xs
  terms-stay [] h = tt
  terms-stay (x ∷ xs) h = ((e.terms x h.0).0, terms-stay xs h.1)

  -- a walk that has not moved is one over the larger store, with the same facts and values
  pub walk-stays : (w : Walk) → IsWalk s w → IsWalk t w
  walk-stays w h = record { ready = AreReady-more s t w.hyps e h.ready; values = terms-stay w.current.items h.values }

  pub known-stays : (w : Walk) → IsWalk s w → known_of t w ≡ known_of s w
  known-stays w h = known_in-more s t w.hyps e h.ready

  pub values-stay : (w : Walk) → IsWalk s w → values_of t w ≡ values_of s w
  values-stay w h = trees-stay w.current.items h.values

  pub stands : (w : Walk) → IsWalk s w → HasCome t w (known_of s w) (values_of s w)
  stands w h = record { walk = walk-stays w h; known = known-stays w h; now = values-stay w h }

-- the same where its hypotheses have been proved from, over a store that has grown again
pub stands-behind : {A : Type 0} (r : Result A Stop) (s t u : Stored) (w v : Walk) → Extends s t → Extends t u → IsWalk s w → v.current ≡ w.current → OnOk r (AreReady u v.hyps) → OnOk r (known_in u v.hyps ≡ known_in t w.hyps)
    → OnOk r (HasCome u v (known_of s w) (values_of s w))
stands-behind (Ok x) s t u w v e more h current ready same =
    let grown = Extends-trans e more in
    record {
      walk = record { ready = ready; values = subst (λ c. AllByRecursion (IsTerm u) c.items) (sym current) (terms-stay s u grown w.current.items h.values) };
      known = same ∙ known-stays s t e w h;
      now = ap (λ c. map (tree u) c.items) current ∙ values-stay s u grown w h;
    }
stands-behind (Err x) s t u w v e more h current ready same = tt

pub as-come : (s : Stored) (v : Walk) (a b : List Fact) (c d : List Tree) → HasCome s v a c → a ≡ b → c ≡ d → HasCome s v b d
as-come s v a b c d h e f = record { walk = h.walk; known = h.known ∙ e; now = h.now ∙ f }
