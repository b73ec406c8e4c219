-- How a condition that is built from parts is the whole, and what stands at the key and the value of a place.
use Rattle.std.proofs.Common.{◌≡◌, ◌≤◌, refl, sym, ap, ◌∙◌, subst, Result, Ok, Err, arith}
use Rattle.std.specs.Prelude.{IsErrAnd, IsOkAnd, MatchResult, IfSome, Option, Some, None, option_map}
use Rattle.sync_terms.specs.declared.nodes.TermId.{TermId}
use Rattle.sync_terms.specs.declared.nodes.FormId.{FormId}
use Rattle.sync_terms.specs.declared.store.TermStop.{TermStop}
use Rattle.sync_terms.specs.Building.{HasTerm, HasForm, StopsBuilding, BuildsTerm, BuildsForm}
use Rattle.sync_terms.specs.Trees.{Tree, Formula}
use Rattle.sync_terms.specs.Stored.{Stored, tree, formula, IsTerm, IsForm, Extends}
use Rattle.sync_terms.proofs.BuildingLemmas.{StopsBuilding-more}
use Rattle.sync_machine.specs.Machines.{PlaceTree}
use Rattle.sync_machine.specs.Statements.{key_of, value_of}
use Rattle.sync_induct_acts.specs.declared.places.PlaceTerms.{PlaceTerms}
use Rattle.sync_induct_acts.specs.Conditions.{HasPlaceTerms, BuildsCondition, HasCondition, condition_size}

pub BuildsCondition-stop : {t : Stored} {o : Option Formula} (e : TermStop) (r : Result (Option FormId) TermStop) → IsErrAnd r (λ y. y ≡ e) → StopsBuilding (condition_size o) e → BuildsCondition t o r
BuildsCondition-stop e (Ok y) was h = absurd was
BuildsCondition-stop {o = o} e (Err y) was h = record { value = tt; fits = tt; stop = subst (λ (z : TermStop). StopsBuilding (condition_size o) z) (sym was) h }

pub BuildsCondition-condition : {s t : Stored} {p o : Option Formula} {e : TermStop} (r : Result (Option FormId) TermStop) → BuildsCondition s p (Err e) → IsErrAnd r (λ z. z ≡ e) → condition_size p ≤ condition_size o
    → BuildsCondition t o r
BuildsCondition-condition {e = e} r h was l = BuildsCondition-stop e r was (StopsBuilding-more e h.stop l)

pub BuildsCondition-same : {t : Stored} {o p : Option Formula} {r : Result (Option FormId) TermStop} → BuildsCondition t o r → o ≡ p → BuildsCondition t p r
BuildsCondition-same {t} {r = r} h e = subst (λ (z : Option Formula). BuildsCondition t z r) e h

-- a formula is a condition
pub BuildsCondition-some : {t : Stored} {f : Formula} (r : Result FormId TermStop) (q : Result (Option FormId) TermStop) → BuildsForm t f r
    → MatchResult r (λ x. IsOkAnd q (λ y. y ≡ Some x)) (λ e. q ≡ Err e) → BuildsCondition t (Some f) q
BuildsCondition-some {t} {f} (Ok x) (Ok y) h m = record { value = subst (λ (z : Option FormId). HasCondition t (Some f) z) (sym m) h.value; fits = h.fits; stop = tt }
BuildsCondition-some (Ok x) (Err y) h m = absurd m
BuildsCondition-some {f = f} (Err e) q h m = rw m (record { value = tt; fits = tt; stop = h.stop })

-- there is none
pub BuildsCondition-none : {t : Stored} → BuildsCondition t None (Ok None)
BuildsCondition-none = record { value = tt; fits = omega arith; stop = tt }

-- a condition that a store has is the condition, and stays
pub condition-value : {s t : Stored} (o : Option Formula) (id : Option FormId) → HasCondition s o id → Extends s t → option_map (formula t) id ≡ o
condition-value (Some f) (Some id) h e = ap Some ((e.forms id h.stored).1 ∙ h.value)
condition-value None None h e = refl
condition-value (Some f) None h e = absurd h
condition-value None (Some id) h e = absurd h

pub condition-stored : {s t : Stored} (o : Option Formula) (id : Option FormId) → HasCondition s o id → Extends s t → IfSome id (IsForm t)
condition-stored (Some f) (Some id) h e = (e.forms id h.stored).0
condition-stored None None h e = tt
condition-stored (Some f) None h e = absurd h
condition-stored None (Some id) h e = absurd h

ap3 : {A B : Type 0} (F : A → A → A → B) {a b c a' b' c' : A} → a ≡ a' → b ≡ b' → c ≡ c' → F a b c ≡ F a' b' c'
ap3 F x y z = λ i. F (x i) (y i) (z i)

-- ---- over the key and the value of a place, when the store has grown

module _ {s t u : Stored} {p : PlaceTree} (cur : TermId) (at : PlaceTerms) (more : Extends s t) (stored : IsTerm s cur) (found : HasPlaceTerms t p at) where
  pub BuildsTerm-at : (F : Tree → Tree → Tree → Tree) (r : Result TermId TermStop) → BuildsTerm u (F (tree t cur) (tree t at.key) (tree t at.value)) r → BuildsTerm u (F (tree s cur) (key_of p) (value_of p)) r
  BuildsTerm-at F r h = subst (λ (x : Tree). BuildsTerm u x r) (ap3 F (more.terms cur stored).1 found.key.value found.value.value) h

  pub BuildsForm-at : (F : Tree → Tree → Tree → Formula) (r : Result FormId TermStop) → BuildsForm u (F (tree t cur) (tree t at.key) (tree t at.value)) r → BuildsForm u (F (tree s cur) (key_of p) (value_of p)) r
  BuildsForm-at F r h = subst (λ (f : Formula). BuildsForm u f r) (ap3 F (more.terms cur stored).1 found.key.value found.value.value) h
