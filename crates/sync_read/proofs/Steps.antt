-- Statements in a store that grows.
use Rattle.std.proofs.Common.{◌≡◌, List, [], ◌∷◌, Option, Some, None, refl, ap, ◌∙◌}
use Rattle.std.specs.List.{AllByRecursion}
use Rattle.sync_terms.specs.declared.nodes.TermId.{TermId}
use Rattle.sync_terms.specs.Stored.{Stored, Extends}
use Rattle.sync_machine.specs.declared.machine.Pattern.{Pattern}
use Rattle.sync_machine.specs.declared.machine.Pattern.TheVariants as patterns
use Rattle.sync_machine.specs.declared.machine.Place.{Place}
use Rattle.sync_machine.specs.declared.machine.Act.{Act}
use Rattle.sync_machine.specs.declared.machine.Act.TheVariants as stored
use Rattle.sync_machine.specs.declared.machine.Step.{Step}
use Rattle.sync_terms.specs.Trees.{Tree}
use Rattle.sync_machine.specs.Machines.{PatternTree, PlaceTree, ActTree, StepTree}
use Rattle.sync_machine.specs.Machines as trees
use Rattle.sync_machine.specs.Views.{key_tree, pattern_tree, place_tree, act_tree, step_tree, steps_tree, HasKeyId, HasPatternId, HasPlaceIds, HasActIds}

pub key_kept : (s t : Stored) (k : Option TermId) → Extends s t → HasKeyId s k → key_tree t k ≡ key_tree s k
key_kept s t None e h = refl
key_kept s t (Some k) e h = ap Some (e.terms k h).1

pub key_stays : (s t : Stored) (k : Option TermId) → Extends s t → HasKeyId s k → HasKeyId t k
key_stays s t None e h = tt
key_stays s t (Some k) e h = (e.terms k h).0

pub pattern_kept : (s t : Stored) (p : Option Pattern) → Extends s t → HasPatternId s p → pattern_tree t p ≡ pattern_tree s p
pattern_kept s t None e h = refl
pattern_kept s t (Some (patterns.Bind x)) e h = refl
pattern_kept s t (Some (patterns.Term k)) e h = ap (λ x. Some (trees.Term x)) (e.terms k h).1

pub pattern_stays : (s t : Stored) (p : Option Pattern) → Extends s t → HasPatternId s p → HasPatternId t p
pattern_stays s t None e h = tt
pattern_stays s t (Some (patterns.Bind x)) e h = tt
pattern_stays s t (Some (patterns.Term k)) e h = (e.terms k h).0

pub place_kept : (s t : Stored) (p : Place) → Extends s t → HasPlaceIds s p → place_tree t p ≡ place_tree s p
place_kept s t p e h =
    let make : Option Tree → Option PatternTree → PlaceTree = λ k v. record { key = k; value = v } in
    ap (λ k. make k (pattern_tree t p.value)) (key_kept s t p.key e h.0) ∙ ap (make (key_tree s p.key)) (pattern_kept s t p.value e h.1)

pub place_stays : (s t : Stored) (p : Place) → Extends s t → HasPlaceIds s p → HasPlaceIds t p
place_stays s t p e h = (key_stays s t p.key e h.0, pattern_stays s t p.value e h.1)

pub act_kept : (s t : Stored) (a : Act) → Extends s t → HasActIds s a → act_tree t a ≡ act_tree s a
act_kept s t (stored.Init f k) e h = ap (trees.Init f) (e.terms k h).1
act_kept s t (stored.Require k) e h = ap trees.Require (e.forms k h).1
act_kept s t (stored.Assert k) e h = ap trees.Assert (e.forms k h).1
act_kept s t (stored.Update f k) e h = ap (trees.Update f) (e.terms k h).1
act_kept s t (stored.HaveVariable f) e h = refl
act_kept s t (stored.Add f p) e h = ap (trees.Add f) (place_kept s t p e h)
act_kept s t (stored.Remove f p) e h = ap (trees.Remove f) (place_kept s t p e h)
act_kept s t (stored.Have f p) e h = ap (trees.Have f) (place_kept s t p e h)
act_kept s t (stored.Deposit f p) e h = ap (trees.Deposit f) (place_kept s t p e h)
act_kept s t (stored.Withdraw f p) e h = ap (trees.Withdraw f) (place_kept s t p e h)
act_kept s t (stored.Guard f p) e h = ap (trees.Guard f) (place_kept s t p e h)

pub act_stays : (s t : Stored) (a : Act) → Extends s t → HasActIds s a → HasActIds t a
act_stays s t (stored.Init f k) e h = (e.terms k h).0
act_stays s t (stored.Require k) e h = (e.forms k h).0
act_stays s t (stored.Assert k) e h = (e.forms k h).0
act_stays s t (stored.Update f k) e h = (e.terms k h).0
act_stays s t (stored.HaveVariable f) e h = tt
act_stays s t (stored.Add f p) e h = place_stays s t p e h
act_stays s t (stored.Remove f p) e h = place_stays s t p e h
act_stays s t (stored.Have f p) e h = place_stays s t p e h
act_stays s t (stored.Deposit f p) e h = place_stays s t p e h
act_stays s t (stored.Withdraw f p) e h = place_stays s t p e h
act_stays s t (stored.Guard f p) e h = place_stays s t p e h

pub steps_kept : (s t : Stored) (xs : List Step) → Extends s t → AllByRecursion (λ (x : Step). HasActIds s x.act) xs → steps_tree t xs ≡ steps_tree s xs
steps_kept s t [] e h = refl
steps_kept s t (x ∷ xs) e h =
    let make : ActTree → StepTree = λ a. record { act = a; line = x.line } in
    ap (λ a. make a ∷ steps_tree t xs) (act_kept s t x.act e h.0) ∙ ap (λ ys. step_tree s x ∷ ys) (steps_kept s t xs e h.1)

pub steps_stay : (s t : Stored) (xs : List Step) → Extends s t → AllByRecursion (λ (x : Step). HasActIds s x.act) xs → AllByRecursion (λ (x : Step). HasActIds t x.act) xs
steps_stay s t [] e h = tt
steps_stay s t (x ∷ xs) e h = (act_stays s t x.act e h.0, steps_stay s t xs e h.1)
