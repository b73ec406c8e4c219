-- What stays as it is while a store grows: places and statements.
use Rattle.std.proofs.Common.{◌≡◌, Option, Some, None, refl, ap}
use Rattle.sync_terms.specs.Trees.{Tree, Get, Eq}
use Rattle.sync_terms.specs.declared.nodes.TermId.{TermId}
use Rattle.sync_terms.specs.Stored.{Stored, tree, IsTerm, Extends}
use Rattle.sync_base.specs.declared.strategies.Strategy.{Strategy}
use Rattle.sync_machine.specs.declared.machine.Pattern.{Pattern}
use Rattle.sync_machine.specs.declared.machine.Pattern.TheVariants as patterns
use Rattle.sync_machine.specs.declared.machine.Place.{Place}
use Rattle.sync_machine.specs.declared.machine.Act.{Act}
use Rattle.sync_machine.specs.declared.machine.Act.TheVariants.{Init, Require, Assert, Update, HaveVariable, Add, Remove, Have, Deposit, Withdraw, Guard}
use Rattle.sync_machine.specs.Machines as trees
use Rattle.sync_machine.specs.Statements.{enabling}
use Rattle.sync_machine.specs.Views.{key_tree, pattern_tree, place_tree, act_tree, HasKeyId, HasPatternId, HasPlaceIds, HasActIds}

module _ (s t : Stored) (e : Extends s t) where
  -- a value under a key
  pub agreement-stays : (m k v : TermId) → IsTerm s m → IsTerm s k → IsTerm s v → Eq (Get (tree t m) (tree t k)) (tree t v) ≡ Eq (Get (tree s m) (tree s k)) (tree s v)
  agreement-stays m k v a b c = let x = (e.terms m a).1 in let y = (e.terms k b).1 in let z = (e.terms v c).1 in λ i. Eq (Get (x i) (y i)) (z i)

  key-stays : (o : Option TermId) → HasKeyId s o → key_tree t o ≡ key_tree s o
  key-stays None h = refl
  key-stays (Some x) h = ap Some (e.terms x h).1

  pattern-stays : (o : Option Pattern) → HasPatternId s o → pattern_tree t o ≡ pattern_tree s o
  pattern-stays None h = refl
  pattern-stays (Some (patterns.Bind x)) h = refl
  pattern-stays (Some (patterns.Term x)) h = ap (λ (y : Tree). Some (trees.Term y)) (e.terms x h).1

  pub place-stays : (p : Place) → HasPlaceIds s p → place_tree t p ≡ place_tree s p
  place-stays p h = let k = key-stays p.key h.0 in let v = pattern-stays p.value h.1 in λ i. record { key = k i; value = v i }

  -- a statement with its ids
  pub act-stays : (a : Act) → HasActIds s a → act_tree t a ≡ act_tree s a
  act-stays (Init f x) h = ap (trees.Init f) (e.terms x h).1
  act-stays (Require x) h = ap trees.Require (e.forms x h).1
  act-stays (Assert x) h = ap trees.Assert (e.forms x h).1
  act-stays (Update f x) h = ap (trees.Update f) (e.terms x h).1
  act-stays (HaveVariable f) h = refl
  act-stays (Add f p) h = ap (trees.Add f) (place-stays p h)
  act-stays (Remove f p) h = ap (trees.Remove f) (place-stays p h)
  act-stays (Have f p) h = ap (trees.Have f) (place-stays p h)
  act-stays (Deposit f p) h = ap (trees.Deposit f) (place-stays p h)
  act-stays (Withdraw f p) h = ap (trees.Withdraw f) (place-stays p h)
  act-stays (Guard f p) h = ap (trees.Guard f) (place-stays p h)

  key-ids : (o : Option TermId) → HasKeyId s o → HasKeyId t o
  key-ids None h = tt
  key-ids (Some x) h = (e.terms x h).0

  pattern-ids : (o : Option Pattern) → HasPatternId s o → HasPatternId t o
  pattern-ids None h = tt
  pattern-ids (Some (patterns.Bind x)) h = tt
  pattern-ids (Some (patterns.Term x)) h = (e.terms x h).0

  pub place-ids : (p : Place) → HasPlaceIds s p → HasPlaceIds t p
  place-ids p h = (key-ids p.key h.0, pattern-ids p.value h.1)

  pub act-ids : (a : Act) → HasActIds s a → HasActIds t a
  act-ids (Init f x) h = (e.terms x h).0
  act-ids (Require x) h = (e.forms x h).0
  act-ids (Assert x) h = (e.forms x h).0
  act-ids (Update f x) h = (e.terms x h).0
  act-ids (HaveVariable f) h = tt
  act-ids (Add f p) h = place-ids p h
  act-ids (Remove f p) h = place-ids p h
  act-ids (Have f p) h = place-ids p h
  act-ids (Deposit f p) h = place-ids p h
  act-ids (Withdraw f p) h = place-ids p h
  act-ids (Guard f p) h = place-ids p h

  pub enabling-stays : (k : Strategy) (m : TermId) (a : Act) → IsTerm s m → HasActIds s a → enabling k (tree t m) (act_tree t a) ≡ enabling k (tree s m) (act_tree s a)
  enabling-stays k m a h i = let x = (e.terms m h).1 in let y = act-stays a i in λ j. enabling k (x j) (y j)
