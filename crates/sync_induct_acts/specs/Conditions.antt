-- What comes of building a condition, and the key and the value of a place.
use Rattle.std.specs.Prelude.{ℕ, ◌≤◌, Option, Some, None, Result, IfOk, OnOk, IfErr}
use Rattle.sync_terms.specs.declared.nodes.FormId.{FormId}
use Rattle.sync_terms.specs.declared.store.TermStop.{TermStop}
use Rattle.sync_terms.specs.Building.{HasTerm, HasForm, StopsBuilding}
use Rattle.sync_terms.specs.Trees.{most_nodes}
use Rattle.sync_terms.specs.Stored.{Stored}
use Rattle.sync_terms.specs.Trees.{Formula, formula_size}
use Rattle.sync_machine.specs.Machines.{PlaceTree}
use Rattle.sync_machine.specs.Statements.{key_of, value_of}
use Rattle.sync_induct_acts.specs.declared.places.PlaceTerms.{PlaceTerms}

-- the store has this formula, or there is none
abbrev pub HasCondition : Stored → Option Formula → Option FormId → Type 0
HasCondition s (Some f) (Some id) = HasForm s f id
HasCondition s None None = Unit {0}
HasCondition s (Some f) None = ⊥
HasCondition s None (Some id) = ⊥

-- the number of nodes of a condition; 0 where there is none
abbrev pub condition_size : Option Formula → ℕ
condition_size (Some f) = formula_size f
condition_size None = 0

-- Unless memory was wanting: the condition where it is within the limit, else that it is too large.
pub record BuildsCondition (s : Stored) (o : Option Formula) (answer : Result (Option FormId) TermStop) : Type 0 where
  pub value : IfOk answer (HasCondition s o)
  pub fits : OnOk answer (condition_size o ≤ most_nodes)
  pub stop : IfErr answer (StopsBuilding (condition_size o))

-- the key and the value of a place
pub record HasPlaceTerms (s : Stored) (p : PlaceTree) (at : PlaceTerms) : Type 0 where
  pub key : HasTerm s (key_of p) at.key
  pub value : HasTerm s (value_of p) at.value
