-- A machine whose tokens may be exchanged, by any holders, and what that is for the whole.
use Rattle.std.specs.Prelude.{ℤ, Bool}
use Rattle.sync_machine.specs.Machines.{MachineTree}
use Rattle.sync_exchange.specs.Projection.{IsProved, ProjectsOf, InitialisesOf}
use Rattle.sync_exchange.specs.MoveLaws.{MovesAreStepsOf, StartsGoOnOf}

-- for every bound of numbers
pub record IsSharded (m : MachineTree) : Type 0 where
  pub proved : IsProved m
  -- an exchange of a transition or property by one holder is a declared step of the whole
  pub steps : (fits : ℤ → Bool) → ProjectsOf fits m
  -- the exchange of an init is a declared start
  pub starts : (fits : ℤ → Bool) → InitialisesOf fits m
  -- any list of exchanges, splits, mergers and copies by any holders is a list of declared steps
  pub moves : (fits : ℤ → Bool) → MovesAreStepsOf fits m
  -- and it may begin with what an init leaves
  pub from_start : (fits : ℤ → Bool) → StartsGoOnOf fits m
