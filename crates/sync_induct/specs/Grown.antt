-- A machine whose store has grown, and that is the same else.
use Rattle.std.specs.Prelude.{◌≡◌}
use Rattle.sync_terms.specs.Stored.{Extends}
use Rattle.sync_machine.specs.declared.machine.Machine.{Machine}

pub record HasGrown (old new : Machine) : Type 0 where
  pub name : new.name ≡ old.name
  pub fields : new.fields ≡ old.fields
  pub ops : new.ops ≡ old.ops
  pub invariants : new.invariants ≡ old.invariants
  pub terms : Extends old.terms new.terms
