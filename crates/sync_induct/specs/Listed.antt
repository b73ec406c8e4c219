-- The obligations that are checked, and that they are those that are listed.
use Rattle.std.specs.Prelude.{◌≡◌, List, [], ◌∷◌}
use Rattle.sync_terms.specs.declared.proofs.Obligation.{Obligation}
use Rattle.sync_machine.specs.Machines.{MachineTree}
use Rattle.sync_rules.specs.Obligations.{obligations_of}
use Rattle.sync_induct.specs.Checklist.{Check, Proves, Fits, checks_of}

-- the obligations among checks, in order
abbrev pub checked_obligations : List Check → List Obligation
checked_obligations [] = []
checked_obligations (Proves duty ∷ cs) = duty.obligation ∷ checked_obligations cs
checked_obligations (Fits line nodes ∷ cs) = checked_obligations cs

-- whatever the machine, its checks are of the obligations that are listed of it, in their order
abbrev pub ChecksAreListed : Type 0
ChecksAreListed = (m : MachineTree) → checked_obligations (checks_of m) ≡ obligations_of m
