use Rattle.sync_machine.proofs.scope.Scope.+formula.Given as goal

abbrev pub decreases-formula : goal.decreases-formula
decreases-formula l = l.f.0
