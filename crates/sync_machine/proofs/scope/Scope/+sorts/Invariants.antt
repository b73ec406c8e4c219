use Rattle.sync_machine.proofs.scope.Scope.+sorts.Given as goal

abbrev pub decreases-map : goal.decreases-map
decreases-map l = l.t.0

abbrev pub decreases-number : goal.decreases-number
decreases-number l = l.t.0
