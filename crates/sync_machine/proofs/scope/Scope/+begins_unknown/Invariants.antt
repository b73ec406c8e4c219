use Rattle.sync_machine.proofs.scope.Scope.+begins_unknown.Given as goal

abbrev pub decreases-begins_unknown : goal.decreases-begins_unknown
decreases-begins_unknown l = l.t.0
