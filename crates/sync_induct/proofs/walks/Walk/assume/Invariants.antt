use Rattle.std.proofs.Common.{◌++◌, map, take}
use Rattle.sync_machine.specs.Views.{invariant_tree}
use Rattle.sync_induct.specs.Duties.{invariant_facts}
use Rattle.sync_induct.specs.Walks.{HasCome, known_of, values_of}
use Rattle.sync_induct.proofs.walks.Walk.assume.Given as goal

abbrev pub invariant-loop-invariant : goal.invariant-loop-invariant
invariant-loop-invariant l =
    HasCome l.terms l.self (known_of l.terms l.initial.self ++ invariant_facts (map (invariant_tree l.terms) (take l.invariant-index l.invariants))) (values_of l.terms l.initial.self)
