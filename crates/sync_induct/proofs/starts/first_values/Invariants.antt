use Rattle.std.proofs.Common.{take}
use Rattle.sync_terms.specs.Stored.{Extends}
use Rattle.sync_induct.specs.Starts.{values_from}
use Rattle.sync_induct.specs.Walks.{HaveTrees}
use Rattle.sync_induct.proofs.starts.first_values.Given as goal

abbrev pub invariant-loop-i : goal.invariant-loop-i
invariant-loop-i l = record {
  keeps : Extends l.initial.terms l.terms;
  have : HaveTrees l.terms l.values.items (values_from l.mode 0 (take l.i l.fields));
}
