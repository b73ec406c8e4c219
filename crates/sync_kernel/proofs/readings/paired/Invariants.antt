use Rattle.std.proofs.Common.{◌≡◌, true, take}
use Rattle.sync_terms.specs.Stored.{Extends}
use Rattle.sync_kernel.specs.Readings.{trees_read, ArePaired}
use Rattle.sync_kernel.specs.Taking.{all_fit}
use Rattle.sync_kernel.proofs.readings.paired.Given as goal

abbrev pub invariant-loop-i : goal.invariant-loop-i
invariant-loop-i l = record {
  keeps : Extends l.initial.terms l.terms;
  paired : ArePaired l.terms (take l.i l.params) (trees_read l.initial.terms l.names (take l.i l.list)) l.pairs.items;
  fits : all_fit (trees_read l.initial.terms l.names (take l.i l.list)) ≡ true;
}
