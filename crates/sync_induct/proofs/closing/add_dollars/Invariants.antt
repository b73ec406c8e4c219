use Rattle.std.proofs.Common.{ℕ, List, ◌++◌, map, take}
use Rattle.sync_terms.specs.Trees.{Tree}
use Rattle.sync_terms.specs.Stored.{Extends}
use Rattle.sync_machine.specs.Views.{symbols_of}
use Rattle.sync_induct.specs.Closing.{HavePairs, dollar_pair}
use Rattle.sync_induct.proofs.closing.add_dollars.Given as goal

abbrev pub invariant-loop-param : goal.invariant-loop-param
invariant-loop-param l = record {
  keeps : Extends l.initial.terms l.terms;
  have : (ps : List (ℕ × Tree)) → HavePairs l.initial.terms l.initial.pairs.items ps → HavePairs l.terms l.pairs.items (ps ++ map dollar_pair (symbols_of (take l.param-index l.params)));
}
