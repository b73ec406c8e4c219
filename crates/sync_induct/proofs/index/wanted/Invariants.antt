use Rattle.std.proofs.Common.{◌≡◌, take}
use Rattle.sync_induct.specs.Checks.{has_title}
use Rattle.std.specs.HashSet.{contains}
use Rattle.sync_induct.specs.declared.index.Title.{Title}
use Rattle.sync_induct.specs.Titles.{same_title}
use Rattle.sync_induct.proofs.index.wanted.Given as goal

abbrev pub invariant-loop-o : goal.invariant-loop-o
invariant-loop-o l = (t : Title) → contains same_title l.titles t ≡ has_title (take l.o-index l.obligations) t
