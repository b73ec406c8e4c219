use Rattle.std.proofs.Common.{◌≡◌, drop}
use Rattle.sync_read.specs.Resolving.{starts_once}
use Rattle.sync_read.proofs.machines.starts_once.Given as goal

abbrev pub invariant-loop-field : goal.invariant-loop-field
invariant-loop-field l = starts_once (drop l.field-index l.fields) l.acts ≡ starts_once l.fields l.acts
