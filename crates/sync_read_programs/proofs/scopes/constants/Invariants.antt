use Rattle.std.proofs.Common.{◌≡◌, drop}
use Rattle.sync_read_programs.specs.Scopes.{constants_from}
use Rattle.sync_read_programs.proofs.scopes.constants.Given as goal

abbrev pub invariant-loop-number : goal.invariant-loop-number
invariant-loop-number l = constants_from l.flags l.number (drop l.number l.fields) ≡ constants_from 0 0 l.fields
