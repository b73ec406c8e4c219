-- The numbers that the program ends with.
use Rattle.std.specs.Prelude.{ℕ}
use Rattle.sync_cli.specs.declared.statuses.Status.{Status}
use Rattle.sync_cli.specs.declared.statuses.Status.TheVariants.{Done, Refused, Usage, ReadFault, WriteFault, NoMemory, Budget, Width}

abbrev pub number_of : Status → ℕ
number_of Done = 0
number_of Refused = 1
number_of Usage = 2
number_of ReadFault = 3
number_of WriteFault = 4
number_of NoMemory = 5
number_of Budget = 6
number_of Width = 7
