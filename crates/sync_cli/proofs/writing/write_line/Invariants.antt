use Rattle.std.proofs.Common.{◌≡◌, length}
use Rattle.sync_cli.proofs.Gains.{HasWritten}
use Rattle.sync_cli.proofs.writing.write_line.Given as goal

abbrev pub invariant-loop-rest : goal.invariant-loop-rest
invariant-loop-rest g l = record {
  written : HasWritten (g.K.Sink.got l.initial.sink) (g.K.Sink.got l.sink) l.line l.rest;
  sound : g.K.Sink.faults l.sink ≡ g.K.Sink.faults l.initial.sink;
}

abbrev pub decreases-loop-rest : goal.decreases-loop-rest
decreases-loop-rest g l = length l.rest
