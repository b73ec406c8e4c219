use Rattle.std.proofs.Common.{◌≡◌, drop}
use Rattle.std.specs.List.{concat}
use Rattle.sync_cli.proofs.Gains.{HasWritten}
use Rattle.sync_cli.proofs.writing.write_lines.Given as goal

abbrev pub invariant-loop-line : goal.invariant-loop-line
invariant-loop-line g l = record {
  written : HasWritten (g.K.Sink.got l.initial.sink) (g.K.Sink.got l.sink) (concat l.lines) (concat (drop l.line-index l.lines));
  sound : g.K.Sink.faults l.sink ≡ g.K.Sink.faults l.initial.sink;
}
