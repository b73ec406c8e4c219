use Rattle.std.proofs.Common.{◌∙◌}
use Rattle.sync_cli.proofs.Gains.{HasWritten-line, HasWritten-cut, concat-drop, OnErr-always}
use Rattle.sync_cli.proofs.writing.write_lines.Goals as goal

pub returns-in_err-write_line-clause-part : goal.returns-in_err-write_line-clause-part
returns-in_err-write_line-clause-part g c =
    let next = concat-drop c.args.lines.now c.loop-line.line-index c.as_slice.result.now c.line-item.result c.loop-line-test.true c.line-item.is c.as_slice.ensures in
    OnErr-always _ c.from_residual.result (HasWritten-cut _ _ _ _ _ _ _ c.loop-line.invariant.written next c.in_err-write_line.ensures.part)

pub loop-line-preserved : goal.loop-line-preserved
loop-line-preserved g c = record {
  written = HasWritten-line _ _ _ _ _ _ _ c.loop-line.invariant.written (concat-drop c.args.lines.now c.loop-line.line-index c.as_slice.result.now c.line-item.result c.loop-line-test.true c.line-item.is c.as_slice.ensures) c.in_ok-write_line.ensures.whole;
  sound = c.in_ok-write_line.ensures.sound ∙ c.loop-line.invariant.sound;
}
