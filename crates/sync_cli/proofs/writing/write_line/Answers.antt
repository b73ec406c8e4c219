use Rattle.std.proofs.Common.{arith, ◌∙◌, ◌<◌, length}
use Rattle.std.proofs.lemmas.Bool.Decides.{nat_tests}
use Rattle.sync_cli.proofs.Gains.{HasWritten-part, HasWritten-more, OnErr-always}
use Rattle.sync_cli.proofs.writing.write_line.Goals as goal

pub returns-in_err-taken-clause-part : goal.returns-in_err-taken-clause-part
returns-in_err-taken-clause-part g c =
    let some : 0 < length c.loop-rest.rest.now = grind (arith, nat_tests) in
    OnErr-always _ c.from_residual.result (HasWritten-part _ _ _ _ _ c.loop-rest.invariant.written some c.in_err-taken.ensures.kept)

pub loop-rest-preserved : goal.loop-rest-preserved
loop-rest-preserved g c = record {
  written = HasWritten-more _ _ _ _ _ c.in_ok-taken.taken c.loop-rest.invariant.written c.in_ok-taken.ensures.taken;
  sound = c.in_ok-taken.ensures.sound ∙ c.loop-rest.invariant.sound;
}
