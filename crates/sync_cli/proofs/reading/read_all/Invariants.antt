use Rattle.std.proofs.Common.{◌≡◌, ◌+◌, ◌-◌, ◌≤◌, vec_len}
use Rattle.sync_base.specs.Outside.{GivesFront}
use Rattle.sync_base.specs.Limits.{longest_text}
use Rattle.sync_cli.proofs.reading.read_all.Given as goal

abbrev pub invariant-loop-text : goal.invariant-loop-text
invariant-loop-text g l = record {
  given : GivesFront (g.S.Source.left l.initial.source) (g.S.Source.left l.source) l.text.items;
  sound : g.S.Source.faults l.source ≡ g.S.Source.faults l.initial.source;
  bounded : vec_len l.text ≤ longest_text + 1;
  piece_full : vec_len l.piece ≡ 65536;
}

abbrev pub decreases-loop-text : goal.decreases-loop-text
decreases-loop-text g l = longest_text + 1 - vec_len l.text
