use Rattle.std.proofs.Common.{◌≡◌, drop, []}
use Rattle.sync_read_programs.specs.Keeps.{word_names_from}
use Rattle.sync_read_programs.proofs.declarations.word_names.Given as goal

abbrev pub invariant-loop-named : goal.invariant-loop-named
invariant-loop-named l = word_names_from l.held l.scope (drop l.named-index l.raw) ≡ word_names_from [] l.initial.scope l.raw
