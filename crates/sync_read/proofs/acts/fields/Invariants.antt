use Rattle.std.proofs.Common.{◌≡◌, drop, []}
use Rattle.sync_read.specs.Acts.{fields_from}
use Rattle.sync_read.proofs.acts.fields.Given as goal

abbrev pub invariant-loop-field : goal.invariant-loop-field
invariant-loop-field l = fields_from l.held l.scope (drop l.field-index l.raw) ≡ fields_from [] l.initial.scope l.raw
