use Rattle.std.proofs.Common.{◌≡◌, ◌++◌, drop, map}
use Rattle.sync_machine.specs.declared.fields.Field.{Field}
use Rattle.sync_read_programs.proofs.scopes.strategies.Given as goal

abbrev pub invariant-loop-field : goal.invariant-loop-field
invariant-loop-field l = (l.held ++ map (λ (f : Field). f.strategy) (drop l.field-index l.fields)) ≡ map (λ (f : Field). f.strategy) l.fields
