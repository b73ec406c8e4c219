use Rattle.sync_rules.proofs.Sets.{has-unmarked}
use Rattle.sync_rules.proofs.field_sets.FieldSet.empty.Goals as goal

pub returns-clause-none : goal.returns-clause-none
returns-clause-none c = λ x _. has-unmarked 32 x
