use Rattle.std.proofs.Common.{sym, ap, ◌∙◌}
use Rattle.sync_join.specs.declared.values.Value.{Value}
use Rattle.sync_join.specs.Join.{is_entry}
use Rattle.sync_join.specs.Views.{value_tree}
use Rattle.sync_join.proofs.Maps.{nil-entry}
use Rattle.sync_join.proofs.parts.is_entry.Goals as goal

pub returns-in-Number : goal.returns-in-Number
returns-in-Number c = sym (ap (λ (r : Value). is_entry (value_tree r) c.args.token.now) c.in-Number.is ∙ nil-entry c.args.token.now.key c.args.token.now.value)
