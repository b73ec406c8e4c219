use Rattle.std.proofs.Common.{◌∙◌}
use Rattle.sync_typing_paths.proofs.Staging.{guard_some, guard_none}
use Rattle.sync_typing_paths.proofs.blocks.is_guarded.Goals as goal

pub returns-in-Some : goal.returns-in-Some
returns-in-Some c = λ s.
    c.is_some.ensures ∙ guard_some s c.args.word.now c.args.clause c.as_slice.result.now c.in-Some.it.now c.as_slice.ensures c.if-clause-eq0.false
    c.in-Some.ensures.lookup.0 c.in-Some.ensures.lookup.1

pub returns-in-None : goal.returns-in-None
returns-in-None c = λ s.
    guard_none s c.args.word.now c.args.clause c.as_slice.result.now c.as_slice.ensures c.if-clause-eq0.false c.in-None.ensures.lookup.0
