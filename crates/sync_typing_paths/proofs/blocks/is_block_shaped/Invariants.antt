use Rattle.std.proofs.Common.{◌≡◌, drop}
use Rattle.sync_terms.specs.Stored.{Stored}
use Rattle.sync_thread.specs.Views.{proof_steps_tree, word_tree}
use Rattle.sync_typing.specs.Blocks.{Fresh, stage_behind}
use Rattle.sync_typing_paths.specs.Statements.{stage_of}
use Rattle.sync_typing_paths.proofs.blocks.is_block_shaped.Given as goal

abbrev pub invariant-loop-step : goal.invariant-loop-step
invariant-loop-step l = (s : Stored)
    → stage_behind (word_tree s l.word) (stage_of l.stage) (proof_steps_tree s (drop l.step-index l.block))
    ≡ stage_behind (word_tree s l.word) Fresh (proof_steps_tree s l.block)
