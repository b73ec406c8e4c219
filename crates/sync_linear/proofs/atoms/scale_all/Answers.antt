use Rattle.std.proofs.Common.{rules, ℤ}
use Rattle.std.specs.Int.{w128, int_wrapping_mul}
use Rattle.std.proofs.lemmas.Map.Made.{map_same_pairs}
use Rattle.sync_linear.proofs.atoms.scale_all.Goals as goal

pub returns : goal.returns
returns c = map_same_pairs _ (λ (n : ℤ). int_wrapping_mul w128 c.args.factor n) _ (λ k v b w f' t. search rules) _ _ c.retain.ensures.filtered
