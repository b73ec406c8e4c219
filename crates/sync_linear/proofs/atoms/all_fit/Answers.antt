use Rattle.std.proofs.Common.{rules, tests, ℤ, ◌*ℤ◌}
use Rattle.std.specs.Prelude.{FitsSigned}
use Rattle.std.specs.Int.{w128}
use Rattle.std.specs.Map.{values_of}
use Rattle.std.proofs.lemmas.Bool.{MatchBool-at_true}
use Rattle.std.proofs.lemmas.Iterator.{cases_from_all}
use Rattle.std.proofs.lemmas.Iterator.Consumers.{YieldsList-from_rest}
use Rattle.std.proofs.lemmas.Iterator.Search.{true_from_All}
use Rattle.std.proofs.lemmas.List.Elements.{All-from_all_within}
use Rattle.sync_linear.proofs.Scaling.{each_fits, values_fit}
use Rattle.sync_linear.proofs.atoms.all_fit.Goals as goal

pub returns : goal.returns
returns c =
    let Fits : ℤ → Type 0 = λ n. FitsSigned w128 (c.args.factor *ℤ n) in
    let all = values_of c.args.atoms.now.entries in
    let r = cases_from_all _ _ _ Fits (λ n. Fits n → ⊥) c.all.ensures.ran (YieldsList-from_rest all c.values.ensures.rest) (λ x r k. search (rules, tests)) (λ x r k. search (rules, tests)) in (
      λ t. each_fits c.args.factor c.args.atoms.now.entries (All-from_all_within Fits all (MatchBool-at_true _ _ t r)),
      λ h. true_from_All Fits (λ n. Fits n → ⊥) _ _ (λ x p q. q p) r (values_fit c.args.factor c.args.atoms.now.entries c.values.ensures.ordered h),
    )
