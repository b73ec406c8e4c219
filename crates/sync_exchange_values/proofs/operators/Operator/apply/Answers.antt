use Rattle.std.proofs.Common.{rules, ◌&&◌, ◌∙◌, to_z, of_z}
use Rattle.std.specs.Prelude.{FitsSigned}
use Rattle.std.specs.Int.{w128}
use Rattle.std.proofs.lemmas.Int.{to_z-of_z}
use Rattle.sync_entries.specs.Narrow.{is_narrow}
use Rattle.sync_exchange_values.specs.Steps.{operated}
use Rattle.sync_exchange_values.proofs.Narrowness.{left_false, right_false}
use Rattle.sync_exchange_values.proofs.Evaluating.{stop_at, got, operated_some, operated_none}
use Rattle.sync_exchange_values.proofs.operators.Operator.apply.Goals as goal

pub returns-in-Err : goal.returns-in-Err
returns-in-Err c = λ x y f g p q.
    stop_at c.args.left c.in-Err.stop x (operated c.args.self x y) f (f && g && is_narrow (operated c.args.self x y)) c.in-Err.is (λ e. left_false (f && g) _ (left_false f g e)) p

pub returns-in-Err-right : goal.returns-in-Err-right
returns-in-Err-right c = λ x y f g p q.
    stop_at c.args.right c.in-Err-right.stop y (operated c.args.self x y) g (f && g && is_narrow (operated c.args.self x y)) c.in-Err-right.is (λ e. left_false (f && g) _ (right_false f g e)) q

pub returns-in-Some : goal.returns-in-Some
returns-in-Some c =
    let l : FitsSigned w128 c.in-Ok.first = search rules in
    let r : FitsSigned w128 c.in-Ok-right.second = search rules in
    let n : FitsSigned w128 c.in-Some.n = search rules in
    let left = to_z-of_z w128 c.in-Ok.first l in
    let right = to_z-of_z w128 c.in-Ok-right.second r in
    λ x y f g p q.
    let a = got c.args.left c.in-Ok.first x f c.in-Ok.is p in
    let b = got c.args.right c.in-Ok-right.second y g c.in-Ok-right.is q in
    operated_some c.args.self (to_z w128 (of_z w128 c.in-Ok.first)) (to_z w128 (of_z w128 c.in-Ok-right.second)) (to_z w128 (of_z w128 c.in-Some.n)) x y f g
    (left ∙ a.0, a.1) (right ∙ b.0, b.1) (c.in-Some.ensures.0, to_z-of_z w128 c.in-Some.n n ∙ c.in-Some.ensures.1)

pub returns-in-None : goal.returns-in-None
returns-in-None c =
    let l : FitsSigned w128 c.in-Ok.first = search rules in
    let r : FitsSigned w128 c.in-Ok-right.second = search rules in
    let left = to_z-of_z w128 c.in-Ok.first l in
    let right = to_z-of_z w128 c.in-Ok-right.second r in
    λ x y f g p q.
    let a = got c.args.left c.in-Ok.first x f c.in-Ok.is p in
    let b = got c.args.right c.in-Ok-right.second y g c.in-Ok-right.is q in
    operated_none c.args.self (to_z w128 (of_z w128 c.in-Ok.first)) (to_z w128 (of_z w128 c.in-Ok-right.second)) x y f g (left ∙ a.0) (right ∙ b.0) c.in-None.ensures
