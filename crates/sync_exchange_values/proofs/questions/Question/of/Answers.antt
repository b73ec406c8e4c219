use Rattle.std.proofs.Common.{rules, ◌≡◌, ℤ, pos, true, false, Option, is_some, unwrap_or, sym, ap, subst, ◌∙◌, arith, to_z, of_z, if◌then◌else◌}
use Rattle.std.specs.Prelude.{FitsSigned}
use Rattle.std.specs.Int.{w128}
use Rattle.std.proofs.lemmas.Int.{ints, to_z-of_z}
use Rattle.sync_terms.specs.Maps as maps
use Rattle.std.specs.FinMap as finmap
use Rattle.sync_exchange_values.specs.declared.questions.Question.TheVariants as question
use Rattle.sync_exchange_values.specs.declared.questions.Question.{Question}
use Rattle.sync_entries.specs.Narrow.{is_narrow}
use Rattle.sync_exchange_values.specs.Steps.{answer}
use Rattle.sync_exchange_values.proofs.Narrowness.{values_narrow, wide_of}
use Rattle.sync_exchange_values.proofs.Building.{sum-values}
use Rattle.sync_exchange_values.proofs.Evaluating.{at_question}
use Rattle.sync_exchange_values.proofs.questions.Question.of.Goals as goal

pub returns-in-Get-clause-answer : goal.returns-in-Get-clause-answer
returns-in-Get-clause-answer c =
    let m = c.args.map.now in
    let key : FitsSigned w128 c.in-Get.key = search rules in
    let fits : FitsSigned w128 c.unwrap_or.result = search rules in
    let same = to_z-of_z w128 c.unwrap_or.result fits in
    at_question c.args.self (question.Get c.in-Get.key) m (to_z w128 (of_z w128 c.unwrap_or.result)) c.in-Get.is (subst (FitsSigned w128) (sym same) fits)
    (same ∙ c.unwrap_or.ensures ∙ ap (λ (o : Option ℤ). unwrap_or o (pos 0)) c.get.ensures.value ∙ ap (λ (q : ℤ). maps.get m q) (to_z-of_z w128 c.in-Get.key key))

pub returns-in-Get-clause-narrow : goal.returns-in-Get-clause-narrow
returns-in-Get-clause-narrow c = values_narrow c.args.map.now c.get.ensures.narrow

pub returns-then-is_some-clause-answer : goal.returns-then-is_some-clause-answer
returns-then-is_some-clause-answer c =
    let m = c.args.map.now in
    let key : FitsSigned w128 c.in-Has.key = search rules in
    let fits : FitsSigned w128 (pos 1) = search rules in
    let is : is_some (finmap.get m c.in-Has.key) ≡ true = ap is_some (sym (c.get-in-Has.ensures.value ∙ ap (λ (q : ℤ). finmap.get m q) (to_z-of_z w128 c.in-Has.key key))) ∙ sym c.is_some.ensures ∙ c.if-is_some.true in
    at_question c.args.self (question.Has c.in-Has.key) m (pos 1) c.in-Has.is fits (sym (ap (λ b. if b then pos 1 else pos 0) is))

pub returns-then-is_some-clause-narrow : goal.returns-then-is_some-clause-narrow
returns-then-is_some-clause-narrow c = values_narrow c.args.map.now c.get-in-Has.ensures.narrow

pub returns-else-is_some-clause-answer : goal.returns-else-is_some-clause-answer
returns-else-is_some-clause-answer c =
    let m = c.args.map.now in
    let key : FitsSigned w128 c.in-Has.key = search rules in
    let fits : FitsSigned w128 (pos 0) = search rules in
    let is : is_some (finmap.get m c.in-Has.key) ≡ false = ap is_some (sym (c.get-in-Has.ensures.value ∙ ap (λ (q : ℤ). finmap.get m q) (to_z-of_z w128 c.in-Has.key key))) ∙ sym c.is_some.ensures ∙ c.if-is_some.false in
    at_question c.args.self (question.Has c.in-Has.key) m (pos 0) c.in-Has.is fits (sym (ap (λ b. if b then pos 1 else pos 0) is))

pub returns-else-is_some-clause-narrow : goal.returns-else-is_some-clause-narrow
returns-else-is_some-clause-narrow c = values_narrow c.args.map.now c.get-in-Has.ensures.narrow

pub returns-in-Size-clause-answer : goal.returns-in-Size-clause-answer
returns-in-Size-clause-answer c =
    let m = c.args.map.now in
    let wide : to_z w128 c.len.result ≡ pos c.len.result = omega (arith, ints) in
    let fits : FitsSigned w128 (to_z w128 c.len.result) = search rules in
    at_question c.args.self question.Size m (to_z w128 c.len.result) c.in-Size.is fits (wide ∙ ap pos c.len.ensures.len)

pub returns-in-Size-clause-narrow : goal.returns-in-Size-clause-narrow
returns-in-Size-clause-narrow c = values_narrow c.args.map.now c.len.ensures.narrow

pub returns-in-Some-clause-answer : goal.returns-in-Some-clause-answer
returns-in-Some-clause-answer c =
    let sum : FitsSigned w128 c.in-Some.sum = search rules in
    let same = to_z-of_z w128 c.in-Some.sum sum in
    at_question c.args.self question.Sum c.args.map.now (to_z w128 (of_z w128 c.in-Some.sum)) c.in-Sum.is (subst (FitsSigned w128) (sym same) sum) (same ∙ c.in-Some.ensures.sum.1 ∙ sum-values c.args.map.now)

pub returns-in-Some-clause-narrow : goal.returns-in-Some-clause-narrow
returns-in-Some-clause-narrow c = values_narrow c.args.map.now c.sum.ensures.narrow

pub returns-in-None-clause-answer : goal.returns-in-None-clause-answer
returns-in-None-clause-answer c = ap (λ (q : Question). is_narrow (answer q c.args.map.now)) c.in-Sum.is ∙ wide_of (maps.sum c.args.map.now) (subst (λ (n : ℤ). FitsSigned w128 n → ⊥) (sum-values c.args.map.now) c.in-None.ensures.sum)

pub returns-in-None-clause-narrow : goal.returns-in-None-clause-narrow
returns-in-None-clause-narrow c = values_narrow c.args.map.now c.sum.ensures.narrow
