use Rattle.std.proofs.Common.{◌≡◌, ℕ, ◌<◌, length, map, [], ◌∷◌, ◌++◌, Some, None, option_map, subst, sym, ap, ◌∙◌, arith}
use Rattle.std.specs.List.{range_with_len}
use Rattle.std.proofs.lemmas.List.{map_push}
use Rattle.sync_join.specs.Join.{value_at}
use Rattle.sync_join.specs.Views.{value_tree, kept_of}
use Rattle.sync_join.proofs.States.{joined-state, no-state, values-more}
use Rattle.sync_join.proofs.joining.join.Goals as goal

pub returns-in-None-clause-state : goal.returns-in-None-clause-state
returns-in-None-clause-state c =
    let fs = c.args.m.now.fields in
    let bag = c.args.bag.now.tokens in
    let kept = kept_of c.args.rest.now in
    let inside : c.loop-f.f < length fs = subst (λ (n : ℕ). c.loop-f.f < n) c.len-f-end.ensures c.loop-f-test.true in
    let none : value_at fs bag kept c.loop-f.f ≡ None = ap (value_at fs bag kept) (sym c.in_ok-place_number.ensures) ∙ sym c.in_ok-value.ensures.value ∙ ap (option_map value_tree) c.in-None.is in
    sym (no-state fs bag kept c.loop-f.f inside none)

pub loop-f-preserved : goal.loop-f-preserved
loop-f-preserved c =
    let fs = c.args.m.now.fields in
    let bag = c.args.bag.now.tokens in
    let kept = kept_of c.args.rest.now in
    let value = c.in-Some.value in
    let is : value_at fs bag kept c.loop-f.f ≡ Some (value_tree value) = ap (value_at fs bag kept) (sym c.in_ok-place_number.ensures) ∙ sym c.in_ok-value.ensures.value ∙ ap (option_map value_tree) c.in-Some.is in
    let pushed : c.push.new.self ≡ c.loop-f.values ++ value ∷ [] = c.in_ok-push-in-Some.ensures.ok in
    values-more fs bag kept c.loop-f.f (map value_tree c.loop-f.values) (value_tree value) c.loop-f.invariant is
    ∙ ap (map Some) (sym (ap (map value_tree) pushed ∙ map_push value_tree c.loop-f.values value))

pub returns-clause-state : goal.returns-clause-state
returns-clause-state c =
    let fs = c.args.m.now.fields in
    let bag = c.args.bag.now.tokens in
    let kept = kept_of c.args.rest.now in
    let all : length fs ≡ c.loop-f.f = omega (arith, c.len-f-end.ensures) in
    sym (joined-state fs bag kept (map value_tree c.loop-f.values) (ap (λ (n : ℕ). map (value_at fs bag kept) (range_with_len 0 n)) all ∙ c.loop-f.invariant))
