use Rattle.std.proofs.Common.{◌≡◌, ◌<◌, length, Err, sym, ap, subst, arith, rules}
use Rattle.std.proofs.lemmas.List.{length_push, nil_from_length}
use Rattle.sync_terms.specs.declared.store.TermStop.TheVariants.{TooLarge}
use Rattle.sync_terms.specs.declared.subst.Part.TheVariants as part
use Rattle.sync_terms.specs.Trees.{most_nodes}
use Rattle.sync_terms.specs.Replacing.{InRange, new_size, Steps}
use Rattle.sync_terms.proofs.Extending.{Extends-trans}
use Rattle.sync_terms.proofs.Walking.{IsWay, work, work-down, work-up, IsWay-start, OnWay-last, IsWay-push, IsWay-pop, way-end, formula-end, fits-end}
use Rattle.sync_terms.proofs.store.Terms.replace.Goals as goal

pub loop-first-init : goal.loop-first-init
loop-first-init c =
    let root = part.Form c.args.form in
    let range : InRange root = search rules in
    rw c.new-above.ensures.items (IsWay-start c.args.self.now c.args.done.now root c.requires.done c.requires.form range c.requires.missing)

pub returns-in-Err-clause-too_large : goal.returns-in-Err-clause-too_large
unfolding new_size
returns-in-Err-clause-too_large c = λ e.
    let l = c.loop-first in
    let stop : c.in-Err.stop ≡ TooLarge = cc in
    let large = c.in-Err.ensures.too_large (ap (λ x. Err x) stop) in
    let here : most_nodes < new_size _ l.self l.part = subst (λ f. most_nodes < new_size f l.self l.part) l.invariant.same large in
    let on = OnWay-last _ _ _ l.self l.done l.above.items l.part l.invariant in
    omega (arith, on.smaller, here)

-- ---- a part that waits

pub loop-first-smaller-in-Some : goal.loop-first-smaller-in-Some
loop-first-smaller-in-Some c =
    let l = c.loop-first in
    let h = subst (Steps l.self l.done l.part c.step.new.self c.step.new.done) c.in-Some.is c.in-Ok.ensures.step in
    subst (λ d. work d c.in-Some.child < work l.done l.part) (sym h.1) (work-down l.done l.part c.in-Some.child h.2.before)

pub loop-first-preserved-in-Some : goal.loop-first-preserved-in-Some
loop-first-preserved-in-Some c =
    let l = c.loop-first in
    let h = subst (Steps l.self l.done l.part c.step.new.self c.step.new.done) c.in-Some.is c.in-Ok.ensures.step in
    let way = IsWay-push _ _ _ l.self l.done l.above.items l.part l.invariant c.in-Some.child h.2 in
    rw (h.0, h.1, c.in_default-push.ensures.items) way

-- ---- a part that is replaced

pub loop-first-preserved : goal.loop-first-preserved
loop-first-preserved c =
    let l = c.loop-first in
    let h = subst (Steps l.self l.done l.part c.step.new.self c.step.new.done) c.in_default.is c.in-Ok.ensures.step in
    let some : 0 < length l.above.items = omega (arith, ap length c.in-Some-pop.ensures.items, length_push c.pop.new.self.items c.in-Some-pop.parent) in
    let way = IsWay-pop _ _ _ l.self l.done l.above.items l.part l.invariant c.step.new.self c.step.new.done c.in-Ok.ensures.keeps h some in
    subst (IsWay c.args.self.now c.args.done.now (part.Form c.args.form) c.step.new.self c.step.new.done) c.in-Some-pop.ensures.items way

pub loop-first-smaller : goal.loop-first-smaller
loop-first-smaller c =
    let l = c.loop-first in
    let h = subst (Steps l.self l.done l.part c.step.new.self c.step.new.done) c.in_default.is c.in-Ok.ensures.step in
    let on = OnWay-last _ _ _ l.self l.done l.above.items l.part l.invariant in
    let next = OnWay-last _ _ _ c.step.new.self c.step.new.done c.pop.new.self.items c.in-Some-pop.parent (loop-first-preserved c) in
    work-up l.self c.step.new.self l.done c.step.new.done l.part c.in-Some-pop.parent on.range on.missing h next.range

-- ---- the end

pub returns-in_default-pop-clause-value : goal.returns-in_default-pop-clause-value
returns-in_default-pop-clause-value c =
    let l = c.loop-first in
    let h = subst (Steps l.self l.done l.part c.step.new.self c.step.new.done) c.in_default.is c.in-Ok.ensures.step in
    let none : length l.above.items ≡ 0 = omega (arith, c.in_default-pop.ensures.cases.0, l.above.ok.0) in
    let end = way-end _ _ _ l.self c.step.new.self l.done c.step.new.done l.above.items l.part (nil_from_length l.above.items none) l.invariant h in
    rw c.new_form.ensures (formula-end _ _ c.args.form l.self c.step.new.self l.done c.step.new.done end.0 c.in-Ok.ensures.keeps end.1 c.requires.form)

pub returns-in_default-pop-clause-fits : goal.returns-in_default-pop-clause-fits
returns-in_default-pop-clause-fits c = λ ok.
    let l = c.loop-first in
    let h = subst (Steps l.self l.done l.part c.step.new.self c.step.new.done) c.in_default.is c.in-Ok.ensures.step in
    let none : length l.above.items ≡ 0 = omega (arith, c.in_default-pop.ensures.cases.0, l.above.ok.0) in
    let end = way-end _ _ _ l.self c.step.new.self l.done c.step.new.done l.above.items l.part (nil_from_length l.above.items none) l.invariant h in
    fits-end _ _ c.args.form l.self c.step.new.self l.done c.step.new.done end.0 c.in-Ok.ensures.keeps end.1 c.requires.form

-- ---- the store only grew

pub returns-in-Err-clause-keeps : goal.returns-in-Err-clause-keeps
returns-in-Err-clause-keeps c = Extends-trans c.loop-first.invariant.extends c.step.ensures.keeps

pub returns-in-Err-push-clause-keeps : goal.returns-in-Err-push-clause-keeps
returns-in-Err-push-clause-keeps c = Extends-trans c.loop-first.invariant.extends c.step.ensures.keeps

pub returns-in_default-pop-clause-keeps : goal.returns-in_default-pop-clause-keeps
returns-in_default-pop-clause-keeps c = Extends-trans c.loop-first.invariant.extends c.step.ensures.keeps
