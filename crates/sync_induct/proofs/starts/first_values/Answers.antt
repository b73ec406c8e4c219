use Rattle.std.proofs.Common.{◌∙◌, ◌+◌, ◌++◌, ◌∷◌, [], List, sym, ap, subst, get_or, take}
use Rattle.sync_terms.specs.Trees.{Tree}
use Rattle.sync_terms.specs.declared.nodes.TermId.{TermId}
use Rattle.sync_terms.proofs.Extending.{Extends-refl, Extends-trans}
use Rattle.sync_machine.specs.declared.fields.Field.{Field}
use Rattle.sync_base.specs.declared.strategies.Strategy.TheVariants.{Variable}
use Rattle.sync_induct.specs.Starts.{first_value, values_from}
use Rattle.sync_induct.specs.Walks.{HaveTrees}
use Rattle.sync_induct.proofs.Starting.{trees-push, values-more, values-end, no-trees}
use Rattle.sync_induct.proofs.starts.first_values.Goals as goal

pub loop-i-init : goal.loop-i-init
loop-i-init c = record { keeps = Extends-refl c.args.terms.now; have = no-trees c.args.terms.now c.args.mode c.new-values.result.items c.new-values.ensures.items }

pub add_term-requires : goal.add_term-requires
add_term-requires c = record { children = c.first_node-node.ensures.children c.loop-i.terms }

pub returns-in_err-push-clause-keeps : goal.returns-in_err-push-clause-keeps
returns-in_err-push-clause-keeps c = Extends-trans c.loop-i.invariant.keeps c.in-Ok.ensures.keeps

pub loop-i-preserved : goal.loop-i-preserved
loop-i-preserved c =
    let fs = c.args.fields.now in
    let d : Field = record { name = 0; strategy = Variable; line = 0 } in
    let s = c.loop-i.terms in
    let t = c.add_term.new.self in
    let x = first_value c.args.mode c.loop-i.i (get_or fs c.loop-i.i d).strategy in
    let e = c.in-Ok.ensures in
    let pushed = trees-push s t c.loop-i.values.items (values_from c.args.mode 0 (take c.loop-i.i fs)) c.in-Ok.value x e.keeps c.loop-i.invariant.have e.id.0 (e.id.1 ∙ (c.first_node-node.ensures.tree s ∙ ap (λ k. first_value c.args.mode k (get_or fs c.loop-i.i d).strategy) c.in_ok-place_number.ensures)) in
    record {
      keeps = Extends-trans c.loop-i.invariant.keeps e.keeps;
      have = subst (λ (ids : List TermId). HaveTrees t ids (values_from c.args.mode 0 (take (c.loop-i.i + 1) fs))) (sym c.in_ok-push.ensures.items)
          (subst (λ (ts : List Tree). HaveTrees t (c.loop-i.values.items ++ c.in-Ok.value ∷ []) ts) (values-more c.args.mode fs c.loop-i.i d c.loop-i-test.true) pushed);
    }

pub returns-clause-values : goal.returns-clause-values
returns-clause-values c = subst (λ (ts : List Tree). HaveTrees c.loop-i.terms c.loop-i.values.items ts) (values-end c.args.mode c.args.fields.now c.loop-i.i c.loop-i-test.false) c.loop-i.invariant.have
