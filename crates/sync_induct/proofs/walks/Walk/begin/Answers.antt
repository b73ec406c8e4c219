use Rattle.std.proofs.Common.{map}
use Rattle.sync_machine.specs.States.{first_values}
use Rattle.sync_machine.specs.Views.{invariant_tree}
use Rattle.sync_induct.specs.declared.walks.Walk.{Walk}
use Rattle.sync_induct.proofs.Lasting.{forms-in}
use Rattle.sync_induct.proofs.Starting.{begins, assumed, unassumed}
use Rattle.sync_induct.proofs.walks.Walk.begin.Goals as goal

pub assume-requires : goal.assume-requires
assume-requires c =
    let t = c.first_values.new.terms in
    record {
      walk = (begins t _ (first_values c.args.fields.now c.args.mode) (c.new.ensures.ready t) (c.new.ensures.known t) c.in_ok-first_values.ensures.values).walk;
      forms = forms-in c.args.terms.now t c.in_ok-first_values.ensures.keeps c.args.invariants.now c.requires;
    }

pub returns-in-Init-clause-come : goal.returns-in-Init-clause-come
returns-in-Init-clause-come c =
    let w : Walk = record { hyps = c.new.result; current = c.in_ok-first_values.field-0 } in
    let t = c.first_values.new.terms in
    let ts = first_values c.args.fields.now c.args.mode in
    unassumed t w c.args.mode (map (invariant_tree c.args.terms.now) c.args.invariants.now) ts c.in-Init.is (begins t w ts (c.new.ensures.ready t) (c.new.ensures.known t) c.in_ok-first_values.ensures.values)

pub returns-in_ok-assume-in-Transition : goal.returns-in_ok-assume-in-Transition
returns-in_ok-assume-in-Transition c =
    let w : Walk = record { hyps = c.new.result; current = c.in_ok-first_values.field-0 } in
    let t = c.first_values.new.terms in
    let ts = first_values c.args.fields.now c.args.mode in
    record {
      come = assumed c.args.terms.now t w c.assume.new.self c.args.mode c.args.invariants.now ts c.in_ok-first_values.ensures.keeps c.requires c.in-Transition.is
          (begins t w ts (c.new.ensures.ready t) (c.new.ensures.known t) c.in_ok-first_values.ensures.values) c.in_ok-assume-in-Transition.ensures;
      keeps = c.in_ok-first_values.ensures.keeps;
    }
