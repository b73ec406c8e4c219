use Rattle.std.proofs.Common.{ℤ, sym, ap, ◌∙◌, rules, SFits}
use Rattle.std.specs.Int.{w128}
use Rattle.std.proofs.lemmas.Int.{to_z-of_z}
use Rattle.sync_machine.specs.States.{Value}
use Rattle.sync_base.specs.declared.strategies.Strategy.{Strategy}
use Rattle.sync_join.specs.Views.{value_tree}
use Rattle.sync_exchange.specs.Exchange.{recording, revaluing, updated}
use Rattle.sync_exchange.specs.Works.{base_of, now_of, value_in_list}
use Rattle.sync_exchange.proofs.Raising.{on-same}
use Rattle.sync_exchange.proofs.works.Work.change.Goals as goal

pub returns-in-Variable : goal.returns-in-Variable
returns-in-Variable c =
    let case = c.args.case.now in
    let x = now_of case c.args.self.now in
    let f = c.args.field in
    let v = value_tree c.args.value in
    let fits : SFits w128 c.number.result = search rules in
    on-same (now_of case c.revalue.new.self) c.revalue.result
    (ap (λ (n : ℤ). revaluing f n x) (to_z-of_z w128 c.number.result fits ∙ c.number.ensures) ∙ ap (λ (s : Strategy). updated s f v x) (sym c.in-Variable.is ∙ c.strategy_at.ensures))
    (c.revalue.ensures (base_of case))

pub returns-in-NotTokenized : goal.returns-in-NotTokenized
returns-in-NotTokenized c =
    let case = c.args.case.now in
    let x = now_of case c.args.self.now in
    let f = c.args.field in
    let v = value_tree c.args.value in
    on-same (now_of case c.record.new.self) c.record.result
    (ap (λ (u : Value). recording f u x) (c.becomes.ensures (value_in_list x.kept.records f)) ∙ ap (λ (s : Strategy). updated s f v x) (sym c.in-NotTokenized.is ∙ c.strategy_at.ensures))
    (c.record.ensures (base_of case))
