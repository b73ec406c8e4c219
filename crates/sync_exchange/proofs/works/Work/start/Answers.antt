use Rattle.std.proofs.Common.{ℤ, sym, ap, ◌∙◌, rules, SFits}
use Rattle.std.specs.Int.{w128}
use Rattle.std.proofs.lemmas.Int.{to_z-of_z}
use Rattle.sync_machine.specs.States.{Value}
use Rattle.sync_base.specs.declared.strategies.Strategy.{Strategy}
use Rattle.sync_join.specs.declared.tokens.Token.{Token}
use Rattle.sync_join.specs.Views.{value_tree}
use Rattle.sync_exchange.specs.Exchange.{after_giving, recording, revaluing, started}
use Rattle.sync_exchange.specs.Works.{base_of, now_of, value_in_list}
use Rattle.sync_exchange.proofs.Raising.{on-same, started-record}
use Rattle.sync_exchange.proofs.works.Work.start.Goals as goal

pub returns-in-Variable : goal.returns-in-Variable
returns-in-Variable c =
    let case = c.args.case.now in
    let x = now_of case c.args.self.now in
    let f = c.args.field in
    let v = value_tree c.args.value in
    let fits : SFits w128 c.number.result = search rules in
    on-same (now_of case c.revalue.new.self) c.revalue.result
    (ap (λ (n : ℤ). revaluing f n x) (to_z-of_z w128 c.number.result fits ∙ c.number.ensures) ∙ ap (λ (s : Strategy). started s f v x) (sym c.in-Variable.is ∙ c.strategy_at.ensures))
    (c.revalue.ensures (base_of case))

pub returns-in_ok-give-in-PersistentCount : goal.returns-in_ok-give-in-PersistentCount
returns-in_ok-give-in-PersistentCount c =
    let case = c.args.case.now in
    let x = now_of case c.args.self.now in
    let y = now_of case c.give-in-PersistentCount.new.self in
    let f = c.args.field in
    let v = value_tree c.args.value in
    on-same (now_of case c.record.new.self) c.record.result
    (ap (λ (u : Value). recording f u y) (c.becomes.ensures (value_in_list y.kept.records f))
    ∙ ap (recording f v) (c.in_ok-give-in-PersistentCount.ensures ∙ ap (λ (t : Token). after_giving t x) c.amount-in-PersistentCount.ensures)
    ∙ ap (λ (s : Strategy). started s f v x) (sym c.in-PersistentCount.is ∙ c.strategy_at.ensures))
    (c.record.ensures (base_of case))

pub returns-in-Constant : goal.returns-in-Constant
returns-in-Constant c =
    let case = c.args.case.now in
    let x = now_of case c.args.self.now in
    let f = c.args.field in
    let v = value_tree c.args.value in
    on-same (now_of case c.record-in-Constant.new.self) c.record-in-Constant.result
    (ap (λ (u : Value). recording f u x) (c.becomes-in-Constant.ensures (value_in_list x.kept.records f))
    ∙ sym (started-record c.strategy_at.result f v x c.in-Constant.is) ∙ ap (λ (s : Strategy). started s f v x) c.strategy_at.ensures)
    (c.record-in-Constant.ensures (base_of case))
