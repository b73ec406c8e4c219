use Rattle.std.proofs.Common.{sym, ap, ◌∙◌}
use Rattle.sync_machine.specs.States.{Value}
use Rattle.sync_base.specs.declared.strategies.Strategy.{Strategy}
use Rattle.sync_exchange.specs.Exchange.{raised, recording}
use Rattle.sync_exchange.specs.Works.{base_of, now_of, value_in_list}
use Rattle.sync_exchange.proofs.Raising.{on-same, raised-entry}
use Rattle.sync_exchange.proofs.works.Work.raise.Goals as goal

pub returns-in-PersistentOption : goal.returns-in-PersistentOption
returns-in-PersistentOption c =
    let case = c.args.case.now in
    let x = now_of case c.args.self.now in
    let f = c.args.field in
    let r = value_in_list x.kept.records f in
    let k = c.args.asked.key in
    let n = c.args.asked.value in
    on-same (now_of case c.record.new.self) c.record.result
    (ap (λ (v : Value). recording f v x) (c.entry.ensures r ∙ sym (raised-entry c.strategy_at.result r k n c.in-PersistentOption.is) ∙ ap (λ (s : Strategy). raised s r k n) c.strategy_at.ensures))
    (c.record.ensures (base_of case))

pub returns-in-PersistentSet : goal.returns-in-PersistentSet
returns-in-PersistentSet c =
    let case = c.args.case.now in
    let x = now_of case c.args.self.now in
    let f = c.args.field in
    let r = value_in_list x.kept.records f in
    let k = c.args.asked.key in
    let n = c.args.asked.value in
    on-same (now_of case c.record-in-PersistentSet.new.self) c.record-in-PersistentSet.result
    (ap (λ (v : Value). recording f v x) (c.element.ensures r ∙ ap (λ (s : Strategy). raised s r k n) (sym c.in-PersistentSet.is ∙ c.strategy_at.ensures)))
    (c.record-in-PersistentSet.ensures (base_of case))

pub returns-in-PersistentCount : goal.returns-in-PersistentCount
returns-in-PersistentCount c =
    let case = c.args.case.now in
    let x = now_of case c.args.self.now in
    let f = c.args.field in
    let r = value_in_list x.kept.records f in
    let k = c.args.asked.key in
    let n = c.args.asked.value in
    on-same (now_of case c.record-in-PersistentCount.new.self) c.record-in-PersistentCount.result
    (ap (λ (v : Value). recording f v x) (c.mark.ensures r ∙ ap (λ (s : Strategy). raised s r k n) (sym c.in-PersistentCount.is ∙ c.strategy_at.ensures)))
    (c.record-in-PersistentCount.ensures (base_of case))
