use Rattle.std.proofs.Common.{sym, ◌∙◌}
use Rattle.sync_exchange.proofs.Laying.{at-any, laid-new, laid-old}
use Rattle.sync_exchange.proofs.changes.latest.Goals as goal

pub returns-in-Some : goal.returns-in-Some
returns-in-Some c = λ d. sym (laid-new c.args.news.now c.args.records.now c.args.at d c.in-Some.value c.index-news-at.result c.requires.new c.requires.old (sym c.index-news-at.is ∙ c.in-Some.is))

pub returns-in-None : goal.returns-in-None
returns-in-None c = λ d.
    let r = c.index-records-at.result in
    c.index-records-at.is ∙ at-any c.args.records.now c.args.at r d c.requires.old
    ∙ sym (laid-old c.args.news.now c.args.records.now c.args.at d c.index-news-at.result c.requires.new (sym c.index-news-at.is ∙ c.in-None.is))
