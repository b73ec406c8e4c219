use Rattle.std.proofs.Common.{ap, ◌∙◌}
use Rattle.std.proofs.lemmas.Result.{err_from_is_err_and}
use Rattle.sync_machine.specs.Views.{place_tree}
use Rattle.sync_entries.specs.Narrow.{is_narrow}
use Rattle.sync_join.specs.declared.tokens.Token.{Token}
use Rattle.sync_exchange.specs.Exchange.{after_giving}
use Rattle.sync_exchange.specs.Works.{now_of}
use Rattle.sync_exchange.proofs.Acting.{add-stop, add-done}
use Rattle.sync_exchange.proofs.works.Work.add.Goals as goal

pub returns-in_err-asked : goal.returns-in_err-asked
returns-in_err-asked c = λ line.
    let case = c.args.case.now in
    let p = err_from_is_err_and c.from_residual.result c.from_residual.ensures.1 in
    rw (p.1, p.2) (add-stop is_narrow case.outer.fields.now line (now_of case c.args.self.now) c.args.field (place_tree case.m.now.terms c.args.place) _ c.in_err-asked.ensures)

pub returns : goal.returns
returns c = λ line.
    let case = c.args.case.now in
    let x = now_of case c.args.self.now in
    add-done is_narrow case.outer.fields.now line x c.args.field (place_tree case.m.now.terms c.args.place) c.in_ok-asked.asked _ (now_of case c.give.new.self)
    c.in_ok-asked.ensures.0 c.in_ok-asked.ensures.1 (c.in_ok-give.ensures ∙ ap (λ (t : Token). after_giving t x) c.token.ensures) c.in_ok-raise.ensures
