use Rattle.std.proofs.Common.{ℕ, Option, ap, ◌∙◌}
use Rattle.std.proofs.lemmas.Result.{err_from_is_err_and}
use Rattle.sync_machine.specs.Views.{place_tree}
use Rattle.sync_entries.specs.Narrow.{is_narrow}
use Rattle.sync_join.specs.declared.tokens.Token.{Token}
use Rattle.sync_exchange.specs.Exchange.{after_giving, binding}
use Rattle.sync_exchange.specs.Works.{base_of, now_of}
use Rattle.sync_exchange.proofs.Acting.{withdraw-stop, withdraw-done}
use Rattle.sync_exchange.proofs.works.Work.take_out.Goals as goal

pub returns-in_err-found : goal.returns-in_err-found
returns-in_err-found c = λ line.
    let case = c.args.case.now in
    let p = err_from_is_err_and c.from_residual.result c.from_residual.ensures.1 in
    rw (p.1, p.2) (withdraw-stop is_narrow case.outer.fields.now line (now_of case c.args.self.now) c.args.field (place_tree case.m.now.terms c.args.place) _ c.in_err-found.ensures.exact)

pub returns : goal.returns
returns c = λ line.
    let case = c.args.case.now in
    let s = case.m.now.terms in
    let x = now_of case c.args.self.now in
    let z = now_of case c.give.new.self in
    let u = now_of case c.withdraw.new.self in
    let n = c.in_ok-found.found.token.value in
    withdraw-done is_narrow case.outer.fields.now line x c.args.field (place_tree s c.args.place) n c.in_ok-found.found.asked _ u z
    c.in_ok-found.ensures.exact c.in_ok-found.ensures.asked
    (c.in_ok-give.ensures ∙ ap (λ (t : Token). after_giving t x) c.permission.ensures)
    (c.in_ok-withdraw.ensures (base_of case))
    (c.in_ok-bind.ensures (base_of case) ∙ ap (λ (o : Option ℕ). binding o n u) (c.binds.ensures s))
