use Rattle.std.proofs.Common.{[], ◌∷◌, ◌++◌, ap, ◌∙◌}
use Rattle.std.proofs.lemmas.Result.{err_from_is_err_and}
use Rattle.sync_machine.specs.Views.{place_tree}
use Rattle.sync_entries.specs.Narrow.{is_narrow}
use Rattle.sync_join.specs.declared.tokens.Token.{Token}
use Rattle.sync_exchange.specs.Exchange.{storing}
use Rattle.sync_exchange.specs.Works.{base_of, now_of}
use Rattle.sync_exchange.proofs.Acting.{deposit-stop, deposit-done}
use Rattle.sync_exchange.proofs.works.Work.deposit.Goals as goal

pub returns-in_err-found : goal.returns-in_err-found
returns-in_err-found c = λ line.
    let case = c.args.case.now in
    let p = err_from_is_err_and c.from_residual.result c.from_residual.ensures.1 in
    rw (p.1, p.2) (deposit-stop is_narrow case.outer.fields.now line (now_of case c.args.self.now) c.args.field (place_tree case.m.now.terms c.args.place) _ c.in_err-found.ensures.exact)

pub returns : goal.returns
returns c = λ line.
    let case = c.args.case.now in
    let z = now_of case c.take.new.self in
    deposit-done is_narrow case.outer.fields.now line (now_of case c.args.self.now) c.args.field (place_tree case.m.now.terms c.args.place) c.in_ok-found.found.token.value c.in_ok-found.found.asked _ z
    c.in_ok-found.ensures.exact c.in_ok-found.ensures.asked c.in_ok-take.ensures
    (c.in_ok-store.ensures (base_of case) ∙ ap (λ (t : Token). storing (z.kept.stored ++ t ∷ []) z) c.token.ensures)
