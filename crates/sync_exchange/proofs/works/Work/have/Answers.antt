use Rattle.std.proofs.Common.{ap, ◌∙◌, Option, ℕ}
use Rattle.std.proofs.lemmas.Result.{err_from_is_err_and}
use Rattle.sync_machine.specs.Views.{place_tree}
use Rattle.sync_entries.specs.Narrow.{is_narrow}
use Rattle.sync_exchange.specs.Exchange.{binding}
use Rattle.sync_exchange.specs.Works.{base_of, now_of}
use Rattle.sync_exchange.proofs.Acting.{have-stop, have-done}
use Rattle.sync_exchange.proofs.works.Work.have.Goals as goal

pub returns-in_err-found : goal.returns-in_err-found
returns-in_err-found c = λ line.
    let case = c.args.case.now in
    let p = err_from_is_err_and c.from_residual.result c.from_residual.ensures.1 in
    rw (p.1, p.2) (have-stop is_narrow case.outer.fields.now line (now_of case c.args.self.now) c.args.field (place_tree case.m.now.terms c.args.place) _ c.in_err-found.ensures.exact)

pub returns : goal.returns
returns c = λ line.
    let case = c.args.case.now in
    let s = case.m.now.terms in
    let z = (now_of case c.read.new.self) in
    let n = c.in_ok-found.found.token.value in
    have-done is_narrow case.outer.fields.now line (now_of case c.args.self.now) c.args.field (place_tree s c.args.place) n _ z c.in_ok-found.ensures.exact (c.in_ok-read.ensures (base_of case))
    (c.in_ok-bind.ensures (base_of case) ∙ ap (λ (o : Option ℕ). binding o n z) (c.binds.ensures s))
