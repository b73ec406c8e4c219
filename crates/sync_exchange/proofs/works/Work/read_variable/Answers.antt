use Rattle.std.proofs.Common.{ℕ, sym, ap, ◌∙◌}
use Rattle.sync_exchange.specs.Exchange.{knowing}
use Rattle.sync_exchange.specs.Works.{base_of, now_of}
use Rattle.sync_exchange.proofs.Acting.{variable-read}
use Rattle.sync_exchange.proofs.works.Work.read_variable.Goals as goal

pub returns : goal.returns
returns c =
    let case = c.args.case.now in
    let z = now_of case c.read.new.self in
    variable-read c.args.field (now_of case c.args.self.now) _ z c.in_ok-token.token c.in_ok-token.ensures (sym c.is_of_variable.ensures ∙ c.if-not-is_of_variable.false) (c.in_ok-read.ensures (base_of case))
    (c.in_ok-know.ensures (base_of case) ∙ ap (λ (n : ℕ). knowing c.args.field n c.in_ok-token.token.value z) c.token_name-name.ensures)
