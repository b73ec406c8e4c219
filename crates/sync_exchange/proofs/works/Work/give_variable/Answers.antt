use Rattle.std.proofs.Common.{ℕ, pos, ap, ◌∙◌}
use Rattle.sync_exchange.specs.Exchange.{knowing}
use Rattle.sync_exchange.specs.Works.{base_of, now_of}
use Rattle.sync_exchange.proofs.Acting.{variable-given}
use Rattle.sync_exchange.proofs.works.Work.give_variable.Goals as goal

pub returns : goal.returns
returns c =
    let case = c.args.case.now in
    let z = now_of case c.give.new.self in
    variable-given c.args.field (now_of case c.args.self.now) _ z c.in_ok-give.ensures
    (c.in_ok-know.ensures (base_of case) ∙ ap (λ (n : ℕ). knowing c.args.field n (pos 0) z) c.given_name-name.ensures)
