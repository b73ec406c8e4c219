use Rattle.std.proofs.Common.{ℕ, ◌++◌, [], ◌∷◌, drop, refl, sym, ap, ◌∙◌}
use Rattle.sync_exchange.specs.Works.{base_of}
use Rattle.sync_exchange.proofs.Walks.{later-at, same-exchanging}
use Rattle.sync_exchange.proofs.works.Work.give.Goals as goal

pub returns : goal.returns
returns c =
    let b = base_of c.args.case.now in
    let w = c.args.self.now in
    let entered = λ (n : ℕ). w.entered ++ record { name = n; token = c.args.token } ∷ [] in
    same-exchanging refl c.in_ok-self.ensures refl (ap (λ (n : ℕ). drop n b.given) c.in_ok-self-2.ensures ∙ sym (later-at b.given w.given)) refl refl
    (c.in_ok-push.ensures.ok ∙ ap entered c.given_name-name.ensures) refl refl
