use Rattle.std.proofs.Common.{ℕ, List, drop, refl, sym, ap, ◌∙◌}
use Rattle.sync_exchange.specs.declared.hands.Held.{Held}
use Rattle.sync_exchange.specs.Exchange.{without}
use Rattle.sync_exchange.specs.Works.{base_of}
use Rattle.sync_exchange.proofs.Walks.{later-at, same-exchanging}
use Rattle.sync_exchange.proofs.works.Work.take.Goals as goal

pub returns : goal.returns
returns c =
    let b = base_of c.args.case.now in
    let w = c.args.self.now in
    same-exchanging refl c.in_ok-self-2.ensures (ap (λ (n : ℕ). drop n b.tokens) c.in_ok-self-3.ensures ∙ sym (later-at b.tokens w.tokens)) refl refl
    (c.in_ok-self.ensures ∙ ap (λ (hs : List Held). without c.token_name-name.result hs) c.as_slice.ensures ∙ ap (λ (n : ℕ). without n w.hand) c.token_name-name.ensures) refl refl refl
