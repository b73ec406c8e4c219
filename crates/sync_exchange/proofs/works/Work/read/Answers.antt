use Rattle.std.proofs.Common.{ℕ, drop, refl, sym, ap, ◌∙◌}
use Rattle.sync_exchange.proofs.Walks.{later-at, same-exchanging}
use Rattle.sync_exchange.proofs.works.Work.read.Goals as goal

pub returns : goal.returns
returns c = λ b. same-exchanging refl c.in_ok-self.ensures (ap (λ (n : ℕ). drop n b.tokens) c.in_ok-self-2.ensures ∙ sym (later-at b.tokens c.args.self.now.tokens)) refl refl refl refl refl refl
