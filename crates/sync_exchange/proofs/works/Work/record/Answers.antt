use Rattle.std.proofs.Common.{List, refl, ap, ◌∙◌}
use Rattle.sync_machine.specs.States.{Value}
use Rattle.sync_join.specs.declared.tokens.Token.{Token}
use Rattle.sync_join.specs.Shards.{Kept}
use Rattle.sync_exchange.specs.declared.changes.Recording.{Recording}
use Rattle.sync_exchange.specs.Works.{recorded}
use Rattle.sync_exchange.proofs.Walks.{recorded-push, same-exchanging}
use Rattle.sync_exchange.proofs.works.Work.record.Goals as goal

kept_with : List Token → List Value → Kept
kept_with ts vs = record { records = vs; stored = ts }

pub returns : goal.returns
unfolding kept_with
returns c = λ b.
    let w = c.args.self.now in
    same-exchanging refl refl refl refl refl refl refl (ap (kept_with w.stored) (ap (λ (cs : List Recording). recorded cs b.records) c.in_ok-push.ensures.ok ∙ recorded-push w.changes _ b.records)) refl
