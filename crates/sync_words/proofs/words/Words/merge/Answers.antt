-- The rule allows both moves, and the logs come together.
use Rattle.std.proofs.Common.{◌≡◌, ℕ, ap, ◌∙◌}
use Rattle.atomic_table.specs.Table.{Me}
use Rattle.sync_words.specs.declared.rule.View.{View}
use Rattle.sync_words.specs.Views.{merged, log}
use Rattle.sync_words.proofs.Fitting.{log_merged_left, log_merged_right}
use Rattle.sync_words.proofs.Resting.{listed_rests}
use Rattle.sync_words.proofs.Stepping.{glues, learns_at}
use Rattle.sync_words.proofs.words.Words.merge.Goals as goal

pub join_seat-requires : goal.join_seat-requires
join_seat-requires c =
    let shared = c.args.self.now.table.shared in
    let into = c.args.into.now.token in
    let other = c.args.from.token in
    let own = c.requires.own in
    (own.0.0, own.1.0, c.args.from.bare, c.args.self.now.some, glues shared.key.words.items shared.key.threads into.id other.id into.me.0 other.me.0)

pub load-requires : goal.load-requires
load-requires c =
    let shared = c.args.self.now.table.shared in
    let seat = c.join_seat.new.seat in
    let own = c.requires.own.0 in
    let e = c.join_seat.ensures in (
      e.0 ∙ own.0,
      c.args.self.now.some,
      learns_at shared.key.words.items shared.key.threads shared.table_id.slots seat.id seat.me 0 (ap (λ (m : Me ℕ View). m.0.words) e.2 ∙ own.1) (ap (λ (m : Me ℕ View). m.0.threads) e.2 ∙ own.2),
    )

pub returns-clause-own_logs : goal.returns-clause-own_logs
returns-clause-own_logs c t none =
    let both : c.load.new.seat.me.0 ≡ merged c.args.into.now.token.me.0 c.args.from.token.me.0 = c.load.ensures.2.view ∙ ap (λ (m : Me ℕ View). m.0) c.join_seat.ensures.2 in
    ap (λ (v : View). log v t) both ∙ log_merged_left c.args.into.now.token.me.0 c.args.from.token.me.0 (listed_rests _ c.args.from.rests) t none

pub returns-clause-other_logs : goal.returns-clause-other_logs
returns-clause-other_logs c t none =
    let both : c.load.new.seat.me.0 ≡ merged c.args.into.now.token.me.0 c.args.from.token.me.0 = c.load.ensures.2.view ∙ ap (λ (m : Me ℕ View). m.0) c.join_seat.ensures.2 in
    ap (λ (v : View). log v t) both ∙ log_merged_right c.args.into.now.token.me.0 c.args.from.token.me.0 (listed_rests _ c.args.into.now.rests) t none
