-- Each part has the logs of its numbers.
use Rattle.std.proofs.Common.{ℕ, ltb, leb, ap, ◌∙◌}
use Rattle.std.proofs.lemmas.Bool.{lt-ltb, le-leb}
use Rattle.sync_words.specs.declared.rule.View.{View}
use Rattle.sync_words.specs.Views.{log}
use Rattle.sync_words.proofs.Fitting.{log_part}
use Rattle.sync_words.proofs.words.Words.split.Goals as goal

pub returns-clause-kept_logs : goal.returns-clause-kept_logs
returns-clause-kept_logs c t low =
    let at : ℕ = c.args.at in
    ap (λ (v : View). log v t) c.split_as.ensures.kept ∙ log_part (λ n. ltb n at) c.args.seat.now.token.me.0 t (lt-ltb t at low)

pub returns-clause-moved_logs : goal.returns-clause-moved_logs
returns-clause-moved_logs c t high =
    let at : ℕ = c.args.at in
    ap (λ (v : View). log v t) c.split_as.ensures.moved ∙ log_part (λ n. leb at n) c.args.seat.now.token.me.0 t (le-leb at t high)
