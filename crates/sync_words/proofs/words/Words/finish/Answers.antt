-- The table's last state has the seat's view.
use Rattle.sync_words.proofs.Stepping.{ends_whole}
use Rattle.sync_words.proofs.words.Words.finish.Goals as goal

pub returns-clause-whole : goal.returns-clause-whole
returns-clause-whole c =
    let key = c.args.self.table.shared.key in
    let seat = c.args.seat.token in
    let last = c.close_with-closed.ensures.values.2 in
    ends_whole key.words.items key.threads seat.id seat.me.0 _ last.0 last.1.0 last.1.1 last.2 c.requires.own.1 c.requires.own.2 c.requires.all
