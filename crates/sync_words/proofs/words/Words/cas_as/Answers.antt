-- The rule allows the step.
use Rattle.sync_words.proofs.Resting.{rests_stood}
use Rattle.sync_words.proofs.Stepping.{in_table, exchanges}
use Rattle.sync_words.proofs.words.Words.cas_as.Goals as goal

pub compare_exchange-requires : goal.compare_exchange-requires
compare_exchange-requires g c =
    let r = c.requires.may in
    let seat = c.args.seat.now.token in
    let shared = c.args.self.now.table.shared in (
      r.own.0,
      in_table _ _ _ c.args.w c.args.self.now.sized r.own.1 r.there,
      exchanges shared.key.words.items shared.key.threads shared.table_id.slots seat.id seat.me c.args.t g.N.Number.number c.args.w c.requires.number r.own.1 r.own.2 r.mine r.there c.args.old c.args.new,
    )

pub invariant_of-seat-clause-rests : goal.invariant_of-seat-clause-rests
invariant_of-seat-clause-rests g c = rests_stood _ _ c.compare_exchange.ensures.2.makes.stands
