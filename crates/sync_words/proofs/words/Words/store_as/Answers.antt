-- The rule allows the step.
use Rattle.sync_words.proofs.Resting.{rests_stood}
use Rattle.sync_words.proofs.Stepping.{in_table, stores}
use Rattle.sync_words.proofs.words.Words.store_as.Goals as goal

pub store-requires : goal.store-requires
store-requires g c =
    let r = c.requires.may in
    let seat = c.args.seat.now.token in
    let shared = c.args.self.now.table.shared in (
      r.own.0,
      in_table _ _ _ c.args.w c.args.self.now.sized r.own.1 r.there,
      stores shared.key.words.items shared.key.threads shared.table_id.slots seat.id seat.me c.args.t g.N.Number.number c.args.w c.requires.number r.own.1 r.own.2 r.mine r.there c.args.new,
    )

pub invariant_of-seat-clause-rests : goal.invariant_of-seat-clause-rests
invariant_of-seat-clause-rests g c = rests_stood _ _ c.store.ensures.2.stands
