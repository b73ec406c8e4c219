use Rattle.std.proofs.Common.{refl, subst}
use Rattle.std.proofs.lemmas.Result.{err_from_is_err_and}
use Rattle.sync_thread_events.specs.declared.moments.Moment.{Moment}
use Rattle.sync_thread_events.specs.Layout.{IsLaid}
use Rattle.sync_thread_events.specs.Moments.{config_of}
use Rattle.sync_thread_events.proofs.Fresh.{first_as, first_moment, not_handed, not_led, started}
use Rattle.sync_thread_events.proofs.moments.Moment.start.Goals as goal

pub lead-requires : goal.lead-requires
lead-requires c =
    first_moment c.args.code.now c.in_ok-laid.laid _ (subst (λ ds. IsLaid ds c.in_ok-laid.laid) c.as_slice.ensures c.in_ok-laid.ensures) refl
    c.in_ok-standings.ensures

pub returns-in_err-lead-clause-starts : goal.returns-in_err-lead-clause-starts
returns-in_err-lead-clause-starts c =
    let p = err_from_is_err_and c.from_residual-in_err-lead.result c.from_residual-in_err-lead.ensures.1 in
    let m : Moment = record {
      spans = c.in_ok-laid.laid.spans;
      store = record { words = c.in_ok-laid.laid.words; cells = c.in_ok-laid.laid.cells; lines = c.new.result };
      standings = c.in_ok-standings.standings;
    } in
    let laid : IsLaid c.args.code.now.decls c.in_ok-laid.laid =
    subst (λ ds. IsLaid ds c.in_ok-laid.laid) c.as_slice.ensures c.in_ok-laid.ensures in
    let first = first_as c.args.code.now c.in_ok-laid.laid m laid refl refl c.new.ensures.items c.in_ok-standings.ensures in
    let here = config_of c.args.code.now m in
    rw (p.1, p.2) (not_led c.args.code.now here _ first c.in_err-lead.ensures.goes)

pub returns-in_err-hand_over-clause-starts : goal.returns-in_err-hand_over-clause-starts
returns-in_err-hand_over-clause-starts c =
    let p = err_from_is_err_and c.from_residual-in_err-hand_over.result c.from_residual-in_err-hand_over.ensures.1 in
    let m : Moment = record {
      spans = c.in_ok-laid.laid.spans;
      store = record { words = c.in_ok-laid.laid.words; cells = c.in_ok-laid.laid.cells; lines = c.new.result };
      standings = c.in_ok-standings.standings;
    } in
    let laid : IsLaid c.args.code.now.decls c.in_ok-laid.laid =
    subst (λ ds. IsLaid ds c.in_ok-laid.laid) c.as_slice.ensures c.in_ok-laid.ensures in
    let first = first_as c.args.code.now c.in_ok-laid.laid m laid refl refl c.new.ensures.items c.in_ok-standings.ensures in
    let here = config_of c.args.code.now m in
    rw (p.1, p.2) (not_handed c.args.code.now here (config_of c.args.code.now c.lead.new.self) _ first c.in_ok-lead.ensures.goes
    c.in_err-hand_over.ensures.goes)

pub returns-clause-starts : goal.returns-clause-starts
returns-clause-starts c =
    let m : Moment = record {
      spans = c.in_ok-laid.laid.spans;
      store = record { words = c.in_ok-laid.laid.words; cells = c.in_ok-laid.laid.cells; lines = c.new.result };
      standings = c.in_ok-standings.standings;
    } in
    let laid : IsLaid c.args.code.now.decls c.in_ok-laid.laid =
    subst (λ ds. IsLaid ds c.in_ok-laid.laid) c.as_slice.ensures c.in_ok-laid.ensures in
    let first = first_as c.args.code.now c.in_ok-laid.laid m laid refl refl c.new.ensures.items c.in_ok-standings.ensures in
    let here = config_of c.args.code.now m in
    started c.args.code.now here (config_of c.args.code.now c.lead.new.self) _ first c.in_ok-lead.ensures.goes c.in_ok-hand_over.ensures.goes
