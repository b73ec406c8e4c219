use Rattle.std.proofs.Common.{◌≡◌, ◌<◌, ◌≤◌, rules, arith, length, get_or}
use Rattle.std.proofs.lemmas.Option.{slice_get_past}
use Rattle.sync_thread_places.proofs.Tables.{got}
use Rattle.sync_thread_events.specs.Moments.{lists_of}
use Rattle.sync_thread_events.proofs.Waiting.{waits_some, waits_none}
use Rattle.sync_thread_events.proofs.moments.Moment.waits.Goals as goal

pub returns-in-Some : goal.returns-in-Some
returns-in-Some c =
    let within : c.args.number < length c.args.self.now.standings.items =
    first_of (search rules, grind (arith, c.in-Some.ensures.lookup, c.deref.ensures.value)) in
    let is : c.in-Some.standing.now ≡ get_or c.args.self.now.standings.items c.args.number c.in-Some.standing.now =
    first_of (search rules, grind (arith, c.in-Some.ensures.lookup, c.deref.ensures.value)) in
    waits_some (lists_of c.args.code.now) c.args.self.now.standings.items c.args.number c.in-Some.standing.now c.requires.ready
    (got c.args.self.now.standings.items c.args.number c.in-Some.standing.now within is)

pub returns-in-None : goal.returns-in-None
returns-in-None c =
    let past : length c.args.self.now.standings.items ≤ c.args.number =
    first_of (search rules, grind (arith, c.in-None.ensures.lookup, c.deref.ensures.value)) in
    waits_none (lists_of c.args.code.now) c.args.self.now.standings.items c.args.number
    (slice_get_past c.args.self.now.standings.items c.args.number past)
