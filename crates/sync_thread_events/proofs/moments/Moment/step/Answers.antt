use Rattle.std.proofs.Common.{◌<◌, ◌≤◌, rules, refl, length, slice_set, ◌∙◌}
use Rattle.std.proofs.lemmas.Result.{err_from_is_err_and}
use Rattle.sync_thread.specs.Code.{code_meaning, ErasedConfig}
use Rattle.sync_thread.specs.Control.{event, hand_over}
use Rattle.sync_thread.specs.Views.{code_tree}
use Rattle.sync_thread_events.specs.Moments.{config_in, config_of, lists_of}
use Rattle.sync_thread_events.proofs.Configs.{after_thread}
use Rattle.sync_thread_events.proofs.Leading.{goes_along, ready_as, stands_as, stays_so}
use Rattle.sync_thread_events.proofs.Stepping.{last_stepped, stepped_off, stepped_on, waits_still, waits_within}
use Rattle.sync_thread_events.proofs.moments.Moment.step.Goals as goal

pub list_of-requires : goal.list_of-requires
list_of-requires c = (waits_within c.args.code.now c.args.self.now c.args.number c.requires.made c.requires.waits).0

pub index_mut-requires : goal.index_mut-requires
index_mut-requires c =
    let h : c.args.number < length c.args.self.now.standings.items =
    (waits_within c.args.code.now c.args.self.now c.args.number c.requires.made c.requires.waits).1 in
    search rules

pub go_on-requires-clause-room : goal.go_on-requires-clause-room
go_on-requires-clause-room c =
    (ready_as c.args.code.now c.args.self.now c.args.number c.list_of.result.now c.index_mut.result.now c.requires.made c.list_of.ensures
    c.index_mut.ensures.value).room

pub go_on-requires-clause-waits : goal.go_on-requires-clause-waits
go_on-requires-clause-waits c =
    waits_still c.args.code.now c.args.self.now c.args.number c.list_of.result.now c.index_mut.result.now c.requires.made c.requires.waits
    c.list_of.ensures c.index_mut.ensures.value

pub returns-in_err-go_on-clause-goes : goal.returns-in_err-go_on-clause-goes
returns-in_err-go_on-clause-goes c =
    let p = err_from_is_err_and c.from_residual.result c.from_residual.ensures.1 in
    rw (p.1, p.2) (stepped_off c.args.code.now c.args.self.now c.args.number c.list_of.result.now c.index_mut.result.now
    c.go_on.new.standing c.go_on.new.shared _ c.requires.made c.requires.waits c.list_of.ensures c.index_mut.ensures.value
    c.in_err-go_on.ensures.moves)

pub returns-clause-goes : goal.returns-clause-goes
returns-clause-goes c =
    let thread : c.args.number < length c.args.code.now.threads = search rules in
    let there : ErasedConfig = config_in (lists_of c.args.code.now) c.go_on.new.shared
    (slice_set c.args.self.now.standings.items c.args.number c.go_on.new.standing) in
    goes_along c.hand_over.result (event (code_meaning (code_tree c.args.code.now)) c.args.number (config_of c.args.code.now c.args.self.now))
    (hand_over (code_meaning (code_tree c.args.code.now)) there) (config_of c.args.code.now c.hand_over.new.self)
    (stepped_on c.args.code.now c.args.self.now c.args.number c.list_of.result.now c.index_mut.result.now
    c.go_on.new.standing c.go_on.new.shared c.requires.made c.requires.waits c.list_of.ensures c.index_mut.ensures.value
    c.in_ok-go_on.ensures.moves
    ∙ after_thread c.args.code.now c.args.number there thread) c.hand_over.ensures.goes

pub returns-then-at-len-clause-stays : goal.returns-then-at-len-clause-stays
returns-then-at-len-clause-stays c =
    stays_so c.args.code.now c.args.self.now _ c.args.number c.list_of.result.now c.index_mut.result.now c.go_on.new.standing c.requires.made
    refl refl c.list_of.ensures
    (stands_as c.args.code.now c.args.self.now c.args.number c.list_of.result.now c.index_mut.result.now c.requires.made c.list_of.ensures
    c.index_mut.ensures.value) c.in_ok-go_on.ensures.keeps c.in_ok-go_on.ensures.there

pub hand_over-requires : goal.hand_over-requires
hand_over-requires c =
    stays_so c.args.code.now c.args.self.now _ c.args.number c.list_of.result.now c.index_mut.result.now c.go_on.new.standing c.requires.made
    refl refl c.list_of.ensures
    (stands_as c.args.code.now c.args.self.now c.args.number c.list_of.result.now c.index_mut.result.now c.requires.made c.list_of.ensures
    c.index_mut.ensures.value) c.in_ok-go_on.ensures.keeps c.in_ok-go_on.ensures.there

pub returns-then-at-len-clause-goes : goal.returns-then-at-len-clause-goes
returns-then-at-len-clause-goes c =
    let last : length c.args.code.now.threads ≤ c.args.number = search rules in
    last_stepped c.args.code.now c.args.number (config_of c.args.code.now c.args.self.now)
    (config_in (lists_of c.args.code.now) c.go_on.new.shared
    (slice_set c.args.self.now.standings.items c.args.number c.go_on.new.standing)) last
    (stepped_on c.args.code.now c.args.self.now c.args.number c.list_of.result.now c.index_mut.result.now
    c.go_on.new.standing c.go_on.new.shared c.requires.made c.requires.waits c.list_of.ensures c.index_mut.ensures.value
    c.in_ok-go_on.ensures.moves)
