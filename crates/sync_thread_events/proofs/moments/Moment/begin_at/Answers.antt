use Rattle.std.proofs.Common.{◌<◌, rules, refl, length}
use Rattle.sync_thread_events.proofs.Leading.{begins_either, ready_as, stands_as, stays_if, within_standings}
use Rattle.sync_thread_events.proofs.moments.Moment.begin_at.Goals as goal

pub index_mut-requires : goal.index_mut-requires
index_mut-requires c =
    let h : c.args.at < length c.args.self.now.standings.items =
    within_standings c.args.code.now c.args.self.now c.args.at c.list_of.result.now c.requires.made c.list_of.ensures in
    search rules

pub begin-requires : goal.begin-requires
begin-requires c =
    (ready_as c.args.code.now c.args.self.now c.args.at c.list_of.result.now c.index_mut.result.now c.requires.made c.list_of.ensures
    c.index_mut.ensures.value).room

pub returns-clause-stays : goal.returns-clause-stays
returns-clause-stays c =
    stays_if c.begin.result c.args.code.now c.args.self.now _ c.args.at c.list_of.result.now c.index_mut.result.now c.begin.new.standing
    c.requires.made refl refl c.list_of.ensures
    (stands_as c.args.code.now c.args.self.now c.args.at c.list_of.result.now c.index_mut.result.now c.requires.made c.list_of.ensures
    c.index_mut.ensures.value) c.begin.ensures.keeps c.begin.ensures.there

pub returns-clause-goes : goal.returns-clause-goes
returns-clause-goes c =
    begins_either c.begin.result c.args.code.now c.args.at c.args.self.now.standings.items c.list_of.result.now c.index_mut.result.now
    c.begin.new.standing c.args.self.now.store c.list_of.ensures
    (stands_as c.args.code.now c.args.self.now c.args.at c.list_of.result.now c.index_mut.result.now c.requires.made c.list_of.ensures
    c.index_mut.ensures.value) c.begin.ensures.begins
