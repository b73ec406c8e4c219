use Rattle.std.proofs.Common.{rules, ◌+◌, suc, drop, if◌then◌else◌, ap, sym, ◌∙◌}
use Rattle.sync_thread.specs.declared.program.CodeStmt.{the_lemmas}
use Rattle.sync_thread_places.proofs.Outward.{if_returned, loop_left, turn_left, body_keeps, other_form, no_list, at_end, no_form, on_behind, ends_inside}
use Rattle.sync_thread_places.proofs.Rooms.{yes_room, no_room, body_room, same_room, later_room}
use Rattle.sync_thread_places.proofs.resuming.+resuming.Goals as goal

pub form_left-resume_inside-requires : goal.form_left-resume_inside-requires
form_left-resume_inside-requires t c = (
  search (rules, the_lemmas),
  same_room c.as_slice.result.now c.in-If.no (c.args.depth + 1) c.args.standing.now c.as_slice.ensures
      (no_room c.args.list.now c.args.depth c.args.hop.at c.in-If.field-0 c.in-If.yes c.in-If.no c.index-list-hop.result c.args.standing.now
      c.requires.room c.requires.there c.index-list-hop.is c.in-If.is),
)

pub form_left-resume_inside-requires-else-hop : goal.form_left-resume_inside-requires-else-hop
form_left-resume_inside-requires-else-hop t c = (
  search (rules, the_lemmas),
  same_room c.as_slice-else-hop.result.now c.in-If.yes (c.args.depth + 1) c.args.standing.now c.as_slice-else-hop.ensures
      (yes_room c.args.list.now c.args.depth c.args.hop.at c.in-If.field-0 c.in-If.yes c.in-If.no c.index-list-hop.result c.args.standing.now
      c.requires.room c.requires.there c.index-list-hop.is c.in-If.is),
)

pub form_left-resume_inside-requires-in-Loop : goal.form_left-resume_inside-requires-in-Loop
form_left-resume_inside-requires-in-Loop t c = (
  search (rules, the_lemmas),
  same_room c.as_slice-in-Loop.result.now c.in-Loop.body (c.args.depth + 1) c.args.standing.now c.as_slice-in-Loop.ensures
      (body_room c.args.list.now c.args.depth c.args.hop.at c.in-Loop.body c.index-list-hop.result c.args.standing.now
      c.requires.room c.requires.there c.index-list-hop.is c.in-Loop.is),
)

pub form_left-inside-requires : goal.form_left-inside-requires
form_left-inside-requires t c = later_room c.as_slice-in-Next.result.now (c.args.depth + 1) c.args.depth c.args.standing.now c.resume_inside-in-Loop.new.standing _ c.in-Next.ensures.keeps
    (same_room c.as_slice-in-Next.result.now c.in-Loop.body (c.args.depth + 1) c.args.standing.now c.as_slice-in-Next.ensures
    (body_room c.args.list.now c.args.depth c.args.hop.at c.in-Loop.body c.index-list-hop.result c.args.standing.now
    c.requires.room c.requires.there c.index-list-hop.is c.in-Loop.is))

pub form_left-returns-then-hop-clause-runs : goal.form_left-returns-then-hop-clause-runs
form_left-returns-then-hop-clause-runs t c = if_returned c.args.list.now c.args.depth c.args.from c.args.hop c.index-list-hop.result c.in-If.field-0 c.in-If.yes c.in-If.no
    c.as_slice.result.now c.args.standing.now c.resume_inside.new.standing c.resume_inside.result c.requires.way c.requires.there c.index-list-hop.is c.in-If.is
    (ap (λ b. if b then c.in-If.no else c.in-If.yes) c.if-hop.true ∙ sym c.as_slice.ensures) c.resume_inside.ensures.runs

pub form_left-returns-else-hop-clause-runs : goal.form_left-returns-else-hop-clause-runs
form_left-returns-else-hop-clause-runs t c = if_returned c.args.list.now c.args.depth c.args.from c.args.hop c.index-list-hop.result c.in-If.field-0 c.in-If.yes c.in-If.no
    c.as_slice-else-hop.result.now c.args.standing.now c.resume_inside-else-hop.new.standing c.resume_inside-else-hop.result c.requires.way c.requires.there c.index-list-hop.is c.in-If.is
    (ap (λ b. if b then c.in-If.no else c.in-If.yes) c.if-hop.false ∙ sym c.as_slice-else-hop.ensures) c.resume_inside-else-hop.ensures.runs

pub form_left-returns-in-Next-clause-runs : goal.form_left-returns-in-Next-clause-runs
form_left-returns-in-Next-clause-runs t c = turn_left c.args.list.now c.args.depth c.args.from c.args.hop c.index-list-hop.result c.in-Loop.body
    c.as_slice-in-Loop.result.now c.as_slice-in-Next.result.now c.args.standing.now c.resume_inside-in-Loop.new.standing c.inside.new.standing c.inside.result c.body_left.result
    c.requires.way c.requires.there c.index-list-hop.is c.in-Loop.is c.as_slice-in-Loop.ensures c.as_slice-in-Next.ensures c.body_left.ensures
    c.in-Next.ensures.runs c.inside.ensures.runs

pub form_left-returns-in_default : goal.form_left-returns-in_default
form_left-returns-in_default t c = record {
  runs = loop_left c.args.list.now c.args.depth c.args.from c.args.hop c.index-list-hop.result c.in-Loop.body c.as_slice-in-Loop.result.now c.args.standing.now
      c.resume_inside-in-Loop.new.standing c.resume_inside-in-Loop.result c.body_left-in_default.result c.requires.way c.requires.there c.index-list-hop.is c.in-Loop.is
      c.as_slice-in-Loop.ensures c.in_default.not-Next c.body_left-in_default.ensures c.resume_inside-in-Loop.ensures.runs;
  keeps = body_keeps c.args.depth c.args.standing.now c.resume_inside-in-Loop.new.standing c.resume_inside-in-Loop.result c.body_left-in_default.result
      c.body_left-in_default.ensures c.resume_inside-in-Loop.ensures.keeps;
}

pub form_left-returns-in-Set-clause-runs : goal.form_left-returns-in-Set-clause-runs
form_left-returns-in-Set-clause-runs t c = other_form c.args.list.now c.args.depth c.args.from c.args.hop c.args.standing.now c.index-list-hop.result
    c.requires.way c.requires.there c.index-list-hop.is (no_list c.index-list-hop.result (drop (suc c.args.hop.at) c.args.list.now) c.args.hop.second c.in-Set.is)

pub form_left-returns-in-Set-2-clause-runs : goal.form_left-returns-in-Set-2-clause-runs
form_left-returns-in-Set-2-clause-runs t c = other_form c.args.list.now c.args.depth c.args.from c.args.hop c.args.standing.now c.index-list-hop.result
    c.requires.way c.requires.there c.index-list-hop.is (no_list c.index-list-hop.result (drop (suc c.args.hop.at) c.args.list.now) c.args.hop.second c.in-Set.is)

pub form_left-returns-in-Set-3-clause-runs : goal.form_left-returns-in-Set-3-clause-runs
form_left-returns-in-Set-3-clause-runs t c = other_form c.args.list.now c.args.depth c.args.from c.args.hop c.args.standing.now c.index-list-hop.result
    c.requires.way c.requires.there c.index-list-hop.is (no_list c.index-list-hop.result (drop (suc c.args.hop.at) c.args.list.now) c.args.hop.second c.in-Set.is)

pub form_left-returns-in-Set-4-clause-runs : goal.form_left-returns-in-Set-4-clause-runs
form_left-returns-in-Set-4-clause-runs t c = other_form c.args.list.now c.args.depth c.args.from c.args.hop c.args.standing.now c.index-list-hop.result
    c.requires.way c.requires.there c.index-list-hop.is (no_list c.index-list-hop.result (drop (suc c.args.hop.at) c.args.list.now) c.args.hop.second c.in-Set.is)

pub form_left-returns-in-Set-5-clause-runs : goal.form_left-returns-in-Set-5-clause-runs
form_left-returns-in-Set-5-clause-runs t c = other_form c.args.list.now c.args.depth c.args.from c.args.hop c.args.standing.now c.index-list-hop.result
    c.requires.way c.requires.there c.index-list-hop.is (no_list c.index-list-hop.result (drop (suc c.args.hop.at) c.args.list.now) c.args.hop.second c.in-Set.is)

pub form_left-returns-in-Set-6-clause-runs : goal.form_left-returns-in-Set-6-clause-runs
form_left-returns-in-Set-6-clause-runs t c = other_form c.args.list.now c.args.depth c.args.from c.args.hop c.args.standing.now c.index-list-hop.result
    c.requires.way c.requires.there c.index-list-hop.is (no_list c.index-list-hop.result (drop (suc c.args.hop.at) c.args.list.now) c.args.hop.second c.in-Set.is)

pub form_left-returns-in-Set-7-clause-runs : goal.form_left-returns-in-Set-7-clause-runs
form_left-returns-in-Set-7-clause-runs t c = other_form c.args.list.now c.args.depth c.args.from c.args.hop c.args.standing.now c.index-list-hop.result
    c.requires.way c.requires.there c.index-list-hop.is (no_list c.index-list-hop.result (drop (suc c.args.hop.at) c.args.list.now) c.args.hop.second c.in-Set.is)

pub form_left-returns-in-Set-8-clause-runs : goal.form_left-returns-in-Set-8-clause-runs
form_left-returns-in-Set-8-clause-runs t c = other_form c.args.list.now c.args.depth c.args.from c.args.hop c.args.standing.now c.index-list-hop.result
    c.requires.way c.requires.there c.index-list-hop.is (no_list c.index-list-hop.result (drop (suc c.args.hop.at) c.args.list.now) c.args.hop.second c.in-Set.is)

pub form_left-returns-in-Set-9-clause-runs : goal.form_left-returns-in-Set-9-clause-runs
form_left-returns-in-Set-9-clause-runs t c = other_form c.args.list.now c.args.depth c.args.from c.args.hop c.args.standing.now c.index-list-hop.result
    c.requires.way c.requires.there c.index-list-hop.is (no_list c.index-list-hop.result (drop (suc c.args.hop.at) c.args.list.now) c.args.hop.second c.in-Set.is)

pub resume-returns-in_default-clause-runs : goal.resume-returns-in_default-clause-runs
resume-returns-in_default-clause-runs t c = at_end c.args.list.now c.args.depth c.args.from c.args.standing.now c.advance.new.standing c.advance.result
    c.in_default.ensures.hop c.advance.ensures.runs

pub resume-returns-then-hop-list-clause-runs : goal.resume-returns-then-hop-list-clause-runs
resume-returns-then-hop-list-clause-runs t c = no_form c.args.list.now c.args.depth c.args.from c.in-Some.hop c.args.standing.now c.in-Some.ensures.hop
    c.if-hop-list.true

pub resume-returns-in-Over-clause-runs : goal.resume-returns-in-Over-clause-runs
resume-returns-in-Over-clause-runs t c = on_behind c.args.list.now c.in-Some.hop.at c.args.depth c.args.from c.args.standing.now c.form_left.new.standing
    c.advance-in-Over.new.standing c.advance-in-Over.result c.in-Over.ensures.runs c.advance-in-Over.ensures.runs
