use Rattle.std.proofs.Common.{rules, ◌+◌, suc, drop, if◌then◌else◌, ap, sym, ◌∙◌}
use Rattle.sync_thread.specs.declared.program.CodeStmt.{the_lemmas}
use Rattle.sync_thread_places.specs.Places.{way_from}
use Rattle.sync_thread_places.proofs.Rooms.{yes_room, no_room, body_room, same_room}
use Rattle.sync_thread_places.proofs.Outward.{no_list}
use Rattle.sync_thread_events.proofs.Ways.{some_inside, none_inside, if_way, loop_way, no_way}
use Rattle.sync_thread_events.proofs.finding.+list_at.Goals as goal

pub list_at-requires : goal.list_at-requires
list_at-requires t c = (
  search (rules, the_lemmas),
  same_room c.as_slice.result.now c.in-If.no (c.args.depth + 1) c.args.standing.now c.as_slice.ensures
      (no_room c.args.list.now c.args.depth c.in-Some.hop.at c.in-If.field-0 c.in-If.yes c.in-If.no c.index-list-hop.result c.args.standing.now
      c.requires c.if-hop-list.false c.index-list-hop.is c.in-If.is),
)

pub list_at-requires-else-hop : goal.list_at-requires-else-hop
list_at-requires-else-hop t c = (
  search (rules, the_lemmas),
  same_room c.as_slice-else-hop.result.now c.in-If.yes (c.args.depth + 1) c.args.standing.now c.as_slice-else-hop.ensures
      (yes_room c.args.list.now c.args.depth c.in-Some.hop.at c.in-If.field-0 c.in-If.yes c.in-If.no c.index-list-hop.result c.args.standing.now
      c.requires c.if-hop-list.false c.index-list-hop.is c.in-If.is),
)

pub list_at-requires-in-Loop : goal.list_at-requires-in-Loop
list_at-requires-in-Loop t c = (
  search (rules, the_lemmas),
  same_room c.as_slice-in-Loop.result.now c.in-Loop.body (c.args.depth + 1) c.args.standing.now c.as_slice-in-Loop.ensures
      (body_room c.args.list.now c.args.depth c.in-Some.hop.at c.in-Loop.body c.index-list-hop.result c.args.standing.now
      c.requires c.if-hop-list.false c.index-list-hop.is c.in-Loop.is),
)

pub returns-then-hop-clause-leads : goal.returns-then-hop-clause-leads
returns-then-hop-clause-leads t c = some_inside (λ i. i.now) c.list_at.result (way_from c.args.depth c.args.standing.now) (way_from (c.args.depth + 1) c.args.standing.now) c.args.list.now c.as_slice.result.now _
    (if_way c.args.list.now (way_from c.args.depth c.args.standing.now) (way_from (c.args.depth + 1) c.args.standing.now) c.in-Some.hop c.index-list-hop.result
    c.in-If.field-0 c.in-If.yes c.in-If.no c.as_slice.result.now c.in-Some.ensures.hop c.if-hop-list.false c.index-list-hop.is c.in-If.is
    (ap (λ b. if b then c.in-If.no else c.in-If.yes) c.if-hop.true ∙ sym c.as_slice.ensures)) c.list_at.ensures.leads

pub returns-then-hop-clause-none : goal.returns-then-hop-clause-none
returns-then-hop-clause-none t c = none_inside c.list_at.result (way_from c.args.depth c.args.standing.now) (way_from (c.args.depth + 1) c.args.standing.now) c.args.list.now c.as_slice.result.now _
    (if_way c.args.list.now (way_from c.args.depth c.args.standing.now) (way_from (c.args.depth + 1) c.args.standing.now) c.in-Some.hop c.index-list-hop.result
    c.in-If.field-0 c.in-If.yes c.in-If.no c.as_slice.result.now c.in-Some.ensures.hop c.if-hop-list.false c.index-list-hop.is c.in-If.is
    (ap (λ b. if b then c.in-If.no else c.in-If.yes) c.if-hop.true ∙ sym c.as_slice.ensures)) c.list_at.ensures.none

pub returns-else-hop-clause-leads : goal.returns-else-hop-clause-leads
returns-else-hop-clause-leads t c = some_inside (λ i. i.now) c.list_at-else-hop.result (way_from c.args.depth c.args.standing.now) (way_from (c.args.depth + 1) c.args.standing.now) c.args.list.now c.as_slice-else-hop.result.now _
    (if_way c.args.list.now (way_from c.args.depth c.args.standing.now) (way_from (c.args.depth + 1) c.args.standing.now) c.in-Some.hop c.index-list-hop.result
    c.in-If.field-0 c.in-If.yes c.in-If.no c.as_slice-else-hop.result.now c.in-Some.ensures.hop c.if-hop-list.false c.index-list-hop.is c.in-If.is
    (ap (λ b. if b then c.in-If.no else c.in-If.yes) c.if-hop.false ∙ sym c.as_slice-else-hop.ensures)) c.list_at-else-hop.ensures.leads

pub returns-else-hop-clause-none : goal.returns-else-hop-clause-none
returns-else-hop-clause-none t c = none_inside c.list_at-else-hop.result (way_from c.args.depth c.args.standing.now) (way_from (c.args.depth + 1) c.args.standing.now) c.args.list.now c.as_slice-else-hop.result.now _
    (if_way c.args.list.now (way_from c.args.depth c.args.standing.now) (way_from (c.args.depth + 1) c.args.standing.now) c.in-Some.hop c.index-list-hop.result
    c.in-If.field-0 c.in-If.yes c.in-If.no c.as_slice-else-hop.result.now c.in-Some.ensures.hop c.if-hop-list.false c.index-list-hop.is c.in-If.is
    (ap (λ b. if b then c.in-If.no else c.in-If.yes) c.if-hop.false ∙ sym c.as_slice-else-hop.ensures)) c.list_at-else-hop.ensures.none

pub returns-in-Loop-clause-leads : goal.returns-in-Loop-clause-leads
returns-in-Loop-clause-leads t c = some_inside (λ i. i.now) c.list_at-in-Loop.result (way_from c.args.depth c.args.standing.now) (way_from (c.args.depth + 1) c.args.standing.now) c.args.list.now c.as_slice-in-Loop.result.now _
    (loop_way c.args.list.now (way_from c.args.depth c.args.standing.now) (way_from (c.args.depth + 1) c.args.standing.now) c.in-Some.hop c.index-list-hop.result
    c.in-Loop.body c.as_slice-in-Loop.result.now c.in-Some.ensures.hop c.if-hop-list.false c.index-list-hop.is c.in-Loop.is c.as_slice-in-Loop.ensures) c.list_at-in-Loop.ensures.leads

pub returns-in-Loop-clause-none : goal.returns-in-Loop-clause-none
returns-in-Loop-clause-none t c = none_inside c.list_at-in-Loop.result (way_from c.args.depth c.args.standing.now) (way_from (c.args.depth + 1) c.args.standing.now) c.args.list.now c.as_slice-in-Loop.result.now _
    (loop_way c.args.list.now (way_from c.args.depth c.args.standing.now) (way_from (c.args.depth + 1) c.args.standing.now) c.in-Some.hop c.index-list-hop.result
    c.in-Loop.body c.as_slice-in-Loop.result.now c.in-Some.ensures.hop c.if-hop-list.false c.index-list-hop.is c.in-Loop.is c.as_slice-in-Loop.ensures) c.list_at-in-Loop.ensures.none

pub returns-in-Set-clause-none : goal.returns-in-Set-clause-none
returns-in-Set-clause-none t c = no_way c.args.list.now (way_from c.args.depth c.args.standing.now) (way_from (c.args.depth + 1) c.args.standing.now) c.in-Some.hop
    c.index-list-hop.result c.in-Some.ensures.hop c.if-hop-list.false c.index-list-hop.is
    (no_list c.index-list-hop.result (drop (suc c.in-Some.hop.at) c.args.list.now) c.in-Some.hop.second c.in-Set.is)
