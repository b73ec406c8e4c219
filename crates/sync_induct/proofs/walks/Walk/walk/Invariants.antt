use Rattle.sync_terms.specs.Stored.{Extends}
use Rattle.sync_terms.specs.Proofs.{proofs_in}
use Rattle.sync_induct.specs.Walks.{IsWalk}
use Rattle.sync_induct.proofs.Stepping.{Continues}
use Rattle.sync_induct.proofs.Walking.{place_at}
use Rattle.sync_induct.proofs.walks.Walk.walk.Given as goal

abbrev pub invariant-loop-i : goal.invariant-loop-i
invariant-loop-i l = record {
  keeps : Extends l.initial.terms l.terms;
  stands : IsWalk l.terms l.self;
  continues : Continues l.fields l.op (proofs_in l.initial.terms l.book.proofs.now)
      (place_at l.initial.terms l.initial.terms l.steps 0 l.initial.self)
      (place_at l.initial.terms l.terms l.steps l.i l.self);
}
