use Rattle.std.proofs.Common.{take}
use Rattle.sync_terms.specs.Stored.{Extends}
use Rattle.sync_typing_places.specs.Places.{env_of, own_bounds, Becomes}
use Rattle.sync_typing.specs.Environments.{know}
use Rattle.sync_typing_places.proofs.places.Place.know_locals.Given as goal

abbrev pub invariant-loop-local : goal.invariant-loop-local
invariant-loop-local l = record {
  grows : Extends l.fn.terms l.terms;
  becomes : Becomes l.fn.terms l.terms l.fn.self l.self (know (own_bounds (take l.local-index l.locals)) (env_of l.fn.terms l.fn.self));
}
