use Rattle.std.proofs.Common.{take}
use Rattle.sync_terms.specs.Stored.{Extends}
use Rattle.sync_typing_places.specs.Places.{env_of, Becomes}
use Rattle.sync_typing_places.proofs.Owning.{with_names}
use Rattle.sync_typing_places.proofs.places.Place.own_names.Given as goal

abbrev pub invariant-loop-name : goal.invariant-loop-name
invariant-loop-name l = record {
  grows : Extends l.fn.terms l.terms;
  becomes : Becomes l.fn.terms l.terms l.fn.self l.self (with_names (env_of l.fn.terms l.fn.self) (take l.name-index l.names));
}
