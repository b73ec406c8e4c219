use Rattle.std.proofs.Common.{◌≡◌, length, arith}
use Rattle.sync_terms.proofs.Extending.{Extends-refl, Extends-trans}
use Rattle.sync_typing_places.proofs.Placing.{stays, still_same}
use Rattle.sync_typing_places.proofs.Owning.{owned_all, owned_on}
use Rattle.sync_typing_places.proofs.places.Place.own_names.Goals as goal

pub loop-name-init : goal.loop-name-init
loop-name-init c = record { grows = Extends-refl c.args.terms.now; becomes = still_same c.args.terms.now c.args.self.now c.requires.own }

pub name_as-requires-clause-own : goal.name_as-requires-clause-own
name_as-requires-clause-own c =
    (stays c.loop-name.terms c.name_of.new.terms c.loop-name.self c.name_of.ensures.keeps c.loop-name.invariant.becomes.own).own

pub loop-name-preserved : goal.loop-name-preserved
loop-name-preserved c = record {
  grows = Extends-trans c.loop-name.invariant.grows c.name_of.ensures.keeps;
  becomes = owned_on c.args.terms.now c.loop-name.terms c.name_of.new.terms c.args.self.now c.loop-name.self c.name_as.new.self c.args.names.now
      c.loop-name.name-index 0 c.of_name-symbol.result.0 c.in_ok-term.term c.loop-name-test.true c.of_name-symbol.ensures c.name_of.ensures.keeps c.loop-name.invariant.becomes.own
      c.in_ok-term.ensures.value.value c.loop-name.invariant.becomes c.in_ok-name_as.ensures;
}

pub returns-clause-becomes : goal.returns-clause-becomes
returns-clause-becomes c =
    let all : c.loop-name.name-index ≡ length c.args.names.now = omega arith in
    owned_all c.args.terms.now c.loop-name.terms c.args.self.now c.loop-name.self c.args.names.now c.loop-name.name-index all c.loop-name.invariant.becomes

pub returns-in_err-name_as-clause-keeps : goal.returns-in_err-name_as-clause-keeps
returns-in_err-name_as-clause-keeps c = Extends-trans c.loop-name.invariant.grows c.name_of.ensures.keeps
