use Rattle.std.proofs.Common.{◌≡◌, length, arith}
use Rattle.sync_terms.proofs.Extending.{Extends-refl, Extends-trans}
use Rattle.sync_typing_places.proofs.Placing.{stays}
use Rattle.sync_typing_places.proofs.Owning.{known_all, known_none, known_on}
use Rattle.sync_typing_places.proofs.places.Place.know_locals.Goals as goal

pub loop-local-init : goal.loop-local-init
loop-local-init c = record { grows = Extends-refl c.args.terms.now; becomes = known_none c.args.terms.now c.args.self.now c.requires.own }

pub know_word-requires-clause-own : goal.know_word-requires-clause-own
know_word-requires-clause-own c =
    (stays c.loop-local.terms c.name_of.new.terms c.loop-local.self c.name_of.ensures.keeps c.loop-local.invariant.becomes.own).own

pub loop-local-preserved : goal.loop-local-preserved
loop-local-preserved c = record {
  grows = Extends-trans c.loop-local.invariant.grows (Extends-trans c.name_of.ensures.keeps c.know_word.ensures.keeps);
  becomes = known_on c.args.terms.now c.loop-local.terms c.name_of.new.terms c.know_word.new.terms c.args.self.now c.loop-local.self c.know_word.new.self
      c.args.locals.now c.loop-local.local-index 0 c.of_name-symbol.result.0 c.in_ok-term.term c.loop-local-test.true c.of_name-symbol.ensures
      c.name_of.ensures.keeps c.loop-local.invariant.becomes.own c.in_ok-term.ensures.value.value c.loop-local.invariant.becomes c.in_ok-know_word.ensures.becomes;
}

pub returns-in_err-know_word-clause-keeps : goal.returns-in_err-know_word-clause-keeps
returns-in_err-know_word-clause-keeps c =
    Extends-trans c.loop-local.invariant.grows (Extends-trans c.name_of.ensures.keeps c.know_word.ensures.keeps)

pub returns-clause-becomes : goal.returns-clause-becomes
returns-clause-becomes c =
    let all : c.loop-local.local-index ≡ length c.args.locals.now = omega arith in
    known_all c.args.terms.now c.loop-local.terms c.args.self.now c.loop-local.self c.args.locals.now c.loop-local.local-index all c.loop-local.invariant.becomes
