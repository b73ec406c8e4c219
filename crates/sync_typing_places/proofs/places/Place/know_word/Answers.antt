use Rattle.sync_terms.specs.Stored.{tree}
use Rattle.sync_typing.specs.Environments.{top}
use Rattle.sync_typing_places.proofs.Beginning.{on_ok}
use Rattle.sync_typing_places.proofs.Binding.{word_known}
use Rattle.sync_typing_places.proofs.Placing.{stays}
use Rattle.sync_typing_places.proofs.places.Place.know_word.Goals as goal

pub learn-requires-clause-own : goal.learn-requires-clause-own
learn-requires-clause-own c = (stays c.args.terms.now c.bounds_made.new.terms c.args.self.now c.bounds_made.ensures.keeps c.requires.own).own

pub returns-clause-becomes : goal.returns-clause-becomes
returns-clause-becomes c =
    let s = c.args.terms.now in
    let t = c.bounds_made.new.terms in
    on_ok c.learn-2.result _ _
    (λ two. word_known s t c.args.self.now c.learn.new.self _ 0 c.args.symbol.0 (tree s c.args.term) top c.in-Ok.bounds
    (stays s t c.args.self.now c.bounds_made.ensures.keeps c.requires.own) c.in-Ok.ensures.made c.in_ok-learn.ensures two)
    c.learn-2.ensures
