use Rattle.std.proofs.Common.{pos}
use Rattle.sync_terms.specs.Stored.{tree}
use Rattle.sync_typing_places.proofs.Binding.{bound_follows}
use Rattle.sync_typing_places.proofs.Placing.{stays}
use Rattle.sync_typing_places.proofs.places.Place.bind.Goals as goal

pub name_as-requires-clause-own : goal.name_as-requires-clause-own
name_as-requires-clause-own c = (stays c.args.terms.now c.bounds_made.new.terms c.args.self.now c.bounds_made.ensures.keeps c.requires.own).own

pub returns-clause-follows : goal.returns-clause-follows
returns-clause-follows c =
    let s = c.args.terms.now in
    let t = c.bounds_made.new.terms in
    bound_follows s t c.args.self.now c.name_as.new.self c.learn.new.self _ c.args.line c.args.symbol.0 c.args.term (tree s c.args.term)
    (pos c.args.high) c.in_ok-bounds.bounds (stays s t c.args.self.now c.bounds_made.ensures.keeps c.requires.own)
    (c.bounds_made.ensures.keeps.terms c.args.term c.requires.term).1 c.in_ok-bounds.ensures.made
    c.in_ok-name_as.ensures c.in_ok-learn.ensures c.in_ok-learn-2.ensures
