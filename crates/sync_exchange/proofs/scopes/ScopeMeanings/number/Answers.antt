use Rattle.std.proofs.Common.{ℤ, Option, sym, ap, ◌∙◌, rules, SFits}
use Rattle.std.specs.Int.{w128}
use Rattle.std.proofs.lemmas.Int.{to_z-of_z}
use Rattle.sync_exchange.specs.Works.{outer_meaning, outer_number}
use Rattle.sync_exchange.proofs.Walks.{or_number, known-number}
use Rattle.sync_exchange.proofs.scopes.ScopeMeanings.number.Goals as goal

pub returns-in-Some : goal.returns-in-Some
returns-in-Some c =
    let o = c.args.self.now.outer.now in
    let ks = c.args.self.now.known.now in
    let x = c.args.x.0 in
    let fits : SFits w128 c.in-Some.n = search rules in
    to_z-of_z w128 c.in-Some.n fits
    ∙ sym (known-number ks (outer_meaning o) x ∙ ap (λ (p : Option ℤ). or_number p (outer_number o x)) (sym c.known_as.ensures ∙ c.in-Some.is))

pub returns-in-None : goal.returns-in-None
returns-in-None c =
    let o = c.args.self.now.outer.now in
    let ks = c.args.self.now.known.now in
    let x = c.args.x.0 in
    let fits : SFits w128 c.number.result = search rules in
    to_z-of_z w128 c.number.result fits ∙ c.number.ensures
    ∙ sym (known-number ks (outer_meaning o) x ∙ ap (λ (p : Option ℤ). or_number p (outer_number o x)) (sym c.known_as.ensures ∙ c.in-None.is))
