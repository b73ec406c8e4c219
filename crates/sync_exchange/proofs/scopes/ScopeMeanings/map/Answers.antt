use Rattle.std.proofs.Common.{◌≡◌, ℤ, Option, IfSome, subst, sym, ap, ◌∙◌}
use Rattle.sync_terms.specs.Maps as maps
use Rattle.sync_join.specs.Join.{entries_of}
use Rattle.sync_exchange.specs.Works.{outer_meaning, outer_value}
use Rattle.sync_exchange.proofs.Walks.{or_map, known-map}
use Rattle.sync_exchange.proofs.scopes.ScopeMeanings.map.Goals as goal

pub returns-in-None : goal.returns-in-None
returns-in-None c =
    let o = c.args.self.now.outer.now in
    let x = c.args.x.0 in
    let e = known-map c.args.self.now.known.now (outer_meaning o) x ∙ ap (λ (p : Option ℤ). or_map p (entries_of (outer_value o x))) (sym c.known_as.ensures ∙ c.in-None.is) in
    subst (λ (q : maps.Map). IfSome c.map.result (λ m. m.now ≡ q)) (sym e) c.map.ensures
