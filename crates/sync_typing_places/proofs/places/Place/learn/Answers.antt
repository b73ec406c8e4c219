use Rattle.std.proofs.Common.{List, [], ◌∷◌, ◌++◌, refl, ap, ◌∙◌, map}
use Rattle.sync_terms.specs.declared.nodes.Sym.{Sym}
use Rattle.sync_terms.specs.Stored.{formula}
use Rattle.sync_kernel.specs.Hypotheses.{known_in}
use Rattle.sync_typing_places.proofs.Placing.{learned}
use Rattle.sync_typing_places.proofs.places.Place.learn.Goals as goal

pub returns : goal.returns
returns c =
    let s = c.args.terms.now in
    let p = c.args.self.now in
    learned s p _ _ c.requires.own refl refl c.in_ok-push.ensures.ready
    (c.in_ok-push.ensures.known
    ∙ ap (λ (ps : List Sym). known_in s p.known
    ++ record { name = c.args.name; params = map (λ (x : Sym). x.0) ps; form = formula s c.args.form } ∷ []) c.new-params.ensures)
