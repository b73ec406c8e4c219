use Rattle.std.proofs.Common.{ℤ, ◌++◌, [], ◌∷◌, List, Option, option_map, refl, sym, ap, ◌∙◌, rules, SFits}
use Rattle.std.specs.Int.{w128}
use Rattle.std.proofs.lemmas.Int.{to_z-of_z}
use Rattle.sync_terms.specs.declared.nodes.Sym.{Sym}
use Rattle.sync_terms.specs.Maps as maps
use Rattle.sync_terms.specs.Values.{with_value}
use Rattle.sync_exchange.specs.declared.scopes.Known.{Known}
use Rattle.sync_exchange.specs.Exchange.{binding}
use Rattle.sync_exchange.specs.Works.{known_over, under_way}
use Rattle.sync_exchange.proofs.Walks.{known-push, same-exchanging}
use Rattle.sync_exchange.proofs.works.Work.bind.Goals as goal

pub returns-in_ok-push-2 : goal.returns-in_ok-push-2
returns-in_ok-push-2 c = λ b.
    let w = c.args.self.now in
    let fits : SFits w128 c.args.token.value = search rules in
    let x = c.in-Some.symbol.0 in
    let fit = to_z-of_z w128 c.args.token.value fits in
    let named = ap (λ (ks : List Known). known_over ks b.names) c.in_ok-push.ensures.ok ∙ known-push w.known _ b.names
    ∙ ap (λ (q : ℤ). with_value x q maps.nil (known_over w.known b.names)) fit in
    same-exchanging named refl refl refl refl refl refl refl (c.in_ok-push-2.ensures.ok ∙ ap (λ (q : ℤ). w.bound ++ q ∷ []) fit)
    ∙ ap (λ (o : Option Sym). binding (option_map (λ (y : Sym). y.0) o) c.args.token.value (under_way b w)) (sym c.in-Some.is)
