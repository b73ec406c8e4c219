use Rattle.std.proofs.Common.{ℤ, List, refl, ap, ◌∙◌, rules, SFits}
use Rattle.std.specs.Int.{w128}
use Rattle.std.proofs.lemmas.Int.{to_z-of_z}
use Rattle.sync_terms.specs.Maps as maps
use Rattle.sync_terms.specs.Values.{with_value}
use Rattle.sync_exchange.specs.declared.scopes.Known.{Known}
use Rattle.sync_exchange.specs.Works.{known_over, variables_of}
use Rattle.sync_exchange.proofs.Walks.{known-push, variables-push, same-exchanging}
use Rattle.sync_exchange.proofs.works.Work.know.Goals as goal

pub returns : goal.returns
returns c = λ b.
    let w = c.args.self.now in
    let fits : SFits w128 c.args.token.value = search rules in
    let named = ap (λ (ks : List Known). known_over ks b.names) c.in_ok-push.ensures.ok ∙ known-push w.known _ b.names
    ∙ ap (λ (q : ℤ). with_value c.args.field q maps.nil (known_over w.known b.names)) (to_z-of_z w128 c.args.token.value fits) in
    same-exchanging named refl refl refl (ap variables_of c.in_ok-push-2.ensures.ok ∙ variables-push w.variables _) refl refl refl refl
