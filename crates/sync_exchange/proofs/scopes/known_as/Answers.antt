use Rattle.std.proofs.Common.{pos, take, get_or, Some, nat_eq, sym, ap, ◌∙◌, rules, SFits}
use Rattle.std.specs.Int.{w128}
use Rattle.std.proofs.lemmas.Int.{to_z-of_z}
use Rattle.std.proofs.lemmas.List.{take_more}
use Rattle.sync_join.proofs.Through.{is_same, is_other, cond-true, cond-false}
use Rattle.sync_exchange.specs.declared.scopes.Known.{Known}
use Rattle.sync_exchange.specs.Works.{last_known}
use Rattle.sync_exchange.proofs.Walks.{last-push}
use Rattle.sync_exchange.proofs.scopes.known_as.Goals as goal
use Rattle.sync_exchange.proofs.scopes.known_as.Goals.{then-x-k, else-x-k}

pub loop-k-preserved : goal.loop-k-preserved
loop-k-preserved c =
    let ks = c.args.known.now in
    let x = c.args.x in
    let i = c.loop-k.k-index in
    let d : Known = record { symbol = 0; number = pos 0 } in
    let k = get_or ks i d in
    let more = ap (last_known x) (take_more ks i d c.loop-k-test.true) ∙ last-push x (take i ks) k in
    elim c.if-x-k.branch [
      | then-x-k w ↦
          (let fits : SFits w128 k.number = search rules in
          w.found-is ∙ ap Some (to_z-of_z w128 k.number fits) ∙ sym (more ∙ cond-true (nat_eq x k.symbol) (Some k.number) (last_known x (take i ks)) (is_same x k.symbol w.if-x-k.true)))
      | else-x-k w ↦ w.found-is ∙ c.loop-k.invariant ∙ sym (more ∙ cond-false (nat_eq x k.symbol) (Some k.number) (last_known x (take i ks)) (is_other x k.symbol w.if-x-k.false))
    ]
