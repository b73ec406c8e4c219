use Rattle.std.proofs.Common.{◌≡◌, ◌++◌, [], ◌∷◌, Some, Ok, List, pos, get_or, position, nat_eq, sym, ap, ◌∙◌}
use Rattle.sync_base.specs.declared.stops.NoMemory.{NoMemory}
use Rattle.sync_join.specs.declared.tokens.Token.{Token}
use Rattle.sync_exchange.specs.declared.hands.Held.{Held}
use Rattle.sync_exchange.specs.Splitting.{held}
use Rattle.sync_exchange.proofs.Keeping.{copy-kept}
use Rattle.sync_exchange.proofs.Placing.{has_name, no-place, token-at}
use Rattle.sync_exchange.proofs.splitting.copy_token.Goals as goal

pub unreachable-requires : goal.unreachable-requires
unreachable-requires c =
    let hs = c.args.hand.now.held in
    no-place c.args.name hs c.requires.0 (ap (λ (ks : List Held). position (has_name c.args.name) ks) (sym c.as_slice.ensures) ∙ sym c.in_default.ensures) c.requires.1

pub returns-clause-copied : goal.returns-clause-copied
returns-clause-copied c = λ t h.
    let hs = c.args.hand.now.held in
    let d : Held = record { name = 0; token = record { field = 0; key = pos 0; value = pos 0 } } in
    let at : position (λ (k : Held). nat_eq c.args.name k.name) hs ≡ Some c.in-Some.at = ap (λ (ks : List Held). position (has_name c.args.name) ks) (sym c.as_slice.ensures) ∙ sym c.in-Some.ensures in
    let is = ap (λ (ks : List Held). (get_or ks c.in-Some.at d).token) c.as_slice-2.ensures ∙ token-at c.args.name hs c.in-Some.at d at t h in
    c.in_ok-push.ensures.ok ∙ ap (λ (n : Held). hs ++ n ∷ []) (c.same_as.ensures ∙ ap (λ (u : Token). held c.args.new u u.value) is)

pub returns-clause-keeps : goal.returns-clause-keeps
returns-clause-keeps c =
    copy-kept {E = NoMemory} c.args._m.now.fields c.args.hand.now.held _ c.args.name c.args.new (Ok (tt {0})) (returns-clause-copied c)
