use Rattle.std.proofs.Common.{◌≡◌, ℤ, ◌-ℤ◌, ◌≤ℤ◌, ◌++◌, [], ◌∷◌, Some, Ok, List, pos, get_or, slice_set, position, nat_eq, subst, sym, ap, ◌∙◌, to_z, of_z}
use Rattle.std.specs.Int.{w128}
use Rattle.std.proofs.lemmas.Int.{to_z-of_z}
use Rattle.sync_base.specs.declared.stops.NoMemory.{NoMemory}
use Rattle.sync_join.specs.declared.tokens.Token.{Token}
use Rattle.sync_exchange.specs.declared.hands.Held.{Held}
use Rattle.sync_exchange.specs.Splitting.{held, replaced}
use Rattle.sync_exchange.proofs.Keeping.{split-kept}
use Rattle.sync_exchange.proofs.Placing.{has_name, no-place, token-at, set-before}
use Rattle.sync_exchange.proofs.splitting.split_token.Goals as goal

pub unreachable-requires : goal.unreachable-requires
unreachable-requires c =
    let hs = c.args.hand.now.held in
    no-place c.args.name hs c.requires.held.0 (ap (λ (ks : List Held). position (has_name c.args.name) ks) (sym c.as_slice.ensures) ∙ sym c.in_default.ensures) c.requires.held.1

pub rest_of-requires-clause-within : goal.rest_of-requires-clause-within
rest_of-requires-clause-within c =
    let hs = c.args.hand.now.held in
    let d : Held = record { name = 0; token = record { field = 0; key = pos 0; value = pos 0 } } in
    let t = c.requires.held.0 in
    let at : position (λ (k : Held). nat_eq c.args.name k.name) hs ≡ Some c.in-Some.at = ap (λ (ks : List Held). position (has_name c.args.name) ks) (sym c.as_slice.ensures) ∙ sym c.in-Some.ensures in
    let is = ap (λ (ks : List Held). (get_or ks c.in-Some.at d).token) c.as_slice-2.ensures ∙ token-at c.args.name hs c.in-Some.at d at t c.requires.held.1 in
    let q : to_z w128 (of_z w128 c.args.amount) ≡ c.args.amount = to_z-of_z w128 c.args.amount c.ranges.amount in
    subst (λ (a : ℤ). a ≤ℤ (get_or c.as_slice-2.result.now c.in-Some.at d).token.value) (sym q) (subst (λ (u : Token). c.args.amount ≤ℤ u.value) (sym is) (c.requires.within t c.requires.held.1))

pub returns-clause-split : goal.returns-clause-split
returns-clause-split c = λ t h.
    let hs = c.args.hand.now.held in
    let name = c.args.name in
    let i = c.in-Some.at in
    let d : Held = record { name = 0; token = record { field = 0; key = pos 0; value = pos 0 } } in
    let at : position (λ (k : Held). nat_eq name k.name) hs ≡ Some i = ap (λ (ks : List Held). position (has_name name) ks) (sym c.as_slice.ensures) ∙ sym c.in-Some.ensures in
    let is = ap (λ (ks : List Held). (get_or ks i d).token) c.as_slice-2.ensures ∙ token-at name hs i d at t h in
    let q : to_z w128 (of_z w128 c.args.amount) ≡ c.args.amount = to_z-of_z w128 c.args.amount c.ranges.amount in
    let part = c.new.ensures ∙ ap (λ (a : ℤ). held c.args.first (get_or c.as_slice-2.result.now i d).token a) q ∙ ap (λ (u : Token). held c.args.first u c.args.amount) is in
    let rest = c.rest_of.ensures ∙ ap (λ (a : ℤ). held c.args.second (get_or c.as_slice-2.result.now i d).token ((get_or c.as_slice-2.result.now i d).token.value -ℤ a)) q ∙ ap (λ (u : Token). held c.args.second u (u.value -ℤ c.args.amount)) is in
    c.set.ensures ∙ ap (λ (ks : List Held). slice_set ks i c.new.result) c.in_ok-push.ensures.ok ∙ set-before name hs i d at c.new.result c.rest_of.result
    ∙ ap (λ (n : Held). replaced name n hs ++ c.rest_of.result ∷ []) part ∙ ap (λ (n : Held). replaced name (held c.args.first t c.args.amount) hs ++ n ∷ []) rest

pub returns-clause-keeps : goal.returns-clause-keeps
returns-clause-keeps c =
    split-kept {E = NoMemory} c.args._m.now.fields c.args.hand.now.held _ c.args.name c.args.amount c.args.first c.args.second (Ok (tt {0})) c.requires.natural c.requires.within
    (returns-clause-split c)
