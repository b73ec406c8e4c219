use Rattle.std.proofs.Common.{◌≡◌, ◌+ℤ◌, FitsSigned, Some, List, pos, get_or, slice_set, position, nat_eq, subst, sym, ap, ◌∙◌}
use Rattle.std.specs.Int.{w128}
use Rattle.sync_join.specs.declared.tokens.Token.{Token}
use Rattle.sync_exchange.specs.declared.hands.Held.{Held}
use Rattle.sync_exchange.specs.Splitting.{held, replaced, dropped}
use Rattle.sync_exchange.proofs.Keeping.{held-dropped, merge-kept}
use Rattle.sync_exchange.proofs.Placing.{has_name, no-place, token-at, set-at, removed-at, got}
use Rattle.sync_exchange.proofs.splitting.merge_tokens.Goals as goal

pub unreachable-requires : goal.unreachable-requires
unreachable-requires c =
    let hs = c.args.hand.now.held in
    let s = c.requires.second in
    no-place c.args.b hs s.0 (ap (λ (ks : List Held). position (has_name c.args.b) ks) (sym c.as_slice.ensures) ∙ sym c.in_default.ensures) s.1

pub unreachable-requires-in_default-place_of : goal.unreachable-requires-in_default-place_of
unreachable-requires-in_default-place_of c =
    let hs = c.args.hand.now.held in
    let f = c.requires.first in
    let at : position (λ (k : Held). nat_eq c.args.b k.name) hs ≡ Some c.in-Some.second = ap (λ (ks : List Held). position (has_name c.args.b) ks) (sym c.as_slice.ensures) ∙ sym c.in-Some.ensures in
    let d : Held = record { name = 0; token = record { field = 0; key = pos 0; value = pos 0 } } in
    let left = c.as_slice-2.ensures ∙ c.remove-other.ensures.rest ∙ removed-at c.args.b hs c.in-Some.second d at in
    no-place c.args.a (dropped c.args.b hs) f.0 (ap (λ (ks : List Held). position (has_name c.args.a) ks) (sym left) ∙ sym c.in_default-place_of.ensures) (held-dropped c.args.a c.args.b hs c.requires.apart ∙ f.1)

pub sum_of-requires : goal.sum_of-requires
sum_of-requires c =
    let hs = c.args.hand.now.held in
    let f = c.requires.first in
    let s = c.requires.second in
    let d : Held = record { name = 0; token = record { field = 0; key = pos 0; value = pos 0 } } in
    let i = c.in-Some-place_of.first in
    let at : position (λ (k : Held). nat_eq c.args.b k.name) hs ≡ Some c.in-Some.second = ap (λ (ks : List Held). position (has_name c.args.b) ks) (sym c.as_slice.ensures) ∙ sym c.in-Some.ensures in
    let less = c.remove-other.ensures.rest ∙ removed-at c.args.b hs c.in-Some.second d at in
    let u = ap (λ (k : Held). k.token) (sym (got hs c.in-Some.second c.remove-other.result d c.remove-other.ensures.item)) ∙ token-at c.args.b hs c.in-Some.second d at s.0 s.1 in
    let on : position (λ (k : Held). nat_eq c.args.a k.name) (dropped c.args.b hs) ≡ Some i = ap (λ (ks : List Held). position (has_name c.args.a) ks) (sym (c.as_slice-2.ensures ∙ less)) ∙ sym c.in-Some-place_of.ensures in
    let t = ap (λ (ks : List Held). (get_or ks i d).token) (c.as_slice-3.ensures ∙ less) ∙ token-at c.args.a (dropped c.args.b hs) i d on f.0 (held-dropped c.args.a c.args.b hs c.requires.apart ∙ f.1) in
    subst (λ (v : Token). FitsSigned w128 (v.value +ℤ c.remove-other.result.token.value)) (sym t) (subst (λ (v : Token). FitsSigned w128 (f.0.value +ℤ v.value)) (sym u) (c.requires.fits f.0 s.0 f.1 s.1))

pub returns-clause-merged : goal.returns-clause-merged
returns-clause-merged c = λ t u ha hb.
    let hs = c.args.hand.now.held in
    let d : Held = record { name = 0; token = record { field = 0; key = pos 0; value = pos 0 } } in
    let i = c.in-Some-place_of.first in
    let at : position (λ (k : Held). nat_eq c.args.b k.name) hs ≡ Some c.in-Some.second = ap (λ (ks : List Held). position (has_name c.args.b) ks) (sym c.as_slice.ensures) ∙ sym c.in-Some.ensures in
    let less = c.remove-other.ensures.rest ∙ removed-at c.args.b hs c.in-Some.second d at in
    let v = ap (λ (k : Held). k.token) (sym (got hs c.in-Some.second c.remove-other.result d c.remove-other.ensures.item)) ∙ token-at c.args.b hs c.in-Some.second d at u hb in
    let on : position (λ (k : Held). nat_eq c.args.a k.name) (dropped c.args.b hs) ≡ Some i = ap (λ (ks : List Held). position (has_name c.args.a) ks) (sym (c.as_slice-2.ensures ∙ less)) ∙ sym c.in-Some-place_of.ensures in
    let w = ap (λ (ks : List Held). (get_or ks i d).token) (c.as_slice-3.ensures ∙ less) ∙ token-at c.args.a (dropped c.args.b hs) i d on t (held-dropped c.args.a c.args.b hs c.requires.apart ∙ ha) in
    let new = c.sum_of.ensures ∙ ap (λ (q : Token). held c.args.into q (q.value +ℤ c.remove-other.result.token.value)) w ∙ ap (λ (q : Token). held c.args.into t (t.value +ℤ q.value)) v in
    c.set.ensures ∙ ap (λ (ks : List Held). slice_set ks i c.sum_of.result) less
    ∙ set-at c.args.a (dropped c.args.b hs) i d on c.sum_of.result ∙ ap (λ (n : Held). replaced c.args.a n (dropped c.args.b hs)) new

pub returns-clause-keeps : goal.returns-clause-keeps
returns-clause-keeps c =
    merge-kept c.args._m.now.fields c.args.hand.now.held _ c.args.a c.args.b c.args.into c.requires.apart (returns-clause-merged c)
