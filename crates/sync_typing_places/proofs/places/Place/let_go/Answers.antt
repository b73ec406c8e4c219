use Rattle.std.proofs.Common.{refl}
use Rattle.sync_typing_places.proofs.Beginning.{on_ok}
use Rattle.sync_typing_places.proofs.Placing.{own_holds, rehand_all}
use Rattle.sync_typing_places.proofs.places.Place.let_go.Goals as goal

pub returns : goal.returns
returns c =
    let s = c.args.terms.now in
    let p = c.args.self.now in
    rehand_all c.let_go.result s p _ _ _ c.requires.own refl refl
    (on_ok c.let_go.result _ _ (λ h. h s _ _ (own_holds s p c.requires.own)) c.let_go.ensures.holds)
    c.let_go.ensures.whole
    (on_ok c.let_go.result _ _ (λ h. h s c.requires.own.ids) c.let_go.ensures.ids)
    c.let_go.ensures.begins
