use Rattle.std.proofs.Common.{refl}
use Rattle.sync_typing_places.proofs.Beginning.{on_ok}
use Rattle.sync_typing_places.proofs.Placing.{own_holds, rehand_all}
use Rattle.sync_typing_places.proofs.places.Place.hold.Goals as goal

pub returns : goal.returns
returns c =
    let s = c.args.terms.now in
    let p = c.args.self.now in
    rehand_all c.hold.result s p _ _ _ c.requires.own refl refl
    (on_ok c.hold.result _ _ (λ h. h s _ _ (own_holds s p c.requires.own)) c.hold.ensures.holds)
    c.hold.ensures.whole
    (on_ok c.hold.result _ _ (λ h. h s c.requires.token c.requires.own.ids) c.hold.ensures.ids)
    c.hold.ensures.begins
