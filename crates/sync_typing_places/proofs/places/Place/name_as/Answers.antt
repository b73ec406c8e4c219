use Rattle.std.proofs.Common.{refl}
use Rattle.sync_typing_places.proofs.Beginning.{on_ok}
use Rattle.sync_typing_places.proofs.Placing.{own_holds, rehand_all}
use Rattle.sync_typing_places.proofs.places.Place.name_as.Goals as goal

pub returns : goal.returns
returns c =
    let s = c.args.terms.now in
    let p = c.args.self.now in
    rehand_all c.name_as.result s p _ _ _ c.requires.own refl refl
    (on_ok c.name_as.result _ _ (λ h. h s _ _ (own_holds s p c.requires.own)) c.name_as.ensures.holds)
    c.name_as.ensures.whole
    (on_ok c.name_as.result _ _ (λ h. h s c.requires.term c.requires.own.ids) c.name_as.ensures.ids)
    c.name_as.ensures.begins
