use Rattle.std.proofs.Common.{refl}
use Rattle.sync_typing_places.proofs.Placing.{taken_back}
use Rattle.sync_typing_places.proofs.places.Place.undo.Goals as goal

pub returns : goal.returns
returns c = λ s t before own mark more now begins on.
    taken_back s t before c.args.self.now _ c.args.mark own mark more on (c.undo.ensures before.hand mark.hand begins)
    (c.cut_back.ensures.ready t now.ready) (c.cut_back.ensures.known t) refl
