use Rattle.std.proofs.Common.{◌∷◌, ap, sym, ◌∙◌, add-one, drop, take, refl}
use Rattle.sync_thread_places.proofs.Tables.{way_marked}
use Rattle.sync_thread_places.proofs.leaving.mark.Goals as goal

pub returns-in-Waits-clause-marks : goal.returns-in-Waits-clause-marks
returns-in-Waits-clause-marks c =
    let hops = c.args.standing.now.hops.items in
    let depth = c.args.standing.now.depth in
    record {
      way = λ w. way_marked hops c.args.depth depth c.args.hop c.requires.room (c.requires.deep w)
          ∙ ap (λ n. c.args.hop ∷ drop n (take depth hops)) (sym (add-one c.args.depth));
      at = refl;
      locals = refl;
    }
