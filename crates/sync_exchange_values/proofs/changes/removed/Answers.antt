use Rattle.std.proofs.Common.{rules, ◌&&◌, ◌∙◌, to_z, of_z}
use Rattle.std.specs.Prelude.{FitsSigned}
use Rattle.std.specs.Int.{w128}
use Rattle.std.proofs.lemmas.Int.{to_z-of_z}
use Rattle.sync_terms.specs.Maps as maps
use Rattle.sync_exchange_values.proofs.Narrowness.{left_false, right_false}
use Rattle.sync_exchange_values.proofs.Evaluating.{stop_at, got}
use Rattle.sync_exchange_values.proofs.Building.{del_ok}
use Rattle.sync_exchange_values.proofs.changes.removed.Goals as goal

pub returns-in-Err : goal.returns-in-Err
returns-in-Err c = λ m k f g p q. stop_at c.args.map c.in-Err.stop m (maps.del m k) f (f && g) c.in-Err.is (λ e. left_false f g e) p

pub returns-in-Err-key : goal.returns-in-Err-key
returns-in-Err-key c = λ m k f g p q. stop_at c.args.key c.in-Err-key.stop k (maps.del m k) g (f && g) c.in-Err-key.is (λ e. right_false f g e) q

pub returns-in-Ok-key : goal.returns-in-Ok-key
returns-in-Ok-key c =
    let key : FitsSigned w128 c.in-Ok-key.key = search rules in
    let at = to_z-of_z w128 c.in-Ok-key.key key in
    λ m k f g p q.
    let a = got c.args.map c.in-Ok.map m f c.in-Ok.is p in
    let b = got c.args.key c.in-Ok-key.key k g c.in-Ok-key.is q in
    del_ok c.in-Ok.map m c.remove.new.self (to_z w128 (of_z w128 c.in-Ok-key.key)) k f g a (at ∙ b.0, b.1) c.remove.ensures.gone
