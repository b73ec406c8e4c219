use Rattle.std.proofs.Common.{rules, ◌&&◌, ◌∙◌, to_z, of_z}
use Rattle.std.specs.Prelude.{FitsSigned}
use Rattle.std.specs.Int.{w128}
use Rattle.std.proofs.lemmas.Int.{to_z-of_z}
use Rattle.sync_terms.specs.Maps as maps
use Rattle.sync_exchange_values.proofs.Narrowness.{left_false, right_false}
use Rattle.sync_exchange_values.proofs.Evaluating.{stop_at, got}
use Rattle.sync_exchange_values.proofs.Building.{put_ok}
use Rattle.sync_exchange_values.proofs.changes.put.Goals as goal

pub returns-in-Err : goal.returns-in-Err
returns-in-Err c = λ m k w f g h p q r. stop_at c.args.map c.in-Err.stop m (maps.put m k w) f (f && g && h) c.in-Err.is (λ e. left_false (f && g) h (left_false f g e)) p

pub returns-in-Err-key : goal.returns-in-Err-key
returns-in-Err-key c = λ m k w f g h p q r. stop_at c.args.key c.in-Err-key.stop k (maps.put m k w) g (f && g && h) c.in-Err-key.is (λ e. left_false (f && g) h (right_false f g e)) q

pub returns-in-Err-value : goal.returns-in-Err-value
returns-in-Err-value c = λ m k w f g h p q r. stop_at c.args.value c.in-Err-value.stop w (maps.put m k w) h (f && g && h) c.in-Err-value.is (λ e. right_false (f && g) h e) r

pub returns-in-Ok-put : goal.returns-in-Ok-put
returns-in-Ok-put c =
    let key : FitsSigned w128 c.in-Ok-key.key = search rules in
    let value : FitsSigned w128 c.in-Ok-value.value = search rules in
    let at = to_z-of_z w128 c.in-Ok-key.key key in
    let what = to_z-of_z w128 c.in-Ok-value.value value in
    λ m k w f g h p q r.
    let a = got c.args.map c.in-Ok.map m f c.in-Ok.is p in
    let b = got c.args.key c.in-Ok-key.key k g c.in-Ok-key.is q in
    let d = got c.args.value c.in-Ok-value.value w h c.in-Ok-value.is r in
    put_ok c.in-Ok.map m c.put.new.self (to_z w128 (of_z w128 c.in-Ok-key.key)) (to_z w128 (of_z w128 c.in-Ok-value.value)) k w f g h a (at ∙ b.0, b.1) (what ∙ d.0, d.1) c.in-Ok-put.ensures.ok
