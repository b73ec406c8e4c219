use Rattle.std.proofs.Common.{rules, ◌&&◌, ◌∙◌, to_z, of_z}
use Rattle.std.specs.Prelude.{FitsSigned}
use Rattle.std.specs.Int.{w128}
use Rattle.std.proofs.lemmas.Int.{to_z-of_z}
use Rattle.sync_terms.specs.Maps as maps
use Rattle.sync_exchange_values.specs.Fitting.{values_fit}
use Rattle.sync_entries.specs.Narrow.{is_narrow}
use Rattle.sync_exchange_values.proofs.Narrowness.{left_false, right_false}
use Rattle.sync_exchange_values.proofs.Evaluating.{stop_at, got}
use Rattle.sync_exchange_values.proofs.Building.{bump_parts}
use Rattle.sync_exchange_values.proofs.changes.bumped.Goals as goal

pub returns-in-Err : goal.returns-in-Err
returns-in-Err c = λ m k n f g h p q r.
    stop_at c.args.map c.in-Err.stop m (maps.bump m k n) f (f && g && h && values_fit is_narrow (maps.bump m k n)) c.in-Err.is (λ e. left_false (f && g && h) _ (left_false (f && g) h (left_false f g e))) p

pub returns-in-Err-key : goal.returns-in-Err-key
returns-in-Err-key c = λ m k n f g h p q r.
    stop_at c.args.key c.in-Err-key.stop k (maps.bump m k n) g (f && g && h && values_fit is_narrow (maps.bump m k n)) c.in-Err-key.is (λ e. left_false (f && g && h) _ (left_false (f && g) h (right_false f g e))) q

pub returns-in-Err-count : goal.returns-in-Err-count
returns-in-Err-count c = λ m k n f g h p q r.
    stop_at c.args.count c.in-Err-count.stop n (maps.bump m k n) h (f && g && h && values_fit is_narrow (maps.bump m k n)) c.in-Err-count.is (λ e. left_false (f && g && h) _ (right_false (f && g) h e)) r

pub returns-in-Ok-count : goal.returns-in-Ok-count
returns-in-Ok-count c =
    let key : FitsSigned w128 c.in-Ok-key.key = search rules in
    let count : FitsSigned w128 c.in-Ok-count.count = search rules in
    let at = to_z-of_z w128 c.in-Ok-key.key key in
    let by = to_z-of_z w128 c.in-Ok-count.count count in
    λ m k n f g h p q r.
    let a = got c.args.map c.in-Ok.map m f c.in-Ok.is p in
    let b = got c.args.key c.in-Ok-key.key k g c.in-Ok-key.is q in
    let d = got c.args.count c.in-Ok-count.count n h c.in-Ok-count.is r in
    bump_parts c.raised.result c.in-Ok.map m (to_z w128 (of_z w128 c.in-Ok-key.key)) (to_z w128 (of_z w128 c.in-Ok-count.count)) k n f g h a (at ∙ b.0, b.1) (by ∙ d.0, d.1) c.raised.ensures
