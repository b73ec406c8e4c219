use Rattle.std.proofs.Common.{rules, ◌≡◌, Err}
use Rattle.sync_linear.specs.declared.stops.LinearStop.TheVariants.{Width}
use Rattle.sync_typing_places.proofs.Alike.{is_zero, is_wide}
use Rattle.sync_typing_places.proofs.clearing.is_same.Goals as goal

pub returns-in-Ok : goal.returns-in-Ok
returns-in-Ok c = λ s a b i j m n.
    is_zero s a b c.args.one c.args.two.now c.in-Ok.line c.is_zero.result i j c.in-Ok.ensures.changed c.is_zero.ensures.line c.is_zero.ensures.exact.0 c.is_zero.ensures.exact.1

pub returns-in-Err-Width : goal.returns-in-Err-Width
returns-in-Err-Width c = λ s a b i j m n.
    let wide : c.changed.result ≡ Err Width = search rules in
    is_wide s a b c.args.one c.args.two.now i j (c.changed.ensures.width wide)
