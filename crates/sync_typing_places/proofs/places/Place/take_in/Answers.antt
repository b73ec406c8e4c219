use Rattle.std.proofs.Common.{◌≡◌, ◌+◌, ◌-◌, ◌<◌, ◌≤◌, length, arith}
use Rattle.sync_typing_places.proofs.Placing.{still_same}
use Rattle.sync_typing_places.proofs.Taking.{gone_on, gone_then, new_all, new_on}
use Rattle.sync_typing_places.proofs.places.Place.take_in.Goals as goal

pub let_go-requires : goal.let_go-requires
let_go-requires c = record { own = c.loop-number.invariant.own }

pub loop-number-init : goal.loop-number-init
loop-number-init c = still_same c.args.terms.now c.args.self.now c.requires.own

pub loop-number-preserved : goal.loop-number-preserved
loop-number-preserved c =
    gone_on c.args.terms.now c.args.self.now c.loop-number.self c.let_go.new.self c.args.gone.now c.loop-number.number-index 0
    c.loop-number-test.true c.loop-number.invariant c.in_ok-let_go.ensures

pub loop-i-init : goal.loop-i-init
loop-i-init c =
    let all : c.loop-number.number-index ≡ length c.args.gone.now = omega arith in
    let far : length c.args.new.now ≤ length c.args.new.now = omega arith in
    gone_then c.args.terms.now c.args.self.now c.loop-number.self c.args.gone.now c.args.new.now c.loop-number.number-index
    (length c.args.new.now) all far c.loop-number.invariant

pub hold-requires-clause-token : goal.hold-requires-clause-token
hold-requires-clause-token c =
    let within : c.loop-i.i - 1 < length c.args.new.now = omega arith in
    c.requires.tokens (c.loop-i.i - 1) _ within

pub loop-i-preserved : goal.loop-i-preserved
loop-i-preserved c =
    let within : c.loop-i.i - 1 < length c.args.new.now = omega arith in
    let next : c.loop-i.i - 1 + 1 ≡ c.loop-i.i = omega arith in
    new_on c.args.terms.now c.args.self.now c.loop-i.self c.hold.new.self c.args.gone.now c.args.new.now (c.loop-i.i - 1) c.loop-i.i _
    within next c.loop-i.invariant c.in_ok-hold.ensures

pub returns : goal.returns
returns c =
    let start : c.loop-i.i ≡ 0 = omega arith in
    new_all c.args.terms.now c.args.self.now c.loop-i.self c.args.gone.now c.args.new.now c.loop-i.i start c.loop-i.invariant
