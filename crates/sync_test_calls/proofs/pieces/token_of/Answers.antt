use Rattle.std.proofs.Common.{pos, get_or, sym, ◌∙◌}
use Rattle.sync_join.proofs.Through.{is_same, is_other}
use Rattle.sync_exchange.specs.declared.hands.Held.{Held}
use Rattle.sync_exchange.proofs.Walks.{held-here, held-later, held-none}
use Rattle.sync_test_calls.proofs.pieces.token_of.Goals as goal

none : Held
none = record { name = 0; token = record { field = 0; key = pos 0; value = pos 0 } }

pub returns-then-name-h : goal.returns-then-name-h
unfolding none
returns-then-name-h c =
    let hs = c.args.held.now in
    let i = c.loop-h.h-index in
    sym (held-here c.args.name hs i none c.loop-h-test.true (is_same c.args.name (get_or hs i none).name c.if-name-h.true)) ∙ c.loop-h.invariant

pub loop-h-preserved : goal.loop-h-preserved
unfolding none
loop-h-preserved c =
    let hs = c.args.held.now in
    let i = c.loop-h.h-index in
    sym (held-later c.args.name hs i none c.loop-h-test.true (is_other c.args.name (get_or hs i none).name c.if-name-h.false)) ∙ c.loop-h.invariant

pub returns : goal.returns
returns c = sym (held-none c.args.name c.args.held.now c.loop-h.h-index c.loop-h-test.false) ∙ c.loop-h.invariant
