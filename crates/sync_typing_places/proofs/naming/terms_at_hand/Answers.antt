use Rattle.std.proofs.Common.{sym, ◌∙◌}
use Rattle.sync_rules.specs.Locality.{names_only}
use Rattle.sync_terms.specs.Stored.{tree}
use Rattle.sync_typing_places.specs.Hands.{is_at_hand_in}
use Rattle.sync_typing_places.proofs.Scripting.{ended, stopped, went_on}
use Rattle.sync_typing_places.proofs.naming.terms_at_hand.Goals as goal

pub returns-then-not-term_at_hand : goal.returns-then-not-term_at_hand
returns-then-not-term_at_hand c =
    stopped (tree c.args.terms.now) (names_only (is_at_hand_in c.args.names.now)) c.args.list.now c.loop-id.id-index c.loop-id.invariant _
    c.loop-id-test.true (sym c.term_at_hand.ensures ∙ c.if-not-term_at_hand.true)

pub loop-id-preserved : goal.loop-id-preserved
loop-id-preserved c =
    went_on (tree c.args.terms.now) (names_only (is_at_hand_in c.args.names.now)) c.args.list.now c.loop-id.id-index c.loop-id.invariant _
    c.loop-id-test.true (sym c.term_at_hand.ensures ∙ c.if-not-term_at_hand.false)

pub returns : goal.returns
returns c =
    ended (tree c.args.terms.now) (names_only (is_at_hand_in c.args.names.now)) c.args.list.now c.loop-id.id-index c.loop-id.invariant
    c.loop-id-test.false
