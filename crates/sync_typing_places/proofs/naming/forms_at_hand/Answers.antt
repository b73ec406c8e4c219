use Rattle.std.proofs.Common.{sym, ◌∙◌}
use Rattle.sync_rules.specs.Locality.{form_names_only}
use Rattle.sync_terms.specs.Stored.{formula}
use Rattle.sync_typing_places.specs.Hands.{is_at_hand_in}
use Rattle.sync_typing_places.proofs.Scripting.{ended, stopped, went_on}
use Rattle.sync_typing_places.proofs.naming.forms_at_hand.Goals as goal

pub returns-then-not-form_at_hand : goal.returns-then-not-form_at_hand
returns-then-not-form_at_hand c =
    stopped (formula c.args.terms.now) (form_names_only (is_at_hand_in c.args.names.now)) c.args.list.now c.loop-id.id-index c.loop-id.invariant _
    c.loop-id-test.true (sym c.form_at_hand.ensures ∙ c.if-not-form_at_hand.true)

pub loop-id-preserved : goal.loop-id-preserved
loop-id-preserved c =
    went_on (formula c.args.terms.now) (form_names_only (is_at_hand_in c.args.names.now)) c.args.list.now c.loop-id.id-index c.loop-id.invariant _
    c.loop-id-test.true (sym c.form_at_hand.ensures ∙ c.if-not-form_at_hand.false)

pub returns : goal.returns
returns c =
    ended (formula c.args.terms.now) (form_names_only (is_at_hand_in c.args.names.now)) c.args.list.now c.loop-id.id-index c.loop-id.invariant
    c.loop-id-test.false
