use Rattle.std.proofs.Common.{sym, ap, ◌∙◌}
use Rattle.sync_terms.specs.declared.scripts.Script.{Script}
use Rattle.sync_terms.specs.Plans.{plan_of}
use Rattle.sync_thread.specs.Programs.{ScriptTree}
use Rattle.sync_thread.specs.Views.{script_tree}
use Rattle.sync_typing.specs.Symbols.{plan_names_only}
use Rattle.sync_typing_places.specs.Hands.{is_at_hand_in}
use Rattle.sync_typing_places.proofs.Scripting.{ended, script_of, stopped, went_on}
use Rattle.sync_typing_places.proofs.naming.scripts_at_hand.Goals as goal

pub block_at_hand-requires : goal.block_at_hand-requires
block_at_hand-requires c = record {
  script = script_of c.args.terms.now c.args.list.now c.loop-script.script-index c.script-item.result c.requires c.script-item.is c.loop-script-test.true;
}

pub returns-then-not-block_at_hand : goal.returns-then-not-block_at_hand
returns-then-not-block_at_hand c =
    let s = c.args.terms.now in
    let k = c.args.names.now in
    stopped (script_tree s) (λ (x : ScriptTree). plan_names_only (is_at_hand_in k) x.plan) c.args.list.now c.loop-script.script-index
    c.loop-script.invariant c.script-item.result c.loop-script-test.true
    (ap (λ (x : Script). plan_names_only (is_at_hand_in k) (plan_of s x.block)) (sym c.script-item.is)
    ∙ sym c.block_at_hand.ensures ∙ c.if-not-block_at_hand.true)

pub loop-script-preserved : goal.loop-script-preserved
loop-script-preserved c =
    let s = c.args.terms.now in
    let k = c.args.names.now in
    went_on (script_tree s) (λ (x : ScriptTree). plan_names_only (is_at_hand_in k) x.plan) c.args.list.now c.loop-script.script-index
    c.loop-script.invariant c.script-item.result c.loop-script-test.true
    (ap (λ (x : Script). plan_names_only (is_at_hand_in k) (plan_of s x.block)) (sym c.script-item.is)
    ∙ sym c.block_at_hand.ensures ∙ c.if-not-block_at_hand.false)

pub returns : goal.returns
returns c =
    ended (script_tree c.args.terms.now) (λ (x : ScriptTree). plan_names_only (is_at_hand_in c.args.names.now) x.plan) c.args.list.now
    c.loop-script.script-index c.loop-script.invariant c.loop-script-test.false
