use Rattle.std.proofs.Common.{List, take, get_or, refl, sym, ap, ◌∙◌}
use Rattle.std.proofs.lemmas.List.{take_more}
use Rattle.sync_join.proofs.Through.{is_same, is_other}
use Rattle.sync_exchange.specs.declared.works.Named.{Named}
use Rattle.sync_exchange.specs.Exchange.{token_name}
use Rattle.sync_exchange.specs.Works.{variables_of}
use Rattle.sync_exchange.proofs.Walks.{named-here, named-before}
use Rattle.sync_exchange.proofs.works.token_name.Goals as goal
use Rattle.sync_exchange.proofs.works.token_name.Goals.{then-field-v, else-field-v}

pub loop-v-init : goal.loop-v-init
unfolding token_name
loop-v-init c = refl

pub loop-v-preserved : goal.loop-v-preserved
loop-v-preserved c =
    let vs = c.args.variables.now in
    let f = c.args.field in
    let i = c.loop-v.v-index in
    let d : Named = record { field = 0; name = 0 } in
    let v = get_or vs i d in
    let more = ap (λ (us : List Named). token_name f (variables_of us)) (take_more vs i d c.loop-v-test.true) in
    elim c.if-field-v.branch [
      | then-field-v w ↦ w.name-is ∙ sym (more ∙ named-here f (take i vs) v (is_same f v.field w.if-field-v.true))
      | else-field-v w ↦ w.name-is ∙ c.loop-v.invariant ∙ sym (more ∙ named-before f (take i vs) v (is_other f v.field w.if-field-v.false))
    ]
