use Rattle.std.proofs.Common.{◌≡◌, IfOk, subst}
use Rattle.sync_terms.specs.declared.nodes.FormId.{FormId}
use Rattle.sync_terms.specs.Stored.{formula, IsForm}
use Rattle.sync_terms.specs.Trees.{replaced_in}
use Rattle.sync_terms.proofs.Walking.{IsDone-start, under_way-start}
use Rattle.sync_terms.proofs.store.Terms.subst.Goals as goal

pub replace-requires-clause-done : goal.replace-requires-clause-done
replace-requires-clause-done c = IsDone-start c.args.self.now c.args.map.now c.in-Ok.done c.in-Ok.ensures c.requires.terms

pub returns-clause-value : goal.returns-clause-value
returns-clause-value c =
    let s = c.args.self.now in
    let t = c.replace.new.self in
    subst (λ r. IfOk c.replace.result (λ (id : FormId). IsForm t id × (formula t id ≡ replaced_in r (formula s c.args.form)))) (under_way-start s c.args.map.now c.in-Ok.done c.in-Ok.ensures) c.replace.ensures.value
