use Rattle.std.proofs.Common.{[]}
use Rattle.std.proofs.lemmas.Result.{err_from_is_err_and}
use Rattle.sync_read_names.proofs.Kept.{stays}
use Rattle.sync_machine.specs.Views.{machine_tree}
use Rattle.sync_read.specs.Scripts.{proofs_from}
use Rattle.sync_read.proofs.Whole.{gives_stop, resolving_stops, own_scripts, machine_stays, names_kept, formed_kept}
use Rattle.sync_read.proofs.texts.resolve.Goals as goal

pub returns-in_err-list-clause-exact : goal.returns-in_err-list-clause-exact
returns-in_err-list-clause-exact c =
    let p = err_from_is_err_and c.from_residual-in_err-list.result c.from_residual-in_err-list.ensures.1 in
    let e = c.in_err-list.field-0.0 in
    let after = c.machine.new.scope in
    let stopped = c.in_err-list.ensures.exact c.proofs.new.terms (stays c.proofs.new.terms) in
    gives_stop _ c.from_residual-in_err-list.result e _ (cc)
    (resolving_stops e c.in_ok-scope.scope c.args.names c.args.raw.now c.args.raw_proofs.now (machine_tree c.in_ok-name.field-0, after) c.in_ok-scope.ensures c.in_ok-name.ensures.exact stopped)

pub returns-clause-ids : goal.returns-clause-ids
returns-clause-ids c = machine_stays c.proofs.new.terms c.in_ok-name.field-0 c.proofs.ensures.keeps c.in_ok-name.ensures.ids

pub returns-clause-names : goal.returns-clause-names
returns-clause-names c =
    names_kept c.proofs.new.terms c.in_ok-name.field-0 c.in_ok-scope.scope c.machine.new.scope c.args.raw.now c.proofs.ensures.keeps c.in_ok-name.ensures.ids c.in_ok-name.ensures.exact

pub returns-clause-formed : goal.returns-clause-formed
returns-clause-formed c =
    formed_kept c.proofs.new.terms c.in_ok-name.field-0 c.in_ok-scope.scope c.machine.new.scope c.args.raw.now c.args.names c.proofs.ensures.keeps c.in_ok-name.ensures.ids c.in_ok-scope.ensures c.in_ok-name.ensures.exact

pub returns-clause-scripts : goal.returns-clause-scripts
returns-clause-scripts c =
    own_scripts c.proofs.new.terms c.in_ok-list.list c.proofs.new.scope (proofs_from [] c.machine.new.scope c.args.raw_proofs.now) c.in_ok-list.ensures.exact
