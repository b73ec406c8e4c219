use Rattle.std.proofs.Common.{length}
use Rattle.std.proofs.lemmas.Result.{err_from_is_err_and}
use Rattle.sync_read_names.proofs.Kept.{stays}
use Rattle.sync_read.proofs.Whole.{gives_stop}
use Rattle.sync_check.proofs.Grown.{same_parts, same_count, whole_means, program_stops, ids_stay, names_stay, formed_stays, scripts_stay}
use Rattle.sync_check.proofs.reading.resolve_whole.Goals as goal

pub returns-in_err-program-clause-exact : goal.returns-in_err-program-clause-exact
returns-in_err-program-clause-exact c =
    let p = err_from_is_err_and c.from_residual-in_err-program.result c.from_residual-in_err-program.ensures.1 in
    let e = c.in_err-program.field-0.0 in
    let read = c.in_ok-machine in
    let new = c.resolve_program.new.machine in
    gives_stop _ c.from_residual-in_err-program.result e _ (cc)
    (program_stops e c.args.raw read.field-0.machine read.field-0.proofs.list read.field-0.scope
    (same_parts c.args.raw c.len-names.result c.as_slice.result.now _ c.len-names.ensures c.as_slice.ensures read.ensures.exact)
    c.len-scripts.result c.len-scripts.ensures (c.in_err-program.ensures.exact new.terms (stays new.terms)))

pub returns-clause-exact : goal.returns-clause-exact
returns-clause-exact c =
    let read = c.in_ok-machine in
    let new = c.resolve_program.new.machine in
    whole_means c.args.raw read.field-0.machine new read.field-0.proofs.list read.field-0.scope c.in_ok-program.program read.ensures.ids read.ensures.scripts c.in_ok-program.ensures.grown
    (same_parts c.args.raw c.len-names.result c.as_slice.result.now _ c.len-names.ensures c.as_slice.ensures read.ensures.exact)
    (same_count c.args.raw read.field-0.machine read.field-0.scope c.len-scripts.result (length read.field-0.proofs.list) _ c.len-scripts.ensures (c.in_ok-program.ensures.exact new.terms (stays new.terms)))

pub returns-clause-ids : goal.returns-clause-ids
returns-clause-ids c = ids_stay c.in_ok-machine.field-0.machine c.resolve_program.new.machine c.in_ok-machine.ensures.ids c.in_ok-program.ensures.grown

pub returns-clause-names : goal.returns-clause-names
returns-clause-names c = names_stay c.in_ok-machine.field-0.machine c.resolve_program.new.machine c.in_ok-machine.ensures.ids c.in_ok-program.ensures.grown c.in_ok-machine.ensures.names

pub returns-clause-formed : goal.returns-clause-formed
returns-clause-formed c = formed_stays c.in_ok-machine.field-0.machine c.resolve_program.new.machine c.in_ok-machine.ensures.ids c.in_ok-program.ensures.grown c.in_ok-machine.ensures.formed

pub returns-clause-scripts : goal.returns-clause-scripts
returns-clause-scripts c =
    scripts_stay c.in_ok-machine.field-0.machine.terms c.resolve_program.new.machine.terms c.in_ok-machine.field-0.proofs.list c.in_ok-program.ensures.grown.terms c.in_ok-machine.ensures.scripts
