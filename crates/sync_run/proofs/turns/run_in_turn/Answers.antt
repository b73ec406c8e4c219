use Rattle.std.proofs.Common.{◌≡◌, ◌+◌, length, replicate, rules}
use Rattle.std.proofs.lemmas.Result.{err_from_is_err_and}
use Rattle.sync_thread.specs.Views.{code_tree}
use Rattle.sync_run.proofs.Rounds.{first_round, halted_on, none_led, stuck_from_start}
use Rattle.sync_run.proofs.Whole.{whole_run}
use Rattle.sync_run.proofs.turns.run_in_turn.Goals as goal

pub rounds-requires-clause-begins : goal.rounds-requires-clause-begins
rounds-requires-clause-begins g c =
    let is : c.in_ok-steps.steps.items ≡ replicate (length c.args.code.now.threads + 1) 0 = search rules in
    first_round c.args.code.now (g.I.Interpreter.place c.args.code.now c.args.interpreter.now) c.in_ok-steps.steps.items is

pub returns-in_err-rounds-clause-runs : goal.returns-in_err-rounds-clause-runs
returns-in_err-rounds-clause-runs g c =
    let p = err_from_is_err_and c.from_residual-in_err-rounds.result c.from_residual-in_err-rounds.ensures.1 in
    let is : c.in_ok-steps.steps.items ≡ replicate (length c.args.code.now.threads + 1) 0 = search rules in
    rw (p.1, p.2) (stuck_from_start (code_tree c.args.code.now) (g.I.Interpreter.place c.args.code.now c.args.interpreter.now)
    (length c.args.code.now.threads + 1) c.in_ok-steps.steps.items _ c.requires.started is c.in_err-rounds.ensures.leads)

pub returns-in_err-last-clause-runs : goal.returns-in_err-last-clause-runs
returns-in_err-last-clause-runs g c =
    let p = err_from_is_err_and c.from_residual-in_err-last.result c.from_residual-in_err-last.ensures.1 in
    let is : c.in_ok-steps.steps.items ≡ replicate (length c.args.code.now.threads + 1) 0 = search rules in
    rw (p.1, p.2) (stuck_from_start (code_tree c.args.code.now) (g.I.Interpreter.place c.args.code.now c.args.interpreter.now)
    (length c.args.code.now.threads + 1) c.in_ok-steps.steps.items _ c.requires.started is
    (halted_on (code_tree c.args.code.now) (g.I.Interpreter.place c.args.code.now c.args.interpreter.now)
    (g.I.Interpreter.place c.args.code.now c.rounds.new.interpreter) c.in_ok-steps.steps.items c.rounds.new.steps.items _
    c.in_ok-rounds.ensures.leads c.in_err-last.ensures.leads))

pub returns-clause-runs : goal.returns-clause-runs
returns-clause-runs g c =
    let x = code_tree c.args.code.now in
    let start = g.I.Interpreter.place c.args.code.now c.args.interpreter.now in
    let is : c.in_ok-steps.steps.items ≡ replicate (length c.args.code.now.threads + 1) 0 = search rules in
    whole_run x c.args.budget start (g.I.Interpreter.place c.args.code.now c.last.new.interpreter) c.last.new.steps.items c.requires.started
    (c.in_ok-last.ensures.leads start (c.in_ok-rounds.ensures.leads start
    (none_led x start (length c.args.code.now.threads + 1) c.in_ok-steps.steps.items is)))
    c.in_ok-last.ensures.ends
