use Rattle.std.proofs.Common.{[], unwrap_or, option_map, Bor}
use Rattle.sync_machine.specs.States as states
use Rattle.sync_machine.specs.Views.{machine_tree}
use Rattle.sync_join.specs.declared.values.State.{State}
use Rattle.sync_join.specs.Views.{state_tree, kept_of}
use Rattle.sync_exchange.proofs.Meaning.{is-step, is-start}
use Rattle.sync_exchange.proofs.exchanging.exchange.Goals as goal

pub returns-clause-steps : goal.returns-clause-steps
returns-clause-steps c =
    is-step (machine_tree c.args.m.now) c.args.op c.args.args.now c.args.names.now.tokens c.args.names.now.given
    (unwrap_or (option_map {T = Bor State} {U = states.State} (λ s. state_tree s.now) c.args.whole) [])
    c.args.hand.now.held (kept_of c.args.rest.now) c.exchange_exactly.new.hand.held (kept_of c.exchange_exactly.new.rest)
    c.exchange_exactly.result c.exchange_exactly.ensures.exact

pub returns-clause-starts : goal.returns-clause-starts
returns-clause-starts c =
    is-start (machine_tree c.args.m.now) c.args.op c.args.args.now c.args.names.now.tokens c.args.names.now.given
    (unwrap_or (option_map {T = Bor State} {U = states.State} (λ s. state_tree s.now) c.args.whole) [])
    c.args.hand.now.held (kept_of c.args.rest.now) c.exchange_exactly.new.hand.held (kept_of c.exchange_exactly.new.rest)
    c.exchange_exactly.result c.exchange_exactly.ensures.exact
