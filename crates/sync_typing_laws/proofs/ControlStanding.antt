-- What Rests says of an environment and of the forms round a list, as the `Stands` of Meanings.
use Rattle.std.specs.Prelude.{ℕ, ◌≤◌, List, [], ◌∷◌}
use Rattle.std.proofs.Common.{arith}
use Rattle.sync_terms.specs.Values.{Valuation}
use Rattle.sync_thread.specs.Resting.{Round}
use Rattle.sync_thread_machine.specs.MachineWithProgram.{MachineWithProgram}
use Rattle.sync_thread_meaning.specs.Meaning.{World, annotated_language}
use Rattle.sync_typing.specs.Environments.{Env}
use Rattle.sync_typing_laws.specs.Standing.{Chain, Standing}

more : (x : MachineWithProgram) (known : Env) (v : Valuation) (a b : ℕ) (s : World) (round : List (Round annotated_language Env)) → a ≤ b → Chain x known v a s round → Chain x known v b s round
more x known v a b s [] below is = tt
more x known v a b s (form ∷ round) below (lasts, chain) = (record { scoped = lasts.scoped; constants = lasts.constants; same = lasts.same; wrap = lasts.wrap; lasting = lasts.lasting; before = (let early : form.env.fresh ≤ a = lasts.before in omega (arith)) }, chain)

pub out : (x : MachineWithProgram) (known : Env) (t : ℕ) (e : Env) (form : Round annotated_language Env) (round : List (Round annotated_language Env)) (s : World) → Standing x known t e (form ∷ round) s → Standing x known t e round s
out x known t e form round s is = record { values = is.values; stands = is.stands; same = is.same; unsaid = is.unsaid; lasting = is.lasting; chain = more x known is.values form.env.fresh e.fresh s round is.chain.0.before is.chain.1 }
