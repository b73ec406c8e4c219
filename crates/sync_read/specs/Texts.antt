-- What the machine and the proofs of a text mean, as plain lists, or the first rule of names that they break.
use Rattle.std.specs.Prelude.{ℕ, List, [], min, replicate, false, None, Result, Ok}
use Rattle.sync_base.specs.declared.stops.Refusal.{Refusal}
use Rattle.sync_base.specs.Limits.{longest_text}
use Rattle.sync_base.specs.Outcome.{◌>>=◌}
use Rattle.sync_machine.specs.Machines.{MachineTree}
use Rattle.sync_machine.specs.Views.{machine_tree}
use Rattle.sync_parse.specs.declared.trees.RawMachine.{RawMachine}
use Rattle.sync_parse.specs.declared.trees.RawProof.{RawProof}
use Rattle.sync_read_names.specs.declared.scopes.Meaning.TheVariants.{Nothing}
use Rattle.sync_read_names.specs.declared.scopes.Owners.{Owners}
use Rattle.sync_read_names.specs.declared.scopes.Owner.TheVariants.{Nobody}
use Rattle.sync_read_names.specs.declared.scopes.Scope.{Scope}
use Rattle.sync_read_names.specs.Scopes.{machine_sight}
use Rattle.sync_read.specs.declared.texts.Resolved.{Resolved}
use Rattle.sync_read.specs.Resolving.{machine_in}
use Rattle.sync_terms.specs.Proofs.{ProofTree, proofs_in}
use Rattle.sync_read.specs.Scripts.{proofs_from}

-- a machine, its proofs, and the scope behind them
pub record ResolvedTree : Type 0 where
  pub machine : MachineTree
  pub proofs : List ProofTree
  pub scope : Scope

abbrev pub unowned : Owners
unowned = record { operations = 0; invariants = 0; word = None; local = 0; proof = 0; ends = false }

-- so many names, of which none stands for anything; a text has fewer names than bytes
abbrev pub first_scope : ℕ → Scope
first_scope count = record { meanings = replicate (min count longest_text) Nothing; owners = replicate (min count longest_text) unowned; owner = Nobody; claim = Nobody; sight = machine_sight }

-- first the machine, then its proofs
abbrev pub resolved : ℕ → RawMachine → List RawProof → Result ResolvedTree Refusal
resolved names machine proofs = do
  m ← machine_in (first_scope names) machine
  ps ← proofs_from [] m.1 proofs
  Ok (record { machine = m.0; proofs = ps.0; scope = ps.1 })

-- the same with ids, read in the machine's store
abbrev pub resolved_tree : Resolved → ResolvedTree
resolved_tree r = record { machine = machine_tree r.machine; proofs = proofs_in r.machine.terms r.proofs.list; scope = r.scope }
