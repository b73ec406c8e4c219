-- Whether a machine's proofs prove its obligations: nothing, or the first line and rule that they break.
use Rattle.std.specs.Prelude.{ℕ, ◌+◌, List, [], ◌∷◌, ◌++◌, map, Bool, not, ◌&&◌, ◌||◌, nat_lt, Option, Some, None, if◌then◌else◌}
use Rattle.std.specs.List.{AllByRecursion, list_any}
use Rattle.sync_base.specs.declared.stops.Refusal.{Refusal}
use Rattle.sync_base.specs.declared.stops.Rule.TheVariants.{I1, I2, K8}
use Rattle.sync_base.specs.Outcome.{first}
use Rattle.sync_terms.specs.Trees.{most_nodes, Formula, formula_size, neg}
use Rattle.sync_terms.specs.declared.nodes.FormId.{FormId}
use Rattle.sync_terms.specs.Stored.{Stored, formula}
use Rattle.sync_machine.specs.Machines.{MachineTree}
use Rattle.sync_terms.specs.declared.proofs.Obligation.{Obligation}
use Rattle.sync_rules.specs.Obligations.{obligations_of}
use Rattle.sync_kernel_facts.specs.Facts.{Fact, facts_size}
use Rattle.sync_kernel.specs.Hypotheses.{known_in}
use Rattle.sync_terms.specs.Plans.{Plan, plan_of, IsScriptOf}
use Rattle.sync_kernel.specs.Scripts.{script_fault}
use Rattle.sync_terms.specs.declared.proofs.Proof.{Proof}
use Rattle.sync_terms.specs.Proofs.{ProofTree}
use Rattle.sync_induct.specs.declared.index.Title.{Title}
use Rattle.sync_kernel.specs.declared.hypotheses.Hypotheses.{Hypotheses}
use Rattle.sync_induct.specs.Duties.{Duty}
use Rattle.sync_induct.specs.Checklist.{Check, Proves, Fits, checks_of}
use Rattle.sync_induct.specs.Titles.{titled, same_title}

-- a list has a proof or an obligation of this title
abbrev pub has_title : List Obligation → Title → Bool
has_title os t = list_any (λ o. same_title (titled o) t) os

-- a proof of no obligation, or a second proof of one
unfoldable pub stray_fault : List Obligation → List Obligation → List Obligation → Option Refusal
stray_fault wanted earlier [] = None
stray_fault wanted earlier (p ∷ ps) =
    if has_title wanted (titled p) && not (has_title earlier (titled p)) then stray_fault wanted (earlier ++ p ∷ []) ps
    else Some (record { line = p.line; rule = I2 })

-- the script of the first proof with a title
unfoldable pub proof_of : Title → List ProofTree → Option Plan
proof_of t [] = None
proof_of t (p ∷ ps) = if same_title (titled p.title) t then Some p.plan else proof_of t ps

-- the nodes of a sequent: of its hypotheses and of the denied claim
abbrev pub sequent_size : List Fact → Formula → ℕ
sequent_size facts claim = facts_size facts + formula_size (neg claim)

-- the claim or the sequent has more than `most_nodes` nodes
abbrev pub is_large : Duty → Bool
is_large d = nat_lt most_nodes (formula_size d.claim) || nat_lt most_nodes (sequent_size d.facts d.claim)

-- an obligation without a proof, with too large a sequent, or with a script that does not prove it
abbrev pub judged : Duty → Option Plan → Option Refusal
judged d None = Some (record { line = d.obligation.line; rule = I1 })
judged d (Some plan) = if is_large d then Some (record { line = d.obligation.line; rule = K8 }) else script_fault d.facts d.claim plan

abbrev pub duty_fault : List ProofTree → Duty → Option Refusal
duty_fault ps d = judged d (proof_of (titled d.obligation) ps)

-- what is made has more than `most_nodes` nodes
abbrev pub size_fault : ℕ → ℕ → Option Refusal
size_fault line nodes = if nat_lt most_nodes nodes then Some (record { line = line; rule = K8 }) else None

abbrev pub check_fault : List ProofTree → Check → Option Refusal
check_fault ps (Proves d) = duty_fault ps d
check_fault ps (Fits line nodes) = size_fault line nodes

unfoldable pub checks_fault : List ProofTree → List Check → Option Refusal
checks_fault ps [] = None
checks_fault ps (c ∷ cs) = first (check_fault ps c) (checks_fault ps cs)

-- first the proofs of no obligation, then the checks in order
abbrev pub proof_fault : MachineTree → List ProofTree → Option Refusal
proof_fault m ps = first (stray_fault (obligations_of m) [] (map (λ (p : ProofTree). p.title) ps)) (checks_fault ps (checks_of m))

-- a duty as hypotheses and a claim of a store
abbrev pub duty_of : Stored → Hypotheses → FormId → Obligation → Duty
duty_of s hyps claim o = record { obligation = o; facts = known_in s hyps; claim = formula s claim }
