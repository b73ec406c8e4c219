-- The lines that list what has to be proved of a machine.
use Rattle.std.specs.Prelude.{◌≡◌, ℕ, List, [], ◌++◌, map, codes, slice_get, None, Result}
use Rattle.std.specs.Option.{option_map_or}
use Rattle.std.specs.Fmt.{decimal}
use Rattle.sync_base.specs.declared.stops.Refusal.{Refusal}
use Rattle.sync_base.specs.Outcome.{◌>>=◌}
use Rattle.sync_base.specs.Names.{spelling}
use Rattle.sync_machine.specs.Machines.{OperationTree, InvariantTree}
use Rattle.sync_machine.specs.Naming.{machine_fault}
use Rattle.sync_terms.specs.declared.proofs.Claim.{Claim}
use Rattle.sync_terms.specs.declared.proofs.Claim.TheVariants.{At, Keeps}
use Rattle.sync_terms.specs.declared.proofs.Obligation.{Obligation}
use Rattle.sync_rules.specs.Faults.{strategy_fault}
use Rattle.sync_rules.specs.Obligations.{obligations_of}
use Rattle.sync_check.specs.Texts.{TextTree, unless, built_text_in}
use Rattle.sync_check.specs.Checking.{Means}

-- how the name of the operation with this number is spelled
abbrev pub operation_name : TextTree → ℕ → List ℕ
operation_name t op = option_map_or (λ (o : OperationTree). spelling t.names o.name) (slice_get t.machine.ops op) []

-- how the name of the invariant with this number is spelled
abbrev pub invariant_name : TextTree → ℕ → List ℕ
invariant_name t invariant =
    option_map_or (λ (i : InvariantTree). spelling t.names i.name) (slice_get t.machine.invariants invariant) []

-- what is claimed of an operation
abbrev pub claim_text : TextTree → Claim → List ℕ
claim_text t (At number) = codes " at " ++ decimal number
claim_text t (Keeps invariant) = codes " keeps " ++ invariant_name t invariant

-- where an obligation stands in the text, its operation and its claim
abbrev pub obligation_line : TextTree → Obligation → List ℕ
obligation_line t o =
    codes "line " ++ decimal o.line ++ codes " " ++ operation_name t o.op ++ claim_text t o.claim ++ codes "\n"

-- the lines of all that has to be proved, in order
abbrev pub obligation_lines : TextTree → List (List ℕ)
obligation_lines t = map (obligation_line t) (obligations_of t.machine)

-- the lines of what has to be proved, where the machine breaks no rule of strategies
abbrev pub listed : TextTree → Result (List (List ℕ)) Refusal
listed t = unless (strategy_fault t.machine) (obligation_lines t)

-- the lines of what has to be proved of a text's machine, whatever its proofs are, or the first rule that the text breaks
unfoldable pub listing_of : List ℕ → Result (List (List ℕ)) Refusal
listing_of text = built_text_in text >>= listed

-- The bytes spell a machine that keeps the rules of names and of strategies, and these lines list what has to be proved of it.
unfoldable pub IsListed : List ℕ → List (List ℕ) → Type 0
IsListed bytes lines =
    (t : TextTree) × Means bytes t × (machine_fault t.machine ≡ None) × (strategy_fault t.machine ≡ None) × (lines ≡ obligation_lines t)
