-- Proofs, machines and texts: what they are once their parts are made.
use Rattle.std.proofs.Common.{◌≡◌, ℕ, List, [], ◌∷◌, map, None, Result, Ok, Err, sym, ap, subst, ◌∙◌}
use Rattle.sync_base.specs.declared.stops.Refusal.{Refusal}
use Rattle.sync_base.specs.declared.stops.Stop.{Stop}
use Rattle.sync_base.specs.declared.stops.Stop.TheVariants.{Refused, Memory}
use Rattle.sync_base.specs.Outcome.{◌>>=◌, Stops, Gives}
use Rattle.sync_terms.specs.Stored.{Stored, Extends}
use Rattle.sync_terms.specs.Plans.{Plan}
use Rattle.sync_machine.specs.declared.machine.Machine.{Machine}
use Rattle.sync_machine.specs.Machines.{MachineTree, OperationTree, InvariantTree}
use Rattle.sync_machine.specs.Views.{operation_tree, invariant_tree, machine_tree, HasOwnIds}
use Rattle.sync_machine.specs.Naming.{machine_fault, AreTextNames}
use Rattle.sync_terms.specs.declared.proofs.Claim.{Claim}
use Rattle.sync_parse.specs.declared.trees.RawProof.{RawProof}
use Rattle.sync_parse.specs.declared.trees.RawMachine.{RawMachine}
use Rattle.sync_read_names.specs.declared.scopes.Scope.{Scope}
use Rattle.sync_read_names.specs.Scopes.{meaning_of}
use Rattle.sync_read.specs.Acts.{few_before}
use Rattle.sync_read.specs.Resolving.{machine_in}
use Rattle.sync_terms.specs.declared.proofs.Proof.{Proof}
use Rattle.sync_terms.specs.Proofs.{ProofTree, AreScriptsOf}
use Rattle.sync_terms.specs.Proofs.{proof_in as stored_proof}
use Rattle.sync_terms.proofs.Extending.{Extends-refl}
use Rattle.sync_read.specs.Scripts.{operation_meaning, claim_in, script_scope, block_of, proof_in, proofs_from}
use Rattle.sync_read.specs.Texts.{first_scope, resolved}
use Rattle.sync_read.proofs.Growing.{operations_kept, operations_stay, invariants_kept, invariants_stay}
use Rattle.sync_read.proofs.Symbols.{machine_names}
use Rattle.sync_read.proofs.Formed.{machine_formed}

-- an answer that stops
pub gives_stop : {A B : Type 0} (view : A → B) (r : Result A Stop) (e : Stop) (wanted : Result B Refusal) → r ≡ Err e → Stops e wanted → Gives view r wanted
gives_stop view r e wanted is h = subst (λ x. Gives view x wanted) (sym is) h

-- ---- proofs

abbrev behind_claim : ℕ → Scope → RawProof → ℕ → Claim → Result (ProofTree × Scope) Refusal
behind_claim before s p o c = few_before 65536 before p.script.line >>= (λ n. block_of (script_scope o c s) p.script.block >>= (λ b.
    Ok (record { title = record { op = o; claim = c; line = p.operation.line }; plan = b }, script_scope o c s)))

proof_is : (before : ℕ) (s : Scope) (p : RawProof) (o n : ℕ) (c : Claim) → operation_meaning (meaning_of s p.operation.name) p.operation.line ≡ Ok o → claim_in s p.claim ≡ Ok c
    → few_before 65536 before p.script.line ≡ Ok n
    → proof_in before s p ≡ (block_of (script_scope o c s) p.script.block >>= (λ b. Ok (record { title = record { op = o; claim = c; line = p.operation.line }; plan = b }, script_scope o c s)))
unfolding proof_in
proof_is before s p o n c operation claim few =
    ap (λ r. r >>= (λ o. claim_in s p.claim >>= behind_claim before s p o)) operation
    ∙ ap (λ r. r >>= behind_claim before s p o) claim
    ∙ ap (λ r. r >>= (λ n. block_of (script_scope o c s) p.script.block >>= (λ b.
    Ok (record { title = record { op = o; claim = c; line = p.operation.line }; plan = b }, script_scope o c s)))) few

pub proof_made : (before : ℕ) (s next : Scope) (p : RawProof) (o n : ℕ) (c : Claim) (plan : Plan) → operation_meaning (meaning_of s p.operation.name) p.operation.line ≡ Ok o → claim_in s p.claim ≡ Ok c
    → few_before 65536 before p.script.line ≡ Ok n → next ≡ script_scope o c s → block_of next p.script.block ≡ Ok plan
    → proof_in before s p ≡ Ok (record { title = record { op = o; claim = c; line = p.operation.line }; plan = plan }, next)
proof_made before s next p o n c plan operation claim few is block =
    let made : ProofTree = record { title = record { op = o; claim = c; line = p.operation.line }; plan = plan } in
    proof_is before s p o n c operation claim few
    ∙ ap (λ r. r >>= (λ b. Ok (record { title = record { op = o; claim = c; line = p.operation.line }; plan = b }, script_scope o c s))) (ap (λ s. block_of s p.script.block) (sym is) ∙ block)
    ∙ ap (λ s. Ok (made, s)) (sym is)

pub proof_stops : (e : Stop) (before : ℕ) (s next : Scope) (p : RawProof) (o n : ℕ) (c : Claim) → operation_meaning (meaning_of s p.operation.name) p.operation.line ≡ Ok o → claim_in s p.claim ≡ Ok c
    → few_before 65536 before p.script.line ≡ Ok n → next ≡ script_scope o c s → Stops e (block_of next p.script.block) → Stops e (proof_in before s p)
proof_stops Memory before s next p o n c operation claim few is h = tt
proof_stops (Refused r) before s next p o n c operation claim few is h =
    proof_is before s p o n c operation claim few
    ∙ ap (λ r. r >>= (λ b. Ok (record { title = record { op = o; claim = c; line = p.operation.line }; plan = b }, script_scope o c s))) (ap (λ s. block_of s p.script.block) (sym is) ∙ h)

-- ---- scripts

one_answer : (wanted : Result (List ProofTree × Scope) Refusal) (p q : List ProofTree × Scope) → wanted ≡ Ok p → wanted ≡ Ok q → p ≡ q
one_answer wanted p q e f = let g : Ok p ≡ Ok q = sym e ∙ f in cc

first_same : (p q : ProofTree) (ps qs : List ProofTree) → p ∷ ps ≡ q ∷ qs → p ≡ q
first_same p q ps qs e = cc

rest_same : (p q : ProofTree) (ps qs : List ProofTree) → p ∷ ps ≡ q ∷ qs → ps ≡ qs
rest_same p q ps qs e = cc

same_scripts : (s : Stored) (ps : List Proof) → ((t : Stored) → Extends s t → map (stored_proof t) ps ≡ map (stored_proof s) ps) → AreScriptsOf s ps
same_scripts s [] h = tt
same_scripts s (p ∷ ps) h = (
  λ t e. ap (λ (q : ProofTree). q.plan) (first_same (stored_proof t p) (stored_proof s p) (map (stored_proof t) ps) (map (stored_proof s) ps) (h t e)),
  same_scripts s ps (λ t e. rest_same (stored_proof t p) (stored_proof s p) (map (stored_proof t) ps) (map (stored_proof s) ps) (h t e)),
)

-- what the proofs of a text mean over every larger store does not depend on it, so their scripts are of the store
pub own_scripts : (s : Stored) (ps : List Proof) (next : Scope) (wanted : Result (List ProofTree × Scope) Refusal) → ((t : Stored) → Extends s t → wanted ≡ Ok (map (stored_proof t) ps, next)) → AreScriptsOf s ps
own_scripts s ps next wanted h =
    same_scripts s ps (λ t e. ap (λ (q : List ProofTree × Scope). q.0) (one_answer wanted (map (stored_proof t) ps, next) (map (stored_proof s) ps, next) (h t e) (h s (Extends-refl s))))

-- ---- machines

-- the machine over a store that has grown
abbrev pub over : Stored → Machine → Machine
over t m = record { name = m.name; fields = m.fields; ops = m.ops; invariants = m.invariants; terms = t }

pub machine_kept : (t : Stored) (m : Machine) → Extends m.terms t → HasOwnIds m → machine_tree (over t m) ≡ machine_tree m
machine_kept t m grows ids =
    let make : List OperationTree → List InvariantTree → MachineTree = λ os is. record { name = m.name; fields = m.fields; ops = os; invariants = is } in
    ap (λ os. make os (map (invariant_tree t) m.invariants)) (operations_kept m.terms t m.ops grows ids.ops)
    ∙ ap (make (map (operation_tree m.terms) m.ops)) (invariants_kept m.terms t m.invariants grows ids.invariants)

pub machine_stays : (t : Stored) (m : Machine) → Extends m.terms t → HasOwnIds m → HasOwnIds (over t m)
machine_stays t m grows ids = record { ops = operations_stay m.terms t m.ops grows ids.ops; invariants = invariants_stay m.terms t m.invariants grows ids.invariants }

pub names_kept : (t : Stored) (m : Machine) (s next : Scope) (raw : RawMachine) → Extends m.terms t → HasOwnIds m → machine_in s raw ≡ Ok (machine_tree m, next) → AreTextNames (machine_tree (over t m))
names_kept t m s next raw grows ids is = subst AreTextNames (sym (machine_kept t m grows ids)) (machine_names s raw (machine_tree m, next) is)

pub formed_kept : (t : Stored) (m : Machine) (s next : Scope) (raw : RawMachine) (count : ℕ) → Extends m.terms t → HasOwnIds m → s ≡ first_scope count → machine_in s raw ≡ Ok (machine_tree m, next) → machine_fault (machine_tree (over t m)) ≡ None
formed_kept t m s next raw count grows ids first is =
    ap machine_fault (machine_kept t m grows ids) ∙ machine_formed count raw (machine_tree m, next) (ap (λ z. machine_in z raw) (sym first) ∙ is)

-- ---- machines with proofs

pub resolving_stops : (e : Stop) (s : Scope) (names : ℕ) (raw : RawMachine) (proofs : List RawProof) (m : MachineTree × Scope) → s ≡ first_scope names → machine_in s raw ≡ Ok m → Stops e (proofs_from [] m.1 proofs)
    → Stops e (resolved names raw proofs)
resolving_stops Memory s names raw proofs m first machine h = tt
resolving_stops (Refused r) s names raw proofs m first machine h =
    ap (λ x. x >>= (λ m. proofs_from [] m.1 proofs >>= (λ ps. Ok (record { machine = m.0; proofs = ps.0; scope = ps.1 })))) (ap (λ s. machine_in s raw) (sym first) ∙ machine)
    ∙ ap (λ x. x >>= (λ ps. Ok (record { machine = m.0; proofs = ps.0; scope = ps.1 }))) h
