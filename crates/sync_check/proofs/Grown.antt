-- What a text means once the terms of its program are in its machine's store.
use Rattle.std.proofs.Common.{◌≡◌, ℕ, List, [], ◌∷◌, length, None, Result, Ok, refl, sym, ap, subst, ◌∙◌}
use Rattle.std.proofs.lemmas.List.{length-map}
use Rattle.sync_base.specs.declared.stops.Refusal.{Refusal}
use Rattle.sync_base.specs.declared.stops.Stop.{Stop}
use Rattle.sync_base.specs.declared.stops.Stop.TheVariants.{Refused, Memory}
use Rattle.sync_base.specs.Outcome.{◌>>=◌, Stops}
use Rattle.sync_terms.specs.Stored.{Stored, Extends}
use Rattle.sync_terms.specs.declared.proofs.Proof.{Proof}
use Rattle.sync_terms.specs.Proofs.{ProofTree, title_of, proof_in, proofs_in, AreScriptsOf}
use Rattle.sync_terms.specs.Plans.{plan_of}
use Rattle.sync_terms.proofs.Extending.{Extends-refl, Extends-trans}
use Rattle.sync_machine.specs.declared.machine.Machine.{Machine}
use Rattle.sync_machine.specs.Machines.{MachineTree}
use Rattle.sync_machine.specs.Views.{machine_tree, HasOwnIds}
use Rattle.sync_machine.specs.Naming.{machine_fault, AreTextNames}
use Rattle.sync_induct.specs.Grown.{HasGrown}
use Rattle.sync_thread.specs.declared.program.Program.{Program}
use Rattle.sync_thread.specs.Programs.{ProgramTree}
use Rattle.sync_thread.specs.Views.{program_tree, IsProgramOf}
use Rattle.sync_read.specs.Texts.{ResolvedTree, resolved}
use Rattle.sync_read_names.specs.declared.scopes.Scope.{Scope}
use Rattle.sync_read_programs.specs.Programs.{resolved_program}
use Rattle.sync_read.proofs.Whole.{machine_kept, machine_stays}
use Rattle.sync_parse.specs.declared.trees.RawProof.{RawProof}
use Rattle.sync_parse_texts.specs.declared.text_reader.RawWholeText.{RawWholeText}
use Rattle.sync_check.specs.Texts.{TextTree, resolved_whole}

pub tree_kept : (old new : Machine) → HasOwnIds old → HasGrown old new → machine_tree new ≡ machine_tree old
tree_kept old new ids grown = rw (grown.name, grown.fields, grown.ops, grown.invariants) (machine_kept new.terms old grown.terms ids)

pub ids_stay : (old new : Machine) → HasOwnIds old → HasGrown old new → HasOwnIds new
ids_stay old new ids grown = rw (grown.name, grown.fields, grown.ops, grown.invariants) (machine_stays new.terms old grown.terms ids)

pub names_stay : (old new : Machine) → HasOwnIds old → HasGrown old new → AreTextNames (machine_tree old) → AreTextNames (machine_tree new)
names_stay old new ids grown names = subst AreTextNames (sym (tree_kept old new ids grown)) names

pub formed_stays : (old new : Machine) → HasOwnIds old → HasGrown old new → machine_fault (machine_tree old) ≡ None → machine_fault (machine_tree new) ≡ None
formed_stays old new ids grown formed = ap machine_fault (tree_kept old new ids grown) ∙ formed

-- ---- scripts of a store that grows

pub scripts_stay : (s t : Stored) (ps : List Proof) → Extends s t → AreScriptsOf s ps → AreScriptsOf t ps
scripts_stay s t [] e h = tt
scripts_stay s t (p ∷ ps) e h = (λ u more. h.0 u (Extends-trans e more) ∙ sym (h.0 t e), scripts_stay s t ps e h.1)

scripts_kept : (s t : Stored) (ps : List Proof) → Extends s t → AreScriptsOf s ps → proofs_in t ps ≡ proofs_in s ps
scripts_kept s t [] e h = refl
scripts_kept s t (p ∷ ps) e h =
    let one : plan_of t p.script.block ≡ plan_of s p.script.block = h.0 t e in
    let more = scripts_kept s t ps e h.1 in
    λ i. record { title = title_of p; plan = one i } ∷ more i

-- ---- programs

one_answer : (wanted : Result ProgramTree Refusal) (x y : ProgramTree) → wanted ≡ Ok x → wanted ≡ Ok y → x ≡ y
one_answer wanted x y e f = let g : Ok x ≡ Ok y = sym e ∙ f in cc

-- a program that is the wanted one over every larger store has its ids in the store
pub own_program : (s : Stored) (p : Program) (wanted : Result ProgramTree Refusal) → ((t : Stored) → Extends s t → wanted ≡ Ok (program_tree t p)) → IsProgramOf s p
own_program s p wanted h t e = one_answer wanted (program_tree t p) (program_tree s p) (h t e) (h s (Extends-refl s))

-- what a raw tree means, once its machine and proofs are resolved
abbrev behind_machine : RawWholeText → ResolvedTree → Result TextTree Refusal
behind_machine raw r =
    resolved_program r.machine r.scope (length r.proofs) raw.program >>= (λ p. Ok (record { machine = r.machine; proofs = r.proofs; program = p; names = raw.names }))

machine_first : (raw : RawWholeText) (r : ResolvedTree) → resolved (length raw.names.list) raw.machine raw.proofs ≡ Ok r → resolved_whole raw ≡ behind_machine raw r
machine_first raw r e = ap (λ x. x >>= behind_machine raw) e

pub whole_means : (raw : RawWholeText) (old new : Machine) (proofs : List Proof) (scope : Scope) (p : Program) → HasOwnIds old → AreScriptsOf old.terms proofs → HasGrown old new
    → resolved (length raw.names.list) raw.machine raw.proofs ≡ Ok (record { machine = machine_tree old; proofs = proofs_in old.terms proofs; scope = scope })
    → resolved_program (machine_tree old) scope (length proofs) raw.program ≡ Ok (program_tree new.terms p)
    → resolved_whole raw ≡ Ok (record { machine = machine_tree new; proofs = proofs_in new.terms proofs; program = program_tree new.terms p; names = raw.names })
whole_means raw old new proofs scope p ids scripts grown machine program =
    let make : MachineTree → List ProofTree → TextTree = λ m ps. record { machine = m; proofs = ps; program = program_tree new.terms p; names = raw.names } in
    machine_first raw _ machine
    ∙ ap (λ n. resolved_program (machine_tree old) scope n raw.program >>= (λ q. Ok (record { machine = machine_tree old; proofs = proofs_in old.terms proofs; program = q; names = raw.names })))
    (length-map proofs (proof_in old.terms))
    ∙ ap (λ x. x >>= (λ q. Ok (record { machine = machine_tree old; proofs = proofs_in old.terms proofs; program = q; names = raw.names }))) program
    ∙ ap (λ m. Ok (make m (proofs_in old.terms proofs))) (sym (tree_kept old new ids grown))
    ∙ ap (λ ps. Ok (make (machine_tree new) ps)) (sym (scripts_kept old.terms new.terms proofs grown.terms scripts))

-- ---- the arguments of calls

pub same_parts : (raw : RawWholeText) (count : ℕ) (proofs : List RawProof) (x : Result ResolvedTree Refusal) → count ≡ length raw.names.list → proofs ≡ raw.proofs
    → resolved count raw.machine proofs ≡ x → resolved (length raw.names.list) raw.machine raw.proofs ≡ x
same_parts raw count proofs x same list is = ap (λ n. resolved n raw.machine raw.proofs) (sym same) ∙ ap (resolved count raw.machine) (sym list) ∙ is

pub same_count : (raw : RawWholeText) (old : Machine) (scope : Scope) (count scripts : ℕ) (x : Result ProgramTree Refusal) → count ≡ scripts
    → resolved_program (machine_tree old) scope count raw.program ≡ x → resolved_program (machine_tree old) scope scripts raw.program ≡ x
same_count raw old scope count scripts x same is = ap (λ n. resolved_program (machine_tree old) scope n raw.program) (sym same) ∙ is

pub program_stops : (e : Stop) (raw : RawWholeText) (old : Machine) (proofs : List Proof) (scope : Scope)
    → resolved (length raw.names.list) raw.machine raw.proofs ≡ Ok (record { machine = machine_tree old; proofs = proofs_in old.terms proofs; scope = scope })
    → (count : ℕ) → count ≡ length proofs → Stops e (resolved_program (machine_tree old) scope count raw.program) → Stops e (resolved_whole raw)
program_stops Memory raw old proofs scope machine count same h = tt
program_stops (Refused r) raw old proofs scope machine count same h =
    machine_first raw _ machine
    ∙ ap (λ n. resolved_program (machine_tree old) scope n raw.program >>= (λ q. Ok (record { machine = machine_tree old; proofs = proofs_in old.terms proofs; program = q; names = raw.names })))
    (length-map proofs (proof_in old.terms) ∙ sym same)
    ∙ ap (λ x. x >>= (λ q. Ok (record { machine = machine_tree old; proofs = proofs_in old.terms proofs; program = q; names = raw.names }))) h
