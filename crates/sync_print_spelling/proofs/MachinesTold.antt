-- What is read as a machine or as its proofs is within the limits, and its terminals name what is shown of it.
use Rattle.std.proofs.Common.{List, [], ◌∷◌, map, refl}
use Rattle.std.specs.List.{flat_map, All}
use Rattle.std.proofs.lemmas.List.Elements.{All-nil}
use Rattle.sync_base.specs.declared.names.NameList.{NameList}
use Rattle.sync_base.specs.declared.strategies.OpMode.{OpMode}
use Rattle.sync_lex.specs.declared.signs.Sign.TheVariants as sign
use Rattle.sync_lex.specs.declared.terminals.Terminal.{Terminal}
use Rattle.sync_parse_exprs.specs.declared.raw_names.RawName.{RawName}
use Rattle.sync_parse.specs.declared.trees.RawMachine.{RawMachine}
use Rattle.sync_parse.specs.declared.trees.RawField.{RawField}
use Rattle.sync_parse.specs.declared.trees.RawOperation.{RawOperation}
use Rattle.sync_parse.specs.declared.trees.RawInvariant.{RawInvariant}
use Rattle.sync_parse.specs.declared.trees.RawProof.{RawProof}
use Rattle.sync_parse.specs.declared.trees.RawClaim.{RawClaim}
use Rattle.sync_parse.specs.Scripts.{statement_number}
use Rattle.sync_parse_forms.specs.Relations.{AName, the_one, the_other, Names}
use Rattle.sync_parse_grammar.specs.Scripts.{Script}
use Rattle.sync_parse_grammar.specs.Machines.{Field, Mode, Operation, Invariant, Machine, Claim, Proof, Proofs}
use Rattle.sync_print.specs.Texts.{name_number, plain_field, plain_operation, plain_invariant, plain_machine, plain_claim, plain_proof}
use Rattle.sync_print.specs.Lexemes.{one, one_name}
use Rattle.sync_print.specs.ShowTexts.{show_field, mode_sign, show_names, show_operation, show_invariant, show_machine, show_claim, show_proof, show_proofs}
use Rattle.sync_print_spelling.specs.Limits.{OperationFits, InvariantFits, MachineFits, ClaimFits, ProofFits}
use Rattle.sync_print_spelling.proofs.Told.{Tells, both, behind, nothing, silent, sign_read, sign_told, number_told, name_told, strategy_told}
use Rattle.sync_print_spelling.proofs.ListsTold.{Read, Reads, ended, closed, rows, in_brackets}
use Rattle.sync_print_spelling.proofs.ExpressionsTold.{exprs_told}
use Rattle.sync_print_spelling.proofs.HypsTold.{within_last, place_within_largest}
use Rattle.sync_print_spelling.proofs.ScriptsTold.{blocks_told}
use Rattle.sync_print_spelling.proofs.ActsTold.{acts_told}

-- no limit
abbrev NoLimit : {A : Type 0} → A → Type 0
NoLimit x = Unit {0}

-- ---- names

a_name_told : {names : NameList} → Reads names AName name_number one_name NoLimit
a_name_told = record { at = λ ts rest x d. record { fits = tt; tells = name_told d } }

names_told : {names : NameList} (ts rest : List Terminal) (xs : List RawName) → Names ts rest xs → Tells names (show_names (map name_number xs)) ts rest
unfolding Names
names_told ts rest xs d = both (both (silent sign.OpenRound) ((in_brackets a_name_told).at ts rest xs d).tells) (silent sign.CloseRound)

-- ---- fields

abbrev OfField : NameList → RawField → List Terminal → List Terminal → Type 0
OfField names f ts rest = Read names (Unit {0}) (show_field (plain_field f)) ts rest

field_told : {names : NameList} (ts rest : List Terminal) (f : RawField) → Field ts rest f → OfField names f ts rest
unfolding Field
field_told {names = names} ts rest f d =
    let n = d.next in
    let c = n.next in
    let s = c.next in
    let e = s.next in
    ended (OfField names) e.next (record {
      fits = tt;
      tells = both (both (both (both (sign_told sign.Field d.one) (name_told n.one)) (sign_told sign.Colon c.one)) (strategy_told s.one)) (sign_told sign.Semicolon e.one);
    })

fields_told : {names : NameList} → Reads names Field plain_field show_field NoLimit
fields_told = record { at = field_told }

-- ---- operations

abbrev OfMode : NameList → OpMode → List Terminal → List Terminal → Type 0
OfMode names m ts rest = Tells names (one (mode_sign m)) ts rest

mode_told : {names : NameList} (ts rest : List Terminal) (m : OpMode) → Mode ts rest m → OfMode names m ts rest
unfolding Mode
mode_told {names = names} ts rest m (the_one d) = ended (OfMode names) d.next (sign_told sign.Init d.one)
mode_told {names = names} ts rest m (the_other (the_one d)) = ended (OfMode names) d.next (sign_told sign.Transition d.one)
mode_told {names = names} ts rest m (the_other (the_other d)) = ended (OfMode names) d.next (sign_told sign.Property d.one)

abbrev OfOperation : NameList → RawOperation → List Terminal → List Terminal → Type 0
OfOperation names o ts rest = Read names (OperationFits (plain_operation o)) (show_operation (plain_operation o)) ts rest

operation_told : {names : NameList} (ts rest : List Terminal) (o : RawOperation) → Operation ts rest o → OfOperation names o ts rest
unfolding Operation
operation_told {names = names} ts rest o d =
    let m = d.next in
    let n = m.next in
    let ps = n.next in
    let b = ps.next in
    let acts = b.next in
    let e = acts.next in
    let y = (rows acts_told).at b.middle acts.middle acts.value acts.one in
    let front = both (both (both (nothing d.one.none) (mode_told d.middle m.middle m.value m.one)) (name_told n.one)) (names_told n.middle ps.middle ps.value ps.one) in
    ended (OfOperation names) e.next (record { fits = y.fits; tells = both (both (both front (sign_told sign.OpenBrace b.one)) y.tells) (sign_told sign.CloseBrace e.one) })

operations_told : {names : NameList} → Reads names Operation plain_operation show_operation OperationFits
operations_told = record { at = operation_told }

-- ---- invariants

abbrev OfInvariant : NameList → RawInvariant → List Terminal → List Terminal → Type 0
OfInvariant names v ts rest = Read names (InvariantFits (plain_invariant v)) (show_invariant (plain_invariant v)) ts rest

invariant_told : {names : NameList} (ts rest : List Terminal) (v : RawInvariant) → Invariant ts rest v → OfInvariant names v ts rest
unfolding Invariant
invariant_told {names = names} ts rest v d =
    let n = d.next in
    let ps = n.next in
    let c = ps.next in
    let f = c.next in
    let y = (closed exprs_told).at c.middle f.middle f.value f.one in
    let front = both (both (both (sign_told sign.Invariant d.one) (name_told n.one)) (names_told n.middle ps.middle ps.value ps.one)) (sign_told sign.Colon c.one) in
    ended (OfInvariant names) f.next (record { fits = y.fits; tells = both (both front y.tells) (silent sign.Semicolon) })

invariants_told : {names : NameList} → Reads names Invariant plain_invariant show_invariant InvariantFits
invariants_told = record { at = invariant_told }

-- ---- machines

abbrev OfMachine : NameList → RawMachine → List Terminal → List Terminal → Type 0
OfMachine names m ts rest = Read names (MachineFits (plain_machine m)) (show_machine (plain_machine m)) ts rest

machine_told : {names : NameList} (ts rest : List Terminal) (m : RawMachine) → Machine ts rest m → OfMachine names m ts rest
unfolding Machine
machine_told {names = names} ts rest m d =
    let n = d.next in
    let b = n.next in
    let fs = b.next in
    let os = fs.next in
    let vs = os.next in
    let e = vs.next in
    let u = (rows fields_told).at b.middle fs.middle fs.value fs.one in
    let v = (rows operations_told).at fs.middle os.middle os.value os.one in
    let w = (rows invariants_told).at os.middle vs.middle vs.value vs.one in
    let front = both (both (sign_told sign.Machine d.one) (name_told n.one)) (sign_told sign.OpenBrace b.one) in
    ended (OfMachine names) e.next (record { fits = (v.fits, w.fits); tells = both (both (both (both front u.tells) v.tells) w.tells) (sign_told sign.CloseBrace e.one) })

pub machines_told : {names : NameList} → Reads names Machine plain_machine show_machine MachineFits
machines_told = record { at = machine_told }

-- ---- proofs

abbrev OfClaim : NameList → RawClaim → List Terminal → List Terminal → Type 0
OfClaim names c ts rest = Read names (ClaimFits (plain_claim c)) (show_claim (plain_claim c)) ts rest

claim_told : {names : NameList} (ts rest : List Terminal) (c : RawClaim) → Claim ts rest c → OfClaim names c ts rest
unfolding Claim
claim_told {names = names} ts rest c (the_one d) =
    let n = d.next in
    ended (OfClaim names) n.next (record { fits = within_last n.value; tells = both (sign_told sign.At d.one) (number_told (statement_number n.value) (place_within_largest n.value) n.one) })
claim_told {names = names} ts rest c (the_other d) =
    let n = d.next in
    ended (OfClaim names) n.next (record { fits = tt; tells = both (sign_told sign.Keeps d.one) (name_told n.one) })

abbrev OfProof : NameList → RawProof → List Terminal → List Terminal → Type 0
OfProof names p ts rest = Read names (ProofFits (plain_proof p)) (show_proof (plain_proof p)) ts rest

proof_told : {names : NameList} (ts rest : List Terminal) (p : RawProof) → Proof ts rest p → OfProof names p ts rest
unfolding Proof Script
proof_told {names = names} ts rest p d =
    let c = d.next in
    let s = c.next in
    let script = s.one in
    let b = script.next in
    let y = claim_told d.middle c.middle c.value c.one in
    let z = blocks_told.at script.middle b.middle b.value b.one in
    let front = both (both (name_told d.one) y.tells) (sign_told sign.By script.one) in
    let with_script : OfProof names (record { operation = d.value; claim = c.value; script = record { block = b.value; line = script.value } }) ts b.middle
    = record { fits = (y.fits, z.fits); tells = both front z.tells } in
    ended (OfProof names) s.next (ended (λ x us vs. OfProof names (record { operation = d.value; claim = c.value; script = x }) us vs) b.next with_script)

proof_rows : {names : NameList} → Reads names Proof plain_proof show_proof ProofFits
proof_rows = record { at = proof_told }

abbrev OfProofs : NameList → List RawProof → List Terminal → List Terminal → Type 0
OfProofs names ps ts rest = Read names (All ProofFits (map plain_proof ps)) (show_proofs (map plain_proof ps)) ts rest

-- proofs in braces; with none inside, nothing is shown
in_braces : {names : NameList} (ps : List RawProof) {ts us vs rest : List Terminal} → Tells names [] ts us → Read names (All ProofFits (map plain_proof ps)) (flat_map show_proof (map plain_proof ps)) us vs
    → Tells names [] vs rest → OfProofs names ps ts rest
in_braces [] o y c = record { fits = y.fits; tells = both o (behind y.tells c) }
in_braces (p ∷ ps) o y c = record { fits = y.fits; tells = both (both (both (both o (silent sign.Proofs)) (silent sign.OpenBrace)) y.tells) (both c (silent sign.CloseBrace)) }

proofs_read : {names : NameList} (ts rest : List Terminal) (ps : List RawProof) → Proofs ts rest ps → OfProofs names ps ts rest
unfolding Proofs
proofs_read {names = names} ts rest ps (the_one d) = ended (OfProofs names) d (record { fits = All-nil ProofFits; tells = nothing refl })
proofs_read {names = names} ts rest ps (the_other d) =
    let b = d.next in
    let xs = b.next in
    let e = xs.next in
    let y = (rows proof_rows).at b.middle xs.middle xs.value xs.one in
    ended (OfProofs names) e.next (in_braces xs.value (both (sign_read d.one) (sign_read b.one)) y (sign_read e.one))

pub proofs_told : {names : NameList} → Reads names Proofs (map plain_proof) show_proofs (All ProofFits)
proofs_told = record { at = proofs_read }
