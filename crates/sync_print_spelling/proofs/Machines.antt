-- Machines and proofs: what they spell.
use Rattle.std.proofs.Common.{◌≡◌, ℕ, List, [], ◌∷◌, ◌++◌, map, refl, ap}
use Rattle.std.specs.List.{flat_map, All}
use Rattle.sync_lex.specs.declared.signs.Sign.TheVariants as sign
use Rattle.sync_lex.specs.declared.terminals.Terminal.{Terminal}
use Rattle.sync_parse_exprs.specs.declared.raw_names.RawName.{RawName}
use Rattle.sync_parse_exprs.specs.Terminals.{first_line}
use Rattle.sync_base.specs.declared.strategies.Strategy.{Strategy}
use Rattle.sync_base.specs.declared.strategies.OpMode.{OpMode}
use Rattle.sync_base.specs.declared.strategies.OpMode.TheVariants as mode
use Rattle.sync_parse.specs.declared.scripts.RawScript.{RawScript}
use Rattle.sync_parse.specs.declared.trees.RawClaim.TheVariants as raw_claim
use Rattle.sync_parse.specs.Scripts.{statement_number}
use Rattle.sync_parse_forms.specs.Relations.{AName, AStrategy, the_one, the_other, Names}
use Rattle.sync_parse_grammar.specs.Scripts.{Script}
use Rattle.sync_parse_grammar.specs.Machines.{Field, Mode, Operation, Invariant, Machine, Claim, Proof, Proofs}
use Rattle.sync_print.specs.Exprs.{Plain}
use Rattle.sync_print.specs.Scripts.{PlainBlock}
use Rattle.sync_print.specs.Texts.{PlainAct, PlainField, PlainOperation, PlainInvariant, PlainMachine, PlainClaim, keeps, at, PlainProof, name_number, plain_field, plain_operation, plain_invariant, plain_machine, plain_claim, plain_proof}
use Rattle.sync_print.specs.Lexemes.{one, one_name, one_number, one_strategy, listed}
use Rattle.sync_print.specs.ShowExprs.{show_expr}
use Rattle.sync_print.specs.ShowScripts.{show_block}
use Rattle.sync_print.specs.ShowTexts.{show_act, show_field, mode_sign, show_names, show_operation, show_invariant, show_machine, show_claim, show_proof, show_proofs}
use Rattle.sync_print_spelling.specs.Says.{Says, no_more, one_more}
use Rattle.sync_print_spelling.specs.Limits.{OperationFits, InvariantFits, MachineFits, ClaimFits, ProofFits}
use Rattle.sync_print_spelling.specs.Laws.{Derives, ShownIsDerived}
use Rattle.sync_print_spelling.proofs.Terminals.{split as parted, the_sign, the_number, the_name, here_is, yields, seq}
use Rattle.sync_print_spelling.proofs.Expressions.{exprs}
use Rattle.sync_print_spelling.proofs.Lists.{rows, in_brackets}
use Rattle.sync_print_spelling.proofs.Hyps.{within_place}
use Rattle.sync_print_spelling.proofs.Scripts.{blocks}
use Rattle.sync_print_spelling.proofs.Acts.{closed, acts}

-- no limit
abbrev NoLimit : {A : Type 0} → A → Type 0
NoLimit x = Unit {0}

all_within : {A : Type 0} (xs : List A) → All NoLimit xs
all_within xs = λ k d within. tt

-- ---- names

name_spelled : (x : ℕ) → NoLimit x → (ts rest : List Terminal) → Says (one_name x) ts rest → Derives AName name_number x ts rest
name_spelled x fits ts rest h =
    let n = the_name h in
    record { raw = record { name = x; line = n.0 }; spelled = n.1; is = refl }

names : ShownIsDerived AName name_number one_name NoLimit
names = record { holds = name_spelled }

names_spelled : (xs : List ℕ) (ts rest : List Terminal) → Says (show_names xs) ts rest → Derives Names (map name_number) xs ts rest
unfolding Names
names_spelled xs ts rest h =
    let r = parted (one sign.OpenRound ++ listed (map one_name xs)) (one sign.CloseRound) h in
    let q = parted (one sign.OpenRound) (listed (map one_name xs)) r.1 in
    in_brackets names xs (all_within xs) ts q.0 r.0 rest q.1 q.2 r.2

-- ---- fields

the_strategy : {s : Strategy} {ts rest : List Terminal} → Says (one_strategy s) ts rest → AStrategy ts rest s
unfolding one_strategy
the_strategy (one_more {w = w} is no_more) = record { terminal = w; number = is.0; stands = refl; is = is.1 }

field_spelled : (f : PlainField) → NoLimit f → (ts rest : List Terminal) → Says (show_field f) ts rest → Derives Field plain_field f ts rest
unfolding Field
field_spelled f fits ts rest h =
    let n4 = parted (one sign.Field ++ one_name f.name ++ one sign.Colon ++ one_strategy f.strategy) (one sign.Semicolon) h in
    let n3 = parted (one sign.Field ++ one_name f.name ++ one sign.Colon) (one_strategy f.strategy) n4.1 in
    let n2 = parted (one sign.Field ++ one_name f.name) (one sign.Colon) n3.1 in
    let n1 = parted (one sign.Field) (one_name f.name) n2.1 in
    let s = the_sign n1.1 in
    let n = the_name n1.2 in
    let c = the_sign n2.2 in
    let w = the_strategy n3.2 in
    let e = the_sign n4.2 in
    let named : RawName = record { name = f.name; line = n.0 } in
    record {
      raw = record { name = named; strategy = f.strategy; line = s.0 };
      spelled = seq s.0 n1.0 s.1 (seq named n2.0 n.1 (seq c.0 n3.0 c.1 (seq f.strategy n4.0 w (seq e.0 rest e.1 (yields _)))));
      is = refl;
    }

fields : ShownIsDerived Field plain_field show_field NoLimit
fields = record { holds = field_spelled }

-- ---- operations

mode_spelled : (m : OpMode) (ts rest : List Terminal) → Says (one (mode_sign m)) ts rest → Mode ts rest m
unfolding Mode
mode_spelled mode.Init ts rest h = (let s = the_sign h in the_one (seq s.0 rest s.1 (yields _)))
mode_spelled mode.Transition ts rest h = (let s = the_sign h in the_other (the_one (seq s.0 rest s.1 (yields _))))
mode_spelled mode.Property ts rest h = (let s = the_sign h in the_other (the_other (seq s.0 rest s.1 (yields _))))

operation_is : (o : PlainOperation) {ps : List ℕ} {ss : List PlainAct} → ps ≡ o.params → ss ≡ o.acts
    → ◌≡◌ {A = PlainOperation} (record { mode = o.mode; name = o.name; params = ps; acts = ss }) o
operation_is o p q = λ i. record { mode = o.mode; name = o.name; params = p i; acts = q i }

operation_spelled : (o : PlainOperation) → OperationFits o → (ts rest : List Terminal) → Says (show_operation o) ts rest → Derives Operation plain_operation o ts rest
unfolding Operation
operation_spelled o fits ts rest h =
    let n5 = parted (one (mode_sign o.mode) ++ one_name o.name ++ show_names o.params ++ one sign.OpenBrace ++ flat_map show_act o.acts) (one sign.CloseBrace) h in
    let n4 = parted (one (mode_sign o.mode) ++ one_name o.name ++ show_names o.params ++ one sign.OpenBrace) (flat_map show_act o.acts) n5.1 in
    let n3 = parted (one (mode_sign o.mode) ++ one_name o.name ++ show_names o.params) (one sign.OpenBrace) n4.1 in
    let n2 = parted (one (mode_sign o.mode) ++ one_name o.name) (show_names o.params) n3.1 in
    let n1 = parted (one (mode_sign o.mode)) (one_name o.name) n2.1 in
    let m = mode_spelled o.mode ts n1.0 n1.1 in
    let n = the_name n1.2 in
    let ps = names_spelled o.params n2.0 n3.0 n2.2 in
    let b = the_sign n3.2 in
    let ys = (rows acts).holds o.acts fits n4.0 n5.0 n4.2 in
    let e = the_sign n5.2 in
    let named : RawName = record { name = o.name; line = n.0 } in
    record {
      raw = record { mode = o.mode; name = named; params = ps.raw; steps = ys.raw; line = first_line ts };
      spelled = seq ts ts here_is (seq o.mode n1.0 m (seq named n2.0 n.1 (seq ps.raw n3.0 ps.spelled (seq b.0 n4.0 b.1 (seq ys.raw n5.0 ys.spelled (seq e.0 rest e.1 (yields _)))))));
      is = operation_is o ps.is ys.is;
    }

operations : ShownIsDerived Operation plain_operation show_operation OperationFits
operations = record { holds = operation_spelled }

-- ---- invariants

invariant_is : (i : PlainInvariant) {ps : List ℕ} {e : Plain} → ps ≡ i.params → e ≡ i.form → ◌≡◌ {A = PlainInvariant} (record { name = i.name; params = ps; form = e }) i
invariant_is v p q = λ i. record { name = v.name; params = p i; form = q i }

invariant_spelled : (v : PlainInvariant) → InvariantFits v → (ts rest : List Terminal) → Says (show_invariant v) ts rest → Derives Invariant plain_invariant v ts rest
unfolding Invariant
invariant_spelled v fits ts rest h =
    let n5 = parted (one sign.Invariant ++ one_name v.name ++ show_names v.params ++ one sign.Colon ++ show_expr v.form) (one sign.Semicolon) h in
    let n4 = parted (one sign.Invariant ++ one_name v.name ++ show_names v.params ++ one sign.Colon) (show_expr v.form) n5.1 in
    let n3 = parted (one sign.Invariant ++ one_name v.name ++ show_names v.params) (one sign.Colon) n4.1 in
    let n2 = parted (one sign.Invariant ++ one_name v.name) (show_names v.params) n3.1 in
    let n1 = parted (one sign.Invariant) (one_name v.name) n2.1 in
    let s = the_sign n1.1 in
    let n = the_name n1.2 in
    let ps = names_spelled v.params n2.0 n3.0 n2.2 in
    let c = the_sign n3.2 in
    let y = closed (exprs.holds v.form fits n4.0 n5.0 n4.2) n5.2 in
    let named : RawName = record { name = v.name; line = n.0 } in
    record {
      raw = record { name = named; params = ps.raw; form = y.raw; line = s.0 };
      spelled = seq s.0 n1.0 s.1 (seq named n2.0 n.1 (seq ps.raw n3.0 ps.spelled (seq c.0 n4.0 c.1 (seq y.raw rest y.spelled (yields _)))));
      is = invariant_is v ps.is y.is;
    }

invariants : ShownIsDerived Invariant plain_invariant show_invariant InvariantFits
invariants = record { holds = invariant_spelled }

-- ---- machines

machine_is : (m : PlainMachine) {fs : List PlainField} {os : List PlainOperation} {vs : List PlainInvariant} → fs ≡ m.fields → os ≡ m.operations → vs ≡ m.invariants
    → ◌≡◌ {A = PlainMachine} (record { name = m.name; fields = fs; operations = os; invariants = vs }) m
machine_is m p q r = λ i. record { name = m.name; fields = p i; operations = q i; invariants = r i }

machine_spelled : (m : PlainMachine) → MachineFits m → (ts rest : List Terminal) → Says (show_machine m) ts rest → Derives Machine plain_machine m ts rest
unfolding Machine
machine_spelled m fits ts rest h =
    let n6 = parted (one sign.Machine ++ one_name m.name ++ one sign.OpenBrace ++ flat_map show_field m.fields ++ flat_map show_operation m.operations ++ flat_map show_invariant m.invariants) (one sign.CloseBrace) h in
    let n5 = parted (one sign.Machine ++ one_name m.name ++ one sign.OpenBrace ++ flat_map show_field m.fields ++ flat_map show_operation m.operations) (flat_map show_invariant m.invariants) n6.1 in
    let n4 = parted (one sign.Machine ++ one_name m.name ++ one sign.OpenBrace ++ flat_map show_field m.fields) (flat_map show_operation m.operations) n5.1 in
    let n3 = parted (one sign.Machine ++ one_name m.name ++ one sign.OpenBrace) (flat_map show_field m.fields) n4.1 in
    let n2 = parted (one sign.Machine ++ one_name m.name) (one sign.OpenBrace) n3.1 in
    let n1 = parted (one sign.Machine) (one_name m.name) n2.1 in
    let s = the_sign n1.1 in
    let n = the_name n1.2 in
    let b = the_sign n2.2 in
    let fs = (rows fields).holds m.fields (all_within m.fields) n3.0 n4.0 n3.2 in
    let os = (rows operations).holds m.operations fits.0 n4.0 n5.0 n4.2 in
    let vs = (rows invariants).holds m.invariants fits.1 n5.0 n6.0 n5.2 in
    let e = the_sign n6.2 in
    let named : RawName = record { name = m.name; line = n.0 } in
    record {
      raw = record { name = named; fields = fs.raw; operations = os.raw; invariants = vs.raw; line = s.0 };
      spelled = seq s.0 n1.0 s.1 (seq named n2.0 n.1 (seq b.0 n3.0 b.1 (seq fs.raw n4.0 fs.spelled (seq os.raw n5.0 os.spelled (seq vs.raw n6.0 vs.spelled (seq e.0 rest e.1 (yields _)))))));
      is = machine_is m fs.is os.is vs.is;
    }

pub machines : ShownIsDerived Machine plain_machine show_machine MachineFits
machines = record { holds = machine_spelled }

-- ---- proofs

claim_spelled : (c : PlainClaim) → ClaimFits c → (ts rest : List Terminal) → Says (show_claim c) ts rest → Derives Claim plain_claim c ts rest
unfolding Claim
claim_spelled (keeps x) fits ts rest h =
    let r = parted (one sign.Keeps) (one_name x) h in
    let s = the_sign r.1 in
    let n = the_name r.2 in
    let named : RawName = record { name = x; line = n.0 } in
    record { raw = raw_claim.Keeps named; spelled = the_other (seq s.0 r.0 s.1 (seq named rest n.1 (yields _))); is = refl }
claim_spelled (at n) fits ts rest h =
    let r = parted (one sign.At) (one_number n) h in
    let s = the_sign r.1 in
    record { raw = raw_claim.At (statement_number n); spelled = the_one (seq s.0 r.0 s.1 (seq n rest (the_number r.2) (yields _))); is = ap at (within_place n fits) }

proof_is : (p : PlainProof) {c : PlainClaim} {b : PlainBlock} → c ≡ p.claim → b ≡ p.block → ◌≡◌ {A = PlainProof} (record { operation = p.operation; claim = c; block = b }) p
proof_is p q r = λ i. record { operation = p.operation; claim = q i; block = r i }

proof_spelled : (p : PlainProof) → ProofFits p → (ts rest : List Terminal) → Says (show_proof p) ts rest → Derives Proof plain_proof p ts rest
unfolding Proof Script
proof_spelled p fits ts rest h =
    let n3 = parted (one_name p.operation ++ show_claim p.claim ++ one sign.By) (show_block p.block) h in
    let n2 = parted (one_name p.operation ++ show_claim p.claim) (one sign.By) n3.1 in
    let n1 = parted (one_name p.operation) (show_claim p.claim) n2.1 in
    let n = the_name n1.1 in
    let c = claim_spelled p.claim fits.0 n1.0 n2.0 n1.2 in
    let s = the_sign n2.2 in
    let b = blocks.holds p.block fits.1 n3.0 rest n3.2 in
    let named : RawName = record { name = p.operation; line = n.0 } in
    let script : RawScript = record { block = b.raw; line = s.0 } in
    record {
      raw = record { operation = named; claim = c.raw; script = script };
      spelled = seq named n1.0 n.1 (seq c.raw n2.0 c.spelled (seq script rest (seq s.0 n3.0 s.1 (seq b.raw rest b.spelled (yields _))) (yields _)));
      is = proof_is p c.is b.is;
    }

proof_rows : ShownIsDerived Proof plain_proof show_proof ProofFits
proof_rows = record { holds = proof_spelled }

proofs_spelled : (ps : List PlainProof) → All ProofFits ps → (ts rest : List Terminal) → Says (show_proofs ps) ts rest → Derives Proofs (map plain_proof) ps ts rest
unfolding Proofs
proofs_spelled [] fits ts rest no_more = record { raw = []; spelled = the_one (yields []); is = refl }
proofs_spelled (p ∷ ps) fits ts rest h =
    let n3 = parted (one sign.Proofs ++ one sign.OpenBrace ++ flat_map show_proof (p ∷ ps)) (one sign.CloseBrace) h in
    let n2 = parted (one sign.Proofs ++ one sign.OpenBrace) (flat_map show_proof (p ∷ ps)) n3.1 in
    let n1 = parted (one sign.Proofs) (one sign.OpenBrace) n2.1 in
    let s = the_sign n1.1 in
    let b = the_sign n1.2 in
    let ys = (rows proof_rows).holds (p ∷ ps) fits n2.0 n3.0 n2.2 in
    let e = the_sign n3.2 in
    record {
      raw = ys.raw;
      spelled = the_other (seq s.0 n1.0 s.1 (seq b.0 n2.0 b.1 (seq ys.raw n3.0 ys.spelled (seq e.0 rest e.1 (yields _)))));
      is = ys.is;
    }

pub proofs : ShownIsDerived Proofs (map plain_proof) show_proofs (All ProofFits)
proofs = record { holds = proofs_spelled }
