-- What a text means whose machine was checked.
use Rattle.std.proofs.Common.{◌≡◌, ℕ, ◌+◌, List, [], ◌∷◌, ◌++◌, length, Option, Some, None, Result, Ok, Err, refl, sym, ap, subst, ◌∙◌, arith, length-append}
use Rattle.std.specs.Prelude.{IfOk}
use Rattle.sync_base.specs.declared.stops.Stop.{Stop}
use Rattle.sync_base.specs.declared.stops.Refusal.{Refusal}
use Rattle.sync_base.specs.Outcome.{◌>>=◌, Gives}
use Rattle.sync_machine.specs.declared.machine.Machine.{Machine}
use Rattle.sync_machine.specs.Machines.{MachineTree}
use Rattle.sync_machine.specs.States.{HoldsAlways}
use Rattle.sync_machine.specs.Views.{HasOwnIds}
use Rattle.sync_parse.specs.declared.trees.RawMachine.{RawMachine}
use Rattle.sync_parse.specs.declared.trees.RawProof.{RawProof}
use Rattle.sync_read_names.specs.declared.scopes.Scope.{Scope}
use Rattle.sync_terms.specs.Proofs.{ProofTree}
use Rattle.sync_induct.specs.Grown.{HasGrown}
use Rattle.sync_read.proofs.Whole.{machine_stays}
use Rattle.sync_read.specs.Scripts.{proof_in, proofs_from}
use Rattle.sync_read.specs.Resolving.{machine_in}
use Rattle.sync_read.specs.Texts.{ResolvedTree, first_scope, resolved}
use Rattle.sync_read_programs.specs.Programs.{resolved_program}
use Rattle.sync_parse_grammar.specs.Texts.{HasScripts}
use Rattle.sync_parse_grammar.proofs.Laws.{scripts}
use Rattle.sync_parse_programs.specs.declared.statements.RawProgram.{RawProgram}
use Rattle.sync_parse_texts.specs.declared.text_reader.RawWholeText.{RawWholeText}
use Rattle.sync_parse_texts.specs.Texts.{whole_text}
use Rattle.sync_parse_texts.proofs.Answers.{sound}
use Rattle.sync_check.specs.Texts.{TextTree, unless, unbuilt, resolved_whole, built, built_text_in}
use Rattle.sync_check.specs.Checking.{Means, IsMeant, IsAccepted}
use Rattle.sync_check.specs.Listing.{listed, obligation_lines, IsListed}
use Rattle.sync_machine.specs.Naming.{machine_fault}
use Rattle.sync_rules.specs.Faults.{strategy_fault}
use Rattle.sync_check.proofs.Machines.{without_program, machine_alone}

-- what a value that is there comes from
bound : {A B : Type 0} (r : Result A Refusal) (f : A → Result B Refusal) (y : B) → (r >>= f) ≡ Ok y → (x : A) × (r ≡ Ok x) × (f x ≡ Ok y)
bound (Ok x) f y e = (x, refl, e)
bound (Err refusal) f y e = absurd cc

same : {A : Type 0} (x y : A) (r : Result A Refusal) → r ≡ Ok x → r ≡ Ok y → x ≡ y
same x y r e f = cc

-- there are as many proofs as raw ones
proofs-counted : (held : List ProofTree) (s : Scope) (ps : List RawProof) (x : List ProofTree × Scope) → proofs_from held s ps ≡ Ok x → length x.0 ≡ length held + length ps
unfolding proofs_from
proofs-counted held s [] x e = let is : (held, s) ≡ x = same (held, s) x (Ok (held, s)) refl e in sym (ap (λ (y : List ProofTree × Scope). length y.0) is) ∙ (omega arith)
proofs-counted held s (p ∷ ps) x e =
    let one = bound (proof_in (length held) s p) (λ (y : ProofTree × Scope). proofs_from (held ++ y.0 ∷ []) y.1 ps) x e in
    let more = proofs-counted (held ++ one.0.0 ∷ []) one.0.1 ps x one.2 in
    omega (arith, length-append held (one.0.0 ∷ []), more)

resolved-counted : (names : ℕ) (machine : RawMachine) (proofs : List RawProof) (r : ResolvedTree) → resolved names machine proofs ≡ Ok r → length r.proofs ≡ length proofs
resolved-counted names machine proofs r e =
    let m = bound (machine_in (first_scope names) machine) _ r e in
    let ps = bound (proofs_from [] m.0.1 proofs) _ r m.2 in
    let counted : length ps.0.0 ≡ length proofs = let c = proofs-counted [] m.0.1 proofs ps.0 ps.1 in omega (arith, c) in
    ap (λ (x : ResolvedTree). length x.proofs) (sym (same _ r (Ok _) refl ps.2)) ∙ counted

all-counted : (raw : RawWholeText) (t : TextTree) → resolved_whole raw ≡ Ok t → length t.proofs ≡ length raw.proofs
all-counted raw t e =
    let r = bound (resolved (length raw.names.list) raw.machine raw.proofs) _ t e in
    let p = bound (resolved_program r.0.machine r.0.scope (length r.0.proofs) raw.program) _ t r.2 in
    ap (λ (x : TextTree). length x.proofs) (sym (same _ t (Ok _) refl p.2)) ∙ resolved-counted (length raw.names.list) raw.machine raw.proofs r.0 r.1

-- where a program is not refused there is none
keeps : (p : Option RawProgram) (x y : TextTree) → unless (unbuilt p) x ≡ Ok y → (p ≡ None) × (x ≡ y)
keeps None x y e = (refl, cc)
keeps (Some p) x y e = absurd cc

-- what is read from bytes is what they mean
pub text_means : (bytes : List ℕ) (t : TextTree) → built_text_in bytes ≡ Ok t → Means bytes t
unfolding built_text_in
text_means bytes t e =
    let read = bound (whole_text bytes) built t e in
    let whole = bound (resolved_whole read.0) (unless (unbuilt read.0.program)) t read.2 in
    let kept = keeps read.0.program whole.0 t whole.2 in
    let means : resolved_whole read.0 ≡ Ok t = whole.1 ∙ ap (λ (x : TextTree). Ok x) kept.1 in
    let spells = sound bytes read.0 read.1 in
    (read.0, spells, kept.0, means, subst (HasScripts bytes) (sym (all-counted read.0 t means)) (scripts bytes (without_program read.0) (machine_alone bytes read.0 spells kept.0)))

pub accepted : (bytes : List ℕ) (t : TextTree) (n : ℕ) → Means bytes t → HoldsAlways t.machine → n ≡ length t.proofs → IsAccepted bytes n
unfolding IsAccepted
accepted bytes t n means holds is = (t, means, holds, subst (HasScripts bytes) (sym is) means.4)

-- where a fault is none the answer is as it is
unless-kept : (fault : Option Refusal) (x y : List (List ℕ)) → unless fault x ≡ Ok y → (fault ≡ None) × (y ≡ x)
unless-kept None x y e = (refl, cc)
unless-kept (Some r) x y e = absurd cc

-- what is listed of a text
pub is_listed : (bytes : List ℕ) (t : TextTree) (r : Result (List (List ℕ)) Stop) → Means bytes t → machine_fault t.machine ≡ None → Gives (λ lines. lines) r (listed t) → IfOk r (IsListed bytes)
unfolding IsListed
is_listed bytes t (Ok lines) means formed is =
    let kept = unless-kept (strategy_fault t.machine) (obligation_lines t) lines is in
    (t, means, formed, kept.0, kept.1)
is_listed bytes t (Err stop) means formed is = tt

-- a machine that was checked is the one that is meant
pub is_meant : {A : Type 0} (bytes : List ℕ) (t : TextTree) (f : A → MachineTree) (r : Result A Stop) → Means bytes t → IfOk r (λ x. f x ≡ t.machine) → IfOk r (λ x. IsMeant bytes (f x))
is_meant bytes t f (Ok x) means same = (t, means, sym same)
is_meant bytes t f (Err stop) means same = tt

-- a machine of its own ids stays so while its store grows
own : (old new : Machine) → HasOwnIds old → HasGrown old new → HasOwnIds new
own old new ids grown = rw (grown.name, grown.fields, grown.ops, grown.invariants) (machine_stays new.terms old grown.terms ids)

pub are_own : (old : Machine) (r : Result Machine Stop) → HasOwnIds old → IfOk r (HasGrown old) → IfOk r HasOwnIds
are_own old (Ok new) ids grown = own old new ids grown
are_own old (Err stop) ids grown = tt
