-- Proof scripts and proofs: their plain trees, or the first rule that they break.
use Rattle.std.specs.Prelude.{ℕ, List, [], ◌∷◌, ◌++◌, length, Result, Ok}
use Rattle.sync_base.specs.declared.stops.Refusal.{Refusal}
use Rattle.sync_base.specs.declared.stops.Rule.TheVariants.{N1}
use Rattle.sync_base.specs.Outcome.{◌>>=◌}
use Rattle.sync_terms.specs.Trees.{Tree}
use Rattle.sync_terms.specs.Stored.{Stored}
use Rattle.sync_terms.specs.declared.scripts.HypName.{HypName}
use Rattle.sync_terms.specs.declared.scripts.HypName.TheVariants as name
use Rattle.sync_terms.specs.declared.scripts.Part.{Part}
use Rattle.sync_terms.specs.declared.scripts.ScriptStep.{ScriptStep, fold-ScriptStep}
use Rattle.sync_terms.specs.Plans.{Plan, Same, Sum, Inst, Parts, Split, Cut, Read, Size, Total, Cong, End, Then, kind_plan, block_plan, step_plan, steps_before}
use Rattle.sync_terms.specs.declared.proofs.Claim.{Claim}
use Rattle.sync_terms.specs.declared.proofs.Claim.TheVariants as claim
use Rattle.sync_terms.specs.Proofs.{ProofTree}
use Rattle.sync_parse_exprs.specs.declared.expressions.RawExpr.{RawExpr}
use Rattle.sync_parse.specs.declared.scripts.RawHypName.{RawHypName}
use Rattle.sync_parse.specs.declared.scripts.RawHypName.TheVariants as hyp
use Rattle.sync_parse.specs.declared.scripts.RawSubject.{RawSubject}
use Rattle.sync_parse.specs.declared.scripts.RawSubject.TheVariants as subject
use Rattle.sync_parse.specs.declared.scripts.RawPart.{RawPart}
use Rattle.sync_parse.specs.declared.scripts.RawScript.{RawScript}
use Rattle.sync_parse.specs.declared.scripts.RawBlock.{RawBlock, fold-RawBlock}
use Rattle.sync_parse.specs.declared.scripts.RawScriptStep.{RawScriptStep, fold-RawScriptStep}
use Rattle.sync_parse.specs.declared.scripts.RawStepKind.TheOpen.{RawStepKind-F, RawBlock-F, RawScriptStep-F}
use Rattle.sync_parse.specs.declared.trees.RawClaim.{RawClaim}
use Rattle.sync_parse.specs.declared.trees.RawClaim.TheVariants as raw
use Rattle.sync_parse.specs.declared.trees.RawProof.{RawProof}
use Rattle.sync_read_names.specs.declared.scopes.Sort.TheVariants as sort
use Rattle.sync_read_names.specs.declared.scopes.Owner.{Owner}
use Rattle.sync_read_names.specs.declared.scopes.Owner.TheVariants as owner
use Rattle.sync_read_names.specs.declared.scopes.Meaning.{Meaning}
use Rattle.sync_read_names.specs.declared.scopes.Meaning.TheVariants as meaning
use Rattle.sync_read_names.specs.declared.scopes.Scope.{Scope}
use Rattle.sync_read_names.specs.Scopes.{refuse, meaning_of, local_symbol, word_symbol}
use Rattle.sync_read_names.specs.Exprs.{term_of, form_of}
use Rattle.sync_read.specs.Acts.{few_before}

-- what `low` and `high` speak of: a local of a program, or one of its words; in a machine none is known
abbrev pub subject_symbol : Scope → RawSubject → Result ℕ Refusal
subject_symbol s (subject.Name named) = local_symbol s named
subject_symbol s (subject.Special word line) = word_symbol s word line

-- a hypothesis of a script
unfoldable pub hyp_in : Scope → RawHypName → Result HypName Refusal
hyp_in s hyp.Denied = Ok name.Denied
hyp_in s (hyp.Label named) = Ok (name.Label named.name)
hyp_in s (hyp.At n) = Ok (name.At n)
hyp_in s (hyp.Low x) = do
  y ← subject_symbol s x
  Ok (name.Low y)
hyp_in s (hyp.High x) = do
  y ← subject_symbol s x
  Ok (name.High y)

unfoldable pub parts_from : Scope → List Part → List RawPart → Result (List Part) Refusal
parts_from s held [] = Ok held
parts_from s held (p ∷ ps) = do
  h ← hyp_in s p.hyp
  parts_from s (held ++ record { times = p.times; hyp = h } ∷ []) ps

-- terms that are numbers
unfoldable pub numbers_from : List Tree → Scope → List RawExpr → Result (List Tree) Refusal
numbers_from held s [] = Ok held
numbers_from held s (e ∷ es) = do
  t ← term_of sort.Number e s
  numbers_from (held ++ t ∷ []) s es

-- a map and a key
unfoldable pub map_and_number : RawExpr → RawExpr → Scope → Result (Tree × Tree) Refusal
map_and_number m k s = do
  x ← term_of sort.Map m s
  y ← term_of sort.Number k s
  Ok (x, y)

unfoldable pub map_and_numbers : RawExpr → RawExpr → RawExpr → Scope → Result (Tree × Tree × Tree) Refusal
map_and_numbers m j k s = do
  p ← map_and_number m j s
  y ← term_of sort.Number k s
  Ok (p.0, p.1, y)

abbrev pub Kind : Type 0
Kind = ℕ → Result Then Refusal

-- what a step puts before the rest of its block
abbrev pub kind_in : Scope → RawStepKind-F Kind (Result Plan Refusal) (Result Then Refusal) → Kind
kind_in s RawStepKind-F.Same line = Ok (Same line)
kind_in s (RawStepKind-F.Sum parts) line = do
  ps ← parts_from s [] parts
  Ok (Sum line ps)
kind_in s (RawStepKind-F.Inst h es n) line = do
  x ← hyp_in s h
  ts ← numbers_from [] s es
  Ok (Inst line x ts n.name)
kind_in s (RawStepKind-F.Parts h a b) line = do
  x ← hyp_in s h
  Ok (Parts line x a.name b.name)
kind_in s (RawStepKind-F.Split h n b c) line = do
  x ← hyp_in s h
  p ← b
  q ← c
  Ok (Split line x n.name p q)
kind_in s (RawStepKind-F.Cut e n b) line = do
  f ← form_of e s
  p ← b
  Ok (Cut line f n.name p)
kind_in s (RawStepKind-F.Read m k n) line = do
  x ← map_and_number m k s
  Ok (Read line x.0 x.1 n.name)
kind_in s (RawStepKind-F.Size m k n) line = do
  x ← map_and_number m k s
  Ok (Size line x.0 x.1 n.name)
kind_in s (RawStepKind-F.Total m k n) line = do
  x ← map_and_number m k s
  Ok (Total line x.0 x.1 n.name)
kind_in s (RawStepKind-F.Cong m j k n) line = do
  x ← map_and_numbers m j k s
  Ok (Cong line x.0 x.1 x.2 n.name)

unfoldable pub thens_from : List Then → List (Result Then Refusal) → Result (List Then) Refusal
thens_from held [] = Ok held
thens_from held (r ∷ rs) = do
  x ← r
  thens_from (held ++ x ∷ []) rs

abbrev pub block_in : RawBlock-F Kind (Result Plan Refusal) (Result Then Refusal) → Result Plan Refusal
block_in b = do
  xs ← thens_from [] b.steps
  Ok (steps_before xs (End b.end_line))

abbrev pub step_in : RawScriptStep-F Kind (Result Plan Refusal) (Result Then Refusal) → Result Then Refusal
step_in s = s.what s.line

-- the block of a script in a scope
abbrev pub block_of : Scope → RawBlock → Result Plan Refusal
block_of s = fold-RawBlock Kind (Result Plan Refusal) (Result Then Refusal) (kind_in s) block_in step_in

abbrev pub step_of : Scope → RawScriptStep → Result Then Refusal
step_of s = fold-RawScriptStep Kind (Result Plan Refusal) (Result Then Refusal) (kind_in s) block_in step_in

-- a script: its plan, and its line
abbrev pub script_in : Scope → RawScript → Result (Plan × ℕ) Refusal
script_in s x = do
  p ← block_of s x.block
  Ok (p, x.line)

-- a step with its ids read in a store
abbrev pub then_of : Stored → ScriptStep → Then
then_of s = fold-ScriptStep (ℕ → Then) Plan Then (kind_plan s) block_plan step_plan

-- ---- proofs

abbrev pub operation_meaning : Meaning → ℕ → Result ℕ Refusal
operation_meaning (meaning.Operation number) line = Ok number
operation_meaning meaning.Nothing line = refuse N1 line
operation_meaning (meaning.Field number sort) line = refuse N1 line
operation_meaning (meaning.Invariant number) line = refuse N1 line

abbrev pub invariant_meaning : Meaning → ℕ → Result Claim Refusal
invariant_meaning (meaning.Invariant number) line = Ok (claim.Keeps number)
invariant_meaning meaning.Nothing line = refuse N1 line
invariant_meaning (meaning.Field number sort) line = refuse N1 line
invariant_meaning (meaning.Operation number) line = refuse N1 line

abbrev pub claim_in : Scope → RawClaim → Result Claim Refusal
claim_in s (raw.Keeps named) = invariant_meaning (meaning_of s named.name) named.line
claim_in s (raw.At n) = Ok (claim.At n)

-- whose parameters are known behind `$`
abbrev pub claim_owner : Claim → Owner
claim_owner (claim.Keeps number) = owner.Invariant number
claim_owner (claim.At number) = owner.Nobody

-- the scope of a script: it knows the names of its operation
abbrev pub script_scope : ℕ → Claim → Scope → Scope
script_scope o c s = record s { owner = owner.Operation o; claim = claim_owner c }

-- a proof behind so many others
unfoldable pub proof_in : ℕ → Scope → RawProof → Result (ProofTree × Scope) Refusal
proof_in before s p = do
  o ← operation_meaning (meaning_of s p.operation.name) p.operation.line
  c ← claim_in s p.claim
  n ← few_before 65536 before p.script.line
  b ← block_of (script_scope o c s) p.script.block
  Ok (record { title = record { op = o; claim = c; line = p.operation.line }; plan = b }, script_scope o c s)

unfoldable pub proofs_from : List ProofTree → Scope → List RawProof → Result (List ProofTree × Scope) Refusal
proofs_from held s [] = Ok (held, s)
proofs_from held s (p ∷ ps) = do
  x ← proof_in (length held) s p
  proofs_from (held ++ x.0 ∷ []) x.1 ps
