-- Steps and blocks of a script, as the plans that they are.
use Rattle.std.proofs.Common.{◌≡◌, ℕ, ◌+◌, ◌<◌, ◌≤◌, List, [], ◌∷◌, ◌++◌, length, map, drop, get_or, Result, Ok, Err, sym, ap, ◌∙◌}
use Rattle.std.proofs.lemmas.List.{at_drop_all}
use Rattle.sync_base.specs.declared.stops.Stop.{Stop}
use Rattle.sync_base.specs.declared.stops.Stop.TheVariants.{Refused, Memory}
use Rattle.sync_base.specs.declared.stops.Refusal.{Refusal}
use Rattle.sync_base.specs.Outcome.{◌>>=◌, Stops}
use Rattle.sync_terms.specs.Stored.{Stored, tree, formula}
use Rattle.sync_terms.specs.declared.nodes.TermId.{TermId}
use Rattle.sync_terms.specs.declared.nodes.FormId.{FormId}
use Rattle.sync_terms.specs.declared.scripts.HypName.{HypName}
use Rattle.sync_terms.specs.declared.scripts.Part.{Part}
use Rattle.sync_terms.specs.declared.scripts.Block.{Block, roll-Block, fold-roll-Block}
use Rattle.sync_terms.specs.declared.scripts.ScriptStep.{ScriptStep, roll-ScriptStep, fold-roll-ScriptStep}
use Rattle.sync_terms.specs.declared.scripts.StepKind.{StepKind, fold-StepKind, fold-roll-StepKind}
use Rattle.sync_terms.specs.declared.scripts.StepKind.TheOpen.{StepKind-F}
use Rattle.sync_terms.specs.declared.scripts.StepKind.TheVariants as made
use Rattle.sync_terms.specs.declared.scripts.StepKind.TheVariants.{rolls-Sum as made-Sum, rolls-Inst as made-Inst, rolls-Parts as made-Parts, rolls-Split as made-Split, rolls-Cut as made-Cut}
use Rattle.sync_terms.specs.Plans.{Plan, Sum, Inst, Parts, Split, Cut, End, Then, kind_plan, block_plan, step_plan, steps_before, plan_of}
use Rattle.sync_parse_exprs.specs.declared.expressions.RawExpr.{RawExpr}
use Rattle.sync_parse_exprs.specs.declared.raw_names.RawName.{RawName}
use Rattle.sync_parse.specs.declared.scripts.RawHypName.{RawHypName}
use Rattle.sync_parse.specs.declared.scripts.RawPart.{RawPart}
use Rattle.sync_parse.specs.declared.scripts.RawBlock.{RawBlock, out-RawBlock, fold_out-RawBlock}
use Rattle.sync_parse.specs.declared.scripts.RawScriptStep.{RawScriptStep, out-RawScriptStep, fold_out-RawScriptStep}
use Rattle.sync_parse.specs.declared.scripts.RawStepKind.{RawStepKind, fold-RawStepKind, fold-roll-RawStepKind}
use Rattle.sync_parse.specs.declared.scripts.RawStepKind.TheOpen.{RawStepKind-F}
use Rattle.sync_parse.specs.declared.scripts.RawStepKind.TheVariants as raw
use Rattle.sync_parse.specs.declared.scripts.RawStepKind.TheVariants.{rolls-Sum, rolls-Inst, rolls-Parts, rolls-Split, rolls-Cut}
use Rattle.sync_read_names.specs.declared.scopes.Scope.{Scope}
use Rattle.sync_read_names.specs.Exprs.{form_of}
use Rattle.sync_read.proofs.Going.{front}
use Rattle.sync_read.specs.Scripts.{Kind, hyp_in, parts_from, numbers_from, kind_in, thens_from, block_in, step_in, block_of, step_of, then_of}

-- ---- what a step and a block compute to

abbrev pub raw_kind : Scope → RawStepKind → Kind
raw_kind s = fold-RawStepKind Kind (Result Plan Refusal) (Result Then Refusal) (kind_in s) block_in step_in

pub step_is : (s : Scope) (x : RawScriptStep) → step_of s x ≡ raw_kind s (out-RawScriptStep x).what (out-RawScriptStep x).line
step_is s x = fold_out-RawScriptStep Kind (Result Plan Refusal) (Result Then Refusal) (kind_in s) block_in step_in x

abbrev pub made_kind : Stored → StepKind → ℕ → Then
made_kind t = fold-StepKind (ℕ → Then) Plan Then (kind_plan t) block_plan step_plan

pub made_is : (t : Stored) (k : StepKind) (line : ℕ) → then_of t (roll-ScriptStep (record { what = k; line = line })) ≡ made_kind t k line
made_is t k line = fold-roll-ScriptStep (ℕ → Then) Plan Then (kind_plan t) block_plan step_plan (record { what = k; line = line })

block_is : (s : Scope) (b : RawBlock) → block_of s b ≡ (thens_from [] (map (step_of s) (out-RawBlock b).steps) >>= (λ xs. Ok (steps_before xs (End (out-RawBlock b).end_line))))
block_is s b = fold_out-RawBlock Kind (Result Plan Refusal) (Result Then Refusal) (kind_in s) block_in step_in b

plan_is : (t : Stored) (steps : List ScriptStep) (line : ℕ) → plan_of t (roll-Block (record { steps = steps; end_line = line })) ≡ steps_before (map (then_of t) steps) (End line)
plan_is t steps line = fold-roll-Block (ℕ → Then) Plan Then (kind_plan t) block_plan step_plan (record { steps = steps; end_line = line })

-- a block whose steps are made
pub block_made : (s : Scope) (t : Stored) (b : RawBlock) (items : List RawScriptStep) (i : ℕ) (steps : List ScriptStep) → length items ≤ i → items ≡ (out-RawBlock b).steps
    → thens_from (map (then_of t) steps) (map (step_of s) (drop i items)) ≡ thens_from [] (map (step_of s) items)
    → block_of s b ≡ Ok (plan_of t (roll-Block (record { steps = steps; end_line = (out-RawBlock b).end_line })))
unfolding thens_from
block_made s t b items i steps past are so_far =
    let line = (out-RawBlock b).end_line in
    let all : thens_from [] (map (step_of s) (out-RawBlock b).steps) ≡ Ok (map (then_of t) steps) =
    ap (λ xs. thens_from [] (map (step_of s) xs)) (sym are) ∙ sym so_far ∙ at_drop_all (λ xs. thens_from (map (then_of t) steps) (map (step_of s) xs)) items i past in
    block_is s b ∙ ap (λ r. r >>= (λ xs. Ok (steps_before xs (End line)))) all ∙ ap Ok (sym (plan_is t steps line))

-- a block one of whose steps is not made
pub block_stops : (e : Stop) (s : Scope) (b : RawBlock) (items : List RawScriptStep) (i : ℕ) (x : RawScriptStep) (held : List Then) → i < length items → x ≡ get_or items i x → items ≡ (out-RawBlock b).steps
    → thens_from held (map (step_of s) (drop i items)) ≡ thens_from [] (map (step_of s) items) → Stops e (step_of s x) → Stops e (block_of s b)
unfolding thens_from
block_stops Memory s b items i x held below item are so_far h = tt
block_stops (Refused r) s b items i x held below item are so_far h =
    let rest = map (step_of s) (drop (i + 1) items) in
    let all : thens_from [] (map (step_of s) (out-RawBlock b).steps) ≡ Err r =
    ap (λ xs. thens_from [] (map (step_of s) xs)) (sym are) ∙ sym so_far
    ∙ ap (λ xs. thens_from held (map (step_of s) xs)) (front items i x below item)
    ∙ ap (λ y. y >>= (λ z. thens_from (held ++ z ∷ []) rest)) h in
    block_is s b ∙ ap (λ y. y >>= (λ xs. Ok (steps_before xs (End (out-RawBlock b).end_line)))) all

-- ---- kinds of steps

pub sum_made : (s : Scope) (t : Stored) (x : RawScriptStep) (parts : List RawPart) (ps : List Part) → (out-RawScriptStep x).what ≡ raw.Sum parts → parts_from s [] parts ≡ Ok ps
    → step_of s x ≡ Ok (then_of t (roll-ScriptStep (record { what = made.Sum ps; line = (out-RawScriptStep x).line })))
sum_made s t x parts ps is h =
    let line = (out-RawScriptStep x).line in
    let said : raw_kind s (out-RawScriptStep x).what line ≡ Ok (Sum line ps) =
    ap (λ k. raw_kind s k line) (is ∙ sym (rolls-Sum parts))
    ∙ ap (λ (f : Kind). f line) (fold-roll-RawStepKind Kind (Result Plan Refusal) (Result Then Refusal) (kind_in s) block_in step_in (RawStepKind-F.Sum parts))
    ∙ ap (λ r. r >>= (λ ps. Ok (Sum line ps))) h in
    let meant : then_of t (roll-ScriptStep (record { what = made.Sum ps; line = line })) ≡ Sum line ps =
    made_is t (made.Sum ps) line
    ∙ ap (λ k. made_kind t k line) (sym (made-Sum ps))
    ∙ ap (λ (f : ℕ → Then). f line) (fold-roll-StepKind (ℕ → Then) Plan Then (kind_plan t) block_plan step_plan (StepKind-F.Sum ps)) in
    step_is s x ∙ said ∙ ap Ok (sym meant)

pub inst_made : (s : Scope) (t : Stored) (x : RawScriptStep) (h : RawHypName) (es : List RawExpr) (n : RawName) (y : HypName) (ids : List TermId) → (out-RawScriptStep x).what ≡ raw.Inst h es n
    → hyp_in s h ≡ Ok y → numbers_from [] s es ≡ Ok (map (tree t) ids)
    → step_of s x ≡ Ok (then_of t (roll-ScriptStep (record { what = made.Inst y ids n.name; line = (out-RawScriptStep x).line })))
inst_made s t x h es n y ids is hyps terms =
    let line = (out-RawScriptStep x).line in
    let said : raw_kind s (out-RawScriptStep x).what line ≡ Ok (Inst line y (map (tree t) ids) n.name) =
    ap (λ k. raw_kind s k line) (is ∙ sym (rolls-Inst h es n))
    ∙ ap (λ (f : Kind). f line) (fold-roll-RawStepKind Kind (Result Plan Refusal) (Result Then Refusal) (kind_in s) block_in step_in (RawStepKind-F.Inst h es n))
    ∙ ap (λ r. r >>= (λ x. numbers_from [] s es >>= (λ ts. Ok (Inst line x ts n.name)))) hyps
    ∙ ap (λ r. r >>= (λ ts. Ok (Inst line y ts n.name))) terms in
    let meant : then_of t (roll-ScriptStep (record { what = made.Inst y ids n.name; line = line })) ≡ Inst line y (map (tree t) ids) n.name =
    made_is t (made.Inst y ids n.name) line
    ∙ ap (λ k. made_kind t k line) (sym (made-Inst y ids n.name))
    ∙ ap (λ (f : ℕ → Then). f line) (fold-roll-StepKind (ℕ → Then) Plan Then (kind_plan t) block_plan step_plan (StepKind-F.Inst y ids n.name)) in
    step_is s x ∙ said ∙ ap Ok (sym meant)

pub parts_made : (s : Scope) (t : Stored) (x : RawScriptStep) (h : RawHypName) (a b : RawName) (y : HypName) → (out-RawScriptStep x).what ≡ raw.Parts h a b → hyp_in s h ≡ Ok y
    → step_of s x ≡ Ok (then_of t (roll-ScriptStep (record { what = made.Parts y a.name b.name; line = (out-RawScriptStep x).line })))
parts_made s t x h a b y is hyps =
    let line = (out-RawScriptStep x).line in
    let said : raw_kind s (out-RawScriptStep x).what line ≡ Ok (Parts line y a.name b.name) =
    ap (λ k. raw_kind s k line) (is ∙ sym (rolls-Parts h a b))
    ∙ ap (λ (f : Kind). f line) (fold-roll-RawStepKind Kind (Result Plan Refusal) (Result Then Refusal) (kind_in s) block_in step_in (RawStepKind-F.Parts h a b))
    ∙ ap (λ r. r >>= (λ x. Ok (Parts line x a.name b.name))) hyps in
    let meant : then_of t (roll-ScriptStep (record { what = made.Parts y a.name b.name; line = line })) ≡ Parts line y a.name b.name =
    made_is t (made.Parts y a.name b.name) line
    ∙ ap (λ k. made_kind t k line) (sym (made-Parts y a.name b.name))
    ∙ ap (λ (f : ℕ → Then). f line) (fold-roll-StepKind (ℕ → Then) Plan Then (kind_plan t) block_plan step_plan (StepKind-F.Parts y a.name b.name)) in
    step_is s x ∙ said ∙ ap Ok (sym meant)

-- the blocks of a split, where its hypothesis is read
split_is : (s : Scope) (x : RawScriptStep) (h : RawHypName) (n : RawName) (b c : RawBlock) (y : HypName) → (out-RawScriptStep x).what ≡ raw.Split h n b c → hyp_in s h ≡ Ok y
    → step_of s x ≡ (block_of s b >>= (λ p. block_of s c >>= (λ q. Ok (Split (out-RawScriptStep x).line y n.name p q))))
split_is s x h n b c y is hyps =
    let line = (out-RawScriptStep x).line in
    step_is s x
    ∙ ap (λ k. raw_kind s k line) (is ∙ sym (rolls-Split h n b c))
    ∙ ap (λ (f : Kind). f line) (fold-roll-RawStepKind Kind (Result Plan Refusal) (Result Then Refusal) (kind_in s) block_in step_in (RawStepKind-F.Split h n b c))
    ∙ ap (λ r. r >>= (λ x. block_of s b >>= (λ p. block_of s c >>= (λ q. Ok (Split line x n.name p q))))) hyps

pub first_stops : (e : Stop) (s : Scope) (x : RawScriptStep) (h : RawHypName) (n : RawName) (b c : RawBlock) (y : HypName) → (out-RawScriptStep x).what ≡ raw.Split h n b c → hyp_in s h ≡ Ok y
    → Stops e (block_of s b) → Stops e (step_of s x)
first_stops Memory s x h n b c y is hyps stops = tt
first_stops (Refused r) s x h n b c y is hyps stops =
    split_is s x h n b c y is hyps ∙ ap (λ r. r >>= (λ p. block_of s c >>= (λ q. Ok (Split (out-RawScriptStep x).line y n.name p q)))) stops

pub second_stops : (e : Stop) (s : Scope) (x : RawScriptStep) (h : RawHypName) (n : RawName) (b c : RawBlock) (y : HypName) (p : Plan) → (out-RawScriptStep x).what ≡ raw.Split h n b c → hyp_in s h ≡ Ok y
    → block_of s b ≡ Ok p → Stops e (block_of s c) → Stops e (step_of s x)
second_stops Memory s x h n b c y p is hyps one stops = tt
second_stops (Refused r) s x h n b c y p is hyps one stops =
    split_is s x h n b c y is hyps ∙ ap (λ r. r >>= (λ p. block_of s c >>= (λ q. Ok (Split (out-RawScriptStep x).line y n.name p q)))) one
    ∙ ap (λ r. r >>= (λ q. Ok (Split (out-RawScriptStep x).line y n.name p q))) stops

pub split_made : (s : Scope) (t : Stored) (x : RawScriptStep) (h : RawHypName) (n : RawName) (b c : RawBlock) (y : HypName) (p q : Block) → (out-RawScriptStep x).what ≡ raw.Split h n b c
    → hyp_in s h ≡ Ok y → block_of s b ≡ Ok (plan_of t p) → block_of s c ≡ Ok (plan_of t q)
    → step_of s x ≡ Ok (then_of t (roll-ScriptStep (record { what = made.Split y n.name p q; line = (out-RawScriptStep x).line })))
split_made s t x h n b c y p q is hyps one two =
    let line = (out-RawScriptStep x).line in
    let said : step_of s x ≡ Ok (Split line y n.name (plan_of t p) (plan_of t q)) =
    split_is s x h n b c y is hyps
    ∙ ap (λ r. r >>= (λ p. block_of s c >>= (λ q. Ok (Split line y n.name p q)))) one
    ∙ ap (λ r. r >>= (λ q. Ok (Split line y n.name (plan_of t p) q))) two in
    let meant : then_of t (roll-ScriptStep (record { what = made.Split y n.name p q; line = line })) ≡ Split line y n.name (plan_of t p) (plan_of t q) =
    made_is t (made.Split y n.name p q) line
    ∙ ap (λ k. made_kind t k line) (sym (made-Split y n.name p q))
    ∙ ap (λ (f : ℕ → Then). f line) (fold-roll-StepKind (ℕ → Then) Plan Then (kind_plan t) block_plan step_plan (StepKind-F.Split y n.name p q)) in
    said ∙ ap Ok (sym meant)

pub cut_made : (s : Scope) (t : Stored) (x : RawScriptStep) (e : RawExpr) (n : RawName) (b : RawBlock) (f : FormId) (p : Block) → (out-RawScriptStep x).what ≡ raw.Cut e n b
    → form_of e s ≡ Ok (formula t f) → block_of s b ≡ Ok (plan_of t p)
    → step_of s x ≡ Ok (then_of t (roll-ScriptStep (record { what = made.Cut f n.name p; line = (out-RawScriptStep x).line })))
cut_made s t x e n b f p is forms one =
    let line = (out-RawScriptStep x).line in
    let said : raw_kind s (out-RawScriptStep x).what line ≡ Ok (Cut line (formula t f) n.name (plan_of t p)) =
    ap (λ k. raw_kind s k line) (is ∙ sym (rolls-Cut e n b))
    ∙ ap (λ (f : Kind). f line) (fold-roll-RawStepKind Kind (Result Plan Refusal) (Result Then Refusal) (kind_in s) block_in step_in (RawStepKind-F.Cut e n b))
    ∙ ap (λ r. r >>= (λ f. block_of s b >>= (λ p. Ok (Cut line f n.name p)))) forms
    ∙ ap (λ r. r >>= (λ p. Ok (Cut line (formula t f) n.name p))) one in
    let meant : then_of t (roll-ScriptStep (record { what = made.Cut f n.name p; line = line })) ≡ Cut line (formula t f) n.name (plan_of t p) =
    made_is t (made.Cut f n.name p) line
    ∙ ap (λ k. made_kind t k line) (sym (made-Cut f n.name p))
    ∙ ap (λ (f : ℕ → Then). f line) (fold-roll-StepKind (ℕ → Then) Plan Then (kind_plan t) block_plan step_plan (StepKind-F.Cut f n.name p)) in
    step_is s x ∙ said ∙ ap Ok (sym meant)
