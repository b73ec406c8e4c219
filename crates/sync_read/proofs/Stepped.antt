-- What each kind of step is read to, and what a step that is made means.
use Rattle.std.proofs.Common.{◌≡◌, ℕ, List, Result, Ok, sym, ap, ◌∙◌}
use Rattle.std.specs.Prelude.{[]}
use Rattle.sync_base.specs.declared.stops.Refusal.{Refusal}
use Rattle.sync_base.specs.declared.stops.Stop.{Stop}
use Rattle.sync_base.specs.declared.stops.Stop.TheVariants.{Refused, Memory}
use Rattle.sync_base.specs.Outcome.{◌>>=◌, Stops}
use Rattle.sync_terms.specs.Stored.{Stored, tree}
use Rattle.sync_terms.specs.declared.nodes.TermId.{TermId}
use Rattle.sync_terms.specs.declared.scripts.ScriptStep.{roll-ScriptStep}
use Rattle.sync_terms.specs.declared.scripts.StepKind.{fold-roll-StepKind}
use Rattle.sync_terms.specs.declared.scripts.StepKind.TheOpen.{StepKind-F}
use Rattle.sync_terms.specs.declared.scripts.StepKind.TheVariants as made
use Rattle.sync_terms.specs.declared.scripts.StepKind.TheVariants.{rolls-Same as made-Same, rolls-Read as made-Read, rolls-Size as made-Size, rolls-Total as made-Total, rolls-Cong as made-Cong}
use Rattle.sync_terms.specs.Plans.{Plan, Same, Sum, Inst, Parts, Split, Read, Size, Total, Cong, Then, kind_plan, block_plan, step_plan}
use Rattle.sync_parse_exprs.specs.declared.expressions.RawExpr.{RawExpr}
use Rattle.sync_parse_exprs.specs.declared.raw_names.RawName.{RawName}
use Rattle.sync_parse.specs.declared.scripts.RawHypName.{RawHypName}
use Rattle.sync_parse.specs.declared.scripts.RawPart.{RawPart}
use Rattle.sync_parse.specs.declared.scripts.RawBlock.{RawBlock}
use Rattle.sync_parse.specs.declared.scripts.RawScriptStep.{RawScriptStep, out-RawScriptStep}
use Rattle.sync_parse.specs.declared.scripts.RawStepKind.{fold-roll-RawStepKind}
use Rattle.sync_parse.specs.declared.scripts.RawStepKind.TheOpen.{RawStepKind-F}
use Rattle.sync_parse.specs.declared.scripts.RawStepKind.TheVariants as raw
use Rattle.sync_parse.specs.declared.scripts.RawStepKind.TheVariants.{rolls-Same, rolls-Sum, rolls-Inst, rolls-Parts, rolls-Split, rolls-Read, rolls-Size, rolls-Total, rolls-Cong}
use Rattle.sync_read_names.specs.declared.scopes.Scope.{Scope}
use Rattle.sync_read.specs.Scripts.{Kind, hyp_in, parts_from, numbers_from, map_and_number, map_and_numbers, kind_in, block_in, step_in, block_of, step_of, then_of}
use Rattle.sync_read.proofs.Planned.{raw_kind, step_is, made_kind, made_is}

-- what stops at its first part stops there
pub stops_at : {A B : Type 0} (e : Stop) (r : Result A Refusal) (f : A → Result B Refusal) (whole : Result B Refusal) → whole ≡ (r >>= f) → Stops e r → Stops e whole
stops_at Memory r f whole is stops = tt
stops_at (Refused x) r f whole is stops = is ∙ ap (λ r. r >>= f) stops

-- ---- kinds as they are read

pub same_of : (s : Scope) (x : RawScriptStep) → (out-RawScriptStep x).what ≡ raw.Same
    → step_of s x ≡ (Ok (Same (out-RawScriptStep x).line))
same_of s x is =
    let line = (out-RawScriptStep x).line in
    step_is s x
    ∙ ap (λ k. raw_kind s k line) (is ∙ sym rolls-Same)
    ∙ ap (λ (f : Kind). f line) (fold-roll-RawStepKind Kind (Result Plan Refusal) (Result Then Refusal) (kind_in s) block_in step_in (RawStepKind-F.Same))

pub sum_of : (s : Scope) (x : RawScriptStep) (parts : List RawPart) → (out-RawScriptStep x).what ≡ raw.Sum parts
    → step_of s x ≡ (parts_from s [] parts >>= (λ ps. Ok (Sum (out-RawScriptStep x).line ps)))
sum_of s x parts is =
    let line = (out-RawScriptStep x).line in
    step_is s x
    ∙ ap (λ k. raw_kind s k line) (is ∙ sym (rolls-Sum parts))
    ∙ ap (λ (f : Kind). f line) (fold-roll-RawStepKind Kind (Result Plan Refusal) (Result Then Refusal) (kind_in s) block_in step_in (RawStepKind-F.Sum parts))

pub inst_of : (s : Scope) (x : RawScriptStep) (h : RawHypName) (es : List RawExpr) (n : RawName) → (out-RawScriptStep x).what ≡ raw.Inst h es n
    → step_of s x ≡ (hyp_in s h >>= (λ y. numbers_from [] s es >>= (λ ts. Ok (Inst (out-RawScriptStep x).line y ts n.name))))
inst_of s x h es n is =
    let line = (out-RawScriptStep x).line in
    step_is s x
    ∙ ap (λ k. raw_kind s k line) (is ∙ sym (rolls-Inst h es n))
    ∙ ap (λ (f : Kind). f line) (fold-roll-RawStepKind Kind (Result Plan Refusal) (Result Then Refusal) (kind_in s) block_in step_in (RawStepKind-F.Inst h es n))

pub parts_of : (s : Scope) (x : RawScriptStep) (h : RawHypName) (a b : RawName) → (out-RawScriptStep x).what ≡ raw.Parts h a b
    → step_of s x ≡ (hyp_in s h >>= (λ y. Ok (Parts (out-RawScriptStep x).line y a.name b.name)))
parts_of s x h a b is =
    let line = (out-RawScriptStep x).line in
    step_is s x
    ∙ ap (λ k. raw_kind s k line) (is ∙ sym (rolls-Parts h a b))
    ∙ ap (λ (f : Kind). f line) (fold-roll-RawStepKind Kind (Result Plan Refusal) (Result Then Refusal) (kind_in s) block_in step_in (RawStepKind-F.Parts h a b))

pub split_of : (s : Scope) (x : RawScriptStep) (h : RawHypName) (n : RawName) (b c : RawBlock) → (out-RawScriptStep x).what ≡ raw.Split h n b c
    → step_of s x ≡ (hyp_in s h >>= (λ y. block_of s b >>= (λ p. block_of s c >>= (λ q. Ok (Split (out-RawScriptStep x).line y n.name p q)))))
split_of s x h n b c is =
    let line = (out-RawScriptStep x).line in
    step_is s x
    ∙ ap (λ k. raw_kind s k line) (is ∙ sym (rolls-Split h n b c))
    ∙ ap (λ (f : Kind). f line) (fold-roll-RawStepKind Kind (Result Plan Refusal) (Result Then Refusal) (kind_in s) block_in step_in (RawStepKind-F.Split h n b c))

pub read_of : (s : Scope) (x : RawScriptStep) (m k : RawExpr) (n : RawName) → (out-RawScriptStep x).what ≡ raw.Read m k n
    → step_of s x ≡ (map_and_number m k s >>= (λ p. Ok (Read (out-RawScriptStep x).line p.0 p.1 n.name)))
read_of s x m k n is =
    let line = (out-RawScriptStep x).line in
    step_is s x
    ∙ ap (λ k. raw_kind s k line) (is ∙ sym (rolls-Read m k n))
    ∙ ap (λ (f : Kind). f line) (fold-roll-RawStepKind Kind (Result Plan Refusal) (Result Then Refusal) (kind_in s) block_in step_in (RawStepKind-F.Read m k n))

pub size_of : (s : Scope) (x : RawScriptStep) (m k : RawExpr) (n : RawName) → (out-RawScriptStep x).what ≡ raw.Size m k n
    → step_of s x ≡ (map_and_number m k s >>= (λ p. Ok (Size (out-RawScriptStep x).line p.0 p.1 n.name)))
size_of s x m k n is =
    let line = (out-RawScriptStep x).line in
    step_is s x
    ∙ ap (λ k. raw_kind s k line) (is ∙ sym (rolls-Size m k n))
    ∙ ap (λ (f : Kind). f line) (fold-roll-RawStepKind Kind (Result Plan Refusal) (Result Then Refusal) (kind_in s) block_in step_in (RawStepKind-F.Size m k n))

pub total_of : (s : Scope) (x : RawScriptStep) (m k : RawExpr) (n : RawName) → (out-RawScriptStep x).what ≡ raw.Total m k n
    → step_of s x ≡ (map_and_number m k s >>= (λ p. Ok (Total (out-RawScriptStep x).line p.0 p.1 n.name)))
total_of s x m k n is =
    let line = (out-RawScriptStep x).line in
    step_is s x
    ∙ ap (λ k. raw_kind s k line) (is ∙ sym (rolls-Total m k n))
    ∙ ap (λ (f : Kind). f line) (fold-roll-RawStepKind Kind (Result Plan Refusal) (Result Then Refusal) (kind_in s) block_in step_in (RawStepKind-F.Total m k n))

pub cong_of : (s : Scope) (x : RawScriptStep) (m j k : RawExpr) (n : RawName) → (out-RawScriptStep x).what ≡ raw.Cong m j k n
    → step_of s x ≡ (map_and_numbers m j k s >>= (λ p. Ok (Cong (out-RawScriptStep x).line p.0 p.1 p.2 n.name)))
cong_of s x m j k n is =
    let line = (out-RawScriptStep x).line in
    step_is s x
    ∙ ap (λ k. raw_kind s k line) (is ∙ sym (rolls-Cong m j k n))
    ∙ ap (λ (f : Kind). f line) (fold-roll-RawStepKind Kind (Result Plan Refusal) (Result Then Refusal) (kind_in s) block_in step_in (RawStepKind-F.Cong m j k n))

-- ---- steps that are made

same_meant : (t : Stored) (line : ℕ) → then_of t (roll-ScriptStep (record { what = made.Same; line = line })) ≡ Same line
same_meant t line =
    made_is t (made.Same) line
    ∙ ap (λ k. made_kind t k line) (sym made-Same)
    ∙ ap (λ (f : ℕ → Then). f line) (fold-roll-StepKind (ℕ → Then) Plan Then (kind_plan t) block_plan step_plan (StepKind-F.Same))

read_meant : (t : Stored) (m k : TermId) (n : ℕ) (line : ℕ) → then_of t (roll-ScriptStep (record { what = made.Read m k n; line = line })) ≡ Read line (tree t m) (tree t k) n
read_meant t m k n line =
    made_is t (made.Read m k n) line
    ∙ ap (λ k. made_kind t k line) (sym (made-Read m k n))
    ∙ ap (λ (f : ℕ → Then). f line) (fold-roll-StepKind (ℕ → Then) Plan Then (kind_plan t) block_plan step_plan (StepKind-F.Read m k n))

size_meant : (t : Stored) (m k : TermId) (n : ℕ) (line : ℕ) → then_of t (roll-ScriptStep (record { what = made.Size m k n; line = line })) ≡ Size line (tree t m) (tree t k) n
size_meant t m k n line =
    made_is t (made.Size m k n) line
    ∙ ap (λ k. made_kind t k line) (sym (made-Size m k n))
    ∙ ap (λ (f : ℕ → Then). f line) (fold-roll-StepKind (ℕ → Then) Plan Then (kind_plan t) block_plan step_plan (StepKind-F.Size m k n))

total_meant : (t : Stored) (m k : TermId) (n : ℕ) (line : ℕ) → then_of t (roll-ScriptStep (record { what = made.Total m k n; line = line })) ≡ Total line (tree t m) (tree t k) n
total_meant t m k n line =
    made_is t (made.Total m k n) line
    ∙ ap (λ k. made_kind t k line) (sym (made-Total m k n))
    ∙ ap (λ (f : ℕ → Then). f line) (fold-roll-StepKind (ℕ → Then) Plan Then (kind_plan t) block_plan step_plan (StepKind-F.Total m k n))

cong_meant : (t : Stored) (m j k : TermId) (n : ℕ) (line : ℕ) → then_of t (roll-ScriptStep (record { what = made.Cong m j k n; line = line })) ≡ Cong line (tree t m) (tree t j) (tree t k) n
cong_meant t m j k n line =
    made_is t (made.Cong m j k n) line
    ∙ ap (λ k. made_kind t k line) (sym (made-Cong m j k n))
    ∙ ap (λ (f : ℕ → Then). f line) (fold-roll-StepKind (ℕ → Then) Plan Then (kind_plan t) block_plan step_plan (StepKind-F.Cong m j k n))

pub same_made : (s : Scope) (t : Stored) (x : RawScriptStep) → (out-RawScriptStep x).what ≡ raw.Same
    → step_of s x ≡ Ok (then_of t (roll-ScriptStep (record { what = made.Same; line = (out-RawScriptStep x).line })))
same_made s t x is = same_of s x is ∙ ap Ok (sym (same_meant t (out-RawScriptStep x).line))

pub read_made : (s : Scope) (t : Stored) (x : RawScriptStep) (m k : RawExpr) (n : RawName) (a b : TermId) → (out-RawScriptStep x).what ≡ raw.Read m k n → map_and_number m k s ≡ Ok (tree t a, tree t b)
    → step_of s x ≡ Ok (then_of t (roll-ScriptStep (record { what = made.Read a b n.name; line = (out-RawScriptStep x).line })))
read_made s t x m k n a b is h =
    read_of s x m k n is ∙ ap (λ r. r >>= (λ p. Ok (Read (out-RawScriptStep x).line p.0 p.1 n.name))) h ∙ ap Ok (sym (read_meant t a b n.name (out-RawScriptStep x).line))

pub size_made : (s : Scope) (t : Stored) (x : RawScriptStep) (m k : RawExpr) (n : RawName) (a b : TermId) → (out-RawScriptStep x).what ≡ raw.Size m k n → map_and_number m k s ≡ Ok (tree t a, tree t b)
    → step_of s x ≡ Ok (then_of t (roll-ScriptStep (record { what = made.Size a b n.name; line = (out-RawScriptStep x).line })))
size_made s t x m k n a b is h =
    size_of s x m k n is ∙ ap (λ r. r >>= (λ p. Ok (Size (out-RawScriptStep x).line p.0 p.1 n.name))) h ∙ ap Ok (sym (size_meant t a b n.name (out-RawScriptStep x).line))

pub total_made : (s : Scope) (t : Stored) (x : RawScriptStep) (m k : RawExpr) (n : RawName) (a b : TermId) → (out-RawScriptStep x).what ≡ raw.Total m k n → map_and_number m k s ≡ Ok (tree t a, tree t b)
    → step_of s x ≡ Ok (then_of t (roll-ScriptStep (record { what = made.Total a b n.name; line = (out-RawScriptStep x).line })))
total_made s t x m k n a b is h =
    total_of s x m k n is ∙ ap (λ r. r >>= (λ p. Ok (Total (out-RawScriptStep x).line p.0 p.1 n.name))) h ∙ ap Ok (sym (total_meant t a b n.name (out-RawScriptStep x).line))

pub cong_made : (s : Scope) (t : Stored) (x : RawScriptStep) (m j k : RawExpr) (n : RawName) (a b d : TermId) → (out-RawScriptStep x).what ≡ raw.Cong m j k n → map_and_numbers m j k s ≡ Ok (tree t a, tree t b, tree t d)
    → step_of s x ≡ Ok (then_of t (roll-ScriptStep (record { what = made.Cong a b d n.name; line = (out-RawScriptStep x).line })))
cong_made s t x m j k n a b d is h =
    cong_of s x m j k n is ∙ ap (λ r. r >>= (λ p. Ok (Cong (out-RawScriptStep x).line p.0 p.1 p.2 n.name))) h ∙ ap Ok (sym (cong_meant t a b d n.name (out-RawScriptStep x).line))
