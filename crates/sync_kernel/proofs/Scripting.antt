-- Scripts as plans: a step with its ids read in a store, and that its ids are of the store.
use Rattle.std.proofs.Common.{◌≡◌, ℕ, zero, suc, ◌<◌, List, [], ◌∷◌, length, map, get_or, Some, refl, sym, ap, ◌∙◌, arith}
use Rattle.std.specs.List.{All}
use Rattle.sync_base.specs.declared.stops.Rule.TheVariants.{K9}
use Rattle.sync_terms.specs.declared.nodes.TermId.{TermId}
use Rattle.sync_terms.specs.declared.nodes.FormId.{FormId}
use Rattle.sync_terms.specs.declared.scripts.HypName.{HypName}
use Rattle.sync_terms.specs.declared.scripts.ScriptStep.{ScriptStep, fold-ScriptStep, fold_out-ScriptStep}
use Rattle.sync_terms.specs.declared.scripts.Block.{Block, fold-Block, fold_out-Block}
use Rattle.sync_terms.specs.declared.scripts.StepKind.{StepKind, roll-StepKind, fold-StepKind, map-StepKind, fold_out-StepKind, fold-roll-StepKind}
use Rattle.sync_terms.specs.declared.scripts.StepKind.TheViews.{out-ScriptStep, out-StepKind, out-Block}
use Rattle.sync_terms.specs.declared.scripts.StepKind.TheOpen.{StepKind-F}
use Rattle.sync_terms.specs.Trees.{Tree, Nil, Formula, Eq}
use Rattle.sync_terms.specs.Stored.{Stored, IsTerm, IsForm, Extends}
use Rattle.sync_terms.specs.Plans.{Plan, Then, End, Same, Sum, Inst, Parts, Split, Cut, Read, Size, Total, Cong, kind_plan, block_plan, step_plan, steps_before, plan_of, IsScriptOf}
use Rattle.sync_terms.proofs.Extending.{Extends-trans}
use Rattle.sync_kernel.specs.Scripts.{then_of, IsStepOf, after}
use Rattle.sync_kernel.specs.Replaced.{plan_replaced}
use Rattle.sync_kernel.proofs.Ids.{stays_term, stays_form, stay_terms}

-- a kind of step, read in the store
abbrev pub read_in : Stored → StepKind-F StepKind Block ScriptStep → StepKind-F (ℕ → Then) Plan Then
read_in s = map-StepKind StepKind Block ScriptStep (ℕ → Then) Plan Then (fold-StepKind (ℕ → Then) Plan Then (kind_plan s) block_plan step_plan)
    (fold-Block (ℕ → Then) Plan Then (kind_plan s) block_plan step_plan) (fold-ScriptStep (ℕ → Then) Plan Then (kind_plan s) block_plan step_plan)

abbrev pub Kind : Type 0
Kind = StepKind-F StepKind Block ScriptStep

abbrev pub line_of : ScriptStep → ℕ
line_of x = (out-ScriptStep x).line

abbrev pub kind_of : ScriptStep → Kind
kind_of x = out-StepKind (out-ScriptStep x).what

pub then_reads : (s : Stored) (x : ScriptStep) (rest : Plan) → then_of s x rest ≡ kind_plan s (read_in s (kind_of x)) (line_of x) rest
then_reads s x rest =
    ap (λ (f : Then). f rest) (fold_out-ScriptStep (ℕ → Then) Plan Then (kind_plan s) block_plan step_plan x)
    ∙ ap (λ (f : ℕ → Then). f (line_of x) rest) (fold_out-StepKind (ℕ → Then) Plan Then (kind_plan s) block_plan step_plan (out-ScriptStep x).what)

abbrev pub what_of : ScriptStep → StepKind
what_of x = (out-ScriptStep x).what

-- a step of a known kind
pub then_is : (s : Stored) (x : ScriptStep) (k : Kind) → what_of x ≡ roll-StepKind k → (rest : Plan) → then_of s x rest ≡ kind_plan s (read_in s k) (line_of x) rest
then_is s x k e rest =
    ap (λ (f : Then). f rest) (fold_out-ScriptStep (ℕ → Then) Plan Then (kind_plan s) block_plan step_plan x)
    ∙ ap (λ (w : StepKind). fold-StepKind (ℕ → Then) Plan Then (kind_plan s) block_plan step_plan w (line_of x) rest) e
    ∙ ap (λ (f : ℕ → Then). f (line_of x) rest) (fold-roll-StepKind (ℕ → Then) Plan Then (kind_plan s) block_plan step_plan k)

-- a block is its steps and its end
pub plan_is : (s : Stored) (b : Block) → plan_of s b ≡ steps_before (map (then_of s) (out-Block b).steps) (End (out-Block b).end_line)
plan_is s b = fold_out-Block (ℕ → Then) Plan Then (kind_plan s) block_plan step_plan b

-- ---- the parts of a plan

abbrev rest_of : Plan → Plan
rest_of (End line) = End line
rest_of (Same line rest) = rest
rest_of (Sum line parts rest) = rest
rest_of (Inst line hyp terms name rest) = rest
rest_of (Parts line hyp left right rest) = rest
rest_of (Split line hyp name one two rest) = rest
rest_of (Cut line form name block rest) = rest
rest_of (Read line m k name rest) = rest
rest_of (Size line m k name rest) = rest
rest_of (Total line m k name rest) = rest
rest_of (Cong line m j k name rest) = rest

abbrev with_rest : Plan → Plan → Plan
with_rest (End line) r = End line
with_rest (Same line rest) r = Same line r
with_rest (Sum line parts rest) r = Sum line parts r
with_rest (Inst line hyp terms name rest) r = Inst line hyp terms name r
with_rest (Parts line hyp left right rest) r = Parts line hyp left right r
with_rest (Split line hyp name one two rest) r = Split line hyp name one two r
with_rest (Cut line form name block rest) r = Cut line form name block r
with_rest (Read line m k name rest) r = Read line m k name r
with_rest (Size line m k name rest) r = Size line m k name r
with_rest (Total line m k name rest) r = Total line m k name r
with_rest (Cong line m j k name rest) r = Cong line m j k name r

record IsThen (f : ℕ → Then) : Type 0 where
  rest : (line : ℕ) (r : Plan) → rest_of (f line r) ≡ r
  with : (line : ℕ) (r q : Plan) → with_rest (f line r) q ≡ f line q
  behind : (subs : ℕ → Tree) (line : ℕ) (r : Plan) → after (plan_replaced subs (f line r)) ≡ Some (record { line = line; rule = K9 })

kind_then : (s : Stored) (k : StepKind-F (ℕ → Then) Plan Then) → IsThen (kind_plan s k)
kind_then s StepKind-F.Same = record { rest = λ l r. refl; with = λ l r q. refl; behind = λ g l r. refl }
kind_then s (StepKind-F.Sum parts) = record { rest = λ l r. refl; with = λ l r q. refl; behind = λ g l r. refl }
kind_then s (StepKind-F.Inst hyp terms name) = record { rest = λ l r. refl; with = λ l r q. refl; behind = λ g l r. refl }
kind_then s (StepKind-F.Parts hyp left right) = record { rest = λ l r. refl; with = λ l r q. refl; behind = λ g l r. refl }
kind_then s (StepKind-F.Split hyp name one two) = record { rest = λ l r. refl; with = λ l r q. refl; behind = λ g l r. refl }
kind_then s (StepKind-F.Cut form name block) = record { rest = λ l r. refl; with = λ l r q. refl; behind = λ g l r. refl }
kind_then s (StepKind-F.Read m k name) = record { rest = λ l r. refl; with = λ l r q. refl; behind = λ g l r. refl }
kind_then s (StepKind-F.Size m k name) = record { rest = λ l r. refl; with = λ l r q. refl; behind = λ g l r. refl }
kind_then s (StepKind-F.Total m k name) = record { rest = λ l r. refl; with = λ l r q. refl; behind = λ g l r. refl }
kind_then s (StepKind-F.Cong m j k name) = record { rest = λ l r. refl; with = λ l r q. refl; behind = λ g l r. refl }

then_rest : (s : Stored) (x : ScriptStep) (r : Plan) → rest_of (then_of s x r) ≡ r
then_rest s x r = ap rest_of (then_reads s x r) ∙ (kind_then s (read_in s (kind_of x))).rest (line_of x) r

then_with : (s : Stored) (x : ScriptStep) (r q : Plan) → with_rest (then_of s x r) q ≡ then_of s x q
then_with s x r q = ap (λ (p : Plan). with_rest p q) (then_reads s x r) ∙ (kind_then s (read_in s (kind_of x))).with (line_of x) r q ∙ sym (then_reads s x q)

-- a step stands where nothing may
pub after_step : (subs : ℕ → Tree) (s : Stored) (x : ScriptStep) (r : Plan) → after (plan_replaced subs (then_of s x r)) ≡ Some (record { line = line_of x; rule = K9 })
after_step subs s x r = ap (λ (p : Plan). after (plan_replaced subs p)) (then_reads s x r) ∙ (kind_then s (read_in s (kind_of x))).behind subs (line_of x) r

-- ---- that a script's ids are of the store

-- steps that are the same over two stores, one by one
steps_stay : (s t : Stored) (xs : List ScriptStep) (end : Plan) → steps_before (map (then_of t) xs) end ≡ steps_before (map (then_of s) xs) end
    → (i : ℕ) (d : ScriptStep) → i < length xs → (r : Plan) → then_of t (get_or xs i d) r ≡ then_of s (get_or xs i d) r
steps_stay s t [] end e i d lt r = absurd (omega arith)
steps_stay s t (x ∷ xs) end e zero d lt r =
    sym (then_with t x (steps_before (map (then_of t) xs) end) r) ∙ ap (λ (p : Plan). with_rest p r) e ∙ then_with s x (steps_before (map (then_of s) xs) end) r
steps_stay s t (x ∷ xs) end e (suc i) d lt r =
    steps_stay s t xs end (sym (then_rest t x (steps_before (map (then_of t) xs) end)) ∙ ap rest_of e ∙ then_rest s x (steps_before (map (then_of s) xs) end)) i d (omega arith) r

pub step_of_script : (s : Stored) (b : Block) → IsScriptOf s b → (i : ℕ) (d : ScriptStep) → i < length (out-Block b).steps → IsStepOf s (get_or (out-Block b).steps i d)
step_of_script s b h i d lt = λ t more r. steps_stay s t (out-Block b).steps (End (out-Block b).end_line) (sym (plan_is t b) ∙ h t more ∙ plan_is s b) i d lt r

-- and stay so while the store grows
pub script-more : (s t : Stored) (b : Block) → Extends s t → IsScriptOf s b → IsScriptOf t b
script-more s t b more h = λ u e. h u (Extends-trans more e) ∙ sym (h t more)

pub step-more : (s t : Stored) (x : ScriptStep) → Extends s t → IsStepOf s x → IsStepOf t x
step-more s t x more h = λ u e r. h u (Extends-trans more e) r ∙ sym (h t more r)

-- what a step of a known kind takes
abbrev terms_in : Plan → List Tree
terms_in (Inst line hyp terms name rest) = terms
terms_in _ = []

abbrev form_in : Plan → Formula
form_in (Cut line form name block rest) = form
form_in _ = Eq Nil Nil

abbrev map_in : Plan → Tree
map_in (Read line m k name rest) = m
map_in (Size line m k name rest) = m
map_in (Total line m k name rest) = m
map_in (Cong line m j k name rest) = m
map_in _ = Nil

abbrev key_in : Plan → Tree
key_in (Read line m k name rest) = k
key_in (Size line m k name rest) = k
key_in (Total line m k name rest) = k
key_in (Cong line m j k name rest) = k
key_in _ = Nil

abbrev left_in : Plan → Tree
left_in (Cong line m j k name rest) = j
left_in _ = Nil

abbrev first_in : Plan → Plan
first_in (Split line hyp name one two rest) = one
first_in (Cut line form name block rest) = block
first_in _ = End 0

abbrev second_in : Plan → Plan
second_in (Split line hyp name one two rest) = two
second_in _ = End 0

module _ (s : Stored) (x : ScriptStep) (h : IsStepOf s x) (k : Kind) (is : what_of x ≡ roll-StepKind k) where
  same_plan : (t : Stored) → Extends s t → kind_plan t (read_in t k) (line_of x) (End 0) ≡ kind_plan s (read_in s k) (line_of x) (End 0)
  same_plan t e = sym (then_is t x k is (End 0)) ∙ h t e (End 0) ∙ then_is s x k is (End 0)

  stays_in : {A : Type 0} (f : Plan → A) (t : Stored) → Extends s t → f (kind_plan t (read_in t k) (line_of x) (End 0)) ≡ f (kind_plan s (read_in s k) (line_of x) (End 0))
  stays_in f t e = ap f (same_plan t e)

module _ (s : Stored) (x : ScriptStep) (h : IsStepOf s x) where
  pub inst_ids : (hyp : HypName) (ids : List TermId) (name : ℕ) → what_of x ≡ roll-StepKind (StepKind-F.Inst hyp ids name) → All (IsTerm s) ids
  inst_ids hyp ids name is = stay_terms s ids (λ t e. stays_in s x h (StepKind-F.Inst hyp ids name) is terms_in t e)

  pub cut_id : (id : FormId) (name : ℕ) (b : Block) → what_of x ≡ roll-StepKind (StepKind-F.Cut id name b) → IsForm s id
  cut_id id name b is = stays_form s id (λ t e. stays_in s x h (StepKind-F.Cut id name b) is form_in t e)

  pub cut_script : (id : FormId) (name : ℕ) (b : Block) → what_of x ≡ roll-StepKind (StepKind-F.Cut id name b) → IsScriptOf s b
  cut_script id name b is = λ t e. stays_in s x h (StepKind-F.Cut id name b) is first_in t e

  pub split_scripts : (hyp : HypName) (name : ℕ) (b c : Block) → what_of x ≡ roll-StepKind (StepKind-F.Split hyp name b c) → IsScriptOf s b × IsScriptOf s c
  split_scripts hyp name b c is = (λ t e. stays_in s x h (StepKind-F.Split hyp name b c) is first_in t e, λ t e. stays_in s x h (StepKind-F.Split hyp name b c) is second_in t e)

  pub read_ids : (m k : TermId) (name : ℕ) → what_of x ≡ roll-StepKind (StepKind-F.Read m k name) → IsTerm s m × IsTerm s k
  read_ids m k name is = (stays_term s m (λ t e. stays_in s x h (StepKind-F.Read m k name) is map_in t e), stays_term s k (λ t e. stays_in s x h (StepKind-F.Read m k name) is key_in t e))

  pub size_ids : (m k : TermId) (name : ℕ) → what_of x ≡ roll-StepKind (StepKind-F.Size m k name) → IsTerm s m × IsTerm s k
  size_ids m k name is = (stays_term s m (λ t e. stays_in s x h (StepKind-F.Size m k name) is map_in t e), stays_term s k (λ t e. stays_in s x h (StepKind-F.Size m k name) is key_in t e))

  pub total_ids : (m k : TermId) (name : ℕ) → what_of x ≡ roll-StepKind (StepKind-F.Total m k name) → IsTerm s m × IsTerm s k
  total_ids m k name is = (stays_term s m (λ t e. stays_in s x h (StepKind-F.Total m k name) is map_in t e), stays_term s k (λ t e. stays_in s x h (StepKind-F.Total m k name) is key_in t e))

  pub cong_ids : (m j k : TermId) (name : ℕ) → what_of x ≡ roll-StepKind (StepKind-F.Cong m j k name) → IsTerm s m × IsTerm s j × IsTerm s k
  cong_ids m j k name is = (
    stays_term s m (λ t e. stays_in s x h (StepKind-F.Cong m j k name) is map_in t e),
    stays_term s j (λ t e. stays_in s x h (StepKind-F.Cong m j k name) is left_in t e),
    stays_term s k (λ t e. stays_in s x h (StepKind-F.Cong m j k name) is key_in t e),
  )
