-- What scripts name: lists of terms and formulas one by one, blocks step by step.
use Rattle.std.proofs.Common.{◌≡◌, ℕ, zero, suc, ◌+◌, ◌<◌, ◌≤◌, Bool, true, false, ◌&&◌, List, [], ◌∷◌, length, map, drop, get_or, sym, ap, subst, ◌∙◌, arith}
use Rattle.std.proofs.Math.ListN.{drop_of_length-le}
use Rattle.std.proofs.Math.Seq.{drop-cons}
use Rattle.std.specs.List.{list_all, All}
use Rattle.sync_terms.specs.declared.scripts.Script.{Script}
use Rattle.sync_terms.specs.declared.scripts.ScriptStep.{ScriptStep}
use Rattle.sync_terms.specs.declared.scripts.Block.{Block}
use Rattle.sync_terms.specs.declared.scripts.StepKind.TheViews.{out-Block}
use Rattle.sync_terms.specs.declared.scripts.StepKind.{roll-StepKind}
use Rattle.sync_terms.specs.Stored.{Stored}
use Rattle.sync_terms.specs.Plans.{kind_plan, plan_of, steps_before, End, IsScriptOf, Plan}
use Rattle.sync_kernel.specs.Scripts.{then_of}
use Rattle.sync_kernel.proofs.Scripting.{line_of, plan_is, read_in, then_is, what_of, Kind}
use Rattle.sync_kernel.proofs.Checking.{rest_from}
use Rattle.sync_thread.specs.Programs.{ScriptTree}
use Rattle.sync_thread.specs.Views.{script_tree}
use Rattle.sync_typing.specs.Symbols.{plan_names_only}
use Rattle.sync_typing_places.specs.Places.{AreScriptsOf}

-- ---- lists one by one

-- the rest of a list from an item on
pub next_item : {A : Type 0} (xs : List A) (i : ℕ) (d : A) → i < length xs → drop i xs ≡ get_or xs i d ∷ drop (i + 1) xs
next_item xs i d within =
    let e : suc i ≡ i + 1 = omega arith in
    drop-cons xs i d within ∙ (λ j. get_or xs i d ∷ drop (e j) xs)

-- a test of all, where those before pass
module _ {A B : Type 0} (f : A → B) (p : B → Bool) (xs : List A) (i : ℕ)
    (so : list_all p (map f xs) ≡ list_all p (map f (drop i xs))) where
  comes : (d : A) (b : Bool) → i < length xs → p (f (get_or xs i d)) ≡ b
      → list_all p (map f xs) ≡ (b && list_all p (map f (drop (i + 1) xs)))
  comes d b within is =
      so ∙ ap (λ (ys : List A). list_all p (map f ys)) (next_item xs i d within)
      ∙ ap (λ (c : Bool). c && list_all p (map f (drop (i + 1) xs))) is

  pub stopped : (d : A) → i < length xs → p (f (get_or xs i d)) ≡ false → false ≡ list_all p (map f xs)
  stopped d within is = sym (comes d false within is)

  pub went_on : (d : A) → i < length xs → p (f (get_or xs i d)) ≡ true
      → list_all p (map f xs) ≡ list_all p (map f (drop (i + 1) xs))
  went_on d within is = comes d true within is

  pub ended : length xs ≤ i → true ≡ list_all p (map f xs)
  ended far = sym (so ∙ ap (λ (ys : List A). list_all p (map f ys)) (drop_of_length-le xs far))

-- lists that are the same by two functions are so one by one
same_at : {A B : Type 0} (f g : A → B) (xs : List A) → map f xs ≡ map g xs → (i : ℕ) (d : A) → i < length xs
    → f (get_or xs i d) ≡ g (get_or xs i d)
same_at f g [] e i d within = absurd (omega arith)
same_at f g (x ∷ xs) e zero d within = cc
same_at f g (x ∷ xs) e (suc i) d within = let rest : map f xs ≡ map g xs = cc in same_at f g xs rest i d (omega arith)

pub script_of : (s : Stored) (ss : List Script) (i : ℕ) (x : Script) → AreScriptsOf s ss → x ≡ get_or ss i x → i < length ss
    → IsScriptOf s x.block
script_of s ss i x of is within = λ t more.
    ap (λ (y : Script). plan_of t y.block) is
    ∙ ap (λ (y : ScriptTree). y.plan) (same_at (script_tree t) (script_tree s) ss (of t more) i x within)
    ∙ ap (λ (y : Script). plan_of s y.block) (sym is)

-- ---- blocks step by step

module _ (p : ℕ → Bool) (s : Stored) (b : Block) (i : ℕ) (so : plan_names_only p (plan_of s b) ≡ plan_names_only p (rest_from s b i)) where
  step_comes : (x : ScriptStep) (r c : Bool) → drop i (out-Block b).steps ≡ x ∷ drop (i + 1) (out-Block b).steps
      → ((rest : Plan) → plan_names_only p (then_of s x rest) ≡ (r && plan_names_only p rest)) → r ≡ c
      → plan_names_only p (plan_of s b) ≡ (c && plan_names_only p (rest_from s b (i + 1)))
  step_comes x r c e says is =
      so ∙ ap (λ (xs : List ScriptStep). plan_names_only p (steps_before (map (then_of s) xs) (End (out-Block b).end_line))) e
      ∙ says (rest_from s b (i + 1)) ∙ ap (λ (d : Bool). d && plan_names_only p (rest_from s b (i + 1))) is

  pub block_stopped : (x : ScriptStep) (r : Bool) → drop i (out-Block b).steps ≡ x ∷ drop (i + 1) (out-Block b).steps
      → ((rest : Plan) → plan_names_only p (then_of s x rest) ≡ (r && plan_names_only p rest)) → r ≡ false
      → false ≡ plan_names_only p (plan_of s b)
  block_stopped x r e says is = sym (step_comes x r false e says is)

  pub block_went_on : (x : ScriptStep) (r : Bool) → drop i (out-Block b).steps ≡ x ∷ drop (i + 1) (out-Block b).steps
      → ((rest : Plan) → plan_names_only p (then_of s x rest) ≡ (r && plan_names_only p rest)) → r ≡ true
      → plan_names_only p (plan_of s b) ≡ plan_names_only p (rest_from s b (i + 1))
  block_went_on x r e says is = step_comes x r true e says is

  pub block_ended : (xs : List ScriptStep) → xs ≡ (out-Block b).steps → length xs ≤ i → true ≡ plan_names_only p (plan_of s b)
  block_ended xs e far =
      let beyond : length (out-Block b).steps ≤ i = subst (λ (ys : List ScriptStep). length ys ≤ i) e far in
      sym (so ∙ ap (λ (ys : List ScriptStep). plan_names_only p (steps_before (map (then_of s) ys) (End (out-Block b).end_line)))
      (drop_of_length-le (out-Block b).steps beyond))

pub block_begun : (p : ℕ → Bool) (s : Stored) (b : Block) → plan_names_only p (plan_of s b) ≡ plan_names_only p (rest_from s b 0)
block_begun p s b = ap (plan_names_only p) (plan_is s b)

-- what a step of a known kind names
pub step_names : (p : ℕ → Bool) (s : Stored) (x : ScriptStep) (k : Kind) (rest : Plan) → what_of x ≡ roll-StepKind k
    → plan_names_only p (then_of s x rest) ≡ plan_names_only p (kind_plan s (read_in s k) (line_of x) rest)
step_names p s x k rest is = ap (plan_names_only p) (then_is s x k is rest)

pub two_then : (a b c d : Bool) → a ≡ (b && (c && true)) → (b && (c && d)) ≡ (a && d)
two_then a true true d is = ap (λ (e : Bool). e && d) (sym is)
two_then a true false d is = ap (λ (e : Bool). e && d) (sym is)
two_then a false c d is = ap (λ (e : Bool). e && d) (sym is)

pub three_then : (a b c e d : Bool) → a ≡ (b && (c && (e && true))) → (b && (c && (e && d))) ≡ (a && d)
three_then a true true true d is = ap (λ (g : Bool). g && d) (sym is)
three_then a true true false d is = ap (λ (g : Bool). g && d) (sym is)
three_then a true false e d is = ap (λ (g : Bool). g && d) (sym is)
three_then a false c e d is = ap (λ (g : Bool). g && d) (sym is)

-- ---- two and three ids

pub all_two : {A : Type 0} (P : A → Type 0) (a b : A) → P a → P b → All P (a ∷ b ∷ [])
all_two P a b pa pb zero d within = pa
all_two P a b pa pb (suc zero) d within = pb
all_two P a b pa pb (suc (suc k)) d within = absurd (omega arith)

pub all_three : {A : Type 0} (P : A → Type 0) (a b c : A) → P a → P b → P c → All P (a ∷ b ∷ c ∷ [])
all_three P a b c pa pb pc zero d within = pa
all_three P a b c pa pb pc (suc zero) d within = pb
all_three P a b c pa pb pc (suc (suc zero)) d within = pc
all_three P a b c pa pb pc (suc (suc (suc k))) d within = absurd (omega arith)
