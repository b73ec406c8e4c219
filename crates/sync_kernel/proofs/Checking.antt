-- Blocks, step by step: what the code answers against what is defined.
use denote.Enum.Bare.{sameb}
use Rattle.std.proofs.lemmas.Bool.{both_ways}
use Rattle.std.proofs.Common.{rules, ◌≡◌, Bool, false, ℕ, ◌+◌, ◌<◌, ◌≤◌, List, [], ◌∷◌, ◌++◌, map, length, take, drop, get_or, Option, Some, None, Result, Ok, Err, refl, sym, ap, subst, ◌∙◌, arith}
use Rattle.std.proofs.lemmas.List.{length_push, take-append-le, take_all, take-take, drop_more}
use Rattle.sync_base.specs.Outcome.{first}
use Rattle.sync_base.specs.declared.stops.Refusal.{Refusal}
use Rattle.sync_base.specs.declared.stops.Rule.{Rule}
use Rattle.sync_base.specs.declared.stops.Rule.TheVariants.{K9}
use Rattle.sync_base.specs.declared.stops.Stop.{Stop}
use Rattle.sync_terms.specs.declared.nodes.FormId.{FormId}
use Rattle.sync_terms.specs.declared.scripts.HypName.{HypName}
use Rattle.sync_terms.specs.declared.scripts.StepKind.{roll-StepKind}
use Rattle.sync_terms.specs.declared.scripts.StepKind.TheOpen.{StepKind-F}
use Rattle.sync_terms.specs.declared.scripts.ScriptStep.{ScriptStep}
use Rattle.sync_terms.specs.declared.scripts.Block.{Block}
use Rattle.sync_terms.specs.declared.scripts.StepKind.TheViews.{out-Block}
use Rattle.sync_terms.specs.Trees.{Tree, Formula, replaced_in}
use Rattle.sync_terms.specs.Stored.{Stored, Extends, formula}
use Rattle.sync_terms.specs.Plans.{Plan, End, kind_plan, steps_before, plan_of, IsScriptOf}
use Rattle.sync_terms.proofs.Extending.{Extends-refl, Extends-trans}
use Rattle.sync_kernel_facts.specs.declared.literals.Literal.{Literal}
use Rattle.sync_kernel.specs.declared.splits.Pair.{Pair}
use Rattle.sync_kernel_facts.specs.declared.branches.Said.{Said}
use Rattle.sync_kernel.specs.contracts.steps.Left.{the_type}
use Rattle.sync_kernel.specs.declared.steps.Left.{Left}
use Rattle.sync_kernel.specs.declared.steps.Left.TheVariants.{Open, Closed}
use Rattle.sync_kernel_facts.specs.Facts.{Fact, named}
use Rattle.sync_kernel_facts.specs.Branches.{said_fact, facts_in, AreSaid, Begins}
use Rattle.sync_kernel_facts.specs.Literals.{literal_form, IsLiteral}
use Rattle.sync_kernel.specs.Pairs.{pair_forms}
use Rattle.sync_kernel.specs.Scripts.{then_of, IsStepOf, with_fact, Cases, cases_with, with_cases, with_cut, after, going, block_fault}
use Rattle.sync_kernel.specs.Replaced.{plan_replaced}
use Rattle.sync_kernel.specs.Holding.{Refuses, StopsFor, Leaves, StepPasses}
use Rattle.sync_kernel.proofs.Fitting.{facts-more, facts-push, literal-more, Begins-refl}
use Rattle.sync_kernel.proofs.Scripting.{Kind, read_in, line_of, what_of, then_is, plan_is, after_step, step_of_script}
use Rattle.sync_kernel.proofs.Stepping.{refuses, refuses_first, goes_on, goes_to}

-- ---- where a branch begins

pub Begins-trans : (xs ys zs : List Said) → Begins xs ys → Begins ys zs → Begins xs zs
Begins-trans xs ys zs h k =
    let le : length xs ≤ length ys = h.0 in
    let le2 : length ys ≤ length zs = k.0 in
    (omega (arith, le, le2), sym (take-take (length xs) (length ys) zs le) ∙ ap (take (length xs)) k.1 ∙ h.1)

-- a branch that began with one fact more begins with the facts before it
pub begins_before : (xs ys : List Said) (x : Said) → Begins (xs ++ x ∷ []) ys → take (length xs) ys ≡ xs
begins_before xs ys x h =
    let le : length xs ≤ length (xs ++ x ∷ []) = omega (arith, length_push xs x) in
    sym (take-take (length xs) (length (xs ++ x ∷ [])) ys le) ∙ ap (take (length xs)) h.1 ∙ take-append-le (length xs) xs (x ∷ []) (omega arith) ∙ take_all (length xs) xs (omega arith)

-- the steps from a place on
abbrev pub rest_from : Stored → Block → ℕ → Plan
rest_from s b i = steps_before (map (then_of s) (drop i (out-Block b).steps)) (End (out-Block b).end_line)

-- what a block breaks, each symbol of it replaced, and what stands behind a step that closes its branch
abbrev pub fault_by : (ℕ → Tree) → List Fact → Plan → Option Refusal
fault_by subs facts plan = block_fault facts (plan_replaced subs plan)

abbrev pub after_by : (ℕ → Tree) → Plan → Option Refusal
after_by subs plan = after (plan_replaced subs plan)

pub step_err : (r : Result Left Stop) (e : Stop) (fault goes closed : Option Refusal) → r ≡ Err e → Refuses e fault → StepPasses r fault goes closed
step_err r e fault goes closed is h = subst (λ (x : Result Left Stop). StepPasses x fault goes closed) (sym is) h

pub refuses_as : (e : Stop) (a b : Option Refusal) → a ≡ b → Refuses e b → Refuses e a
refuses_as e a b is h = subst (Refuses e) (sym is) h

module _ (subs : ℕ → Tree) where
  -- ---- the loop over the steps of a block

  -- so many steps were taken of a block, from a store and a branch to another store and branch
  pub record Checking (s : Stored) (xs : List Said) (b : Block) (t : Stored) (ys : List Said) (i : ℕ) (left : Left) : Type 0 where
    pub extends : Extends s t
    pub said : AreSaid t ys
    pub begins : Begins xs ys
    pub passes : StepPasses (Ok left) (fault_by subs (facts_in s xs) (plan_of s b)) (fault_by subs (facts_in t ys) (rest_from s b i)) (after_by subs (rest_from s b i))

  pub checking_start : (s : Stored) (xs : List Said) (b : Block) → AreSaid s xs → Checking s xs b s xs 0 Open
  checking_start s xs b h = record { extends = Extends-refl s; said = h; begins = Begins-refl xs; passes = ap (fault_by subs (facts_in s xs)) (plan_is s b) }

  -- a step of a branch that is open, and what it leaves
  by_left : (left : Left) (r : Result Left Stop) (fault was goes closed : Option Refusal) → fault ≡ was → StepPasses (Ok left) was goes closed → StepPasses (Ok left) fault goes closed
  by_left Open r fault was goes closed e h = e ∙ h
  by_left Closed r fault was goes closed e h = e ∙ h

  rest_is : (s : Stored) (b : Block) (i : ℕ) (x : ScriptStep) → drop i (out-Block b).steps ≡ x ∷ drop (i + 1) (out-Block b).steps → rest_from s b i ≡ then_of s x (rest_from s b (i + 1))
  rest_is s b i x e = ap (λ (zs : List ScriptStep). steps_before (map (then_of s) zs) (End (out-Block b).end_line)) e

  module _ (s : Stored) (xs : List Said) (b : Block) (t : Stored) (ys : List Said) (i : ℕ) (h : Checking s xs b t ys i Open) (x : ScriptStep) (e : drop i (out-Block b).steps ≡ x ∷ drop (i + 1) (out-Block b).steps) (of : IsStepOf s x) where
    fault_is : fault_by subs (facts_in s xs) (plan_of s b) ≡ fault_by subs (facts_in t ys) (then_of t x (rest_from s b (i + 1)))
    fault_is = h.passes ∙ ap (fault_by subs (facts_in t ys)) (rest_is s b i x e ∙ sym (of t h.extends (rest_from s b (i + 1))))

    pub checking_more : (left : Left) (u : Stored) (zs : List Said) → Extends t u → AreSaid u zs → Begins ys zs
        → StepPasses (Ok left) (fault_by subs (facts_in t ys) (then_of t x (rest_from s b (i + 1)))) (fault_by subs (facts_in u zs) (rest_from s b (i + 1))) (after_by subs (rest_from s b (i + 1)))
        → Checking s xs b u zs (i + 1) left
    checking_more left u zs more said begins p = record {
      extends = Extends-trans h.extends more;
      said = said;
      begins = Begins-trans xs ys zs h.begins begins;
      passes = by_left left (Ok left) (fault_by subs (facts_in s xs) (plan_of s b)) (fault_by subs (facts_in t ys) (then_of t x (rest_from s b (i + 1)))) (fault_by subs (facts_in u zs) (rest_from s b (i + 1))) (after_by subs (rest_from s b (i + 1))) fault_is p;
    }

    pub checking_stops : (stop : Stop) → Refuses stop (fault_by subs (facts_in t ys) (then_of t x (rest_from s b (i + 1)))) → Refuses stop (fault_by subs (facts_in s xs) (plan_of s b))
    checking_stops stop p = subst (Refuses stop) (sym fault_is) p

  -- a step behind one that closed the branch
  pub checking_beyond : (s : Stored) (xs : List Said) (b : Block) (t : Stored) (ys : List Said) (i : ℕ) (x : ScriptStep) → Checking s xs b t ys i Closed → drop i (out-Block b).steps ≡ x ∷ drop (i + 1) (out-Block b).steps
      → fault_by subs (facts_in s xs) (plan_of s b) ≡ Some (record { line = line_of x; rule = K9 })
  checking_beyond s xs b t ys i x h e = h.passes ∙ ap (after_by subs) (rest_is s b i x e) ∙ after_step subs s x (rest_from s b (i + 1))

  -- the end of a block
  pub checking_end : (s : Stored) (xs : List Said) (b : Block) (t : Stored) (ys : List Said) (i : ℕ) → Checking s xs b t ys i Closed → drop i (out-Block b).steps ≡ [] → fault_by subs (facts_in s xs) (plan_of s b) ≡ None
  checking_end s xs b t ys i h e = h.passes ∙ ap (λ (zs : List ScriptStep). after_by subs (steps_before (map (then_of s) zs) (End (out-Block b).end_line))) e

  pub checking_open : (s : Stored) (xs : List Said) (b : Block) (t : Stored) (ys : List Said) (i : ℕ) → Checking s xs b t ys i Open → drop i (out-Block b).steps ≡ []
      → fault_by subs (facts_in s xs) (plan_of s b) ≡ Some (record { line = (out-Block b).end_line; rule = K9 })
  checking_open s xs b t ys i h e = h.passes ∙ ap (λ (zs : List ScriptStep). fault_by subs (facts_in t ys) (steps_before (map (then_of s) zs) (End (out-Block b).end_line))) e

  -- the fault of the block of a case, over a store that has grown
  pub case_fault : (s t : Stored) (xs : List Said) (name : ℕ) (f g : Formula) (b : Block) → Extends s t → AreSaid s xs → IsScriptOf s b → f ≡ g
      → fault_by subs (with_fact (facts_in t xs) name f) (plan_of t b) ≡ fault_by subs (with_fact (facts_in s xs) name g) (plan_of s b)
  case_fault s t xs name f g b more said of e =
      ap (λ (fs : List Fact). fault_by subs (with_fact fs name f) (plan_of t b)) (facts-more s t xs more said)
      ∙ ap (λ (x : Formula). fault_by subs (with_fact (facts_in s xs) name x) (plan_of t b)) e
      ∙ ap (fault_by subs (with_fact (facts_in s xs) name g)) (of t more)

  -- ---- the steps with blocks

  abbrev pub case_of : Stored → List Said → ℕ → Literal → Stored → Block → Option Refusal
  case_of s xs name l t b = fault_by subs (with_fact (facts_in s xs) name (literal_form t l)) (plan_of s b)

  -- the block of a case, over a store that has grown
  pub case_is : (s t : Stored) (xs : List Said) (name : ℕ) (l : Literal) (b : Block) → Extends s t → AreSaid s xs → IsScriptOf s b → case_of t xs name l t b ≡ case_of s xs name l t b
  case_is s t xs name l b more said of = case_fault s t xs name (literal_form t l) (literal_form t l) b more said of refl

  -- and over one that has grown once more
  pub case_later : (s t u : Stored) (xs : List Said) (name : ℕ) (l : Literal) (b : Block) → Extends s t → Extends t u → AreSaid s xs → IsScriptOf s b → IsLiteral t l → case_of u xs name l u b ≡ case_of s xs name l t b
  case_later s t u xs name l b more grows said of stored = case_fault s u xs name (literal_form u l) (literal_form t l) b (Extends-trans more grows) said of (literal-more t u l grows stored)

  one_refuses : (e : Stop) (a b : Option Refusal) → Refuses e a → Refuses e (first a b)
  one_refuses e a b h = refuses_first e a b h

  two_refuse : (e : Stop) (a b : Option Refusal) → a ≡ None → Refuses e b → Refuses e (first a b)
  two_refuse e a b is h = subst (λ (o : Option Refusal). Refuses e (first o b)) (sym is) h

  two_pass : (a b c : Option Refusal) → a ≡ None → b ≡ None → first (first a b) c ≡ c
  two_pass a b c e f = ap (λ (o : Option Refusal). first (first o b) c) e ∙ ap (λ (o : Option Refusal). first o c) f

  module _ (s : Stored) (xs : List Said) (x : ScriptStep) (hyp : HypName) (name : ℕ) (one two : Block) (is : what_of x ≡ roll-StepKind (StepKind-F.Split hyp name one two)) (rest : Plan) where
    abbrev splitting : Cases → Option Refusal
    splitting c = first (fault_by subs c.left (plan_of s one)) (fault_by subs c.right (plan_of s two))

    split_fault : fault_by subs (facts_in s xs) (then_of s x rest) ≡ first (going (line_of x) (with_cases (facts_in s xs) hyp name) splitting) (after_by subs rest)
    split_fault = ap (fault_by subs (facts_in s xs)) (then_is s x (StepKind-F.Split hyp name one two) is rest)

    pub split_stops : (e : Stop) → StopsFor (line_of x) e (with_cases (facts_in s xs) hyp name) → Refuses e (fault_by subs (facts_in s xs) (then_of s x rest))
    split_stops e h =
        refuses_as e (fault_by subs (facts_in s xs) (then_of s x rest)) (first (going (line_of x) (with_cases (facts_in s xs) hyp name) splitting) (after_by subs rest)) split_fault
        (refuses_first e (going (line_of x) (with_cases (facts_in s xs) hyp name) splitting) (after_by subs rest) (refuses (line_of x) e (with_cases (facts_in s xs) hyp name) splitting h))

    module _ (t : Stored) (p : Pair) (h : Leaves (line_of x) (Ok p) (λ (q : Pair) (c : Cases). c ≡ cases_with (facts_in s xs) name (pair_forms t q)) (with_cases (facts_in s xs) hyp name)) where
      cases_fault : fault_by subs (facts_in s xs) (then_of s x rest) ≡ first (first (case_of s xs name p.left t one) (case_of s xs name p.right t two)) (after_by subs rest)
      cases_fault =
          split_fault ∙ ap (λ (o : Option Refusal). first o (after_by subs rest))
          (goes_to (line_of x) (λ (q : Pair) (c : Cases). c ≡ cases_with (facts_in s xs) name (pair_forms t q)) p (with_cases (facts_in s xs) hyp name) splitting
          (λ (o : Option Refusal). o ≡ first (case_of s xs name p.left t one) (case_of s xs name p.right t two)) h (λ c e. ap splitting e))

      pub left_stops : (e : Stop) → Refuses e (case_of s xs name p.left t one) → Refuses e (fault_by subs (facts_in s xs) (then_of s x rest))
      left_stops e k =
          refuses_as e (fault_by subs (facts_in s xs) (then_of s x rest)) (first (first (case_of s xs name p.left t one) (case_of s xs name p.right t two)) (after_by subs rest)) cases_fault
          (refuses_first e (first (case_of s xs name p.left t one) (case_of s xs name p.right t two)) (after_by subs rest) (one_refuses e (case_of s xs name p.left t one) (case_of s xs name p.right t two) k))

      pub right_stops : (e : Stop) → case_of s xs name p.left t one ≡ None → Refuses e (case_of s xs name p.right t two) → Refuses e (fault_by subs (facts_in s xs) (then_of s x rest))
      right_stops e g k =
          refuses_as e (fault_by subs (facts_in s xs) (then_of s x rest)) (first (first (case_of s xs name p.left t one) (case_of s xs name p.right t two)) (after_by subs rest)) cases_fault
          (refuses_first e (first (case_of s xs name p.left t one) (case_of s xs name p.right t two)) (after_by subs rest) (two_refuse e (case_of s xs name p.left t one) (case_of s xs name p.right t two) g k))

      pub split_closes : case_of s xs name p.left t one ≡ None → case_of s xs name p.right t two ≡ None → fault_by subs (facts_in s xs) (then_of s x rest) ≡ after_by subs rest
      split_closes g k = cases_fault ∙ two_pass (case_of s xs name p.left t one) (case_of s xs name p.right t two) (after_by subs rest) g k

  module _ (s : Stored) (xs : List Said) (x : ScriptStep) (id : FormId) (name : ℕ) (block : Block) (is : what_of x ≡ roll-StepKind (StepKind-F.Cut id name block)) (rest : Plan) where
    abbrev cut_wanted : Result Cases Rule
    cut_wanted = with_cut (facts_in s xs) (replaced_in subs (formula s id)) name

    abbrev cutting : Cases → Option Refusal
    cutting c = first (fault_by subs c.left (plan_of s block)) (fault_by subs c.right rest)

    cut_fault : fault_by subs (facts_in s xs) (then_of s x rest) ≡ going (line_of x) cut_wanted cutting
    cut_fault = ap (fault_by subs (facts_in s xs)) (then_is s x (StepKind-F.Cut id name block) is rest)

    pub cut_stops : (e : Stop) → StopsFor (line_of x) e cut_wanted → Refuses e (fault_by subs (facts_in s xs) (then_of s x rest))
    cut_stops e h =
        refuses_as e (fault_by subs (facts_in s xs) (then_of s x rest)) (going (line_of x) cut_wanted cutting) cut_fault (refuses (line_of x) e cut_wanted cutting h)

    module _ (t : Stored) (p : Pair) (h : Leaves (line_of x) (Ok p) (λ (q : Pair) (c : Cases). c ≡ cases_with (facts_in s xs) name (pair_forms t q)) cut_wanted) where
      abbrev goes_with : Option Refusal
      goes_with = fault_by subs (with_fact (facts_in s xs) name (literal_form t p.right)) rest

      cut_cases : fault_by subs (facts_in s xs) (then_of s x rest) ≡ first (case_of s xs name p.left t block) goes_with
      cut_cases =
          cut_fault
          ∙ goes_to (line_of x) (λ (q : Pair) (c : Cases). c ≡ cases_with (facts_in s xs) name (pair_forms t q)) p cut_wanted cutting
          (λ (o : Option Refusal). o ≡ first (case_of s xs name p.left t block) goes_with) h (λ c e. ap cutting e)

      pub block_stops : (e : Stop) → Refuses e (case_of s xs name p.left t block) → Refuses e (fault_by subs (facts_in s xs) (then_of s x rest))
      block_stops e k =
          refuses_as e (fault_by subs (facts_in s xs) (then_of s x rest)) (first (case_of s xs name p.left t block) goes_with) cut_cases
          (refuses_first e (case_of s xs name p.left t block) goes_with k)

      -- behind the block, over a store that has grown, with the formula as a fact
      pub cut_goes : (u : Stored) (new : List Said) (y : Said) → Extends s t → Extends t u → AreSaid s xs → IsLiteral t p.right → case_of s xs name p.left t block ≡ None → new ≡ xs ++ y ∷ [] → said_fact u y ≡ named name (literal_form u p.right)
          → fault_by subs (facts_in s xs) (then_of s x rest) ≡ fault_by subs (facts_in u new) rest
      cut_goes u new y first_more more said stored g e f =
          cut_cases ∙ ap (λ (o : Option Refusal). first o goes_with) g
          ∙ ap (λ (fs : List Fact). fault_by subs fs rest)
          (sym (ap (facts_in u) e ∙ facts-push u xs y name (literal_form u p.right) f ∙ ap (λ (fs : List Fact). with_fact fs name (literal_form u p.right)) (facts-more s u xs (Extends-trans first_more more) said)
          ∙ ap (with_fact (facts_in s xs) name) (literal-more t u p.right more stored)))

  -- ---- the steps that add facts
  pub fact_stops : (s : Stored) (xs : List Said) (x : ScriptStep) (k : Kind) (rest : Plan) (wanted : Result (List Fact) Rule) (e : Stop) → what_of x ≡ roll-StepKind k
      → fault_by subs (facts_in s xs) (kind_plan s (read_in s k) (line_of x) rest) ≡ going (line_of x) wanted (λ (known : List Fact). fault_by subs known rest) → StopsFor (line_of x) e wanted
      → Refuses e (fault_by subs (facts_in s xs) (then_of s x rest))
  fact_stops s xs x k rest wanted e is f h =
      refuses_as e (fault_by subs (facts_in s xs) (then_of s x rest)) (going (line_of x) wanted (λ (known : List Fact). fault_by subs known rest)) (ap (fault_by subs (facts_in s xs)) (then_is s x k is rest) ∙ f)
      (refuses (line_of x) e wanted (λ (known : List Fact). fault_by subs known rest) h)

  pub fact_goes : (s t : Stored) (xs ys : List Said) (x : ScriptStep) (k : Kind) (rest : Plan) (wanted : Result (List Fact) Rule) → what_of x ≡ roll-StepKind k
      → fault_by subs (facts_in s xs) (kind_plan s (read_in s k) (line_of x) rest) ≡ going (line_of x) wanted (λ (known : List Fact). fault_by subs known rest)
      → Leaves {A = Unit {0}} (line_of x) (Ok tt) (λ _ known. facts_in t ys ≡ known) wanted → fault_by subs (facts_in s xs) (then_of s x rest) ≡ fault_by subs (facts_in t ys) rest
  fact_goes s t xs ys x k rest wanted is f h =
      ap (fault_by subs (facts_in s xs)) (then_is s x k is rest) ∙ f ∙ goes_on {A = Unit {0}} (line_of x) tt (facts_in t ys) wanted (λ (known : List Fact). fault_by subs known rest) h

-- a branch that was not closed is open
pub left_open : (l : Left) (b : Bool) → b ≡ sameb the_type l Closed → b ≡ false → l ≡ Open
left_open Open b e f = refl
left_open Closed b e f = absurd (both_ways b f (e ∙ search rules))

pub drop_item : (xs ys : List ScriptStep) (i : ℕ) (x : ScriptStep) → xs ≡ ys → x ≡ get_or xs i x → i < length xs → drop i ys ≡ x ∷ drop (i + 1) ys
drop_item xs ys i x e is lt =
    subst (λ (zs : List ScriptStep). drop i zs ≡ x ∷ drop (i + 1) zs) e (drop_more xs i x lt ∙ ap (λ (y : ScriptStep). y ∷ drop (i + 1) xs) (sym is))

pub item_of : (s : Stored) (b : Block) (xs : List ScriptStep) (i : ℕ) (x : ScriptStep) → IsScriptOf s b → xs ≡ (out-Block b).steps → x ≡ get_or xs i x → i < length xs → IsStepOf s x
item_of s b xs i x of e is lt =
    subst (IsStepOf s) (sym (is ∙ ap (λ (ys : List ScriptStep). get_or ys i x) e)) (step_of_script s b of i x (subst (λ (ys : List ScriptStep). i < length ys) e lt))
