-- What dues say that are met: a script that is accepted proves its claim wherever what is known is true.
use Rattle.std.proofs.Common.{arith}
use Rattle.std.specs.Prelude.{◌≡◌, ℕ, pos, ◌-ℤ◌, ◌+◌, Bool, true, false, ◌&&◌, if◌then◌else◌, nat_lt, List, [], ◌∷◌, ◌++◌, map, Option, Some, None, Ok, Err}
use Rattle.std.specs.List.{AllByRecursion, list_all}
use Rattle.std.specs.Ordering.{int_eq}
use Rattle.std.proofs.lemmas.Int.{ints}
use Rattle.std.proofs.lemmas.Bool.{and_parts}
use Rattle.std.proofs.lemmas.Bool.Decides.{Decides-int_eq}
use Rattle.sync_base.specs.Outcome.{◌>>=◌}
use Rattle.sync_base.specs.declared.stops.Refusal.{Refusal}
use Rattle.sync_base.specs.declared.stops.Rule.{Rule}
use Rattle.sync_base.specs.declared.stops.Rule.TheVariants.{I2, K8}
use Rattle.sync_terms.specs.Trees.{most_nodes, Tree, Sub, Formula, Le, Lt, Eq, Not, And, Or, Imp, neg, tree_size, formula_size}
use Rattle.sync_terms.specs.Values.{Valuation, num, truth, Holds, HoldsForAll, Hypothesis}
use Rattle.sync_linear.proofs.Weighing.{value_is}
use Rattle.sync_linear.specs.Forms.{constant_of, coefficient_of, weighed}
use Rattle.sync_kernel_facts.specs.Laws.{AreTrue}
use Rattle.sync_kernel.proofs.Atoms.{nothing_weighed}
use Rattle.sync_kernel.proofs.Refuting.{script_valid}
use Rattle.sync_kernel_facts.specs.Facts.{Fact, as_hypothesis, facts_size}
use Rattle.sync_kernel.specs.Rows.{atoms_of, narrow}
use Rattle.sync_kernel.specs.Scripts.{script_fault}
use Rattle.sync_thread.specs.Programs.{ScriptTree}
use Rattle.sync_typing.specs.Dues.{Due, Wants, Makes, Owes, Alone, Spare, same_line, is_clear, script_rule, use_first, show, spare, pay, row}
use Rattle.sync_typing.specs.Environments.{Env, stands, Outcome, refused, fits}
use Rattle.sync_kernel.specs.Replaced.{plan_replaced}
use Rattle.sync_typing_laws.specs.Rests.{IsKnown}
use mathlib.Core.Path.{refl, sym, subst}

-- ---- clear claims

no_atoms : (a b : Tree) (xs : List Tree) → list_all (λ x. int_eq (coefficient_of x a) (coefficient_of x b)) xs ≡ true → AllByRecursion (λ x. coefficient_of x (Sub a b) ≡ pos 0) xs
no_atoms a b [] is = tt
no_atoms a b (x ∷ xs) is =
    let p = and_parts (int_eq (coefficient_of x a) (coefficient_of x b)) (list_all (λ y. int_eq (coefficient_of y a) (coefficient_of y b)) xs) is in
    let e = (Decides-int_eq (coefficient_of x a) (coefficient_of x b)).0 p.0 in
    (omega (arith, ints, e), no_atoms a b xs p.1)

pub same_value : (v : Valuation) (a b : Tree) → same_line a b ≡ true → num v a ≡ num v b
same_value v a b is =
    let p = and_parts (int_eq (constant_of a) (constant_of b)) (list_all (λ x. int_eq (coefficient_of x a) (coefficient_of x b)) (atoms_of a ++ atoms_of b)) is in
    let c = (Decides-int_eq (constant_of a) (constant_of b)).0 p.0 in
    let w : weighed (num v) a -ℤ weighed (num v) b ≡ pos 0 = nothing_weighed (Sub a b) (num v) (no_atoms a b (atoms_of a ++ atoms_of b) p.1) in
    omega (arith, ints, c, w, value_is v a, value_is v b)

pub clear_holds : (v : Valuation) (f : Formula) → is_clear f ≡ true → Holds v f
unfolding truth
clear_holds v (Eq a b) is =
    let p = and_parts (narrow a) (narrow b && same_line a b) is in
    let q = and_parts (narrow b) (same_line a b) p.1 in
    (Decides-int_eq (num v a) (num v b)).1 (same_value v a b q.1)
clear_holds v (Le a b) is = let no : false ≡ true = is in cc
clear_holds v (Lt a b) is = let no : false ≡ true = is in cc
clear_holds v (Not f) is = let no : false ≡ true = is in cc
clear_holds v (And f g) is = let no : false ≡ true = is in cc
clear_holds v (Or f g) is = let no : false ≡ true = is in cc
clear_holds v (Imp f g) is = let no : false ≡ true = is in cc

-- ---- scripts

given_hold : (v : Valuation) (fs : List Fact) → AllByRecursion (IsKnown v) fs → AllByRecursion (λ (h : Hypothesis). HoldsForAll h.params v h.form) (map as_hypothesis fs)
given_hold v [] known = tt
given_hold v (f ∷ fs) known = (subst (λ ps. HoldsForAll ps v f.form) (sym known.0.0) known.0.1, given_hold v fs known.1)

-- a script that is accepted proves its claim
pub script_holds : AreTrue → (v : Valuation) (e : Env) (line : ℕ) (claim : Formula) (s : ScriptTree) → AllByRecursion (IsKnown v) e.facts → script_rule e line claim s ≡ None → Holds v claim
script_holds laws v e line claim s known = tested (nat_lt most_nodes (facts_size e.facts + formula_size (neg claim))) where
  tested : (b : Bool) → (if b then Some (record { line = line; rule = K8 }) else script_fault e.facts claim (plan_replaced (stands e) s.plan)) ≡ None → Holds v claim
  tested true is = let no : Some (record { line = line; rule = K8 }) ≡ None = is in cc
  tested false is = script_valid laws e.facts claim (plan_replaced (stands e) s.plan) is v (given_hold v e.facts known)

-- what fits is the rest
pub fits_ok : {X : Type 0} (line n : ℕ) (o : Outcome X) (x : X) → fits line n o ≡ Ok x → o ≡ Ok x
fits_ok {X} line n o x = tested (nat_lt most_nodes n) where
  tested : (b : Bool) → (if b then refused line K8 else o) ≡ Ok x → o ≡ Ok x
  tested true is = let no : Err (record { line = line; rule = K8 }) ≡ Ok x = is in cc
  tested false is = is

pub then_ok : {X Y : Type 0} (o : Outcome X) (f : X → Outcome Y) (y : Y) → (o >>= f) ≡ Ok y → (x : X) × (o ≡ Ok x) × (f x ≡ Ok y)
then_ok (Ok x) f y is = (x, refl, is)
then_ok (Err r) f y is = let no : Err r ≡ Ok y = is in cc

first_holds : AreTrue → (v : Valuation) (e : Env) (line : ℕ) (rule : Rule) (claim : Formula) (ss left : List ScriptTree) → AllByRecursion (IsKnown v) e.facts → use_first e line rule claim ss ≡ Ok left → Holds v claim
first_holds laws v e line rule claim [] left known is = let no : Err (record { line = line; rule = rule }) ≡ Ok left = is in cc
first_holds laws v e line rule claim (s ∷ ss) left known is = used (script_rule e line claim s) refl is where
  step : Option Refusal → Outcome (List ScriptTree)
  step None = Ok ss
  step (Some r) = Err r

  used : (o : Option Refusal) → script_rule e line claim s ≡ o → step o ≡ Ok left → Holds v claim
  used None e1 h = script_holds laws v e line claim s known e1
  used (Some r) e1 h = let no : Err r ≡ Ok left = h in cc

pub show_holds : AreTrue → (v : Valuation) (e : Env) (line : ℕ) (rule : Rule) (claim : Formula) (ss left : List ScriptTree) → AllByRecursion (IsKnown v) e.facts → show e line rule claim ss ≡ Ok left → Holds v claim
show_holds laws v e line rule claim ss left known is = tested (is_clear claim) refl (fits_ok line (formula_size claim) (if is_clear claim then Ok ss else use_first e line rule claim ss) left is) where
  tested : (b : Bool) → is_clear claim ≡ b → (if b then Ok ss else use_first e line rule claim ss) ≡ Ok left → Holds v claim
  tested true c h = clear_holds v claim c
  tested false c h = first_holds laws v e line rule claim ss left known h

-- ---- dues

-- what a due that is met says
abbrev pub Met : Valuation → Due → Type 0
Met v (Wants rule test) = test ≡ true
Met v (Makes t) = Unit {0}
Met v (Owes rule form) = Holds v form
Met v (Alone rule form own) = Holds v form
Met v (Spare left) = Unit {0}

spare_ok : {X : Type 0} (ss : List ScriptTree) (o : Outcome X) (x : X) → spare ss o ≡ Ok x → o ≡ Ok x
spare_ok [] o x is = is
spare_ok (s ∷ ss) o x is = let no : Err (record { line = s.line; rule = I2 }) ≡ Ok x = is in cc

pub pay_met : AreTrue → (v : Valuation) (e : Env) (line : ℕ) → AllByRecursion (IsKnown v) e.facts → (ds : List Due) (ss left : List ScriptTree) → pay e line ds ss ≡ Ok left → AllByRecursion (Met v) ds
pay_met laws v e line known [] ss left is = tt
pay_met laws v e line known (Wants rule test ∷ ds) ss left is = tested test refl is (pay_met laws v e line known ds ss left) where
  tested : (b : Bool) → test ≡ b → (if b then pay e line ds ss else refused line rule) ≡ Ok left → (pay e line ds ss ≡ Ok left → AllByRecursion (Met v) ds) → (test ≡ true) × AllByRecursion (Met v) ds
  tested true t h later = (t, later h)
  tested false t h later = let no : Err (record { line = line; rule = rule }) ≡ Ok left = h in cc
pay_met laws v e line known (Makes t ∷ ds) ss left is = (tt, pay_met laws v e line known ds ss left (fits_ok line (tree_size t) (pay e line ds ss) left is))
pay_met laws v e line known (Owes rule claim ∷ ds) ss left is =
    let p = then_ok (show e line rule claim ss) (pay e line ds) left is in
    (show_holds laws v e line rule claim ss p.0 known p.1, pay_met laws v e line known ds p.0 left p.2)
pay_met laws v e line known (Alone rule claim own ∷ ds) ss left is =
    let p = then_ok (show e line rule claim own) (λ k. pay e line ds ss) left is in
    (show_holds laws v e line rule claim own p.0 known p.1, pay_met laws v e line known ds ss left p.2)
pay_met laws v e line known (Spare own ∷ ds) ss left is = (tt, pay_met laws v e line known ds ss left (spare_ok own (pay e line ds ss) left is))

-- a row whose dues are met goes on, and what it owes is true
pub row_met : {X : Type 0} → AreTrue → (v : Valuation) (e : Env) (line : ℕ) → AllByRecursion (IsKnown v) e.facts → (ds : List Due) (ss : List ScriptTree) (next : Outcome X) (x : X) → row e line ds ss next ≡ Ok x
    → AllByRecursion (Met v) ds × (next ≡ Ok x)
row_met laws v e line known ds ss next x is =
    let p = then_ok (pay e line ds ss) (λ left. spare left next) x is in
    (pay_met laws v e line known ds ss p.0 p.1, spare_ok p.0 next x p.2)
